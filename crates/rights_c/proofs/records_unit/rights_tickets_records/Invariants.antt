-- After k turns the first k structs are the image's (`Facts`); where reading is refused no turn is made, and the slice is as it was.
use Rattle.std.proofs.Common.{◌≡◌, length}
use Rattle.records.specs.Records.{reading_of}
use Rattle.records.proofs.Filling.{Facts}
use Rattle.rights_c.proofs.records_unit.rights_tickets_records.Given as goal

abbrev pub invariant-loop-k : goal.invariant-loop-k
invariant-loop-k l = record {
  judged : l.r ≡ reading_of l.image (length l.initial.tickets);
  filled : Facts l.image l.initial.tickets l.k l.tickets;
}
