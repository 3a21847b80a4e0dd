-- After k turns what was found and what the rest of the slice has tell together what the whole slice has (`Facts`); where the check is
-- refused no turn is made, and nothing is found.
use Rattle.std.proofs.Common.{◌≡◌, length}
use Rattle.records.specs.Records.{inquiry_of}
use Rattle.records.proofs.Finding.{Facts}
use Rattle.rights_c.proofs.records_unit.rights_tickets_check_records.Given as goal

abbrev pub invariant-loop-k : goal.invariant-loop-k
invariant-loop-k l = record {
  asked : l.q ≡ inquiry_of (length l.tickets) l.who l.on l.right;
  found : Facts l.tickets l.who l.on l.right l.k l.found;
}
