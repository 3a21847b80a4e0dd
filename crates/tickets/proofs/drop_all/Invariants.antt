-- After k places the tickets before them are without the item, and the others as they were (`Swept`).
use Rattle.ticketing.specs.Machine.{without}
use Rattle.tickets.proofs.Places.{Swept}
use Rattle.tickets.proofs.drop_all.Given as goal

abbrev pub invariant-loop-k : goal.invariant-loop-k
invariant-loop-k l = Swept (without l.on.0) l.initial.image l.image l.k
