-- Where the loop stands is `Scanned` (proofs/Places).
use Rattle.tickets.proofs.Places.{Scanned}
use Rattle.tickets.proofs.gather.Given as goal

abbrev pub invariant-loop-k : goal.invariant-loop-k
invariant-loop-k l = Scanned l.image l.buffer l.sound l.count l.k
