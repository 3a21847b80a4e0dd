-- Where no lender's entry is above 1 the loans pass nothing on (`raise_none`), and no entry changes.
use native.Mathlib.Omega.{arith}
use mathlib.Core.Path.{refl}
use Rattle.search.proofs.Rounds.{raise_none}
use Rattle.search.proofs.raise_block.Goals as goal

pub returns-then-entries_of-le1 : goal.returns-then-entries_of-le1
returns-then-entries_of-le1 c =
    record {
      long = refl;
      entries = λ q h. omega (arith, raise_none c.args.ls.now c.args.round.now q c.entries_of.result c.entries_of.ensures (omega arith));
    }
