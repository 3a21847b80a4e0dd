-- Where every record is in order, live numbers lie below the next (`numbers-below`); the tickets differ where the list of their numbers has
-- none twice (`differ-listed`).
use mathlib.Core.Path.{sym, ap, ◌∙◌}
use Prim.Native.Nat.{◌≤◌}
use native.Mathlib.Omega.{arith}
use lib.ListN.{length, get_or, take, length-take}
use Rattle.bits.specs.Sets.{all}
use Rattle.numbers.specs.Numbers.{distinct}
use Rattle.ticketing.specs.Image.{machine_of}
use Rattle.tickets.proofs.Numbers.{differ-listed, numbers-below}
use Rattle.tickets.proofs.records_ok.Goals as goal

pub differ-requires : goal.differ-requires
differ-requires c =
    let part = c.in-Some.ensures.2 in
    let fits : length (take c.in-Some.count c.gather.new.buffer) ≤ 1024 =
    rw (length-take c.in-Some.count c.gather.new.buffer) (omega (arith, c.in-Some.ensures.1)) in
    (fits, ap (all _) part ∙ numbers-below (get_or c.args.image.now 0 0) (get_or c.args.image.now 1 0) (machine_of c.args.image.now).records c.in-Some.ensures.0)

pub returns : goal.returns
returns c =
    c.differ.ensures ∙ ap distinct c.in-Some.ensures.2
    ∙ differ-listed (machine_of c.args.image.now).records ∙ sym (rw c.in-Some.ensures.0)
