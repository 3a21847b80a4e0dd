use mathlib.Core.Path.{◌≡◌}
use lib.Dec.{eqb}
use lib.ListN.{get_or}
use Prim.Native.Nat.{◌+◌, ◌*◌}
use borrow.Author.Rules.{rules}
use Rattle.tickets.specs.Places.{is_free}
use Rattle.tickets.proofs.Places.{place_found, free_code}
use Rattle.tickets.proofs.first_free.Goals as goal

pub returns : goal.returns
returns c =
    place_found c.args.image.now c.told-image is_free c.place_where.ensures
    (λ k b p. let e : b ≡ eqb (get_or c.args.image.now (3 + 2 * k) 0) 0 = search rules in free_code c.args.image.now k e)
