-- A buffer of another length stays; otherwise its two bytes are written over bytes that are all 0, which makes the fresh image
-- (`zeroed-all`, `fresh-written`).
use native.Mathlib.Omega.{arith}
use borrow.Author.Tests.{eq-eqb, ne_eqb}
use mathlib.Core.Path.{◌≡◌, refl, sym, ap, ◌∙◌}
use lib.ListN.{length, get_or}
use Rattle.layouts.specs.Layouts.{grant_bytes, grant_cells}
use Rattle.layouts.proofs.Layouts.{bytes_laws}
use Rattle.layouts.proofs.Edits.{fresh-written}
use Rattle.bits.proofs.Zeros.{zeroed-all}
use Rattle.grants.proofs.fresh.Goals as goal

pub returns-then-grants-ne-BYTES : goal.returns-then-grants-ne-BYTES
unfolding grant_bytes
returns-then-grants-ne-BYTES c = sym (rw (ne_eqb (length c.args.grants.now) grant_cells c.if-grants-ne-BYTES.true))

pub returns : goal.returns
unfolding grant_bytes
returns c =
    let l : length c.clear_each.new.image ≡ grant_cells = c.clear_each.auto.image ∙ c.if-grants-ne-BYTES.false in
    fresh-written grant_bytes bytes_laws 8 (λ z. omega arith) refl c.clear_each.new.image _ _ l
    (λ i. ap (λ s. get_or s i 0) c.clear_each.ensures ∙ zeroed-all c.args.grants.now grant_cells c.if-grants-ne-BYTES.false i)
    c.fresh-start.ensures.0 c.fresh-start.ensures.1
    ∙ sym (rw (eq-eqb (length c.args.grants.now) grant_cells c.if-grants-ne-BYTES.false))
