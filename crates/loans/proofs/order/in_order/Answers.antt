-- With the right length, and shift and count within their limits (`limits`), order is four tests of the words: those in use rise, have a
-- loan's shape and name living items, and the later ones are 0 (`order-parts`).
use native.Mathlib.Omega.{arith}
use mathlib.Core.Path.{◌≡◌, sym, ap, ◌∙◌}
use lib.ListN.{length}
use mathlib.Core.Bool.{Bool, ◌&&◌}
use mathlib.Core.List.{List}
use Prim.Native.Nat.{ℕ}
use lib.Dec.{leb}
use borrow.Author.Tests.{eq-eqb}
use Rattle.bits.specs.Sets.{all}
use Rattle.model.specs.Commands.{shifts, most_loans}
use Rattle.delegation.specs.Loans.{rising, loan_words, header_in, count_of, shift_in, loans_in_order}
use Rattle.delegation.specs.declared.loan.Header.{Header}
use Rattle.loans.specs.Words.{unmasked, shaped, names_live}
use Rattle.loans.proofs.Parts.{order-parts, length-used}
use Rattle.loans.proofs.order.in_order.Goals.{then-rises, else-rises, then-are_shaped, else-are_shaped}
use Rattle.loans.proofs.order.in_order.Goals as goal

-- the test of the limits, said of the image
limits : (t : List ℕ) (h : Header) (r : Bool) → r ≡ shifts h.shift && leb h.count most_loans → h ≡ header_in t
    → r ≡ shifts (shift_in t) && leb (count_of t) most_loans
limits t h r e f = e ∙ ap (λ (g : Header). shifts g.shift && leb g.count most_loans) f

pub returns-then-not-in_limits : goal.returns-then-not-in_limits
unfolding loans_in_order
returns-then-not-in_limits c =
    rw (
      eq-eqb (length c.args.loans.now) loan_words c.if-loans-ne-WORDS.false,
      sym (limits c.args.loans.now c.header_of-header.result c.in_limits.result c.in_limits.ensures c.header_of-header.ensures)
          ∙ c.if-not-in_limits.true,
    )

pub slice_bounds-are_zero-count : goal.slice_bounds-are_zero-count
slice_bounds-are_zero-count c = omega (arith, length-used c.args.loans.now, ap length c.used-used.ensures)

pub slice_bounds-are_zero-start : goal.slice_bounds-are_zero-start
slice_bounds-are_zero-start c = omega (arith, length-used c.args.loans.now, ap length c.used-used.ensures)

pub returns-then-are_live : goal.returns-then-are_live
returns-then-are_live c =
    let live = names_live (unmasked c.args.masks.now) in
    let u = c.used-used.result.now in
    let first : c.if-rises.value ≡ rising u && all shaped u
    = elim c.if-rises.branch
    [ then-rises w ↦ rw (sym c.rises.ensures ∙ w.if-rises.true) (w.value-is ∙ w.are_shaped.ensures) | else-rises w ↦ rw (sym c.rises.ensures ∙ w.if-rises.false) (w.value-is ∙ w.if-rises.false) ] in
    let tests : c.if-are_shaped.value ≡ rising u && all shaped u && all live u
    = elim c.if-are_shaped.branch
    [ then-are_shaped w ↦ rw (sym first ∙ w.if-are_shaped.true) (w.value-is ∙ w.are_live.ensures) | else-are_shaped w ↦ rw (sym first ∙ w.if-are_shaped.false) (w.value-is ∙ w.if-are_shaped.false) ] in
    let parts = rw (← c.used-used.ensures) at (order-parts (unmasked c.args.masks.now) c.args.loans.now c.if-loans-ne-WORDS.false
    (sym (limits c.args.loans.now c.header_of-header.result c.in_limits.result c.in_limits.ensures c.header_of-header.ensures) ∙ c.if-not-in_limits.false)) in
    c.are_zero.ensures ∙ sym (parts ∙ rw (sym tests ∙ c.if-are_live.true))

pub returns-else-are_live : goal.returns-else-are_live
returns-else-are_live c =
    let live = names_live (unmasked c.args.masks.now) in
    let u = c.used-used.result.now in
    let first : c.if-rises.value ≡ rising u && all shaped u
    = elim c.if-rises.branch
    [ then-rises w ↦ rw (sym c.rises.ensures ∙ w.if-rises.true) (w.value-is ∙ w.are_shaped.ensures) | else-rises w ↦ rw (sym c.rises.ensures ∙ w.if-rises.false) (w.value-is ∙ w.if-rises.false) ] in
    let tests : c.if-are_shaped.value ≡ rising u && all shaped u && all live u
    = elim c.if-are_shaped.branch
    [ then-are_shaped w ↦ rw (sym first ∙ w.if-are_shaped.true) (w.value-is ∙ w.are_live.ensures) | else-are_shaped w ↦ rw (sym first ∙ w.if-are_shaped.false) (w.value-is ∙ w.if-are_shaped.false) ] in
    let parts = rw (← c.used-used.ensures) at (order-parts (unmasked c.args.masks.now) c.args.loans.now c.if-loans-ne-WORDS.false
    (sym (limits c.args.loans.now c.header_of-header.result c.in_limits.result c.in_limits.ensures c.header_of-header.ensures) ∙ c.if-not-in_limits.false)) in
    sym (parts ∙ rw (sym tests ∙ c.if-are_live.false) (sym c.if-are_live.false))
