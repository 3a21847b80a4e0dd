-- The clauses in their order.
use mathlib.Core.Path.{◌≡◌, sym, ◌∙◌}
use mathlib.Core.Bool.{true, false}
use native.Mathlib.Omega.{arith}
use borrow.Author.Tests.{le-leb, lt-leb}
use lib.ListN.{get_or}
use Rattle.bits.specs.Bits.{bit}
use Rattle.ticketing.specs.Image.{machine_of}
use Rattle.tickets.proofs.in_order.Goals as goal

pub returns-then-not-has : goal.returns-then-not-has
unfolding machine_of
returns-then-not-has c =
    let e : bit (get_or c.args.image.now 0 0) 0 ≡ false = sym c.has.ensures ∙ c.if-not-has.true in
    sym (rw e)

pub returns-then-image-gt-LAST : goal.returns-then-image-gt-LAST
unfolding machine_of
returns-then-image-gt-LAST c =
    let a : bit (get_or c.args.image.now 0 0) 0 ≡ true = sym c.has.ensures ∙ c.if-not-has.false in
    let e = lt-leb (get_or c.args.image.now 1 0) 4294967295 (omega arith) in
    sym (rw (a, e))

pub returns : goal.returns
unfolding machine_of
returns c =
    let a : bit (get_or c.args.image.now 0 0) 0 ≡ true = sym c.has.ensures ∙ c.if-not-has.false in
    let e = le-leb (get_or c.args.image.now 1 0) 4294967295 (omega arith) in
    c.records_ok.ensures ∙ sym (rw (a, e))
