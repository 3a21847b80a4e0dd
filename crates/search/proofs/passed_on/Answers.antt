-- After each turn `most` is the greatest of one lender more (`most_more`), whose place the zip tells (`zip_turn`); at the end it had all 64
-- (`zip_end`).
use borrow.Author.Rules.{rules}
use native.Mathlib.Omega.{arith}
use mathlib.Core.Path.{◌≡◌, refl, ap, ◌∙◌}
use Prim.Native.Nat.{ℕ, ◌-◌, min}
use lib.ListN.{length, get_or, length-append}
use Rattle.std.proofs.lemmas.Slice.Zip.{zip_turn, zip_end}
use Rattle.bits.specs.Sets.{most}
use Rattle.search.specs.Lending.{passed_on}
use Rattle.search.proofs.Rounds.{most_more}
use Rattle.search.proofs.passed_on.Goals as goal

pub loop-lent-init : goal.loop-lent-init
unfolding most
loop-lent-init c = refl

pub loop-lent-preserved : goal.loop-lent-preserved
loop-lent-preserved c =
    let n = length c.loop-lent.yielded in
    let t = zip_turn c.args.row.now c.args.round.now c.loop-lent.yielded c.into_iter-lent-iterator.result c.loop-lent.lent-iterator
    c.next.new.self c.next.result (search rules) (search rules) c.loop-lent.yielded_by _ c.in-Some.is c.next.ensures.steps in
    let m = most_more (λ (q : ℕ). min (get_or c.args.round.now q 0 - 1) (get_or c.args.row.now q 0)) n in
    rw length-append (omega (arith, m, t.2 0, t.3 0))

pub returns : goal.returns
unfolding passed_on
returns c =
    let e = zip_end c.args.row.now c.args.round.now c.loop-lent.yielded c.into_iter-lent-iterator.result c.loop-lent.lent-iterator
    c.next.new.self c.next.result (search rules) (search rules) c.loop-lent.yielded_by c.in-None.is c.next.ensures.steps in
    let n : length c.loop-lent.yielded ≡ 64 = omega (arith, e) in
    c.loop-lent.invariant ∙ ap (most (λ (q : ℕ). min (get_or c.args.round.now q 0 - 1) (get_or c.args.row.now q 0))) n
