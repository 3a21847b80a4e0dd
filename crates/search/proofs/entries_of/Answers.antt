-- Of what is ORed no lender's entry among the loans so far is above it (`above-push`).
use Rattle.std.proofs.Common.{rules, subst}
use native.Mathlib.Omega.{arith}
use Rattle.std.proofs.lemmas.Fn.{fold_over, slice_gives, fronts}
use Rattle.search.specs.Raised.{NoneAbove}
use Rattle.search.proofs.Rounds.{above-push}
use Rattle.search.proofs.entries_of.Goals as goal

pub returns : goal.returns
returns c =
    subst (λ ls. NoneAbove c.fold.result ls c.args.round.now) c.iter.ensures.rest
    (fold_over fronts (λ y. y.now) _ (λ ys a. NoneAbove a ys c.args.round.now) _
    (λ ys a x b f j k. (above-push ys c.args.round.now x.now a b (search rules) j, search rules))
    _ _ _ _ (slice_gives c.iter.result) (λ k h. absurd (omega arith)) c.fold.ensures.ran)
