-- The loans by fours and the rest of them are all (`chunks-all`), and each sum is 0 where the three ORed are (`dead_zero`).
use Rattle.std.proofs.Common.{rules, true}
use mathlib.Core.Path.{◌≡◌, ◌∙◌}
use Rattle.bits.specs.Sets.{all}
use Rattle.loans.specs.Words.{unmasked, names_live, none_dead}
use Rattle.delegation.proofs.Folds.{all_fold}
use Rattle.loans.proofs.Folds.{chunks-all}
use Rattle.loans.proofs.Loops.{dead_zero}
use Rattle.loans.proofs.order.are_live.Goals as goal

pub returns : goal.returns
returns c =
    let live = names_live (unmasked c.args.masks.now) in
    let fours
    = all_fold (all live) _ none_dead _ c.iter.result c.as_chunks.result.0.now c.default.result c.fold-dead.result c.fold-dead.ensures.ran (search rules) (λ a x b f k. search rules) in
    let none : none_dead c.default.result ≡ true = search rules in
    dead_zero c.note_all-dead.result.lender c.note_all-dead.result.item c.note_all-dead.result.borrower ∙ c.note_all-dead.ensures
    ∙ rw (fours, none, c.as_chunks.ensures.front, c.as_chunks.ensures.back) (chunks-all live 4 _ c.args.s.now)
