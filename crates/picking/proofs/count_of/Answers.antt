-- A word counts 1 where its key is the key, else 0; the sum of these is how many there are (`sum-keep`).
use Rattle.std.proofs.Common.{rules, cond}
use native.Mathlib.Omega.{arith}
use mathlib.Core.Path.{◌∙◌, refl}
use Rattle.std.proofs.lemmas.Iterator.{YieldsList-from_slice, YieldsList-from_map}
use Rattle.std.proofs.lemmas.Iterator.Consumers.{sum_by_from_yields_List, fits_by_from_yields_list}
use Rattle.picking.specs.Runs.{of_key}
use Rattle.picking.proofs.Picking.{sum-keep, keep_le}
use Rattle.picking.proofs.count_of.Goals as goal

pub sum-requires-clause-fits : goal.sum-requires-clause-fits
sum-requires-clause-fits c =
    let p = of_key c.args.key in
    fits_by_from_yields_list (λ w. cond (p w) 1 0) c.args.loans.now c.map.result _
    (YieldsList-from_map _ _ (YieldsList-from_slice c.args.loans.now (search rules)) refl (λ x r q k. search rules))
    (omega (arith, sum-keep p c.args.loans.now, keep_le p c.args.loans.now))

pub returns : goal.returns
returns c =
    let p = of_key c.args.key in
    sum_by_from_yields_List (λ w. cond (p w) 1 0) c.args.loans.now c.map.result _ c.sum.ensures.ran
    (YieldsList-from_map _ _ (YieldsList-from_slice c.args.loans.now (search rules)) refl (λ x r q k. search rules))
    ∙ sum-keep p c.args.loans.now
