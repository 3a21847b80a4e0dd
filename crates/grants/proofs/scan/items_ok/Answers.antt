use mathlib.Core.Path.{refl, ◌∙◌}
use Rattle.std.proofs.Common.{rules}
use Rattle.std.proofs.lemmas.Iterator.{YieldsList-from_range}
use Rattle.std.proofs.lemmas.Iterator.Search.{all_from_yields_List}
use Rattle.bits.proofs.Chains.{all-range}
use Rattle.layouts.specs.Layouts.{grant_bytes}
use Rattle.layouts.specs.Order.{block_ok}
use Rattle.grants.proofs.scan.items_ok.Goals as goal

pub returns : goal.returns
returns c =
    all_from_yields_List (block_ok grant_bytes c.args.grants.now 4096) _ _ _ c.all.ensures.ran (YieldsList-from_range 0 64 64 refl refl)
    (λ x b q k. search rules)
    ∙ all-range _ 64
