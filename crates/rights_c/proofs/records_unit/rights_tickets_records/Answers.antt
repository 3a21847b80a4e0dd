-- Each turn puts the image's struct at its place (`fill_goes`); at the end that is every place, or the slice as it was (`fill_ends`).
use Rattle.std.proofs.Common.{◌≡◌, ◌<◌, ℕ, refl, ap, subst, arith, ◌∙◌}
use Rattle.records.specs.declared.Reading.{Reading}
use Rattle.records.proofs.Filling.{fill_goes, fill_ends}
use Rattle.rights_c.proofs.records_unit.rights_tickets_records.Goals as goal

pub loop-k-preserved : goal.loop-k-preserved
loop-k-preserved c =
    let q = ap (λ (r : Reading). r.count) c.loop-k.invariant.judged in record {
      judged = c.loop-k.invariant.judged;
      filled = fill_goes c.args.image.now c.args.tickets.now c.loop-k.k c.loop-k.tickets c.ticket_of.result
          (subst (λ (n : ℕ). c.loop-k.k < n) q c.loop-k-test.true) c.loop-k.invariant.filled c.ticket_of.ensures;
    }

pub returns : goal.returns
returns c =
    let q = ap (λ (r : Reading). r.count) c.loop-k.invariant.judged in
    let e : c.loop-k.k ≡ c.judge-r.result.count = omega arith in (
      ap (λ (r : Reading). r.number) c.loop-k.invariant.judged,
      fill_ends c.args.image.now c.args.tickets.now c.loop-k.k c.loop-k.tickets (e ∙ q) c.loop-k.invariant.filled,
      refl,
    )
