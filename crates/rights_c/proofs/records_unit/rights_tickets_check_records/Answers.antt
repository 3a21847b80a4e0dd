-- Each turn looks at the struct at its place (`find_goes`); at the end what was found is what the slice has (`find-ends`).
use Rattle.std.proofs.Common.{◌≡◌, ◌<◌, ℕ, length, get_or, refl, ap, subst, arith, ◌∙◌}
use Rattle.std.proofs.Math.Nat.{lt_of_lt_of_le}
use Rattle.ticketing.specs.Machine.{vacant}
use Rattle.records.specs.Records.{found_of}
use Rattle.records.specs.declared.Inquiry.{Inquiry}
use Rattle.records.proofs.Finding.{places_fit, find_goes, find-ends}
use Rattle.rights_c.proofs.records_unit.rights_tickets_check_records.Goals as goal

pub loop-k-preserved : goal.loop-k-preserved
loop-k-preserved c =
    let q = ap (λ (r : Inquiry). r.count) c.loop-k.invariant.asked in
    let within : c.loop-k.k < length c.args.tickets.now =
    lt_of_lt_of_le (subst (λ (n : ℕ). c.loop-k.k < n) q c.loop-k-test.true) (places_fit c.args.tickets.now c.args.who c.args.on c.args.right) in record {
      asked = c.loop-k.invariant.asked;
      found = find_goes c.args.tickets.now c.args.who c.args.on c.args.right c.loop-k.k c.loop-k.found c.look-found.result within
          c.loop-k.invariant.found
          (c.look-found.ensures ∙ ap (λ (r : Inquiry). found_of r c.loop-k.found (get_or c.args.tickets.now c.loop-k.k vacant)) c.loop-k.invariant.asked);
    }

pub returns : goal.returns
returns c =
    let q = ap (λ (r : Inquiry). r.count) c.loop-k.invariant.asked in
    let e : c.loop-k.k ≡ c.ask-q.result.count = omega arith in (
      ap (λ (r : Inquiry). r.number) c.loop-k.invariant.asked,
      find-ends c.args.tickets.now c.args.who c.args.on c.args.right c.loop-k.k c.loop-k.found (e ∙ q) c.loop-k.invariant.found,
      refl,
    )
