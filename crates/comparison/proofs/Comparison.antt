-- Tickets and lists compared: the lists are the image of a journal, the ticket words that of a state, and state and journal stay related
-- over every create and depth 0 allow, so the checks of the two units differ by what was issued alone.
use mathlib.Core.Path.{◌≡◌, refl, sym, ap, ap₂, ◌∙◌, subst}
use mathlib.Core.Bool.{true, false, ◌&&◌, ◌||◌, false≢true}
use mathlib.Core.List.{List, [], ◌∷◌}
use Prim.Native.Nat.{ℕ}
use native.Mathlib.Omega.{arith}
use borrow.Author.Tests.{eqb-true, le-leb}
use lib.Dec.{eqb, leb}
use Rattle.bits.specs.Sets.{all}
use Rattle.bits.proofs.Sets.{by_cases, fst, snd, both, find}
use Rattle.model.specs.Commands.{items, right_depth}
use Rattle.model.specs.declared.Command.TheVariants as command
use Rattle.model.specs.Journal as journal
use Rattle.model.specs.Journal.{Journal}
use Rattle.model.specs.Invariant.{Inv}
use Rattle.model.proofs.Invariant.{inv-fresh, beyond-none}
use Rattle.model.proofs.Steps.{inv-step}
use Rattle.layouts.specs.Machine as machine
use Rattle.layouts.specs.Layouts.{lists, flat_unit}
use Rattle.layouts.specs.Laws as laws
use Rattle.layouts.proofs.Layouts.{lists-laws, check_of, fresh_of_lem}
use Rattle.layouts.proofs.Steps.{step_of_lem}
use Rattle.ticketing.specs.declared.TicketCommand.{TicketCommand}
use Rattle.ticketing.specs.declared.TicketCommand.TheVariants.{Generate}
use Rattle.ticketing.specs.Machine.{Tickets, fresh_tickets, issued, answer, step, given, run, answers, is_live, opens}
use Rattle.ticketing.specs.Order.{Kept, record_ok}
use Rattle.ticketing.specs.Image.{image_of}
use Rattle.ticketing.specs.Unit.{fresh_image}
use Rattle.ticketing.specs.declared.Ticket.{Ticket}
use Rattle.ticketing.proofs.Images.{machine_image, live_below}
use Rattle.ticketing.proofs.Order.{kept_fresh, kept_step, kept_run}
use Rattle.ticketing.proofs.Agreement.{answer-image, step-image, agrees_image, answers-image}
use Rattle.ticketing.proofs.Records.{ok_cases, sound-parts}
use Rattle.comparison.specs.Comparison.{Shared, create, allow, listed, ticketed, told, run_of, answers_of, roomy, Same, Compared, Comparison}
use Rattle.comparison.proofs.Related.{Related, create-step, allow-step, related_fresh}

-- ---- a step of both
related_step : (m : Tickets) (j : Journal) (c : Shared) → Kept m → Related m j → roomy (answers m (ticketed (answer m) (given m) c)) ≡ true
    → Related (run m (ticketed (answer m) (given m) c)) (journal.step j (listed c))
related_step m j (create by on) k v room = create-step m j v by on room
related_step m j (allow by to on right) k v room = allow-step m k j v by to on right room

list-step : (j : Journal) → Inv j → (c : Shared)
    → machine.step_of (flat_unit lists) (laws.image_of lists j) (listed c) ≡ laws.image_of lists (journal.step j (listed c))
list-step j w (create by on) = step_of_lem lists lists-laws j w (command.Create by on) refl
list-step j w (allow by to on right) = step_of_lem lists lists-laws j w (command.Allow by to on right 0) refl

-- ---- from states to words
-- a live ticket is within the limits
record_within : (m : Tickets) → Kept m → (t : Ticket) → record_ok m.live m.next t ≡ true → is_live t ≡ true
    → items t.issuer t.item && right_depth t.right 0 ≡ true
record_within m k t e alive =
    ok_cases m.live m.next t e (λ z. absurd (false≢true (ap (λ (x : Ticket). is_live x) (sym z) ∙ alive)))
    (λ s q. let w = sound-parts m.live m.next t q in
    let i = live_below m k t.item w.item in
    both (both (snd (leb t.right 7) (leb t.issuer 63) w.limits) (le-leb t.item 63 (omega arith)))
    (both (fst (leb t.right 7) (leb t.issuer 63) w.limits) refl))

-- and so is what anybody issued
issued-within : (m : Tickets) → Kept m → (p o r : ℕ) → issued m p o r ≡ true → items p o && right_depth r 0 ≡ true
issued-within m k p o r h =
    let e = k.order in
    let a : all (record_ok m.live m.next) m.records ≡ true = search (fst, snd) in
    let t = find (λ t. (is_live t && eqb t.issuer p) && opens o r t) (record_ok m.live m.next) m.records a h in
    let f = t.2 in
    let x : t.0.issuer ≡ p = search (fst, snd, eqb-true) in
    let y : t.0.item ≡ o = search (fst, snd, eqb-true) in
    let z : t.0.right ≡ r = search (fst, snd, eqb-true) in
    let b = record_within m k t.0 t.1 (search (fst, snd)) in
    let c : items p o && right_depth r 0 ≡ true = rw (x, y, z) at b in
    c

same_of : (m : Tickets) (j : Journal) → Kept m → Inv j → Related m j → Same (image_of m) (laws.image_of lists j)
same_of m j k w v p o r =
    (agrees_image m k).yes p o r
    ∙ by_cases (items p o && right_depth r 0) (λ h. rw h (v.yes p o r))
    (λ h. rw h (sym (ap₂ ◌||◌ (beyond-none j w p o r h) (unissued h))))
    ∙ ap₂ ◌||◌ (sym (check_of lists lists-laws j w p o r)) (ap (λ n. issued n p o r) (sym (machine_image m k)))
  where
    unissued : items p o && right_depth r 0 ≡ false → issued m p o r ≡ false
    unissued h = by_cases (issued m p o r) (λ t. absurd (false≢true (sym h ∙ issued-within m k p o r t))) (λ f. f)

told_of : (m : Tickets) → Kept m → (c : Shared) → told (image_of m) c ≡ ticketed (answer m) (given m) c
told_of m k (create by on) = refl
told_of m k (allow by to on right) =
    rw ((answers-image m k (Generate by on right)).ticket, answer-image m k (Generate by on right))

answers_of_lem : (cs : List TicketCommand) (m : Tickets) → Kept m → answers_of (image_of m) cs ≡ answers m cs
answers_of_lem [] m k = refl
answers_of_lem (c ∷ cs) m k = ap₂ ◌∷◌ (answer-image m k c) (rw (step-image m k c) (answers_of_lem cs (step m c) (kept_step m c k)))

run_of_lem : (cs : List TicketCommand) (m : Tickets) → Kept m → run_of (image_of m) cs ≡ image_of (run m cs)
run_of_lem [] m k = refl
run_of_lem (c ∷ cs) m k = rw (step-image m k c) (run_of_lem cs (step m c) (kept_step m c k))

-- what the unit is told, as its machine is told it
module _ (m : Tickets) (k : Kept m) (c : Shared) where
  abbrev mine : List TicketCommand
  mine = ticketed (answer m) (given m) c

  told-answers : answers_of (image_of m) (told (image_of m) c) ≡ answers m mine
  told-answers = ap (answers_of (image_of m)) (told_of m k c) ∙ answers_of_lem mine m k

  told-run : run_of (image_of m) (told (image_of m) c) ≡ image_of (run m mine)
  told-run = ap (run_of (image_of m)) (told_of m k c) ∙ run_of_lem mine m k

compared : (cs : List Shared) (m : Tickets) (j : Journal) → Kept m → Inv j → Related m j
    → Compared (image_of m) (laws.image_of lists j) cs
compared [] m j k w v = same_of m j k w v
compared (c ∷ cs) m j k w v = (
  same_of m j k w v,
  λ room.
      let r : roomy (answers m (mine m k c)) ≡ true = subst (λ ns. roomy ns ≡ true) (told-answers m k c) room in
      subst (λ s. Compared s (machine.step_of (flat_unit lists) (laws.image_of lists j) (listed c)) cs) (sym (told-run m k c))
      (subst (λ x. Compared (image_of (run m (mine m k c))) x cs) (sym (list-step j w c))
      (compared cs (run m (mine m k c)) (journal.step j (listed c)) (kept_run (mine m k c) m k) (inv-step j (listed c) w)
      (related_step m j c k v r))),
)

-- before the first command and after each, for every list of creates and depth 0 allows
pub comparison : (cs : List Shared) → Comparison cs
unfolding fresh_image
comparison cs =
    subst (λ x. Compared (image_of fresh_tickets) x cs) (sym (fresh_of_lem lists lists-laws))
    (compared cs fresh_tickets journal.fresh kept_fresh inv-fresh related_fresh)
