-- Tickets and a journal that are related, and stay so over a create and a depth 0 allow: the same items live, the holders of tickets are
-- the granted and the issuers, and who issued a right 0 ticket may edit, so that a generate is refused for want of a ticket exactly where
-- an allow is for want of an edit grant. A generate and its pass together put one ticket, for no ticket had the new number before: so a
-- create, a generate alone and a generate with its pass are all one more ticket, held by its issuer and by those granted its right.
use mathlib.Core.Path.{◌≡◌, refl, sym, ap, ap₂, ◌∙◌, subst}
use mathlib.Core.Bool.{Bool, true, false, not, ◌&&◌, ◌||◌, cond, false≢true, or-false, or_comm, or_self, and_assoc}
use mathlib.Core.List.{List, [], ◌∷◌}
use Prim.Native.Nat.{ℕ, suc}
use borrow.Author.Tests.{eqb-true}
use lib.Dec.{eqb, leb}
use Rattle.bits.specs.Sets.{any, all}
use Rattle.bits.specs.Bits.{bit, with_bit}
use Rattle.bits.proofs.Sets.{fst, snd, by_cases, either, or_left, or_right, any-add, eqb_self}
use Rattle.bits.proofs.Bits.{bit_of_zero, bit_with}
use Rattle.bits.proofs.Members.{members-zero}
use Rattle.model.specs.Commands.{items, right_depth}
use Rattle.model.specs.Answers.{◌when◌else◌}
use Rattle.model.specs.declared.Command.TheVariants as command
use Rattle.model.specs.Journal as journal
use Rattle.model.specs.Journal.{Journal, has_grant, answered}
use Rattle.model.proofs.Invariant.{eqb_sym, same_grant_lem, passed, blocked, lives-create}
use Rattle.ticketing.specs.declared.Ticket.{Ticket}
use Rattle.ticketing.specs.declared.TicketCommand.{TicketCommand}
use Rattle.ticketing.specs.declared.TicketCommand.TheVariants.{Create, Generate, Pass}
use Rattle.ticketing.specs.Machine.{Tickets, ticket, tickets, vacancies, only, fresh_tickets, lives, is_live, opens, holds, issued, is_number, holds_number, full, spent, fits, answer, put, with_holder, apply, step, given, run, answers}
use Rattle.ticketing.specs.Order.{Kept}
use Rattle.ticketing.proofs.Places.{bit-only, held-lives, idle, any-put, map-put, any-vacancies}
use Rattle.ticketing.proofs.Order.{all_below_lem}
use Rattle.comparison.specs.Comparison.{allow, ticketed, roomy}

-- what the tickets and the journal of the lists have in common
pub record Related (m : Tickets) (j : Journal) : Type 0 where
  -- the same items live
  pub living : (i : ℕ) → lives m i ≡ journal.lives j i
  -- the holders are the granted and the issuers
  pub yes : (p o r : ℕ) → holds m p o r ≡ has_grant j p o r || issued m p o r
  -- who issued a right 0 ticket may edit
  pub editors : (p o : ℕ) → issued m p o 0 ≡ true → has_grant j p o 0 ≡ true

-- a right 0 ticket is held exactly by those who may edit
edits : (m : Tickets) (j : Journal) → Related m j → (p o : ℕ) → holds m p o 0 ≡ has_grant j p o 0
edits m j v p o =
    v.yes p o 0 ∙ by_cases (issued m p o 0) (λ t. rw (t, v.editors p o t)) (λ f. rw f (or-false (has_grant j p o 0)))

-- ---- one more ticket, held by its issuer and by those that f names, who are granted its right
module _ (m : Tickets) (j k : Journal) (l by on right h : ℕ) (f : ℕ → Bool) where
  abbrev new : Ticket
  new = ticket m.next on right by h

  grown : Related m j → full m ≡ false → ((i : ℕ) → bit l i ≡ journal.lives k i)
      → ((p : ℕ) → bit h p ≡ eqb by p || f p)
      → ((p o r : ℕ) → has_grant k p o r ≡ (f p && (eqb on o && eqb right r)) || has_grant j p o r) → has_grant k by on 0 ≡ true
      → Related (tickets l (suc m.next) (put new m.records)) k
  grown v room living bits more edit = record {
    living = living;
    yes = λ p o r.
        held p o r ∙ ap₂ ◌||◌ (ap (λ b. b && (eqb on o && eqb right r)) (bits p)) (v.yes p o r)
        ∙ mix (eqb by p) (f p) (eqb on o && eqb right r) (has_grant j p o r) (issued m p o r)
        ∙ ap₂ ◌||◌ (sym (more p o r)) (sym (issues p o r));
    editors = λ p o e.
        either (eqb by p && (eqb on o && eqb right 0)) (issued m p o 0) (sym (issues p o 0) ∙ e)
        (λ s. let a : by ≡ p = search (fst, eqb-true) in
        let b : on ≡ o = search (fst, snd, eqb-true) in
        ap₂ (λ p o. has_grant k p o 0) (sym a) (sym b) ∙ edit)
        (λ s. more p o 0 ∙ or_right (f p && (eqb on o && eqb right 0)) (has_grant j p o 0) (v.editors p o s));
  }
    where
      alive : is_live new ≡ true
      alive = held-lives m.next on right by h by (bits by ∙ or_left (eqb by by) (f by) (eqb_self by))

      mix : (b f x g i : Bool) → ((b || f) && x) || (g || i) ≡ ((f && x) || g) || ((b && x) || i)
      mix true true true g i = refl
      mix true false true true i = refl
      mix true false true false i = refl
      mix false true true g i = refl
      mix false false true g i = refl
      mix true true false g i = refl
      mix true false false g i = refl
      mix false true false g i = refl
      mix false false false g i = refl

      held : (p o r : ℕ) → any (λ t. bit t.holders p && opens o r t) (put new m.records)
          ≡ (bit h p && (eqb on o && eqb right r)) || holds m p o r
      held p o r = any-put (λ t. bit t.holders p && opens o r t) new m.records (λ x e. idle x p (opens o r x) e) room

      issues : (p o r : ℕ) → any (λ t. (is_live t && eqb t.issuer p) && opens o r t) (put new m.records)
          ≡ (eqb by p && (eqb on o && eqb right r)) || issued m p o r
      issues p o r =
          any-put (λ t. (is_live t && eqb t.issuer p) && opens o r t) new m.records (λ x e. rw e) room ∙ rw alive

-- one more grant
more_grants : (j : Journal) (q o r : ℕ) (p i w : ℕ) → any (journal.is_to p i w) (journal.granted j (journal.grant q o r 0)).grants
    ≡ (eqb q p && (eqb o i && eqb r w)) || has_grant j p i w
more_grants j q o r p i w =
    any-add (journal.is_to p i w) journal.same_grant same_grant_lem (journal.grant q o r 0) j.grants
    ∙ ap (λ b. b || has_grant j p i w) (and_assoc (eqb q p) (eqb o i) (eqb r w))

-- ---- what the journal answers
answered-create : (j : Journal) (by on : ℕ) → answered j (command.Create by on)
    ≡ 3 when not (items by on) else 4 when not (journal.lives j by) else 6 when journal.lives j on else 0
answered-create j by on = go (leb by 63) (leb on 63) (4 when not (journal.lives j by) else 6 when journal.lives j on else 0)
  where
    go : (a b : Bool) (n : ℕ) → (3 when not ((a && b) && (b && b) && true && true) else n) ≡ (3 when not (a && b) else n)
    go true true n = refl
    go true false n = refl
    go false b n = refl

answered-allow : (j : Journal) (by to on right : ℕ) → answered j (command.Allow by to on right 0)
    ≡ 3 when not ((items by on && right_depth right 0) && leb to 63) else
    4 when not (journal.lives j by) else
    5 when not (journal.lives j on && journal.lives j to) else
    8 when not (has_grant j by on 0) else
    0
unfolding all
answered-allow j by to on right =
    rw (members-zero 64)
    (go (leb by 63) (leb to 63) (leb on 63) (leb right 7) (journal.lives j by) (journal.lives j on) (journal.lives j to)
    (has_grant j by on 0))
  where
    rest : (b o t e : Bool) → ℕ
    rest b o t e = 4 when not b else 5 when not (o && t) else 8 when not e else 0

    inner : (b o t e : Bool) → (4 when not b else 5 when not (o && t && true) else 8 when not e else 0) ≡ rest b o t e
    inner b true true e = refl
    inner b true false e = refl
    inner b false t e = refl

    go : (a x c r b o t e : Bool) → (3 when not ((a && x) && (x && c) && (r && true) && true) else
        4 when not b else 5 when not (o && t && true) else 8 when not e else 0)
        ≡ (3 when not (((a && c) && (r && true)) && x) else rest b o t e)
    go true true true true b o t e = inner b o t e
    go true true true false b o t e = refl
    go true true false r b o t e = refl
    go true false true true b o t e = refl
    go true false true false b o t e = refl
    go true false false r b o t e = refl
    go false x c r b o t e = refl

-- ---- a create
module _ (m : Tickets) (j : Journal) (v : Related m j) (by on : ℕ) where
  after-create : full m ≡ false → Related (apply m (Create by on)) (journal.apply j (command.Create by on))
  after-create room =
      grown m j (journal.apply j (command.Create by on)) (with_bit m.live on) by on 0 (only by) (eqb by) v room
      (λ i. bit_with m.live on i ∙ or_comm (bit m.live i) (eqb i on) ∙ ap (λ b. eqb i on || b) (v.living i)
      ∙ sym (lives-create j by on i))
      (λ p. bit-only by p ∙ sym (or_self (eqb by p))) (more_grants j by on 0)
      (more_grants j by on 0 by on 0 ∙ rw (eqb_self by, eqb_self on))

  pub create-step : roomy (answers m (Create by on ∷ [])) ≡ true → Related (step m (Create by on)) (journal.step j (command.Create by on))
  unfolding all
  create-step room =
      rw (answered-create j by on, ← (v.living by), ← (v.living on))
      (go (items by on) (lives m by) (lives m on) (full m) (spent m) refl room)
    where
      number : (a b c f n : Bool) → ℕ
      number a b c f n = 3 when not (a && true) else 4 when not b else 6 when c else 15 when f else 16 when n else 0

      go : (a b c f n : Bool) → full m ≡ f → not (eqb (number a b c f n) 15 || eqb (number a b c f n) 16) && true ≡ true
          → Related (cond (eqb (number a b c f n) 0) (apply m (Create by on)) m)
          (cond (eqb (3 when not a else 4 when not b else 6 when c else 0) 0) (journal.apply j (command.Create by on)) j)
      go false b c f n k r = v
      go true false c f n k r = v
      go true true true f n k r = v
      go true true false true n k r = absurd (false≢true r)
      go true true false false true k r = absurd (false≢true r)
      go true true false false false k r = after-create k

-- ---- an allow of depth 0
module _ (m : Tickets) (k : Kept m) (j : Journal) (v : Related m j) (by to on right : ℕ) where
  -- the ticket that is generated, and passed on
  abbrev generated : Tickets
  generated = apply m (Generate by on right)

  abbrev allowed : Journal
  allowed = journal.apply j (command.Allow by to on right 0)

  after_generate : full m ≡ false → has_grant j by on 0 ≡ true → Related generated j
  after_generate room edit =
      grown m j j m.live by on right (only by) (λ p. false) v room v.living (λ p. bit-only by p ∙ sym (or-false (eqb by p)))
      (λ p o r. refl) edit

  both_hold : (p : ℕ) → bit (with_bit (only by) to) p ≡ eqb by p || eqb to p
  both_hold p = bit_with (only by) to p ∙ ap₂ ◌||◌ (bit-only by p) (eqb_sym p to)

  abbrev new-ticket : Ticket
  new-ticket = ticket m.next on right by (only by)

  new_alive : is_live new-ticket ≡ true
  new_alive = held-lives m.next on right by (only by) by (bit-only by by ∙ eqb_self by)

  carried : full m ≡ false → holds_number generated by m.next ≡ true
  carried room =
      any-put (λ t. is_number m.next t && bit t.holders by) new-ticket m.records (λ x e. rw e) room
      ∙ rw (new_alive, bit-only by by, eqb_self by, eqb_self m.next)

  passed_on : apply generated (Pass by to m.next)
      ≡ tickets m.live (suc m.next) (put (ticket m.next on right by (with_bit (only by) to)) m.records)
  passed_on =
      ap (tickets m.live (suc m.next))
      (map-put m.next (with_holder to) new-ticket m.records (all_below_lem m k.order) ∙ rw (new_alive, eqb_self m.next))

  after_pass : full m ≡ false → has_grant j by on 0 ≡ true
      → Related (apply generated (Pass by to m.next)) allowed
  after_pass room edit =
      subst (λ n. Related n allowed) (sym passed_on)
      (grown m j allowed m.live by on right (with_bit (only by) to) (eqb to) v room v.living both_hold
      (more_grants j to on right) (more_grants j to on right by on 0
      ∙ or_right (eqb to by && (eqb on on && eqb right 0)) (has_grant j by on 0) edit))

  -- a ticket was generated: it is passed on exactly where the lists allow
  taken : answer m (Generate by on right) ≡ 0
      → Related (step generated (Pass by to m.next)) (journal.step j (command.Allow by to on right 0))
  taken e =
      let a = passed 2 (fits (Generate by on right)) _ e in
      let b = passed 3 (lives m by) _ a.1 in
      let c = passed 4 (lives m on) _ b.1 in
      let d = passed 16 (holds m by on 0) _ c.1 in
      let f = blocked 14 (full m) _ d.1 in
      let limits = a.0 in
      let x : leb by 63 ≡ true = search (fst, snd) in
      let z : leb on 63 ≡ true = search (fst, snd) in
      let w : leb right 7 ≡ true = search (fst, snd) in
      let edit : has_grant j by on 0 ≡ true = sym (edits m j v by on) ∙ d.0 in
      rw (
        answered-allow j by to on right,
        x,
        z,
        w,
        sym (v.living by) ∙ b.0,
        b.0,
        sym (v.living on) ∙ c.0,
        edit,
        carried f.0,
        ← (v.living to),
      )
      (go (leb to 63) (lives m to) (after_generate f.0 edit) (after_pass f.0 edit))
    where
      go : (y d : Bool) → Related generated j → Related (apply generated (Pass by to m.next)) allowed
          → Related (cond (eqb (3 when not (y && true) else 5 when not d else 0) 0) (apply generated (Pass by to m.next)) generated)
          (cond (eqb (3 when not y else 5 when not d else 0) 0) allowed j)
      go false d k l = k
      go true false k l = k
      go true true k l = l

  -- none was, and there was room: the lists refuse too
  refused : eqb (answer m (Generate by on right)) 0 ≡ false
      → not (eqb (answer m (Generate by on right)) 15 || eqb (answer m (Generate by on right)) 16) ≡ true
      → Related m (journal.step j (command.Allow by to on right 0))
  refused e r =
      by_cases (eqb (answered j (command.Allow by to on right 0)) 0)
      (λ t. let n = same (eqb-true (answered j (command.Allow by to on right 0)) 0 t) in
      absurd (clash (full m) (spent m) (rw n at e) (rw n at r))) (λ f. rw f v)
    where
      clash : (f n : Bool) → eqb (15 when f else 16 when n else 0) 0 ≡ false
          → not (eqb (15 when f else 16 when n else 0) 15 || eqb (15 when f else 16 when n else 0) 16) ≡ true → ⊥
      clash true n e r = false≢true r
      clash false true e r = false≢true r
      clash false false e r = false≢true (sym e)

      same : answered j (command.Allow by to on right 0) ≡ 0
          → answer m (Generate by on right) ≡ 15 when full m else 16 when spent m else 0
      same e =
          let a = passed 2 ((items by on && right_depth right 0) && leb to 63) _ (sym (answered-allow j by to on right) ∙ e) in
          let b = passed 3 (journal.lives j by) _ a.1 in
          let c = passed 4 (journal.lives j on && journal.lives j to) _ b.1 in
          let d = passed 7 (has_grant j by on 0) _ c.1 in
          let limits = fst (items by on && right_depth right 0) (leb to 63) a.0 in
          let on-lives = fst (journal.lives j on) (journal.lives j to) c.0 in
          rw (limits, v.living by ∙ b.0, v.living on ∙ on-lives, edits m j v by on ∙ d.0)

  abbrev pair : List TicketCommand
  pair = ticketed (answer m) (given m) (allow by to on right)

  pub allow-step : roomy (answers m pair) ≡ true → Related (run m pair) (journal.step j (command.Allow by to on right 0))
  unfolding all
  allow-step room = go (eqb (answer m (Generate by on right)) 0) refl (fst _ _ room)
    where
      go : (b : Bool) → eqb (answer m (Generate by on right)) 0 ≡ b
          → not (eqb (answer m (Generate by on right)) 15 || eqb (answer m (Generate by on right)) 16) ≡ true
          → Related (run (cond b generated m) (cond b (Pass by to (cond b m.next 0) ∷ []) []))
          (journal.step j (command.Allow by to on right 0))
      go true e r = taken (eqb-true (answer m (Generate by on right)) 0 e)
      go false e r = refused e r

-- ---- both fresh
abbrev root : Ticket
root = ticket 0 0 0 0 (only 0)

pub related_fresh : Related fresh_tickets journal.fresh
unfolding fresh_tickets journal.fresh any all
related_fresh = record {
  living = λ i. bit-only 0 i ∙ eqb_sym 0 i ∙ sym (or-false (eqb i 0));
  yes = λ p o r.
      rw (
        bit-only 0 p,
        any-vacancies (λ t. bit t.holders p && opens o r t) 1023 (ap (λ b. b && (eqb 0 o && eqb 0 r)) (bit_of_zero p)),
        any-vacancies (λ t. (is_live t && eqb t.issuer p) && opens o r t) 1023 refl,
        alive,
      ) (mix (eqb 0 p) (eqb 0 o) (eqb 0 r));
  editors = λ p o e. let a = issuer p o 0 e in rw (a.0, a.1);
}
  where
    alive : is_live root ≡ true
    alive = held-lives 0 0 0 0 (only 0) 0 (bit-only 0 0)

    issuer : (p o r : ℕ) → ((is_live root && eqb 0 p) && (eqb 0 o && eqb 0 r))
        || any (λ t. (is_live t && eqb t.issuer p) && opens o r t) (vacancies 1023) ≡ true
        → (eqb 0 p ≡ true) × (eqb 0 o ≡ true) × (eqb 0 r ≡ true)
    issuer p o r e =
        either ((is_live root && eqb 0 p) && (eqb 0 o && eqb 0 r)) _ e (λ k. (search (fst, snd), search (fst, snd), search (fst, snd)))
        (λ k. absurd (false≢true (sym (any-vacancies (λ t. (is_live t && eqb t.issuer p) && opens o r t) 1023 refl) ∙ k)))

    mix : (a b c : Bool) → (a && (b && c)) || false ≡ ((a && b && c) || false) || ((a && (b && c)) || false)
    mix true true true = refl
    mix true true false = refl
    mix true false c = refl
    mix false b c = refl
