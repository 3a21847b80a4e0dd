-- What ends stays ended. No command but create and generate makes a ticket, and these take the next number, which only rises: so what lives
-- later under a number given before lives now. A remove leaves no live ticket of its number, a delete none of its item and no holder of
-- that name; all other tickets are as they were.
use mathlib.Core.Path.{◌≡◌, refl, sym, ap, ◌∙◌}
use mathlib.Core.Bool.{Bool, true, false, not, ◌&&◌, ◌||◌, cond, false≢true, and-false}
use mathlib.Core.List.{List, [], ◌∷◌}
use Prim.Native.Nat.{ℕ, ◌≤◌, ◌<◌}
use native.Mathlib.Omega.{arith}
use borrow.Author.Tests.{eqb-true, ltb-true}
use lib.Dec.{eqb}
use Rattle.bits.specs.Sets.{any, all}
use Rattle.bits.specs.Bits.{bit, without_bit}
use Rattle.bits.proofs.Sets.{fst, snd, both, by_cases, neither, find, none, any_cong, any-and, any_mono, any-map, all_true, eqb_self}
use Rattle.bits.proofs.Bits.{bit_of_zero, bit-without}
use Rattle.model.proofs.Invariant.{eqb_sym, passed}
use Rattle.ticketing.specs.declared.Ticket.{Ticket}
use Rattle.ticketing.specs.declared.TicketCommand.{TicketCommand}
use Rattle.ticketing.specs.declared.TicketCommand.TheVariants.{Create, Generate, Pass, Remove, Delete}
use Rattle.ticketing.specs.Machine.{Tickets, ticket, vacant, only, lives, is_live, opens, holds, is_number, holds_number, may_remove, fits, answer, changed, with_holder, ended, without, apply, step, run}
use Rattle.ticketing.specs.Order.{has}
use Rattle.ticketing.specs.Promises.{holds_other}
use Rattle.ticketing.proofs.Places.{picked, below, idle, holder_lives, lives_before, put_only, map-only}

-- ---- numbers
pub next-step : (m : Tickets) (c : TicketCommand) → m.next ≤ (step m c).next
next-step m c = go (eqb (answer m c) 0) c
  where
    go : (b : Bool) (c : TicketCommand) → m.next ≤ (cond b (apply m c) m).next
    go false c = omega arith
    go true (Create by on) = omega arith
    go true (Generate by on right) = omega arith
    go true (Pass by to n) = omega arith
    go true (Remove by n) = omega arith
    go true (Delete by on) = omega arith

pub next-run : (cs : List TicketCommand) (m : Tickets) → m.next ≤ (run m cs).next
next-run [] m = omega arith
next-run (c ∷ cs) m = let a = next-step m c in let b = next-run cs (step m c) in omega arith

module _ (k : ℕ → ℕ → ℕ → ℕ → Bool) where
  -- a live ticket whose number, item, right and issuer pass
  abbrev known : Ticket → Bool
  known t = is_live t && k t.number t.item t.right t.issuer

  known-changed : (n : ℕ) (f : Ticket → Ticket) → ((t : Ticket) → is_live t ≡ true → known (f t) ≡ true → known t ≡ true) → (t : Ticket)
      → known (changed n f t) ≡ true → known t ≡ true
  known-changed n f g t h =
      picked (λ u. known u ≡ true → known t ≡ true) (is_number n t) (f t) t
      (λ b e. g t (fst (is_live t) (eqb t.number n) b) e) (λ b e. e) h

  known_holder : (to : ℕ) (t : Ticket) → is_live t ≡ true → known (with_holder to t) ≡ true → known t ≡ true
  known_holder to t s h = both s (snd (is_live (with_holder to t)) (k t.number t.item t.right t.issuer) h)

  known-without : (i : ℕ) (t : Ticket) → known (without i t) ≡ true → known t ≡ true
  known-without i t h =
      picked (λ u. known u ≡ true → known t ≡ true) (eqb t.item i || eqb (without_bit t.holders i) 0) vacant
      (ticket t.number t.item t.right t.issuer (without_bit t.holders i)) (λ b e. absurd (false≢true e))
      (λ b e. both (lives_before t i (neither (eqb t.item i) (eqb (without_bit t.holders i) 0) b).1)
      (snd (not (eqb (without_bit t.holders i) 0)) (k t.number t.item t.right t.issuer) e)) h

  -- what lives after a step lived before it, if its number had been given
  known_step : (m : Tickets) (c : TicketCommand) → ((n o r p : ℕ) → k n o r p ≡ true → n < m.next) → any known (step m c).records ≡ true
      → any known m.records ≡ true
  known_step m c old h = go (eqb (answer m c) 0) c h
    where
      new : (o r p h : ℕ) → known (ticket m.next o r p h) ≡ false
      new o r p h =
          by_cases (known (ticket m.next o r p h))
          (λ t. absurd (let l = old m.next o r p (snd (not (eqb h 0)) (k m.next o r p) t) in omega arith)) (λ f. f)

      go : (b : Bool) (c : TicketCommand) → any known (cond b (apply m c) m).records ≡ true → any known m.records ≡ true
      go false c h = h
      go true (Create by on) h = put_only known (ticket m.next on 0 by (only by)) m.records (new on 0 by (only by)) h
      go true (Generate by on right) h = put_only known (ticket m.next on right by (only by)) m.records (new on right by (only by)) h
      go true (Pass by to n) h =
          map-only known (changed n (with_holder to)) m.records (known-changed n (with_holder to) (known_holder to)) h
      go true (Remove by n) h =
          map-only known (changed n ended) m.records (known-changed n ended (λ t s e. absurd (false≢true e))) h
      go true (Delete by on) h = map-only known (without on) m.records (known-without on) h

  -- 'Numbers .. are never used again': of a number given before, nothing lives later that does not live now
  pub never_again : (cs : List TicketCommand) (m : Tickets) → ((n o r p : ℕ) → k n o r p ≡ true → n < m.next)
      → any known (run m cs).records ≡ true → any known m.records ≡ true
  never_again [] m old h = h
  never_again (c ∷ cs) m old h =
      known_step m c old
      (never_again cs (step m c) (λ n o r p e. let l = old n o r p e in let g = next-step m c in omega arith) h)

-- a number given before that no live ticket has
pub gone_for_good : (cs : List TicketCommand) (m : Tickets) (n : ℕ) → n < m.next → has n m.records ≡ false
    → has n (run m cs).records ≡ false
gone_for_good cs m n l e =
    by_cases (has n (run m cs).records)
    (λ t. absurd (false≢true (sym e ∙ never_again (λ x o r p. eqb x n) cs m
    (λ x o r p h. let a : x ≡ n = eqb-true x n h in omega arith) t))) (λ f. f)

-- ---- remove
module _ (m : Tickets) (by n : ℕ) (accepted : answer m (Remove by n) ≡ 0) where
  -- a yes after it is exactly one through a ticket of another number
  pub removed_yes : (p o r : ℕ) → holds (step m (Remove by n)) p o r ≡ holds_other m n p o r
  removed_yes p o r =
      rw accepted (any-map (λ t. bit t.holders p && opens o r t) (changed n ended) m.records
      ∙ any_cong (λ t. bit (changed n ended t).holders p && opens o r (changed n ended t))
      (λ t. not (eqb t.number n) && (bit t.holders p && opens o r t)) (λ t. true) m.records (all_true m.records)
      (λ t _. picked (λ (u : Ticket). bit u.holders p && opens o r u ≡ not (eqb t.number n) && (bit t.holders p && opens o r t))
      (is_number n t) vacant t
      (λ b. idle vacant p (opens o r vacant) refl ∙ rw (snd (is_live t) (eqb t.number n) b)) (kept t)))
    where
      kept : (t : Ticket) → is_number n t ≡ false
          → bit t.holders p && opens o r t ≡ not (eqb t.number n) && (bit t.holders p && opens o r t)
      kept t b =
          by_cases (bit t.holders p && opens o r t)
          (λ h. let s = holder_lives t p (fst (bit t.holders p) (opens o r t) h) in
          let e : eqb t.number n ≡ false = rw s at b in rw e) (λ h. rw h (sym (and-false (not (eqb t.number n)))))

  -- no ticket of that number lives
  gone : has n (step m (Remove by n)).records ≡ false
  gone =
      rw accepted (any-map (is_number n) (changed n ended) m.records
      ∙ any_cong (λ t. is_number n (changed n ended t)) (λ t. false) (λ t. true) m.records (all_true m.records)
      (λ t _. picked (λ u. is_number n u ≡ false) (is_number n t) vacant t (λ b. refl) (λ b. b)) ∙ none m.records)

  -- nor ever again
  pub removed_for_good : all (below m.next) m.records ≡ true → (cs : List TicketCommand)
      → has n (run (step m (Remove by n)) cs).records ≡ false
  removed_for_good low cs =
      gone_for_good cs (step m (Remove by n)) n (let l = before in let g = next-step m (Remove by n) in omega arith) gone
    where
      before : n < m.next
      before =
          let a = passed 2 (fits (Remove by n)) _ accepted in
          let b = passed 3 (lives m by) _ a.1 in
          let c = passed 16 (may_remove m by n) _ b.1 in
          let t = find (λ t. is_number n t && holds m by t.item 0) (below m.next) m.records low c.0 in
          let h = t.2 in
          let s : is_live t.0 ≡ true = search (fst, snd) in
          let e : t.0.number ≡ n = search (fst, snd, eqb-true) in
          let l = ltb-true t.0.number m.next (rw s at t.1) in
          omega arith

-- nobody holds a number that no live ticket has
pub unheld : (m : Tickets) (n : ℕ) → has n m.records ≡ false → (p : ℕ) → holds_number m p n ≡ false
unheld m n e p =
    by_cases (holds_number m p n)
    (λ h. absurd (false≢true (sym e ∙ any_mono (λ t. is_number n t && bit t.holders p) (is_number n) (λ t. true) m.records
    (all_true m.records) (λ t _ k. fst (is_number n t) (bit t.holders p) k) h))) (λ f. f)

-- ---- delete
module _ (m : Tickets) (by on : ℕ) (accepted : answer m (Delete by on) ≡ 0) where
  abbrev left : Ticket → Ticket
  left t = ticket t.number t.item t.right t.issuer (without_bit t.holders on)

  -- 'ends the item's tickets and takes the item out of every holder set': all else is held as before
  pub deleted-yes : (p o r : ℕ) → holds (step m (Delete by on)) p o r ≡ holds m p o r && (not (eqb p on) && not (eqb o on))
  deleted-yes p o r =
      rw accepted (any-map (λ t. bit t.holders p && opens o r t) (without on) m.records
      ∙ any_cong (λ t. bit (without on t).holders p && opens o r (without on t))
      (λ t. (bit t.holders p && opens o r t) && (not (eqb p on) && not (eqb o on))) (λ t. true) m.records (all_true m.records)
      (λ t _. go t (eqb t.item on) refl (eqb (without_bit t.holders on) 0) refl)
      ∙ any-and (λ t. bit t.holders p && opens o r t) (not (eqb p on) && not (eqb o on)) m.records)
    where
      own : (b x q c : Bool) → (b && (q && x)) && (c && not q) ≡ false
      own true true true true = refl
      own true true true false = refl
      own true false true c = refl
      own true x false c = refl
      own false x q c = refl

      last : (b x c y : Bool) → b && c ≡ false → (b && x) && (c && y) ≡ false
      last true x true y e = absurd (false≢true (sym e))
      last true true false y e = refl
      last true false false y e = refl
      last false x c y e = refl

      other : (b i x c q : Bool) → (i ≡ true → q ≡ false) → (b && c) && (i && x) ≡ (b && (i && x)) && (c && not q)
      other false i x c q e = refl
      other true false x true q e = refl
      other true false x false q e = refl
      other true true true true q e = ap not (sym (e refl))
      other true true true false q e = refl
      other true true false true q e = refl
      other true true false false q e = refl

      go : (t : Ticket) (e : Bool) → eqb t.item on ≡ e → (z : Bool) → eqb (without_bit t.holders on) 0 ≡ z
          → (let x = cond (e || z) vacant (left t) in bit x.holders p && opens o r x)
          ≡ (bit t.holders p && opens o r t) && (not (eqb p on) && not (eqb o on))
      go t true i z h =
          idle vacant p (opens o r vacant) refl ∙ sym (own (bit t.holders p) (eqb t.right r) (eqb o on) (not (eqb p on)))
          ∙ ap (λ b. (bit t.holders p && (b && eqb t.right r)) && (not (eqb p on) && not (eqb o on)))
          (eqb_sym o on ∙ ap (λ (n : ℕ). eqb n o) (sym (eqb-true t.item on i)))
      go t false i true h =
          idle vacant p (opens o r vacant) refl
          ∙ sym (last (bit t.holders p) (opens o r t) (not (eqb p on)) (not (eqb o on)) (sym (bit-without t.holders on p)
          ∙ ap (λ (n : ℕ). bit n p) (eqb-true (without_bit t.holders on) 0 h) ∙ bit_of_zero p))
      go t false i false h =
          ap (λ b. b && opens o r t) (bit-without t.holders on p)
          ∙ other (bit t.holders p) (eqb t.item o) (eqb t.right r) (not (eqb p on)) (eqb o on)
          (λ e. ap (λ (n : ℕ). eqb n on) (sym (eqb-true t.item o e)) ∙ i)

  -- 'after delete nobody holds anything there'
  pub nobody_holds_it : (p r : ℕ) → holds (step m (Delete by on)) p on r ≡ false
  nobody_holds_it p r =
      deleted-yes p on r ∙ rw (eqb_self on) (ap (λ b. holds m p on r && b) (and-false (not (eqb p on))) ∙ and-false (holds m p on r))

  -- 'and the item holds nothing'
  pub it_holds-nothing : (o r : ℕ) → holds (step m (Delete by on)) on o r ≡ false
  it_holds-nothing o r = deleted-yes on o r ∙ rw (eqb_self on) (and-false (holds m on o r))

  -- none of the item's tickets lives
  pub item-ended : any (λ t. is_live t && eqb t.item on) (step m (Delete by on)).records ≡ false
  item-ended =
      rw accepted (any-map (λ t. is_live t && eqb t.item on) (without on) m.records
      ∙ any_cong (λ t. is_live (without on t) && eqb (without on t).item on) (λ t. false) (λ t. true) m.records (all_true m.records)
      (λ t _. picked (λ u. is_live u && eqb u.item on ≡ false) (eqb t.item on || eqb (without_bit t.holders on) 0) vacant (left t)
      (λ b. refl) (λ b. rw (neither (eqb t.item on) (eqb (without_bit t.holders on) 0) b).0 (and-false (is_live (left t)))))
      ∙ none m.records)
