-- A ticket state stays in order, whatever it is told: the numbers of live tickets differ, for a new one is above all of them and no other
-- command makes a ticket; every record stays all zero or sound. So no dead item is named in any state, and a new item starts bare.
use mathlib.Core.Path.{◌≡◌, refl, sym, ap, ◌∙◌}
use mathlib.Core.Bool.{Bool, true, false, not, ◌&&◌, ◌||◌, cond, false≢true, and-false, or-false}
use mathlib.Core.List.{List, [], ◌∷◌, map}
use Prim.Native.Nat.{ℕ, zero, suc, ◌≤◌, ◌<◌}
use native.Mathlib.Omega.{arith}
use borrow.Author.Tests.{eqb-true, eqb-false, ne_eqb, ltb-true, ltb-false, lt-ltb, leb-true, le-leb}
use lib.ListN.{length-map}
use lib.Dec.{eqb, ltb}
use Rattle.bits.specs.Sets.{all}
use Rattle.bits.specs.Bits.{bit, with_bit, without_bit}
use Rattle.bits.proofs.Sets.{fst, snd, both, by_cases, neither, or_left, or_right, find, all_mono, eqb_self}
use Rattle.bits.proofs.Bits.{bit_with, bit-without, with_lt, without_lt}
use Rattle.model.proofs.Invariant.{eqb_sym, passed, blocked}
use Rattle.ticketing.specs.declared.Ticket.{Ticket}
use Rattle.ticketing.specs.declared.TicketCommand.{TicketCommand}
use Rattle.ticketing.specs.declared.TicketCommand.TheVariants.{Create, Generate, Pass, Remove, Delete}
use Rattle.ticketing.specs.Machine.{Tickets, ticket, tickets, vacant, vacancies, only, fresh_tickets, last_number, lives, is_live, opens, holds, is_number, full, spent, fits, answer, put, changed, with_holder, ended, without, apply, step, run}
use Rattle.ticketing.specs.Order.{record_ok, has, differ, is_in_order, Kept}
use Rattle.ticketing.proofs.Places.{picked, bit-only, held-lives, holder_lives, idle, lives_before, any-put, put_only, all-put, length-put, all_map, map-only, below, any-vacancies, all-vacancies, length-vacancies}
use Rattle.ticketing.proofs.Records.{among-at, among_of, ok_cases, ok_sound, Sound, sound-parts, ok_grow, ok_changed, ok_holder, ok_ended, ok_without}

clash : {X : Type 0} (a b : Bool) → not (a && b) ≡ true → a ≡ true → b ≡ true → X
clash a b e p q = absurd (false≢true (ap not (sym (both p q)) ∙ e))

unless : (a b : Bool) → (a ≡ true → b ≡ true → ⊥) → not (a && b) ≡ true
unless true true f = absurd (f refl refl)
unless true false f = refl
unless false b f = refl

-- ---- numbers that differ
-- no number of those below n is n
pub unused : (n k : ℕ) (ts : List Ticket) → all (below n) ts ≡ true → n ≤ k → has k ts ≡ true → ⊥
unused n k ts h le e =
    let t = find (is_number k) (below n) ts h e in
    let s : is_live t.0 ≡ true = fst (is_live t.0) (eqb t.0.number k) t.2 in
    let q : t.0.number ≡ k = eqb-true t.0.number k (snd (is_live t.0) (eqb t.0.number k) t.2) in
    let l = ltb-true t.0.number n (rw s at t.1) in
    omega arith

differ-put : (t : Ticket) (ts : List Ticket) → all (below t.number) ts ≡ true → differ ts ≡ true → differ (put t ts) ≡ true
unfolding all differ put
differ-put t [] h d = refl
differ-put t (x ∷ xs) h d = go (is_live x) refl (differ-put t xs later rest)
  where
    later : all (below t.number) xs ≡ true
    later = snd (below t.number x) (all (below t.number) xs) h

    rest : differ xs ≡ true
    rest = snd (not (is_live x && has x.number xs)) (differ xs) d

    other : is_live x ≡ true → is_number x.number t ≡ false
    other s =
        by_cases (eqb t.number x.number)
        (λ e. let a : t.number ≡ x.number = eqb-true t.number x.number e in
        let l = ltb-true x.number t.number (rw s at (fst (below t.number x) (all (below t.number) xs) h)) in
        absurd (omega arith)) (λ e. rw e (and-false (is_live t)))

    go : (s : Bool) → is_live x ≡ s → differ (put t xs) ≡ true → differ (cond s (x ∷ put t xs) (t ∷ xs)) ≡ true
    go true e ih =
        both (unless (is_live x) (has x.number (put t xs))
        (λ s k. clash (is_live x) (has x.number xs) (fst (not (is_live x && has x.number xs)) (differ xs) d) s
        (put_only (is_number x.number) t xs (other s) k))) ih
    go false e ih = both (unless (is_live t) (has t.number xs) (λ s k. unused t.number t.number xs later (omega arith) k)) rest

-- f makes no ticket and keeps the numbers
abbrev Keeps : (Ticket → Ticket) → Type 0
Keeps f = (t : Ticket) → is_live (f t) ≡ true → (is_live t ≡ true) × ((f t).number ≡ t.number)

differ-map : (f : Ticket → Ticket) → Keeps f → (ts : List Ticket) → differ ts ≡ true → differ (map f ts) ≡ true
unfolding differ
differ-map f k [] d = refl
differ-map f k (x ∷ xs) d =
    both (unless (is_live (f x)) (has (f x).number (map f xs))
    (λ s h. let a = k x s in
    clash (is_live x) (has x.number xs) (fst (not (is_live x && has x.number xs)) (differ xs) d) a.0
    (map-only (is_number x.number) f xs same (rw (← a.1) h))))
    (differ-map f k xs (snd (not (is_live x && has x.number xs)) (differ xs) d))
  where
    same : (u : Ticket) → is_number x.number (f u) ≡ true → is_number x.number u ≡ true
    same u e =
        let b = k u (fst (is_live (f u)) (eqb (f u).number x.number) e) in
        both b.0 (ap (λ (n : ℕ). eqb n x.number) (sym b.1) ∙ snd (is_live (f u)) (eqb (f u).number x.number) e)

keeps_changed : (n : ℕ) (f : Ticket → Ticket) → ((t : Ticket) → is_live (f t) ≡ true → (f t).number ≡ t.number) → Keeps (changed n f)
keeps_changed n f k t e =
    picked (λ (u : Ticket). is_live u ≡ true → (is_live t ≡ true) × (u.number ≡ t.number)) (is_number n t) (f t) t
    (λ b h. (fst (is_live t) (eqb t.number n) b, k t h)) (λ b h. (h, refl)) e

keeps_without : (i : ℕ) → Keeps (without i)
keeps_without i t e =
    picked (λ (u : Ticket). is_live u ≡ true → (is_live t ≡ true) × (u.number ≡ t.number))
    (eqb t.item i || eqb (without_bit t.holders i) 0) vacant
    (ticket t.number t.item t.right t.issuer (without_bit t.holders i)) (λ b h. absurd (false≢true h))
    (λ b h. (lives_before t i (neither (eqb t.item i) (eqb (without_bit t.holders i) 0) b).1, refl)) e

differ-vacancies : (n : ℕ) → differ (vacancies n) ≡ true
unfolding differ vacancies
differ-vacancies zero = refl
differ-vacancies (suc n) = differ-vacancies n

-- ---- a state in order
abbrev most : ℕ
most = 18446744073709551616

-- a set of holders that is of items
abbrev fit : Ticket → Bool
fit t = ltb t.holders most

-- what order says, part by part
record Parts (l n : ℕ) (ts : List Ticket) : Type 0 where
  root : bit l 0 ≡ true
  next : n ≤ last_number
  records : all (record_ok l n) ts ≡ true
  numbers : differ ts ≡ true

parts : (m : Tickets) → is_in_order m ≡ true → Parts m.live m.next m.records
parts m e = record {
  root = search (fst, snd);
  next = search (fst, snd, leb-true);
  records = search (fst, snd);
  numbers = search (fst, snd);
}

order : (l n : ℕ) (ts : List Ticket) → Parts l n ts → is_in_order (tickets l n ts) ≡ true
order l n ts p = both (both p.root (le-leb n last_number p.next)) (both p.records p.numbers)

-- 'live numbers .. lie below the next'
pub all_below_lem : (m : Tickets) → is_in_order m ≡ true → all (below m.next) m.records ≡ true
all_below_lem m e =
    all_mono (record_ok m.live m.next) (below m.next) m.records (parts m e).records
    (λ t k. ok_cases m.live m.next t k (λ z. rw z)
    (λ s q. or_right (not (is_live t)) (ltb t.number m.next) (sound-parts m.live m.next t q).number))

pub kept_fresh : Kept fresh_tickets
unfolding fresh_tickets all differ
kept_fresh = record {
  order = order (only 0) 1 (ticket 0 0 0 0 (only 0) ∷ vacancies 1023) (record {
    root = bit-only 0 0;
    next = omega arith;
    records = both (ok_sound (only 0) 1 (ticket 0 0 0 0 (only 0)) (held-lives 0 0 0 0 (only 0) 0 (bit-only 0 0))
        (both refl (both (bit-only 0 0) (among_of (only 0) (only 0) (λ i k h. h))))) (all-vacancies (record_ok (only 0) 1) 1023 refl);
    numbers = both (unless (is_live (ticket 0 0 0 0 (only 0))) (has 0 (vacancies 1023))
        (λ s h. false≢true (sym (any-vacancies (is_number 0) 1023 refl) ∙ h))) (differ-vacancies 1023);
  });
  places = ap suc (length-vacancies 1023);
  live-set = with_lt 64 0 0 (omega arith) (omega arith);
  holder_sets = both (lt-ltb (only 0) most (with_lt 64 0 0 (omega arith) (omega arith))) (all-vacancies fit 1023 refl);
}

-- ---- a new ticket
module _ (m : Tickets) (v : Kept m) (l by on right : ℕ) where
  abbrev new : Ticket
  new = ticket m.next on right by (only by)

  new-lives : is_live new ≡ true
  new-lives = held-lives m.next on right by (only by) by (bit-only by by ∙ eqb_self by)

  kept_put : ((i : ℕ) → bit m.live i ≡ true → bit l i ≡ true) → l < most → spent m ≡ false → by ≤ 63 → right ≤ 7
      → bit l on ≡ true → bit l by ≡ true → Kept (tickets l (suc m.next) (put new m.records))
  kept_put up wide room lb lr lon lby =
      let p = parts m v.order in
      let n : (m.next ≡ last_number) → ⊥ = eqb-false m.next last_number room in
      let x = p.next in
      let y : m.next < last_number = apart m.next last_number x n in
      record {
        order = order l (suc m.next) (put new m.records) (record {
          root = up 0 p.root;
          next = omega arith;
          records = all-put (record_ok l (suc m.next)) new m.records (ok_sound l (suc m.next) new new-lives
              (both (both (lt-ltb m.next (suc m.next) (omega arith)) (both (le-leb right 7 lr) (le-leb by 63 lb))) (both lon
              (among_of (only by) l (λ i k h. ap (bit l) (sym (eqb-true by i (sym (bit-only by i) ∙ h))) ∙ lby)))))
              (all_mono (record_ok m.live m.next) (record_ok l (suc m.next)) m.records p.records
              (ok_grow m.live m.next l (suc m.next) up (omega arith)));
          numbers = differ-put new m.records (all_below_lem m v.order) p.numbers;
        });
        places = length-put new m.records ∙ v.places;
        live-set = wide;
        holder_sets = all-put fit new m.records (lt-ltb (only by) most (with_lt 64 0 by (omega arith) (omega arith))) v.holder_sets;
      }
    where
      apart : (a b : ℕ) → a ≤ b → (a ≡ b → ⊥) → a < b
      apart a b h n = by_cases (ltb a b) (λ t. ltb-true a b t) (λ f. absurd (n (let k = ltb-false a b f in omega arith)))

-- ---- tickets that change or end where they are
kept_map : (m : Tickets) → Kept m → (l : ℕ) (f : Ticket → Ticket) → bit l 0 ≡ true → l < most → Keeps f
    → ((t : Ticket) → record_ok m.live m.next t ≡ true → record_ok l m.next (f t) ≡ true)
    → ((t : Ticket) → fit t ≡ true → fit (f t) ≡ true) → Kept (tickets l m.next (map f m.records))
kept_map m v l f root wide keeps ok fits =
    let p = parts m v.order in
    record {
      order = order l m.next (map f m.records) (record {
        root = root;
        next = p.next;
        records = all_map (record_ok m.live m.next) (record_ok l m.next) f m.records p.records ok;
        numbers = differ-map f keeps m.records p.numbers;
      });
      places = length-map m.records f ∙ v.places;
      live-set = wide;
      holder_sets = all_map fit fit f m.records v.holder_sets fits;
    }

-- ---- a command
kept_apply : (m : Tickets) (c : TicketCommand) → Kept m → answer m c ≡ 0 → Kept (apply m c)
kept_apply m (Create by on) v e =
    let a = passed 2 (fits (Create by on)) _ e in
    let b = passed 3 (lives m by) _ a.1 in
    let c = blocked 5 (lives m on) _ b.1 in
    let d = blocked 14 (full m) _ c.1 in
    let f = blocked 15 (spent m) _ d.1 in
    let limits = a.0 in
    let x : by ≤ 63 = search (fst, snd, leb-true) in
    let y : on ≤ 63 = search (fst, snd, leb-true) in
    let up : (i : ℕ) → bit m.live i ≡ true → bit (with_bit m.live on) i ≡ true
    = λ i h. bit_with m.live on i ∙ or_left (bit m.live i) (eqb i on) h in
    kept_put m v (with_bit m.live on) by on 0 up (with_lt 64 m.live on v.live-set (omega arith)) f.0 x (omega arith)
    (bit_with m.live on on ∙ or_right (bit m.live on) (eqb on on) (eqb_self on)) (up by b.0)
kept_apply m (Generate by on right) v e =
    let a = passed 2 (fits (Generate by on right)) _ e in
    let b = passed 3 (lives m by) _ a.1 in
    let c = passed 4 (lives m on) _ b.1 in
    let d = passed 16 (holds m by on 0) _ c.1 in
    let f = blocked 14 (full m) _ d.1 in
    let g = blocked 15 (spent m) _ f.1 in
    let limits = a.0 in
    let x : by ≤ 63 = search (fst, snd, leb-true) in
    let y : right ≤ 7 = search (fst, snd, leb-true) in
    kept_put m v m.live by on right (λ i h. h) v.live-set g.0 x y c.0 b.0
kept_apply m (Pass by to n) v e =
    let a = passed 2 (fits (Pass by to n)) _ e in
    let b = passed 3 (lives m by) _ a.1 in
    let c = passed 4 (lives m to) _ b.1 in
    let limits = a.0 in
    let x : to ≤ 63 = search (fst, snd, leb-true) in
    kept_map m v m.live (changed n (with_holder to)) (parts m v.order).root v.live-set
    (keeps_changed n (with_holder to) (λ t h. refl))
    (ok_changed m.live m.next n (with_holder to) (ok_holder m.live m.next to c.0))
    (λ t h. picked (λ u. fit u ≡ true) (is_number n t) (with_holder to t) t
    (λ b. lt-ltb (with_bit t.holders to) most (with_lt 64 t.holders to (ltb-true t.holders most h) (omega arith))) (λ b. h))
kept_apply m (Remove by n) v e =
    kept_map m v m.live (changed n ended) (parts m v.order).root v.live-set
    (keeps_changed n ended (λ t h. absurd (false≢true h))) (ok_changed m.live m.next n ended (ok_ended m.live m.next))
    (λ t h. picked (λ u. fit u ≡ true) (is_number n t) vacant t (λ b. refl) (λ b. h))
kept_apply m (Delete by on) v e =
    let a = passed 2 (fits (Delete by on)) _ e in
    let b = passed 3 (lives m by) _ a.1 in
    let c = passed 4 (lives m on) _ b.1 in
    let d = blocked 6 (eqb on 0) _ c.1 in
    kept_map m v (without_bit m.live on) (without on)
    (bit-without m.live on 0 ∙ both (parts m v.order).root (ap not (eqb_sym 0 on ∙ d.0))) (without_lt 64 m.live on v.live-set)
    (keeps_without on) (ok_without m.live m.next on)
    (λ t h. picked (λ u. fit u ≡ true) (eqb t.item on || eqb (without_bit t.holders on) 0) vacant
    (ticket t.number t.item t.right t.issuer (without_bit t.holders on)) (λ b. refl)
    (λ b. lt-ltb (without_bit t.holders on) most (without_lt 64 t.holders on (ltb-true t.holders most h))))

pub kept_step : (m : Tickets) (c : TicketCommand) → Kept m → Kept (step m c)
kept_step m c v =
    picked Kept (eqb (answer m c) 0) (apply m c) m (λ e. kept_apply m c v (eqb-true (answer m c) 0 e)) (λ e. v)

pub kept_run : (cs : List TicketCommand) (m : Tickets) → Kept m → Kept (run m cs)
kept_run [] m v = v
kept_run (c ∷ cs) m v = kept_run cs (step m c) (kept_step m c v)

-- ---- no dead item is named
module _ (m : Tickets) (v : Kept m) where
  -- a held ticket, in a record in order
  held_record : (p o r : ℕ) → holds m p o r ≡ true
      → (t : Ticket) × (bit t.holders p ≡ true) × (opens o r t ≡ true) × Sound m.live m.next t
  held_record p o r h =
      let t = find (λ t. bit t.holders p && opens o r t) (record_ok m.live m.next) m.records (parts m v.order).records h in
      let k : bit t.0.holders p ≡ true = fst (bit t.0.holders p) (opens o r t.0) t.2 in (
        t.0,
        k,
        snd (bit t.0.holders p) (opens o r t.0) t.2,
        ok_cases m.live m.next t.0 t.1
            (λ z. absurd (false≢true (ap (λ (x : Ticket). is_live x) (sym z) ∙ holder_lives t.0 p k)))
            (λ s q. sound-parts m.live m.next t.0 q),
      )

  pub dead_unheld : (i : ℕ) → lives m i ≡ false → (p r : ℕ) → holds m p i r ≡ false
  dead_unheld i dead p r =
      by_cases (holds m p i r)
      (λ h. let t = held_record p i r h in
      let e : t.0.item ≡ i = eqb-true t.0.item i (fst (eqb t.0.item i) (eqb t.0.right r) t.2) in
      absurd (false≢true (sym dead ∙ ap (bit m.live) (sym e) ∙ t.3.item))) (λ f. f)

  pub dead_holds-nothing : (i : ℕ) → i ≤ 63 → lives m i ≡ false → (o r : ℕ) → holds m i o r ≡ false
  dead_holds-nothing i small dead o r =
      by_cases (holds m i o r)
      (λ h. let t = held_record i o r h in
      absurd (false≢true (sym dead ∙ among-at t.0.holders m.live i t.3.holders (omega arith) t.1))) (λ f. f)

-- ---- a new item
module _ (m : Tickets) (v : Kept m) (by on : ℕ) (accepted : answer m (Create by on) ≡ 0) where
  made : (fits (Create by on) ≡ true) × (lives m by ≡ true) × (lives m on ≡ false) × (full m ≡ false)
  made =
      let a = passed 2 (fits (Create by on)) _ accepted in
      let b = passed 3 (lives m by) _ a.1 in
      let c = blocked 5 (lives m on) _ b.1 in
      let d = blocked 14 (full m) _ c.1 in
      (a.0, b.0, c.0, d.0)

  created : (p o r : ℕ) → holds (step m (Create by on)) p o r ≡ (eqb by p && (eqb on o && eqb 0 r)) || holds m p o r
  created p o r =
      rw accepted (any-put (λ t. bit t.holders p && opens o r t) (ticket m.next on 0 by (only by)) m.records
      (λ x e. idle x p (opens o r x) e) made.3 ∙ ap (λ b. (b && (eqb on o && eqb 0 r)) || holds m p o r) (bit-only by p))

  -- there, its maker holds right 0 and nobody anything else
  pub bare_item : (p r : ℕ) → holds (step m (Create by on)) p on r ≡ eqb by p && eqb 0 r
  bare_item p r = created p on r ∙ rw (eqb_self on, dead_unheld m v on made.2 p r) (or-false (eqb by p && eqb 0 r))

  -- and it holds nothing
  pub bare_person : (o r : ℕ) → holds (step m (Create by on)) on o r ≡ false
  bare_person o r =
      let limits = made.0 in
      let small : on ≤ 63 = search (fst, snd, leb-true) in
      created on o r ∙ rw (ne_eqb by on (λ e. false≢true (sym made.2 ∙ ap (bit m.live) (sym e) ∙ made.1)))
      (dead_holds-nothing m v on small made.2 o r)
