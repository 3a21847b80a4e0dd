-- The places of an image. A scan goes place after place: what holds of the tickets from place k on holds of place k and of those after
-- it, so a loop carries what the rest still has to say. A write at a place is a write into the list of tickets, for two words make one.
use mathlib.Core.Path.{◌≡◌, refl, sym, ap, ap₂, ◌∙◌}
use mathlib.Core.Bool.{Bool, true, false, not, ◌&&◌, ◌||◌, cond, or-false, and-true}
use mathlib.Core.List.{List, [], ◌∷◌, ◌++◌, map, append-nil, map-append}
use Prim.Native.Nat.{ℕ, zero, suc, ◌+◌, ◌*◌, ◌/◌, ◌%◌, ◌≤◌, ◌<◌}
use native.Mathlib.Nat.{zero-add}
use native.Mathlib.Numerals.{add-one}
use native.Mathlib.Omega.{arith}
use borrow.Author.Tests.{eqb-true, eq-eqb, ne_eqb}
use lib.ListN.{length, get_or, drop, take, set, replicate, length-append, length-map}
use lib.Seq.{drop-set-lt, set-get_or, set_at, take-suc-set, append_snoc}
use lib.Dec.{eqb}
use Rattle.bits.specs.Sets.{any, all, keep}
use Rattle.bits.specs.Bits.{without_bit}
use Rattle.bits.proofs.Sets.{iff, or_right, fst, snd, by_cases}
use Rattle.std.specs.Bool.{then_some}
use Rattle.bits.proofs.Bits.{without_le}
use Rattle.ticketing.specs.declared.Ticket.{Ticket}
use Rattle.ticketing.specs.Machine.{Tickets, ticket, tickets, vacant, vacancies, only, fresh_tickets, is_live, put, issue, without}
use Rattle.ticketing.specs.Image.{ticket_words, word_of, ticket_of, words_of, tickets_in, image_of, machine_of, ticket_at, from}
use Rattle.ticketing.proofs.Images.{from_step, from_end, from_zero, image-parts, word_is}
use Rattle.ticketing.specs.Unit.{fresh_image}
use Rattle.ticketing.specs.Order.{record_ok}
use Rattle.std.specs.Prelude.{Option, Some, None, is_some}
use Rattle.tickets.specs.Places.{place_of, is_free, live_numbers, placed, placed_ticket, Issued, FirstOf, FirstPlace, IsPlace, Gathered}

-- ---- scans
-- a turn that has not gone past the last place
module _ (s : List ℕ) (k : ℕ) (size : length s ≡ ticket_words) (less : k < 1024) where
  pub next_place : from s k ≡ ticket_at s k ∷ from s (k + 1)
  next_place = from_step s k (omega arith)

  -- every ticket passes: `so` says it of those before place k, `here` of the one there
  pub all-next : (q : Ticket → Bool) (whole so here : Bool) → whole ≡ so && all q (from s k) → here ≡ q (ticket_at s k)
      → whole ≡ (so && here) && all q (from s (k + 1))
  unfolding all
  all-next q whole so here e h = e ∙ ap (λ ts. so && all q ts) next_place ∙ rw (← h) (go so here)
    where
      go : (a b : Bool) → a && (b && all q (from s (k + 1))) ≡ (a && b) && all q (from s (k + 1))
      go true b = refl
      go false b = refl

  -- some ticket passes
  pub any_next : (q : Ticket → Bool) (whole so here : Bool) → whole ≡ so || any q (from s k) → here ≡ q (ticket_at s k)
      → whole ≡ (so || here) || any q (from s (k + 1))
  unfolding any
  any_next q whole so here e h = e ∙ ap (λ ts. so || any q ts) next_place ∙ rw (← h) (go so here)
    where
      go : (a b : Bool) → a || (b || any q (from s (k + 1))) ≡ (a || b) || any q (from s (k + 1))
      go true b = refl
      go false b = refl

  -- the first that passes is not at place k, or it is
  pub place-next : (q : Ticket → Bool) (p : ℕ) → p ≡ k + place_of q (from s k) → q (ticket_at s k) ≡ false
      → p ≡ (k + 1) + place_of q (from s (k + 1))
  unfolding place_of
  place-next q p e f =
      let a : place_of q (from s k) ≡ suc (place_of q (from s (k + 1))) = ap (place_of q) next_place ∙ rw f in
      omega arith

  pub place_here : (q : Ticket → Bool) (p : ℕ) → p ≡ k + place_of q (from s k) → q (ticket_at s k) ≡ true → k ≡ p
  unfolding place_of
  place_here q p e t =
      let a : place_of q (from s k) ≡ 0 = ap (place_of q) next_place ∙ rw t in
      omega arith

  -- the numbers of the live tickets from place k on
  pub live-next : live_numbers (from s k) ≡ cond (is_live (ticket_at s k)) ((ticket_at s k).number ∷ live_numbers (from s (k + 1))) (live_numbers (from s (k + 1)))
  unfolding keep
  live-next = ap live_numbers next_place ∙ go (is_live (ticket_at s k))
    where
      go : (b : Bool) → map (λ (t : Ticket). t.number) (cond b (ticket_at s k ∷ keep is_live (from s (k + 1))) (keep is_live (from s (k + 1))))
          ≡ cond b ((ticket_at s k).number ∷ live_numbers (from s (k + 1))) (live_numbers (from s (k + 1)))
      go true = refl
      go false = refl

-- after k places of a scan: whether each was in order, and if so the numbers of their live tickets are the first in the buffer
pub record Scanned (s d : List ℕ) (ok : Bool) (count k : ℕ) : Type 0 where
  pub few : count ≤ k
  pub right : all (record_ok (get_or s 0 0) (get_or s 1 0)) (machine_of s).records
      ≡ ok && all (record_ok (get_or s 0 0) (get_or s 1 0)) (from s k)
  pub numbers : ok ≡ true → live_numbers (machine_of s).records ≡ take count d ++ live_numbers (from s k)

pub scanned-start : (s d : List ℕ) → Scanned s d true 0 0
scanned-start s d = record { few = omega arith; right = ap (all _) (from_zero s); numbers = λ e. ap live_numbers (from_zero s) }

-- past the last place nothing is left to say
module _ (s : List ℕ) (size : length s ≡ ticket_words) where
  pub any-end : (q : Ticket → Bool) (whole so : Bool) → whole ≡ so || any q (from s 1024) → so ≡ whole
  unfolding any
  any-end q whole so e = sym (e ∙ ap (λ ts. so || any q ts) (from_end s size) ∙ or-false so)

  pub place_end : (q : Ticket → Bool) (p : ℕ) → p ≡ 1024 + place_of q (from s 1024) → 1024 ≡ p
  unfolding place_of
  place_end q p e = let a : place_of q (from s 1024) ≡ 0 = ap (place_of q) (from_end s size) in omega arith

  pub all_end : (q : Ticket → Bool) (whole so : Bool) → whole ≡ so && all q (from s 1024) → so ≡ whole
  unfolding all
  all_end q whole so e = sym (e ∙ ap (λ ts. so && all q ts) (from_end s size) ∙ and-true so)

  module _ {d : List ℕ} {ok : Bool} {count k : ℕ} (v : Scanned s d ok count k) where
    module _ (less : k < 1024) where
      -- a place without a live ticket
      pub scanned-none : record_ok (get_or s 0 0) (get_or s 1 0) (ticket_at s k) ≡ true → (ticket_at s k).holders ≡ 0
          → Scanned s d ok count (k + 1)
      scanned-none h z =
          let e : is_live (ticket_at s k) ≡ false = rw z in
          let r = all-next s k size less _ _ ok true v.right (sym h) in
          record {
            few = omega (arith, v.few);
            right = rw (and-true ok) at r;
            numbers = λ o. v.numbers o ∙ ap (λ ns. take count d ++ ns) (live-next s k size less ∙ rw e);
          }

      -- and another: it is in order where it has a holder and is sound
      pub scanned-live : (n : ℕ) (here : Bool) → here ≡ record_ok (get_or s 0 0) (get_or s 1 0) (ticket_at s k)
          → (here ≡ true → (ticket_at s k).holders ≡ 0 → ⊥) → n ≡ (ticket_at s k).number → length d ≡ 1024
          → Scanned s (set d count n) (ok && here) (count + 1) (k + 1)
      scanned-live n here h z e m =
          let room : count < length d = omega (arith, v.few) in
          record {
            few = omega (arith, v.few);
            right = all-next s k size less _ _ ok here v.right h;
            numbers = λ o.
                let l : is_live (ticket_at s k) ≡ true = rw (ne_eqb (ticket_at s k).holders 0 (z (snd ok here o))) in
                v.numbers (fst ok here o) ∙ ap (λ ns. take count d ++ ns) (live-next s k size less ∙ rw (l, ← e))
                ∙ sym (append_snoc (take count d) n (live_numbers (from s (k + 1))))
                ∙ ap (λ ns. ns ++ live_numbers (from s (k + 1)))
                (sym (take-suc-set d count n room) ∙ ap (λ (i : ℕ). take i (set d count n)) (sym (add-one count)));
          }

    pub scanned-end : 1024 ≤ k → k ≤ 1024 → Gathered s d (then_some ok count)
    unfolding keep
    scanned-end a b =
        let e : k ≡ 1024 = omega arith in
        let r = all_end (record_ok (get_or s 0 0) (get_or s 1 0)) _ ok
        (v.right ∙ ap (λ i. ok && all (record_ok (get_or s 0 0) (get_or s 1 0)) (from s i)) e) in
        by_cases ok
        (λ q. rw q (
          sym r ∙ q,
          omega (arith, v.few),
          sym (v.numbers q ∙ ap (λ i. take count d ++ live_numbers (from s i)) e
              ∙ ap (λ ts. take count d ++ live_numbers ts) (from_end s size) ∙ append-nil (take count d)),
        ))
        (λ q. rw q (sym r ∙ q))

-- ---- the first place that passes
module _ (s : List ℕ) (size : length s ≡ ticket_words) (q : Ticket → Bool) where
  none_below : (k : ℕ) → k ≤ 1024 → ((j : ℕ) → j < k → q (ticket_at s j) ≡ false)
      → (place_of q (machine_of s).records ≡ k + place_of q (from s k)) × (any q (machine_of s).records ≡ any q (from s k))
  none_below zero h n = (ap (place_of q) (from_zero s) ∙ sym (zero-add _), ap (any q) (from_zero s))
  none_below (suc k) h n =
      let i = none_below k (omega arith) (λ j l. n j (omega arith)) in
      let e = n k (omega arith) in
      rw (← add-one k) (
        place-next s k size (omega arith) q _ i.0 e,
        any_next s k size (omega arith) q _ false false i.1 (sym e),
      )

  -- what is found by a test that is the ticket's
  module _ {P : ℕ → Bool → Type 0} {r : Option ℕ} (f : FirstPlace P r) (same : (k : ℕ) (b : Bool) → P k b → b ≡ q (ticket_at s k)) where
    pub place_found : IsPlace q s r
    place_found = go r f.first
      where
        go : (r : Option ℕ) → FirstOf P r → IsPlace q s r
        go None v = sym (place_end s size q _ (none_below 1024 (omega arith) (λ j l. sym (same j false (v j l)))).0)
        go (Some n) v = (
          v.0,
          place_here s n size v.0 q _ (none_below n (omega (arith, v.0)) (λ j l. sym (same j false (v.1 j l)))).0 (sym (same n true v.2)),
        )

    pub any_found : is_some r ≡ any q (machine_of s).records
    any_found = go r f.first
      where
        go : (r : Option ℕ) → FirstOf P r → is_some r ≡ any q (machine_of s).records
        go None v = any-end s size q _ false (none_below 1024 (omega arith) (λ j l. sym (same j false (v j l)))).1
        go (Some n) v =
            sym (any_next s n size v.0 q _ false true (none_below n (omega (arith, v.0)) (λ j l. sym (same j false (v.1 j l)))).1 (same n true v.2))

pub free_code : (s : List ℕ) (k : ℕ) {b : Bool} → b ≡ eqb (get_or s (3 + 2 * k) 0) 0 → b ≡ is_free (ticket_at s k)
free_code s k e = e ∙ twice (eqb (get_or s (3 + 2 * k) 0) 0)
  where
    twice : (a : Bool) → a ≡ not (not a)
    twice true = refl
    twice false = refl

pub place_le : (q : Ticket → Bool) (ts : List Ticket) → place_of q ts ≤ length ts
unfolding place_of
place_le q [] = omega arith
place_le q (t ∷ ts) = go (q t) (place_le q ts)
  where
    go : (b : Bool) → place_of q ts ≤ length ts → cond b 0 (suc (place_of q ts)) ≤ suc (length ts)
    go true ih = omega arith
    go false ih = omega arith

-- a new ticket takes the first free place
pub put_first : (t : Ticket) (ts : List Ticket) → put t ts ≡ set ts (place_of is_free ts) t
unfolding put place_of
put_first t [] = refl
put_first t (x ∷ xs) = go (is_live x) (put_first t xs)
  where
    go : (b : Bool) → put t xs ≡ set xs (place_of is_free xs) t
        → cond b (x ∷ put t xs) (t ∷ xs) ≡ set (x ∷ xs) (cond (not b) 0 (suc (place_of is_free xs))) t
    go true ih = ap (λ (l : List Ticket). x ∷ l) ih
    go false ih = refl

-- no place is free where the first free one is past the last
pub full-place : (ts : List Ticket) → all is_live ts ≡ eqb (place_of is_free ts) (length ts)
unfolding all place_of
full-place [] = refl
full-place (x ∷ xs) = go (is_live x) (full-place xs)
  where
    go : (b : Bool) → all is_live xs ≡ eqb (place_of is_free xs) (length xs)
        → b && all is_live xs ≡ eqb (cond (not b) 0 (suc (place_of is_free xs))) (suc (length xs))
    go true ih = ih ∙ iff _ _
        (λ e. eq-eqb (suc (place_of is_free xs)) (suc (length xs)) (ap suc (eqb-true (place_of is_free xs) (length xs) e)))
        (λ e. eq-eqb (place_of is_free xs) (length xs) (let k = eqb-true (suc (place_of is_free xs)) (suc (length xs)) e in omega arith))
    go false ih = sym (ne_eqb 0 (suc (length xs)) (λ z. omega arith))

-- ---- writes
double : (k : ℕ) → 2 * suc k ≡ suc (suc (2 * k))
double k = omega arith

words-set : (ts : List Ticket) (k : ℕ) (t : Ticket)
    → set (set (words_of ts) (2 * k) (word_of t)) (suc (2 * k)) t.holders ≡ words_of (set ts k t)
unfolding words_of
words-set [] k t = refl
words-set (x ∷ xs) zero t = refl
words-set (x ∷ xs) (suc k) t = rw (double k) (ap (λ (l : List ℕ). word_of x ∷ x.holders ∷ l) (words-set xs k t))

-- a ticket at place k of an image
pub placed-image : (m : Tickets) (k : ℕ) (t : Ticket)
    → placed_ticket (image_of m) k t ≡ image_of (tickets m.live m.next (set m.records k t))
unfolding image_of
placed-image m k t =
    let a : 2 + 2 * k ≡ suc (suc (2 * k)) = omega arith in
    let b : 3 + 2 * k ≡ suc (suc (suc (2 * k))) = omega arith in
    rw (a, b) (ap (λ (l : List ℕ). m.live ∷ m.next ∷ l) (words-set m.records k t))

-- the same of any words of the image's length
pub placed-words : (s : List ℕ) (k : ℕ) (t : Ticket) → length s ≡ ticket_words
    → placed_ticket s k t ≡ image_of (tickets (machine_of s).live (machine_of s).next (set (machine_of s).records k t))
placed-words s k t e = ap (λ (x : List ℕ). placed_ticket x k t) (sym (image-parts s e)) ∙ placed-image (machine_of s) k t

-- another next number
pub next-image : (m : Tickets) (n : ℕ) → set (image_of m) 1 n ≡ image_of (tickets m.live n m.records)
unfolding image_of
next-image m n = refl

-- the words of a place are those of its ticket
pub place-words : (s : List ℕ) (k w h : ℕ) → w ≡ get_or s (2 + 2 * k) 0 → placed s k w h ≡ placed s k (word_of (ticket_of (get_or s (2 + 2 * k) 0) h)) h
place-words s k w h e = ap (λ (x : ℕ). placed s k x h) (e ∙ sym (word_is (get_or s (2 + 2 * k) 0)))

-- ---- a pass over every place: f of the tickets before place k, the others as they were
pub record Swept (f : Ticket → Ticket) (s x : List ℕ) (k : ℕ) : Type 0 where
  pub done : List Ticket
  pub many : length done ≡ k
  pub parts : (machine_of s).records ≡ done ++ from s k
  pub words : x ≡ image_of (tickets (machine_of s).live (machine_of s).next (map f done ++ from s k))
  pub rest : from x k ≡ from s k

module _ (f : Ticket → Ticket) (s : List ℕ) (size : length s ≡ ticket_words) where
  pub swept-start : Swept f s s 0
  swept-start = record {
    done = [];
    many = refl;
    parts = from_zero s;
    words = sym (image-parts s size) ∙ ap (λ (ts : List Ticket). image_of (tickets (machine_of s).live (machine_of s).next ts)) (from_zero s);
    rest = refl;
  }

  pub swept-next : (x : List ℕ) (k : ℕ) → length x ≡ ticket_words → k < 1024 → (v : Swept f s x k) (y : List ℕ) → y ≡ placed_ticket x k (f (ticket_at x k))
      → Swept f s y (k + 1)
  unfolding from
  swept-next x k long less v y e =
      let t = ticket_at s k in
      let here = next_place s k size less in
      let both : ticket_at x k ∷ from x (k + 1) ≡ t ∷ from s (k + 1) = sym (next_place x k long less) ∙ v.rest ∙ here in
      let same : ticket_at x k ≡ t = ap (λ (ts : List Ticket). get_or ts 0 vacant) both in
      let after : from x (k + 1) ≡ from s (k + 1) = ap (λ (ts : List Ticket). drop 1 ts) both in
      let moved : y ≡ placed_ticket x k (f t) = e ∙ ap (λ (u : Ticket). placed_ticket x k (f u)) same in
      record {
        done = v.done ++ (t ∷ []);
        many = length-append v.done (t ∷ []) ∙ ap (λ n. n + 1) v.many;
        parts = v.parts ∙ ap (λ ts. v.done ++ ts) here ∙ sym (append_snoc v.done t (from s (k + 1)));
        words = moved ∙ ap (λ (z : List ℕ). placed_ticket z k (f t)) v.words ∙ placed-image _ k (f t)
            ∙ ap (λ (ts : List Ticket). image_of (tickets (machine_of s).live (machine_of s).next ts))
            (ap (λ ts. set (map f v.done ++ ts) k (f t)) here
            ∙ set_at (map f v.done) t (from s (k + 1)) (f t) k (length-map v.done f ∙ v.many)
            ∙ sym (append_snoc (map f v.done) (f t) (from s (k + 1)))
            ∙ ap (λ ts. ts ++ from s (k + 1)) (sym (map-append f v.done (t ∷ []))));
        rest = ap (λ (z : List ℕ). from z (k + 1)) e
            ∙ ap tickets_in (drop-set-lt (2 + 2 * (k + 1)) (set x (2 + 2 * k) _) (3 + 2 * k) _ (omega arith)
            ∙ drop-set-lt (2 + 2 * (k + 1)) x (2 + 2 * k) _ (omega arith))
            ∙ after;
      }

  pub swept-end : (x : List ℕ) → Swept f s x 1024
      → x ≡ image_of (tickets (machine_of s).live (machine_of s).next (map f (machine_of s).records))
  swept-end x v =
      let none = from_end s size in
      let all_done : (machine_of s).records ≡ v.done = v.parts ∙ ap (λ ts. v.done ++ ts) none ∙ append-nil v.done in
      v.words ∙ ap (λ (ts : List Ticket). image_of (tickets (machine_of s).live (machine_of s).next ts))
      (ap (λ ts. map f v.done ++ ts) none ∙ append-nil (map f v.done) ∙ ap (map f) (sym all_done))

-- ---- the words that commands leave
-- a new ticket at the first free place, under the next number, which rises
pub issued-words : (s x : List ℕ) (place by on right w h : ℕ) → length s ≡ ticket_words → place ≡ place_of is_free (machine_of s).records
    → w ≡ word_of (ticket (get_or s 1 0) on right by 0) → h ≡ only by → x ≡ placed s place w h
    → set x 1 (get_or s 1 0 + 1) ≡ image_of (issue (machine_of s) (get_or s 0 0) by on right)
unfolding machine_of
issued-words s x place by on right w h size first a b e =
    let t = ticket (get_or s 1 0) on right by (only by) in
    ap (λ (z : List ℕ). set z 1 (get_or s 1 0 + 1))
    (e ∙ ap₂ (placed s place) a b ∙ placed-words s place t size)
    ∙ next-image (tickets (get_or s 0 0) (get_or s 1 0) (set (machine_of s).records place t)) (get_or s 1 0 + 1)
    ∙ ap₂ (λ (n : ℕ) (ts : List Ticket). image_of (tickets (get_or s 0 0) n ts)) (add-one (get_or s 1 0))
    (ap (λ (k : ℕ). set (machine_of s).records k t) first ∙ sym (put_first t (machine_of s).records))

-- item `on` out of a place: the ticket ends, or is left with fewer holders
module _ (s : List ℕ) (k on w h : ℕ) (a : w ≡ get_or s (2 + 2 * k) 0) (b : h ≡ without_bit (get_or s (3 + 2 * k) 0) on) where
  pub ends_there : eqb (w / 4294967296 % 256) on || eqb h 0 ≡ true → placed s k 0 0 ≡ placed_ticket s k (without on (ticket_at s k))
  ends_there e = let f = sym (ap₂ (λ (w h : ℕ). eqb (w / 4294967296 % 256) on || eqb h 0) a b) ∙ e in sym (rw f)

  pub stays_there : eqb (w / 4294967296 % 256) on || eqb h 0 ≡ false → placed s k w h ≡ placed_ticket s k (without on (ticket_at s k))
  stays_there e =
      let f = sym (ap₂ (λ (w h : ℕ). eqb (w / 4294967296 % 256) on || eqb h 0) a b) ∙ e in
      ap₂ (placed s k) (a ∙ sym (word_is (get_or s (2 + 2 * k) 0))) b ∙ sym (rw f)

-- a fresh unit: three words over words that are all 0
words-vacancies : (n : ℕ) → words_of (vacancies n) ≡ replicate (2 * n) 0
unfolding words_of vacancies
words-vacancies zero = refl
words-vacancies (suc n) = ap (λ (l : List ℕ). 0 ∷ 0 ∷ l) (words-vacancies n) ∙ ap (λ (k : ℕ). replicate k 0) (sym (double n))

pub fresh-words : (x : List ℕ) (l n h : ℕ) → x ≡ replicate ticket_words 0 → l ≡ get_or fresh_image 0 0 → n ≡ get_or fresh_image 1 0
    → h ≡ get_or fresh_image 3 0 → set (set (set x 0 l) 1 n) 3 h ≡ fresh_image
unfolding fresh_image image_of fresh_tickets words_of
fresh-words x l n h e a b d =
    rw (e, a, b, d) (sym (ap (λ (ws : List ℕ). only 0 ∷ 1 ∷ 0 ∷ only 0 ∷ ws) (words-vacancies 1023)))

-- another live set: the tickets and the next number are as they were
pub live-swept : (s : List ℕ) (l : ℕ) (f : Ticket → Ticket) → length s ≡ ticket_words
    → image_of (tickets (get_or (set s 0 l) 0 0) (get_or (set s 0 l) 1 0) (map f (machine_of (set s 0 l)).records))
    ≡ image_of (tickets l (machine_of s).next (map f (machine_of s).records))
unfolding machine_of
live-swept [] l f e = absurd (omega arith)
live-swept (a ∷ []) l f e = absurd (omega arith)
live-swept (a ∷ b ∷ s) l f e = refl

pub live-issued : (s : List ℕ) (l by on right : ℕ) → length s ≡ ticket_words
    → image_of (issue (machine_of (set s 0 l)) (get_or (set s 0 l) 0 0) by on right) ≡ image_of (issue (machine_of s) l by on right)
unfolding machine_of
live-issued [] l by on right e = absurd (omega arith)
live-issued (a ∷ []) l by on right e = absurd (omega arith)
live-issued (a ∷ b ∷ s) l by on right e = refl

pub live-room : (s : List ℕ) (l p by on right : ℕ) → length s ≡ ticket_words → Issued s p by on right → Issued (set s 0 l) p by on right
unfolding machine_of
live-room [] l p by on right e v = absurd (omega arith)
live-room (a ∷ []) l p by on right e v = absurd (omega arith)
live-room (a ∷ b ∷ s) l p by on right e v = record {
  free = v.free;
  first = v.first;
  left = v.left;
  by-item = v.by-item;
  on-item = v.on-item;
  right_in = v.right_in;
}

-- no ticket there: nothing is to be taken out
pub nothing-there : (s : List ℕ) (k on : ℕ) → get_or s (2 + 2 * k) 0 ≡ 0 → get_or s (3 + 2 * k) 0 ≡ 0
    → s ≡ placed_ticket s k (without on (ticket_at s k))
nothing-there s k on a b =
    let none : without_bit (get_or s (3 + 2 * k) 0) on ≡ 0 = rw b (let l = without_le 0 on in omega arith) in
    sym (ap (λ (x : List ℕ). set x (3 + 2 * k) 0) (ap (set s (2 + 2 * k)) (sym a) ∙ set-get_or s (2 + 2 * k) 0)
    ∙ ap (set s (3 + 2 * k)) (sym b)
    ∙ set-get_or s (3 + 2 * k) 0)
    ∙ ends_there s k on 0 0 (sym a) (sym none) (or_right (eqb (0 / 4294967296 % 256) on) (eqb 0 0) refl)
