-- The places for tickets: what a test over all of them says once a ticket is put into the first free one, or once each place is changed.
-- A test that no free place passes sees a put as one more ticket; the numbers in use lie below the next, so a change of the new number
-- finds the new ticket alone.
use mathlib.Core.Path.{◌≡◌, refl, sym, ap, ap₂, ◌∙◌}
use mathlib.Core.Bool.{Bool, true, false, not, ◌&&◌, ◌||◌, cond, false≢true}
use mathlib.Core.List.{List, [], ◌∷◌, map}
use Prim.Native.Nat.{ℕ, zero, suc}
use native.Mathlib.Omega.{arith}
use borrow.Author.Tests.{eqb-true, eq-eqb, ne_eqb, ltb-true}
use lib.ListN.{length, length-replicate}
use lib.Dec.{eqb, ltb}
use Rattle.bits.specs.Sets.{any, all}
use Rattle.bits.specs.Bits.{bit, without_bit}
use Rattle.bits.proofs.Sets.{fst, snd, both, by_cases, either, or_left, or_right, any_mono, any-map, all_true}
use Rattle.bits.proofs.Bits.{bit_of_zero, bit_with, without_le}
use Rattle.model.proofs.Invariant.{eqb_sym}
use Rattle.ticketing.specs.declared.Ticket.{Ticket}
use Rattle.ticketing.specs.Machine.{ticket, vacant, vacancies, only, is_live, is_number, put, changed}

-- what holds at both ends of a test holds of what it picks
pub picked : {A : Type 0} (P : A → Type 0) (b : Bool) (x y : A) → (b ≡ true → P x) → (b ≡ false → P y) → P (cond b x y)
picked P true x y f g = f refl
picked P false x y f g = g refl

-- ---- sets of holders
-- the set of one person
pub bit-only : (p i : ℕ) → bit (only p) i ≡ eqb p i
bit-only p i = bit_with 0 p i ∙ ap (λ b. b || eqb i p) (bit_of_zero i) ∙ eqb_sym i p

-- a ticket with a holder lives
pub held-lives : (n o r p h i : ℕ) → bit h i ≡ true → is_live (ticket n o r p h) ≡ true
held-lives n o r p h i e =
    ap not (ne_eqb h 0 (λ z. false≢true (sym (bit_of_zero i) ∙ ap (λ (k : ℕ). bit k i) (sym z) ∙ e)))

-- and one that does not live has none
pub idle : (x : Ticket) (p : ℕ) (b : Bool) → is_live x ≡ false → bit x.holders p && b ≡ false
idle x p b e =
    by_cases (eqb x.holders 0)
    (λ z. ap (λ (k : ℕ). bit k p && b) (eqb-true x.holders 0 z) ∙ ap (λ c. c && b) (bit_of_zero p))
    (λ z. absurd (false≢true (sym e ∙ ap not z)))

-- so whoever holds a ticket holds a live one
pub holder_lives : (x : Ticket) (p : ℕ) → bit x.holders p ≡ true → is_live x ≡ true
holder_lives x p e = held-lives x.number x.item x.right x.issuer x.holders p e

-- a ticket that still has a holder without i had one
pub lives_before : (x : Ticket) (i : ℕ) → eqb (without_bit x.holders i) 0 ≡ false → is_live x ≡ true
lives_before x i e =
    by_cases (eqb x.holders 0)
    (λ z. let a : x.holders ≡ 0 = eqb-true x.holders 0 z in
    let b = without_le x.holders i in
    absurd (false≢true (sym e ∙ eq-eqb (without_bit x.holders i) 0 (omega arith)))) (λ z. ap not z)

-- ---- a ticket put into the first free place
pub any-put : (q : Ticket → Bool) (t : Ticket) (ts : List Ticket) → ((x : Ticket) → is_live x ≡ false → q x ≡ false)
    → all is_live ts ≡ false → any q (put t ts) ≡ q t || any q ts
unfolding any all put
any-put q t [] z f = absurd (false≢true (sym f))
any-put q t (x ∷ xs) z f = go (is_live x) refl (any-put q t xs z)
  where
    swap : (a b c : Bool) → a || (b || c) ≡ b || (a || c)
    swap true true c = refl
    swap true false c = refl
    swap false true c = refl
    swap false false c = refl

    go : (s : Bool) → is_live x ≡ s → (all is_live xs ≡ false → any q (put t xs) ≡ q t || any q xs)
        → any q (cond s (x ∷ put t xs) (t ∷ xs)) ≡ q t || (q x || any q xs)
    go true e ih = ap (λ b. q x || b) (ih (ap (λ b. b && all is_live xs) (sym e) ∙ f)) ∙ swap (q x) (q t) (any q xs)
    go false e ih = ap (λ b. q t || (b || any q xs)) (sym (z x e))

-- what passes after a put passed before, if the new ticket does not
pub put_only : (q : Ticket → Bool) (t : Ticket) (ts : List Ticket) → q t ≡ false → any q (put t ts) ≡ true → any q ts ≡ true
unfolding any put
put_only q t [] z h = h
put_only q t (x ∷ xs) z h = go (is_live x) h (put_only q t xs z)
  where
    go : (s : Bool) → any q (cond s (x ∷ put t xs) (t ∷ xs)) ≡ true → (any q (put t xs) ≡ true → any q xs ≡ true)
        → q x || any q xs ≡ true
    go true h ih = either (q x) (any q (put t xs)) h (or_left (q x) (any q xs)) (λ k. or_right (q x) (any q xs) (ih k))
    go false h ih = or_right (q x) (any q xs) (ap (λ b. b || any q xs) (sym z) ∙ h)

pub all-put : (q : Ticket → Bool) (t : Ticket) (ts : List Ticket) → q t ≡ true → all q ts ≡ true → all q (put t ts) ≡ true
unfolding all put
all-put q t [] a h = h
all-put q t (x ∷ xs) a h = go (is_live x) (all-put q t xs a (snd (q x) (all q xs) h))
  where
    go : (s : Bool) → all q (put t xs) ≡ true → all q (cond s (x ∷ put t xs) (t ∷ xs)) ≡ true
    go true ih = both (fst (q x) (all q xs) h) ih
    go false ih = both a (snd (q x) (all q xs) h)

pub length-put : (t : Ticket) (ts : List Ticket) → length (put t ts) ≡ length ts
unfolding put
length-put t [] = refl
length-put t (x ∷ xs) = go (is_live x) (length-put t xs)
  where
    go : (s : Bool) → length (put t xs) ≡ length xs → length (cond s (x ∷ put t xs) (t ∷ xs)) ≡ suc (length xs)
    go true e = ap suc e
    go false e = refl

-- ---- every place changed
pub all_map : (q q' : Ticket → Bool) (f : Ticket → Ticket) (ts : List Ticket) → all q ts ≡ true
    → ((t : Ticket) → q t ≡ true → q' (f t) ≡ true) → all q' (map f ts) ≡ true
unfolding all
all_map q q' f [] h e = refl
all_map q q' f (t ∷ ts) h e = both (e t (fst (q t) (all q ts) h)) (all_map q q' f ts (snd (q t) (all q ts) h) e)

-- what passes after the change passed before
pub map-only : (q : Ticket → Bool) (f : Ticket → Ticket) (ts : List Ticket) → ((t : Ticket) → q (f t) ≡ true → q t ≡ true)
    → any q (map f ts) ≡ true → any q ts ≡ true
map-only q f ts e h = any_mono (λ t. q (f t)) q (λ t. true) ts (all_true ts) (λ t _ k. e t k) (sym (any-map q f ts) ∙ h)

-- ---- numbers below n
-- a live ticket has a number below n
abbrev pub below : ℕ → Ticket → Bool
below n t = not (is_live t) || ltb t.number n

-- a change of number n finds none of those
changed-below : (n : ℕ) (f : Ticket → Ticket) (x : Ticket) → below n x ≡ true → changed n f x ≡ x
changed-below n f x h = picked (λ (u : Ticket). u ≡ x) (is_number n x) (f x) x (λ e. absurd (same e)) (λ e. refl)
  where
    same : is_number n x ≡ true → ⊥
    same e =
        let s : is_live x ≡ true = fst (is_live x) (eqb x.number n) e in
        let q : x.number ≡ n = eqb-true x.number n (snd (is_live x) (eqb x.number n) e) in
        let l = ltb-true x.number n (rw s at h) in
        omega arith

map_below : (n : ℕ) (f : Ticket → Ticket) (ts : List Ticket) → all (below n) ts ≡ true → map (changed n f) ts ≡ ts
unfolding all
map_below n f [] h = refl
map_below n f (x ∷ xs) h =
    ap₂ ◌∷◌ (changed-below n f x (fst (below n x) (all (below n) xs) h)) (map_below n f xs (snd (below n x) (all (below n) xs) h))

-- the new ticket changed at once, it alone changes
pub map-put : (n : ℕ) (f : Ticket → Ticket) (t : Ticket) (ts : List Ticket) → all (below n) ts ≡ true
    → map (changed n f) (put t ts) ≡ put (changed n f t) ts
unfolding all put
map-put n f t [] h = refl
map-put n f t (x ∷ xs) h = go (is_live x) (map-put n f t xs (snd (below n x) (all (below n) xs) h))
  where
    go : (s : Bool) → map (changed n f) (put t xs) ≡ put (changed n f t) xs
        → map (changed n f) (cond s (x ∷ put t xs) (t ∷ xs)) ≡ cond s (x ∷ put (changed n f t) xs) (changed n f t ∷ xs)
    go true ih = ap₂ ◌∷◌ (changed-below n f x (fst (below n x) (all (below n) xs) h)) ih
    go false ih = ap (λ (l : List Ticket). changed n f t ∷ l) (map_below n f xs (snd (below n x) (all (below n) xs) h))

-- ---- places without a ticket
pub any-vacancies : (q : Ticket → Bool) (n : ℕ) → q vacant ≡ false → any q (vacancies n) ≡ false
unfolding any vacancies
any-vacancies q zero e = refl
any-vacancies q (suc n) e = rw e (any-vacancies q n e)

pub all-vacancies : (q : Ticket → Bool) (n : ℕ) → q vacant ≡ true → all q (vacancies n) ≡ true
unfolding all vacancies
all-vacancies q zero e = refl
all-vacancies q (suc n) e = rw e (all-vacancies q n e)

pub length-vacancies : (n : ℕ) → length (vacancies n) ≡ n
unfolding vacancies
length-vacancies n = length-replicate n vacant
