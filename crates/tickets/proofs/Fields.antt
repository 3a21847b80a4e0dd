-- The fields of a record, as code tests them: each test of a word is that of the ticket it tells, for a field is the word divided and cut
-- to its width; no holder lies outside the live set where the holders' word has no bit that the live set lacks.
use mathlib.Core.Path.{◌≡◌, refl, sym, ap, ap₂, ◌∙◌}
use mathlib.Core.Bool.{Bool, true, false, not, ◌&&◌, ◌||◌, false≢true}
use mathlib.Core.List.{List, [], ◌∷◌}
use Prim.Native.Nat.{ℕ, ◌+◌, ◌-◌, ◌*◌, ◌/◌, ◌%◌, ◌^◌, ◌<◌}
use native.Mathlib.Omega.{arith}
use native.Mathlib.Nat.{mod-eq_of_lt}
use borrow.Author.Tests.{eqb-true, eqb-false, eq-eqb, ne_eqb, leb-true, leb-false}
use lib.Bits.{bit_and, bit_or}
use lib.Dec.{eqb, leb, ltb}
use Rattle.bits.specs.Sets.{any}
use Rattle.bits.specs.Bits.{bit}
use Rattle.bits.proofs.Sets.{iff, fst, snd, both, by_cases}
use Rattle.bits.proofs.Bits.{bit_high, within, machine_outside}
use Rattle.bits.proofs.Members.{all-members}
use Rattle.bits.proofs.Scan.{or-zero}
use Rattle.ticketing.specs.Machine.{opens}
use Rattle.ticketing.specs.Order.{among, sound, record_ok}
use Rattle.ticketing.specs.Image.{ticket_of, tickets_in}
use Rattle.tickets.specs.Places.{key_of, held_for}

-- ---- in order
-- an item within its limit that lives
live-item : (l i : ℕ) → l < 2 ^ 64 → leb i 63 && bit l (i % 64) ≡ bit l i
live-item l i h =
    by_cases (leb i 63) (λ t. let k = leb-true i 63 t in rw t (ap (bit l) (mod-eq_of_lt (omega arith))))
    (λ f. let k = leb-false i 63 f in rw f (sym (bit_high 64 l i h (omega arith))))

pub among_code : (h l : ℕ) → l < 2 ^ 64 → eqb (bit_and h (2 ^ 64 - 1 - l)) 0 ≡ among h l
unfolding within
among_code h l k = machine_outside 64 h l k ∙ sym (all-members 64 h (bit l))

pub sound_code : (w h l n : ℕ) → l < 2 ^ 64 → (has : Bool) → has ≡ bit l (w / 4294967296 % 256 % 64)
    → ((((ltb (w % 4294967296) n && leb (w / 1099511627776 % 256) 7) && leb (w / 281474976710656) 63) && leb (w / 4294967296 % 256) 63) && has)
    && eqb (bit_and h (2 ^ 64 - 1 - l)) 0
    ≡ sound l n (ticket_of w h)
sound_code w h l n k has e =
    rw (e, among_code h l k) (mix (ltb (w % 4294967296) n) (leb (w / 1099511627776 % 256) 7) (leb (w / 281474976710656) 63)
    (leb (w / 4294967296 % 256) 63) (bit l (w / 4294967296 % 256 % 64)) (among h l))
    ∙ ap (λ b. (ltb (w % 4294967296) n && (leb (w / 1099511627776 % 256) 7 && leb (w / 281474976710656) 63)) && (b && among h l))
    (live-item l (w / 4294967296 % 256) k)
  where
    mix : (a b c d e f : Bool) → ((((a && b) && c) && d) && e) && f ≡ (a && (b && c)) && ((d && e) && f)
    mix false b c d e f = refl
    mix true false c d e f = refl
    mix true true false d e f = refl
    mix true true true false e f = refl
    mix true true true true e f = refl

-- no holder: the record is in order where it is all zero
pub zero_code : (w l n : ℕ) → eqb w 0 ≡ record_ok l n (ticket_of w 0)
zero_code w l n =
    iff (eqb w 0) (record_ok l n (ticket_of w 0))
    (λ e. let z = eqb-true w 0 e in rw z)
    (λ e. eq-eqb w 0 (none (w % 4294967296) (w / 4294967296 % 256) (w / 1099511627776 % 256) (w / 281474976710656) e (omega arith)))
  where
    none : (a b c d : ℕ) → ((eqb a 0 && eqb b 0) && ((eqb c 0 && eqb d 0) && true)) || false ≡ true
        → w ≡ a + b * 4294967296 + c * 1099511627776 + d * 281474976710656 → w ≡ 0
    none a b c d e h =
        let f : ((eqb a 0 && eqb b 0) && ((eqb c 0 && eqb d 0) && true)) ≡ true = or_no _ e in
        let x : a ≡ 0 = search (fst, snd, eqb-true) in
        let y : b ≡ 0 = search (fst, snd, eqb-true) in
        let z : c ≡ 0 = search (fst, snd, eqb-true) in
        let u : d ≡ 0 = search (fst, snd, eqb-true) in
        omega arith
      where
        or_no : (b : Bool) → b || false ≡ true → b ≡ true
        or_no true e = refl
        or_no false e = e

-- both words are 0 where no bit of either is set
pub both_zero : (w h : ℕ) → bit_or w h ≡ 0 → (w ≡ 0) × (h ≡ 0)
both_zero w h e =
    let k = sym (or-zero w h) ∙ eq-eqb (bit_or w h) 0 e in
    (eqb-true w 0 (fst (eqb w 0) (eqb h 0) k), eqb-true h 0 (snd (eqb w 0) (eqb h 0) k))

-- no holder, and something else: out of order
pub bad_zero : (w h l n : ℕ) → (bit_or w h ≡ 0 → ⊥) → h ≡ 0 → record_ok l n (ticket_of w h) ≡ false
bad_zero w h l n z e =
    ap (λ (x : ℕ). record_ok l n (ticket_of w x)) e
    ∙ sym (zero_code w l n)
    ∙ ne_eqb w 0 (λ k. z (eqb-true (bit_or w h) 0 (or-zero w h ∙ both (eq-eqb w 0 k) (eq-eqb h 0 e))))

-- a holder: where it is sound
pub held_code : (w h l n : ℕ) → (h ≡ 0 → ⊥) → sound l n (ticket_of w h) ≡ record_ok l n (ticket_of w h)
held_code w h l n z = let e = ne_eqb h 0 z in rw e (go (eqb (w % 4294967296) 0 && eqb (w / 4294967296 % 256) 0)
    (eqb (w / 1099511627776 % 256) 0 && eqb (w / 281474976710656) 0))
  where
    go : (a b : Bool) → sound l n (ticket_of w h) ≡ (a && (b && false)) || sound l n (ticket_of w h)
    go true true = refl
    go true false = refl
    go false b = refl

-- words that are not both 0 are in order where there is a holder and the ticket is sound
pub live_code : (w h l n : ℕ) {s : Bool} → (bit_or w h ≡ 0 → ⊥) → s ≡ sound l n (ticket_of w h)
    → (not (eqb h 0) && s ≡ record_ok l n (ticket_of w h)) × (not (eqb h 0) && s ≡ true → h ≡ 0 → ⊥)
live_code w h l n {s} z e =
    by_cases (eqb h 0)
    (λ q.
    let f = ap (λ (x : Bool). not x && s) q in
    (f ∙ sym (bad_zero w h l n z (eqb-true h 0 q)), λ t k. false≢true (sym f ∙ t)))
    (λ q. (ap (λ (x : Bool). not x && s) q ∙ e ∙ held_code w h l n (eqb-false h 0 q), λ t k. eqb-false h 0 q k))

-- ---- an item and a right as one number
key_code : (w : ℕ) → w / 4294967296 % 65536 ≡ key_of (w / 4294967296 % 256) (w / 1099511627776 % 256)
key_code w = omega arith

pub is_held_code : (w h p key : ℕ) → bit h p && eqb (w / 4294967296 % 65536) key ≡ held_for p key (ticket_of w h)
is_held_code w h p key = rw (key_code w)

key_same : (i o r q : ℕ) → i < 256 → o < 256 → eqb (key_of i r) (key_of o q) ≡ eqb i o && eqb r q
key_same i o r q a b =
    iff (eqb (key_of i r) (key_of o q)) (eqb i o && eqb r q)
    (λ e. let k = eqb-true (key_of i r) (key_of o q) e in both (eq-eqb i o (omega arith)) (eq-eqb r q (omega arith)))
    (λ e. let x = eqb-true i o (fst (eqb i o) (eqb r q) e) in let y = eqb-true r q (snd (eqb i o) (eqb r q) e) in
    eq-eqb (key_of i r) (key_of o q) (ap₂ key_of x y))

-- the tickets for an item and right are those with their key
pub keys_code : (s : List ℕ) (p o r : ℕ) → o < 256
    → any (held_for p (key_of o r)) (tickets_in s) ≡ any (λ t. bit t.holders p && opens o r t) (tickets_in s)
unfolding any tickets_in
keys_code [] p o r l = refl
keys_code (w ∷ []) p o r l = refl
keys_code (w ∷ h ∷ s) p o r l =
    ap₂ ◌||◌ (ap (λ b. bit h p && b) (key_same (w / 4294967296 % 256) o (w / 1099511627776 % 256) r (omega arith) l)) (keys_code s p o r l)

-- what a leaf on words says of bit n % 64, where n is the number of an item
pub of_item : {A : Type 0} (f : ℕ → A) (x : A) (n i : ℕ) → x ≡ f (n % 64) → n ≡ i → i < 64 → x ≡ f i
of_item f x n i e h l = e ∙ ap f (ap (λ k. k % 64) h ∙ mod-eq_of_lt l)
