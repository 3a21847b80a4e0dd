-- A set is read exactly where its 16 hexadecimal digits stand. A printed set reads back as itself, whatever follows it (`set_reads`), and
-- what is read as a set is the printing of its value, which has 64 bits (`set_seen`). One digit and its value give each other, by cases;
-- so do k digits and a number below 16 ^ k, by recursion: n / 16 has all digits of n but the last, which n % 16 has.
use Prim.Native.Nat.{ℕ, zero, suc, ◌+◌, ◌-◌, ◌*◌, ◌/◌, ◌%◌, ◌^◌, ◌≤◌, ◌<◌}
use native.Mathlib.Omega.{arith}
use native.Mathlib.Nat.{add-zero, pow-suc, pow-le-pow_right}
use native.Mathlib.Numerals.{add-one}
use mathlib.Core.Path.{◌≡◌, refl, sym, ap, ◌∙◌}
use mathlib.Core.Bool.{Bool, true, false, ◌&&◌, and-false}
use mathlib.Core.List.{List, [], ◌∷◌, ◌++◌, append_assoc, append-nil}
use borrow.Author.Tests.{leb-true, lt-ltb, le-ltb, eqb-true, eq-eqb, ne_eqb}
use lib.ListN.{length, take, drop, get_or, length-append, length-take, length-drop, take-append-drop}
use lib.Seq.{take_at, drop-drop}
use lib.Arith.{digits_div, digits_mod}
use lib.Dec.{leb, eqb}
use Rattle.bits.specs.Sets.{all, all_below}
use Rattle.bits.proofs.Sets.{by_cases, fst, snd, both, all_append}
use Rattle.bits.proofs.Indexed.{below_elim, all-next}
use Rattle.std.specs.Prelude.{Option, Some, None}
use Rattle.lines.specs.Show.{hex_digit, hex_digits, shown_set}
use Rattle.lines.specs.Line.{digit, hexadecimal, hex_value, set_from, set_of, set_at}
use Rattle.lines.specs.Reader.{hex_value_of}
use Rattle.lines.proofs.Line.{drop-next, drop-end, digit_low, same_value, same_place}

-- ---- one digit
-- the digit of a number below 16 has it for its value, computed for each of them
turns : ℕ → Bool
turns n = hexadecimal (hex_digit n) && eqb (hex_value (hex_digit n)) n

all_turn : all_below 16 turns ≡ true
unfolding turns all_below
all_turn = refl

digit_value : (n : ℕ) → n < 16 → (hexadecimal (hex_digit n) ≡ true) × (hex_value (hex_digit n) ≡ n)
unfolding turns
digit_value n h =
    let t = below_elim 16 turns all_turn n h in
    (fst (hexadecimal (hex_digit n)) _ t, eqb-true (hex_value (hex_digit n)) n (snd (hexadecimal (hex_digit n)) _ t))

-- a digit that is none of `0` to `9` is one of `a` to `f`
pub letter : (b : ℕ) → hexadecimal b ≡ true → digit b ≡ false → (97 ≤ b) × (b ≤ 102)
letter b h q =
    let t : leb 97 b && leb b 102 ≡ true = rw q at h in
    (leb-true 97 b (fst (leb 97 b) (leb b 102) t), leb-true b 102 (snd (leb 97 b) (leb b 102) t))

-- the answer for a byte
pub digit_none : (b : ℕ) → ◌≡◌ {A = Option ℕ} None (hex_value_of b) → hexadecimal b ≡ false
unfolding hex_value_of
digit_none b e = by_cases (hexadecimal b) (λ q. let f : ◌≡◌ {A = Option ℕ} None (Some (hex_value b)) = rw q at e in cc) (λ q. q)

-- the value of a digit is below 16 and has it for its digit
value-digit : (b : ℕ) → hexadecimal b ≡ true → (hex_value b < 16) × (hex_digit (hex_value b) ≡ b)
value-digit b h =
    by_cases (digit b)
    (λ q.
    let d = digit_low b q in
    rw (q, lt-ltb (b - 48) 10 (omega arith)) (omega arith, omega arith))
    (λ q.
    let l = letter b h q in
    rw (q, le-ltb (b - 87) 10 (omega arith)) (omega arith, omega arith))

pub digit_some : (b v : ℕ) → Some v ≡ hex_value_of b → (hexadecimal b ≡ true) × (v ≡ hex_value b) × (v < 16)
unfolding hex_value_of
digit_some b v e =
    by_cases (hexadecimal b)
    (λ q.
    let f : Some v ≡ Some (hex_value b) = rw q at e in
    let g : v ≡ hex_value b = cc in
    (q, g, omega (arith, (value-digit b q).0)))
    (λ q. let f : ◌≡◌ {A = Option ℕ} (Some v) None = rw q at e in cc)

-- ---- k digits
digits-length : (k n : ℕ) → length (hex_digits k n) ≡ k
digits-length zero n = refl
digits-length (suc k) n = simp (length-append, digits-length k (n / 16)) (omega arith)

digits-hexadecimal : (k n : ℕ) → all hexadecimal (hex_digits k n) ≡ true
unfolding all
digits-hexadecimal zero n = refl
digits-hexadecimal (suc k) n =
    all_append hexadecimal (hex_digits k (n / 16)) (hex_digit (n % 16) ∷ []) (digits-hexadecimal k (n / 16))
    (both (digit_value (n % 16) (omega arith)).0 refl)

from-append : (v : ℕ) (a b : List ℕ) → set_from v (a ++ b) ≡ set_from (set_from v a) b
from-append v [] b = refl
from-append v (x ∷ a) b = from-append (v * 16 + hex_value x) a b

-- the last k digits of a number below 16 ^ k have it for their value
digits_value : (k n : ℕ) → n < 16 ^ k → set_from 0 (hex_digits k n) ≡ n
digits_value zero n h = omega arith
digits_value (suc k) n h =
    let l : n / 16 < 16 ^ k = omega (arith, pow-suc 16 k) in
    from-append 0 (hex_digits k (n / 16)) (hex_digit (n % 16) ∷ [])
    ∙ rw (digits_value k (n / 16) l, (digit_value (n % 16) (omega arith)).1) (omega arith)

-- the digits of v and the digits ds after them are those of the value of both
digits_append : (k v : ℕ) (ds : List ℕ) → all hexadecimal ds ≡ true → hex_digits (k + length ds) (set_from v ds) ≡ hex_digits k v ++ ds
unfolding all
digits_append k v [] a = rw (add-zero k) (sym (append-nil (hex_digits k v)))
digits_append k v (b ∷ ds) a =
    let d = value-digit b (fst (hexadecimal b) (all hexadecimal ds) a) in
    let e : k + suc (length ds) ≡ suc k + length ds = omega arith in
    let one : hex_digits (suc k) (v * 16 + hex_value b) ≡ hex_digits k v ++ (b ∷ []) =
    rw (digits_div v d.0, digits_mod v d.0, d.1) in
    rw e (digits_append (suc k) (v * 16 + hex_value b) ds (snd (hexadecimal b) (all hexadecimal ds) a)
    ∙ ap (λ (l : List ℕ). l ++ ds) one ∙ append_assoc (hex_digits k v) (b ∷ []) ds)

-- a value of k digits, and one digit more
next_small : (k v : ℕ) (b : ℕ) → v < 16 ^ k → hexadecimal b ≡ true → v * 16 + hex_value b < 16 ^ suc k
next_small k v b h a = omega (arith, (value-digit b a).0, pow-suc 16 k)

from-small : (k v : ℕ) (ds : List ℕ) → v < 16 ^ k → all hexadecimal ds ≡ true → set_from v ds < 16 ^ (k + length ds)
unfolding all
from-small k v [] h a = rw (add-zero k) h
from-small k v (b ∷ ds) h a =
    let e : k + suc (length ds) ≡ suc k + length ds = omega arith in
    rw e (from-small (suc k) (v * 16 + hex_value b) ds (next_small k v b h (fst (hexadecimal b) (all hexadecimal ds) a))
    (snd (hexadecimal b) (all hexadecimal ds) a))

-- ---- sets
module _ (ds : List ℕ) (next : ℕ) where
  set_good : length ds ≡ 16 → all hexadecimal ds ≡ true → Some (set_from 0 ds, next) ≡ set_of ds next
  unfolding set_of
  set_good n a = rw (eq-eqb (length ds) 16 n, a)

  set-short : (length ds ≡ 16 → ⊥) → None ≡ set_of ds next
  unfolding set_of
  set-short n = rw (ne_eqb (length ds) 16 n)

  set_other : all hexadecimal ds ≡ false → None ≡ set_of ds next
  unfolding set_of
  set_other a = rw (a, and-false (eqb (length ds) 16))

pub set-none : (s : List ℕ) (at : ℕ) → length s < at + 16 → None ≡ set_at s at
set-none s at h = set-short (take 16 (drop at s)) (at + 16) (λ e. omega (arith, length-take 16 (drop at s), length-drop at s))

module _ (s : List ℕ) (at n : ℕ) where
  -- a set that is printed there is read
  pub set_reads : (rest : List ℕ) → drop at s ≡ shown_set n ++ rest → n < 2 ^ 64 → set_at s at ≡ Some (n, at + 16)
  unfolding shown_set
  set_reads rest e h =
      let t : take 16 (drop at s) ≡ hex_digits 16 n = ap (take 16) e ∙ take_at (hex_digits 16 n) rest 16 (digits-length 16 n) in
      rw t (sym (set_good (hex_digits 16 n) (at + 16) (digits-length 16 n) (digits-hexadecimal 16 n))
      ∙ rw (digits_value 16 n h))

  -- and one that is read is printed there
  pub set_seen : (next : ℕ) → set_at s at ≡ Some (n, next) → (drop at s ≡ shown_set n ++ drop next s) × (n < 2 ^ 64)
  unfolding set_of shown_set
  set_seen next e =
      let ds : List ℕ = take 16 (drop at s) in
      by_cases (eqb (length ds) 16 && all hexadecimal ds)
      (λ q.
      let f : Some (set_from 0 ds, at + 16) ≡ Some (n, next) = rw q at e in
      let ev : set_from 0 ds ≡ n = same_value f in
      let en : at + 16 ≡ next = same_place f in
      let l : length ds ≡ 16 = eqb-true (length ds) 16 (fst (eqb (length ds) 16) (all hexadecimal ds) q) in
      let a = snd (eqb (length ds) 16) (all hexadecimal ds) q in
      let d : hex_digits 16 n ≡ ds = rw (l, ev) at (digits_append 0 0 ds a) in
      let b : n < 16 ^ 16 = rw (l, ev) at (from-small 0 0 ds (omega arith) a) in (
        sym (take-append-drop 16 (drop at s)) ∙ rw (drop-drop 16 at s, en) (ap (λ (m : List ℕ). m ++ drop next s) (sym d)),
        b,
      ))
      (λ q. let f : None ≡ Some (n, next) = rw q at e in let z : ◌≡◌ {A = ℕ} 0 1 = cc in absurd (omega arith))

-- at the start of a text
pub printed_reads : (n : ℕ) (rest : List ℕ) → n < 2 ^ 64 → set_at (shown_set n ++ rest) 0 ≡ Some (n, 16)
printed_reads n rest h = set_reads (shown_set n ++ rest) 0 n rest refl h

pub printed_length : (n : ℕ) → length (shown_set n) ≡ 16
unfolding shown_set
printed_length n = digits-length 16 n

-- ---- the loop that reads the digits ds: after i of them, of value v
pub record Passed (ds : List ℕ) (i v : ℕ) : Type 0 where
  pub inside : i ≤ length ds
  pub small : v < 16 ^ i
  pub test : all hexadecimal ds ≡ all hexadecimal (drop i ds)
  pub value : set_from 0 ds ≡ set_from v (drop i ds)

pub pass_none : (ds : List ℕ) → Passed ds 0 0
pass_none ds = record { inside = omega arith; small = omega arith; test = refl; value = refl }

module _ {ds : List ℕ} {i v : ℕ} (p : Passed ds i v) (n : length ds ≡ 16) where
  pub pass_end : (next : ℕ) → length ds ≤ i → Some (v, next) ≡ set_of ds next
  pass_end next h =
      let e = drop-end ds i h in
      let a : all hexadecimal ds ≡ true = p.test ∙ rw e (unfold all in refl) in
      let w : set_from 0 ds ≡ v = p.value ∙ rw e in
      ap (λ (x : ℕ). Some (x, next)) (sym w) ∙ set_good ds next n a

  module _ (h : i < length ds) where
    next_test : all hexadecimal ds ≡ hexadecimal (get_or ds i 0) && all hexadecimal (drop (i + 1) ds)
    next_test = p.test ∙ all-next hexadecimal ds i 0 h

    pub pass_other : (next : ℕ) → hexadecimal (get_or ds i 0) ≡ false → None ≡ set_of ds next
    pass_other next e = set_other ds next (next_test ∙ rw e)

    -- the next digit and those before it have 64 bits
    pub pass_room : v < 16 ^ 15
    pass_room =
        let k : i ≤ 15 = omega arith in
        let l : 16 ^ i ≤ 16 ^ 15 = pow-le-pow_right (omega arith) k in
        omega (arith, p.small)

    pub pass_next : hexadecimal (get_or ds i 0) ≡ true → Passed ds (i + 1) (v * 16 + hex_value (get_or ds i 0))
    pass_next e =
        record {
          inside = omega arith;
          small = rw (add-one i) (next_small i v (get_or ds i 0) p.small e);
          test = next_test ∙ rw e;
          value = p.value ∙ rw (drop-next ds i h);
        }
