-- Laws of the parts of a command line.
use Prim.Native.Nat.{ℕ, zero, suc, ◌+◌, ◌-◌, ◌*◌, ◌^◌, ◌≤◌, ◌<◌}
use native.Mathlib.Omega.{arith}
use native.Mathlib.Numerals.{add-one}
use mathlib.Core.Path.{◌≡◌, refl, sym, ap, ◌∙◌}
use mathlib.Core.List.{List, [], ◌∷◌}
use mathlib.Core.Bool.{Bool, true, false, not, ◌&&◌, ◌||◌, false≢true}
use mathlib.Core.Logic.{⊎_elim}
use lib.Arith.{lt_of_le-ne}
use native.Mathlib.Nat.{min_comm, pow-suc, pow-le-pow_right}
use lib.ListN.{length, take, drop, get_or, drop_of_length-le, length-drop}
use Rattle.std.specs.Prelude.{min}
use Rattle.std.proofs.lemmas.List.{take_all, length-take, take_min}
use lib.Seq.{drop-cons}
use lib.Pointwise.{pointwise}
use denote.Ref.{Bor}
use Rattle.std.specs.Prelude.{nat_eq, unwrap_or}
use Rattle.std.specs.Bool.{then_some}
use Rattle.std.specs.Slice.{IsGetRangeResult}
use lib.Dec.{leb, ltb, eqb}
use Rattle.std.proofs.lemmas.Bool.{leb-false}
use Rattle.std.specs.List.{position, prefix_len}
use Rattle.std.specs.Char.{is_ascii_digit}
use borrow.Author.Tests.{leb-true, ltb-false, le-leb, lt-leb, eqb-false, eq-eqb, ne_eqb}
use Rattle.std.specs.Prelude.{Option, Some, None}
use Rattle.lines.specs.Line.{starts_with, digit, digits, value_from, value_of, decimal, number_at}
use Rattle.bits.specs.Sets.{all}
use Rattle.bits.proofs.Sets.{by_cases, fst, snd, both}

pub drop-next : (s : List ℕ) (i : ℕ) → i < length s → drop i s ≡ get_or s i 0 ∷ drop (i + 1) s
drop-next s i h = rw (add-one i) (drop-cons s i 0 h)

pub drop-end : (s : List ℕ) (i : ℕ) → length s ≤ i → drop i s ≡ []
drop-end s i h = drop_of_length-le s h

-- ---- a value and the place after it
pub same_value : {a b v n : ℕ} → ◌≡◌ {A = Option (ℕ × ℕ)} (Some (a, b)) (Some (v, n)) → a ≡ v
same_value e = ap (λ (o : Option (ℕ × ℕ)). elim o [ Some p ↦ p.0 | None ↦ 0 ]) e

pub same_place : {a b v n : ℕ} → ◌≡◌ {A = Option (ℕ × ℕ)} (Some (a, b)) (Some (v, n)) → b ≡ n
same_place e = ap (λ (o : Option (ℕ × ℕ)). elim o [ Some p ↦ p.1 | None ↦ 0 ]) e

-- ---- literals
-- what stands at the start of a slice
pub pointwise-starts : (w l : List ℕ) → pointwise nat_eq (take (length w) l) w ≡ starts_with w l
pointwise-starts [] l = refl
pointwise-starts (a ∷ w) [] = refl
pointwise-starts (a ∷ w) (b ∷ l) = by_cases (eqb b a) (λ q. rw q (pointwise-starts w l)) (λ q. rw q)

pub part-drop : (s : List ℕ) (at : ℕ) {x : List ℕ} → x ≡ take (length s - at) (drop at s) → x ≡ drop at s
part-drop s at e = e ∙ take_all (length s - at) (drop at s) (omega (arith, length-drop at s))

-- the first k bytes of such a part
pub part-cut : (s : List ℕ) (at k : ℕ) {x : List ℕ} {n : ℕ} → x ≡ take (length s - at) (drop at s) → n ≡ min (length x) k
    → take n x ≡ take k (drop at s)
part-cut s at k {x} {n} e h = rw (h, min_comm (length x) k, take_min k x) (ap (take k) (part-drop s at e))

-- the rest of a slice from a place on, none of it past the end
pub rest-drop : (s : List ℕ) (at : ℕ) (g : Option (Bor (List ℕ))) (d r : Bor (List ℕ)) → IsGetRangeResult s at (length s) g → d.now ≡ []
    → r ≡ unwrap_or g d → r.now ≡ drop at s
rest-drop s at None d r h e q = rw (q, e) (sym (drop_of_length-le s (⊎_elim (λ z. omega arith) (λ z. omega arith) h.0)))
rest-drop s at (Some x) d r h e q = rw q (part-drop s at h.0.2)

pub starts_length : (w l : List ℕ) → starts_with w l ≡ true → length w ≤ length l
starts_length [] l e = omega arith
starts_length (a ∷ w) [] e = absurd (false≢true e)
starts_length (a ∷ w) (b ∷ l) e =
    by_cases (eqb b a) (λ q. omega (arith, starts_length w l (rw q at e))) (λ q. absurd (false≢true (rw q at e)))

-- ---- numbers

pub digit_low : (b : ℕ) → digit b ≡ true → (48 ≤ b) × (b ≤ 57)
digit_low b e =
    by_cases (leb 48 b)
    (λ q. by_cases (leb b 57) (λ r. (leb-true 48 b q, leb-true b 57 r)) (λ r. absurd (false≢true (rw (q, r) at e))))
    (λ q. absurd (false≢true (rw q at e)))

pub digits-digits : (l : List ℕ) → all digit (digits l) ≡ true
unfolding all
digits-digits [] = refl
digits-digits (b ∷ l) = by_cases (digit b) (λ q. rw q (both q (digits-digits l))) (λ q. rw q)

-- the bytes before the first that is no digit
prefix-digits : (s : List ℕ) → take (prefix_len (λ b. not (not (is_ascii_digit b))) s) s ≡ digits s
prefix-digits [] = refl
prefix-digits (b ∷ s) = by_cases (digit b)
    (λ q.
    let one : 1 + prefix_len (λ b. not (not (is_ascii_digit b))) s ≡ suc (prefix_len (λ b. not (not (is_ascii_digit b))) s) = omega arith in
    rw (q, one) (ap (λ (l : List ℕ). b ∷ l) (prefix-digits s)))
    (λ q. rw q)

pub digits-take : (s : List ℕ) → take (unwrap_or (position (λ b. not (is_ascii_digit b)) s) (length s)) s ≡ digits s
digits-take s =
    by_cases (ltb (prefix_len (λ b. not (not (is_ascii_digit b))) s) (length s)) (λ q. rw q (prefix-digits s))
    (λ q.
    let l = ltb-false (prefix_len (λ b. not (not (is_ascii_digit b))) s) (length s) q in
    rw q (take_all (length s) s (omega arith) ∙ sym (take_all _ s l) ∙ prefix-digits s))

-- ---- a number has at most ten digits, so eleven bytes tell all of it

digits-part : (k : ℕ) (l : List ℕ) → digits (take k l) ≡ take k (digits l)
digits-part zero l = refl
digits-part (suc k) [] = refl
digits-part (suc k) (b ∷ l) = by_cases (digit b) (λ q. rw q (ap (λ (l : List ℕ). b ∷ l) (digits-part k l))) (λ q. rw q)

-- of the digits of eleven bytes: at most ten are all there are, and more are a part of more
module _ (ds l : List ℕ) (e : ds ≡ digits (take 11 l)) where
  few_of : min 11 (length (digits l)) ≡ length ds
  few_of = sym (rw (e, digits-part 11 l) (length-take 11 (digits l)))

  pub digits-all : length ds ≤ 10 → ds ≡ digits l
  digits-all h = e ∙ digits-part 11 l ∙ take_all 11 (digits l) (omega (arith, few_of))

  pub digits-more : 10 < length ds → 10 < length (digits l)
  digits-more h = omega (arith, few_of)

-- ---- the tests of a number, one at a time

and_1 : (a b : Bool) → a ≡ false → (a && b) ≡ false
and_1 a b e = rw e refl

and_2 : (a b : Bool) → b ≡ false → (a && b) ≡ false
and_2 true b e = e
and_2 false b e = refl

module _ (ds : List ℕ) where
  not_empty : length ds ≡ 0 → decimal ds ≡ false
  unfolding decimal
  not_empty e = and_1 (leb 1 (length ds)) _ (rw e refl)

  not-long : 10 < length ds → decimal ds ≡ false
  unfolding decimal
  not-long h = and_2 (leb 1 (length ds)) _ (and_1 (leb (length ds) 10) _ (lt-leb _ _ h))

  not_large : 4294967295 < value_of ds → decimal ds ≡ false
  unfolding decimal
  not_large h = and_2 (leb 1 (length ds)) _ (and_2 (leb (length ds) 10) _ (and_1 (leb (value_of ds) 4294967295) _ (lt-leb _ _ h)))

  not-padded : (length ds ≡ 1 → ⊥) → get_or ds 0 0 ≡ 48 → decimal ds ≡ false
  unfolding decimal
  not-padded n e =
      and_2 (leb 1 (length ds)) _ (and_2 (leb (length ds) 10) _ (and_2 (leb (value_of ds) 4294967295) _
      (rw (ne_eqb _ _ n, eq-eqb _ _ e) refl)))

  all_good : 1 ≤ length ds → length ds ≤ 10 → value_of ds ≤ 4294967295 → (eqb (length ds) 1 || not (eqb (get_or ds 0 0) 48)) ≡ true
      → decimal ds ≡ true
  unfolding decimal
  all_good a b c d = rw (le-leb _ _ a, le-leb _ _ b, le-leb _ _ c, d) refl

module _ (s : List ℕ) (at : ℕ) (ds : List ℕ) (e : ds ≡ digits (drop at s)) where
  num_bad : decimal ds ≡ false → None ≡ number_at s at
  unfolding number_at
  num_bad q = let f : decimal (digits (drop at s)) ≡ false = rw e at q in rw f

  pub num_empty : length ds ≡ 0 → None ≡ number_at s at
  num_empty h = num_bad (not_empty ds h)

  pub num_long : 10 < length ds → None ≡ number_at s at
  num_long h = num_bad (not-long ds h)

  pub num_padded : 1 < length ds → get_or ds 0 0 ≡ 48 → None ≡ number_at s at
  num_padded h z = num_bad (not-padded ds (λ o. omega arith) z)

  pub num_value : 1 ≤ length ds → length ds ≤ 10 → (1 < length ds → get_or ds 0 0 ≡ 48 → ⊥)
      → then_some (leb (value_of ds) 4294967295) (value_of ds, at + length ds) ≡ number_at s at
  unfolding number_at
  num_value a b z =
      let d : (eqb (length ds) 1 || not (eqb (get_or ds 0 0) 48)) ≡ true =
      by_cases (eqb (length ds) 1) (λ q. rw q)
      (λ q. rw (q, ne_eqb (get_or ds 0 0) 48 (z (lt_of_le-ne a (λ w. eqb-false (length ds) 1 q (sym w)))))) in
      by_cases (leb (value_of ds) 4294967295)
      (λ q. let ok : decimal ds ≡ true = all_good ds a b (leb-true (value_of ds) 4294967295 q) d in rw (sym e, q, ok))
      (λ q. let no : decimal ds ≡ false = not_large ds (leb-false (value_of ds) 4294967295 q) in rw (sym e, q, no))

pub num_past : (s : List ℕ) (at : ℕ) → length s ≤ at → None ≡ number_at s at
num_past s at h = num_empty s at [] (sym (rw (drop-end s at h))) refl

-- ---- the value of digits
all_get : (q : ℕ → Bool) (l : List ℕ) → all q l ≡ true → (i : ℕ) → i < length l → q (get_or l i 0) ≡ true
unfolding all
all_get q [] a i h = absurd (omega arith)
all_get q (x ∷ l) a zero h = fst (q x) (all q l) a
all_get q (x ∷ l) a (suc i) h = all_get q l (snd (q x) (all q l) a) i (omega arith)

-- after i of the digits ds, of value v
pub record Valued (ds : List ℕ) (i v : ℕ) : Type 0 where
  pub small : v < 10 ^ i
  pub value : value_of ds ≡ value_from v (drop i ds)

module _ {ds : List ℕ} {i v : ℕ} (p : Valued ds i v) (a : all digit ds ≡ true) (n : length ds ≤ 10) (h : i < length ds) where
  pub value_room : v < 10 ^ 9
  value_room =
      let k : i ≤ 9 = omega arith in
      let l : 10 ^ i ≤ 10 ^ 9 = pow-le-pow_right (omega arith) k in
      omega (arith, p.small)

  pub value_digit : (48 ≤ get_or ds i 0) × (get_or ds i 0 ≤ 57)
  value_digit = digit_low (get_or ds i 0) (all_get digit ds a i h)

  pub value_next : Valued ds (i + 1) (v * 10 + (get_or ds i 0 - 48))
  value_next =
      let d = value_digit in
      record { small = rw (add-one i) (omega (arith, p.small, d.1, pow-suc 10 i)); value = p.value ∙ rw (drop-next ds i h) }
