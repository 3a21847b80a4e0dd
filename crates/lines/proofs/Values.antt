-- A number is read exactly where its decimal digits stand.
use mathlib.Core.Path.{◌≡◌, refl, sym, ap, ◌∙◌}
use mathlib.Core.Bool.{true, not, ◌||◌, false≢true, or-true}
use mathlib.Core.List.{List, [], ◌∷◌, ◌++◌, append_assoc, append-nil}
use Prim.Native.Nat.{ℕ, zero, suc, ◌+◌, ◌-◌, ◌*◌, ◌/◌, ◌%◌, ◌≤◌, ◌<◌}
use native.Mathlib.Omega.{arith}
use borrow.Author.Tests.{leb-true, le-leb, ltb-true, ltb-false, eqb-true, eqb-false, eq-eqb, ne_eqb}
use lib.ListN.{length, drop, get_or, length-append, get_or-append}
use lib.Seq.{drop-drop, drop-append_seam}
use lib.Dec.{eqb, leb, ltb}
use Rattle.bits.specs.Sets.{all}
use Rattle.bits.proofs.Sets.{by_cases, fst, snd, both, either, all_append}
use Rattle.std.specs.Prelude.{Some, None}
use Rattle.lines.specs.Show.{shown, shown_in}
use Rattle.lines.specs.Line.{starts_with, digit, digits, value_from, value_of, decimal, number_at}
use Rattle.lines.proofs.Line.{digit_low, digits-digits, same_value, same_place}
use Rattle.lines.proofs.Decimal.{shown-one, shown_more, shown_more_length, shown-width, shown-value}

-- ---- digits
-- the digits that a list begins with, and the rest
digits_split : (l : List ℕ) → l ≡ digits l ++ drop (length (digits l)) l
digits_split [] = refl
digits_split (b ∷ l) = by_cases (digit b) (λ q. rw q (ap (λ (m : List ℕ). b ∷ m) (digits_split l))) (λ q. rw q)

digits-all : (a b : List ℕ) → all digit a ≡ true → digits b ≡ [] → digits (a ++ b) ≡ a
unfolding all
digits-all [] b h e = e
digits-all (x ∷ a) b h e =
    rw (fst (digit x) (all digit a) h) (ap (λ (m : List ℕ). x ∷ m) (digits-all a b (snd (digit x) (all digit a) h) e))

-- digits of value at least 1, and more digits after them
shown-append : (v : ℕ) (ds : List ℕ) → 1 ≤ v → all digit ds ≡ true → shown (value_from v ds) ≡ shown v ++ ds
unfolding all
shown-append v [] h a = sym (append-nil (shown v))
shown-append v (b ∷ ds) h a =
    let d = digit_low b (fst (digit b) (all digit ds) a) in
    let q : (v * 10 + (b - 48)) / 10 ≡ v = omega (arith, d.0, d.1) in
    let m : 48 + (v * 10 + (b - 48)) % 10 ≡ b = omega (arith, d.0, d.1) in
    let t : shown (v * 10 + (b - 48)) ≡ shown v ++ (b ∷ []) = rw (q, m) at (shown_more (v * 10 + (b - 48)) (omega arith)) in
    shown-append (v * 10 + (b - 48)) ds (omega arith) (snd (digit b) (all digit ds) a) ∙ ap (λ (l : List ℕ). l ++ ds) t
    ∙ append_assoc (shown v) (b ∷ []) ds

-- the digits of a value are those that show it
shown-digits : (ds : List ℕ) → all digit ds ≡ true → decimal ds ≡ true → shown (value_of ds) ≡ ds
unfolding decimal all
shown-digits [] a e = absurd (false≢true e)
shown-digits (b ∷ ds) a e =
    let d = digit_low b (fst (digit b) (all digit ds) a) in
    let lead = snd (leb (value_of (b ∷ ds)) 4294967295) _ (snd (leb (length (b ∷ ds)) 10) _ (snd (leb 1 (length (b ∷ ds))) _ e)) in
    let one : shown (0 * 10 + (b - 48)) ≡ b ∷ [] = shown-one (0 * 10 + (b - 48)) (omega (arith, d.0, d.1))
    ∙ (let s : 48 + (0 * 10 + (b - 48)) ≡ b = omega (arith, d.0) in rw s) in
    by_cases (eqb b 48)
    (λ q. short ds (either (eqb (suc (length ds)) 1) (not (eqb b 48)) lead (λ z. z) (λ z. absurd (false≢true (sym (rw q) ∙ z)))) one)
    (λ q. shown-append (0 * 10 + (b - 48)) ds (omega (arith, d.0, eqb-false b 48 q)) (snd (digit b) (all digit ds) a)
    ∙ ap (λ (l : List ℕ). l ++ ds) one)
  where
    short : (ds : List ℕ) → eqb (suc (length ds)) 1 ≡ true → shown (0 * 10 + (b - 48)) ≡ b ∷ []
        → shown (value_from (0 * 10 + (b - 48)) ds) ≡ b ∷ ds
    short [] z one = one
    short (x ∷ ds) z one = absurd (omega (arith, eqb-true (suc (suc (length ds))) 1 z))

-- ---- what is shown is a value
digit_of : (d : ℕ) → d < 10 → digit (48 + d) ≡ true
digit_of d h = both (le-leb 48 (48 + d) (omega arith)) (le-leb (48 + d) 57 (omega arith))

one-digit : (d : ℕ) → d < 10 → all digit ((48 + d) ∷ []) ≡ true
unfolding all
one-digit d h = both (digit_of d h) refl

shown-all : (f n : ℕ) → all digit (shown_in f n) ≡ true
shown-all zero n = unfold all in refl
shown-all (suc f) n =
    by_cases (ltb n 10) (λ q. rw q (one-digit n (ltb-true n 10 q)))
    (λ q. rw q (all_append digit (shown_in f (n / 10)) ((48 + n % 10) ∷ []) (shown-all f (n / 10)) (one-digit (n % 10) (omega arith))))

-- it begins with no 0, unless it is 0
shown_lead : (f n : ℕ) → n < f → 1 ≤ n → (0 < length (shown_in f n)) × (49 ≤ get_or (shown_in f n) 0 0)
shown_lead zero n h k = absurd (omega arith)
shown_lead (suc f) n h k =
    by_cases (ltb n 10) (λ q. rw q (omega arith, omega arith))
    (λ q.
    let ge = ltb-false n 10 q in
    let i = shown_lead f (n / 10) (omega arith) (omega arith) in
    rw q (
      simp length-append (omega (arith, i.0)),
      rw (get_or-append (shown_in f (n / 10)) ((48 + n % 10) ∷ []) 0 0 i.0) i.1,
    ))

first-digit : (n : ℕ) → 1 ≤ n → 49 ≤ get_or (shown n) 0 0
unfolding shown
first-digit n h = (shown_lead (suc n) n (omega arith) h).1

decimal-shown : (n : ℕ) → n ≤ 4294967295 → decimal (shown n) ≡ true
unfolding decimal
decimal-shown n h =
    both (le-leb 1 (length (shown n)) (some n)) (both (le-leb (length (shown n)) 10 (shown-width 9 n (omega arith)))
    (both (le-leb (value_of (shown n)) 4294967295 (omega (arith, shown-value n))) (lead n)))
  where
    some : (n : ℕ) → 1 ≤ length (shown n)
    some n =
        by_cases (ltb n 10) (λ q. rw (shown-one n (ltb-true n 10 q)) (omega arith))
        (λ q. omega (arith, shown_more_length n (ltb-false n 10 q)))

    lead : (n : ℕ) → (eqb (length (shown n)) 1 || not (eqb (get_or (shown n) 0 0) 48)) ≡ true
    lead n =
        by_cases (ltb n 10) (λ q. rw (shown-one n (ltb-true n 10 q)))
        (λ q. rw (ne_eqb (get_or (shown n) 0 0) 48 (λ e. omega (arith, first-digit n (omega (arith, ltb-false n 10 q)))))
        (or-true (eqb (length (shown n)) 1)))

-- ---- places
pub drop_past : (s : List ℕ) (at : ℕ) (a b : List ℕ) → drop at s ≡ a ++ b → drop (at + length a) s ≡ b
drop_past s at a b e = sym (drop-drop (length a) at s) ∙ ap (drop (length a)) e ∙ drop-append_seam a b

pub starts_split : (w l : List ℕ) → starts_with w l ≡ true → l ≡ w ++ drop (length w) l
starts_split [] l e = refl
starts_split (a ∷ w) [] e = absurd (false≢true e)
starts_split (a ∷ w) (b ∷ l) e =
    by_cases (eqb b a) (λ q. rw (eqb-true b a q) (ap (λ (m : List ℕ). a ∷ m) (starts_split w l (rw q at e))))
    (λ q. absurd (false≢true (rw q at e)))

pub starts_self : (w l : List ℕ) → starts_with w (w ++ l) ≡ true
starts_self [] l = refl
starts_self (a ∷ w) l = rw (eq-eqb a a refl) (starts_self w l)

decimal-small : (ds : List ℕ) → decimal ds ≡ true → value_of ds ≤ 4294967295
unfolding decimal
decimal-small ds e = leb-true (value_of ds) 4294967295 (fst _ _ (snd (leb (length ds) 10) _ (snd (leb 1 (length ds)) _ e)))

module _ (s : List ℕ) (at v : ℕ) where
  -- a number that is read is shown there
  pub number_seen : (n : ℕ) → number_at s at ≡ Some (v, n) → (drop at s ≡ shown v ++ drop n s) × (v ≤ 4294967295)
  unfolding number_at
  number_seen n e =
      by_cases (decimal (digits (drop at s)))
      (λ q.
      let f : Some (value_of (digits (drop at s)), at + length (digits (drop at s))) ≡ Some (v, n) = rw q at e in
      let ev : value_of (digits (drop at s)) ≡ v = same_value f in
      let en : at + length (digits (drop at s)) ≡ n = same_place f in (
        digits_split (drop at s) ∙ rw (drop-drop (length (digits (drop at s))) at s, en)
            (ap (λ (l : List ℕ). l ++ drop n s) (sym (shown-digits (digits (drop at s)) (digits-digits (drop at s)) q) ∙ ap shown ev)),
        omega (arith, decimal-small (digits (drop at s)) q),
      ))
      (λ q. let f : None ≡ Some (v, n) = rw q at e in let z : ◌≡◌ {A = ℕ} 0 1 = cc in absurd (omega arith))

  -- and one that is shown there is read
  pub number_read : (rest : List ℕ) → drop at s ≡ shown v ++ rest → v ≤ 4294967295 → digits rest ≡ []
      → number_at s at ≡ Some (v, at + length (shown v))
  unfolding number_at
  number_read rest e h stop =
      let d : digits (drop at s) ≡ shown v = ap digits e ∙ digits-all (shown v) rest (unfold shown in (shown-all (suc v) v)) stop in
      rw (d, decimal-shown v h, shown-value v)
