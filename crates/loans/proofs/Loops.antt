-- Laws of the loops over a part of the loans image.
use mathlib.Core.Path.{◌≡◌, refl, sym, ap, ap₂, ◌∙◌}
use mathlib.Core.Bool.{Bool, true, false, ◌&&◌, cond}
use mathlib.Core.List.{List, [], ◌∷◌, ◌++◌, append-nil}
use Prim.Native.Nat.{ℕ, suc, ◌+◌, ◌≤◌, ◌<◌}
use native.Mathlib.Omega.{arith}
use native.Mathlib.Nat.{add-zero}
use native.Mathlib.Numerals.{add-one}
use lib.ListN.{length, get_or, take, drop, set, length-set, drop_of_length-le}
use lib.Seq.{drop-cons, take-suc, take-suc-set, take-set-le, drop-set-lt, get_or-set_same, append_snoc, take_all, take-length, drop-length}
use lib.Dec.{eqb}
use lib.Bits.{bit_or}
use Rattle.bits.specs.Sets.{keep}
use Rattle.bits.proofs.Sets.{and_swap}
use Rattle.bits.proofs.Scan.{or-zero}
use Rattle.bits.proofs.Indexed.{keep-next}
use Rattle.loans.specs.Words.{unmasked}

-- ---- the sums of the masks
pub dead_zero : (a b c : ℕ) → eqb (bit_or (bit_or a b) c) 0 ≡ eqb a 0 && eqb b 0 && eqb c 0
dead_zero a b c = or-zero (bit_or a b) c ∙ ap (λ x. x && eqb c 0) (or-zero a b)

pub note_zero : (d : List ℕ) (a b c p i q : ℕ)
    → eqb (bit_or a (get_or d p 0)) 0 && eqb (bit_or b (get_or d i 0)) 0 && eqb (bit_or c (get_or d q 0)) 0
    ≡ (eqb a 0 && eqb b 0 && eqb c 0) && (unmasked d p && unmasked d i && unmasked d q)
note_zero d a b c p i q =
    rw (or-zero a (get_or d p 0), or-zero b (get_or d i 0), or-zero c (get_or d q 0))
    (ap (λ x. x && (eqb c 0 && unmasked d q)) (and_swap (eqb a 0) (unmasked d p) (eqb b 0) (unmasked d i))
    ∙ and_swap (eqb a 0 && eqb b 0) (unmasked d p && unmasked d i) (eqb c 0) (unmasked d q))

-- ---- a word moved through a part: the first i, the one held, and the rest are these words
pub record Held (words s : List ℕ) (hold i n : ℕ) : Type 0 where
  pub within : i ≤ n
  pub long : length s ≡ n
  pub whole : words ≡ take i s ++ (hold ∷ drop i s)

-- before the first turn of either loop
pub held_none : (s : List ℕ) (word : ℕ) → Held (word ∷ s) s word 0 (length s)
held_none s word = record { within = omega arith; long = refl; whole = refl }

pub held_all : (s : List ℕ) (word : ℕ) → Held (s ++ (word ∷ [])) s word (length s) (length s)
held_all s word = record { within = omega arith; long = refl; whole = rw (take-length s, drop-length s) }

module _ (words s : List ℕ) (hold i n : ℕ) (k : Held words s hold i n) where
  pub push_more : i < n → Held words (set s i hold) (get_or s i 0) (i + 1) n
  push_more h =
      let l : i < length s = omega (arith, k.long) in
      record {
        within = omega arith;
        long = length-set s i hold ∙ k.long;
        whole =
            k.whole ∙ rw (add-one i, drop-set-lt (suc i) s i hold (omega arith), take-suc-set s i hold l, drop-cons s i 0 l)
            (sym (append_snoc (take i s) hold (get_or s i 0 ∷ drop (suc i) s)));
      }

  pub push_end : n ≤ i → s ++ (hold ∷ []) ≡ words
  push_end h = sym (k.whole ∙ rw (drop_of_length-le s {i = i} (omega (arith, k.long)), take_all i s (omega (arith, k.long))))

  pub pull_more : (j : ℕ) → i ≡ suc j → Held words (set s j hold) (get_or s j 0) j n
  pull_more j e =
      let l : j < length s = omega (arith, k.long, k.within) in
      record {
        within = omega (arith, k.within);
        long = length-set s j hold ∙ k.long;
        whole =
            k.whole ∙ rw (e, take-suc s j 0 l, append_snoc (take j s) (get_or s j 0) (hold ∷ drop (suc j) s))
            (ap₂ (λ (x y : List ℕ). x ++ (get_or s j 0 ∷ y)) (sym (take-set-le j s j hold (omega arith)))
            (sym (drop-cons (set s j hold) j 0 (simp length-set l)
            ∙ rw (get_or-set_same s j hold 0 l, drop-set-lt (suc j) s j hold (omega arith)))));
      }

  pub pull_end : i ≡ 0 → hold ∷ s ≡ words
  pull_end e = sym (k.whole ∙ rw e)

-- ---- the words that stay, moved down: those of old are the place words written, then those that stay of the rest
pub record Packed (p : ℕ → Bool) (old s : List ℕ) (place i : ℕ) : Type 0 where
  pub behind : place ≤ i
  pub within : i ≤ length old
  pub long : length s ≡ length old
  pub whole : keep p old ≡ take place s ++ keep p (drop i s)

pub pack_more : (p : ℕ → Bool) (old s : List ℕ) (place i k : ℕ) → Packed p old s place i → i < length old
    → k ≡ cond (p (get_or s i 0)) 1 0 → Packed p old (set s place (get_or s i 0)) (place + k) (i + 1)
pack_more p old s place i k e h q =
    let r = go (p x) refl q in
    record {
      behind = omega (arith, e.behind, r.0);
      within = omega arith;
      long = length-set s place x ∙ e.long;
      whole = e.whole ∙ rw (keep-next p s i 0 l, add-one i, drop-set-lt (suc i) s place x (omega (arith, e.behind))) r.1;
    }
  where
    x : ℕ
    x = get_or s i 0

    l : i < length s
    l = omega (arith, e.long)

    go : (b : Bool) → p x ≡ b → k ≡ cond b 1 0
        → (k ≤ 1) × (take place s ++ cond (p x) (x ∷ keep p (drop (suc i) s)) (keep p (drop (suc i) s)) ≡ take (place + k)
        (set s place x) ++ keep p (drop (suc i) s))
    go true t q = (
      omega arith,
      rw (t, q, add-one place, take-suc-set s place x (omega (arith, e.behind)))
          (sym (append_snoc (take place s) x (keep p (drop (suc i) s)))),
    )
    go false t q = (omega arith, rw (t, q, add-zero place, take-set-le place s place x (omega arith)))

pub pack_end : (p : ℕ → Bool) (old s : List ℕ) (place i : ℕ) → Packed p old s place i → length old ≤ i → take place s ≡ keep p old
unfolding keep
pack_end p old s place i e h = sym (e.whole ∙ rw (drop_of_length-le s {i = i} (omega (arith, e.long))) (append-nil (take place s)))
