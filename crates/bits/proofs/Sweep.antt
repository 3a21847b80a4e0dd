-- Loops over a list that put f of the place and the element at each place, from the front, and cells set to 0 in a part of a list:
-- code edits many cells so, of any width.
use mathlib.Core.Path.{◌≡◌, refl, ap, ◌∙◌, sym}
use mathlib.Core.List.{List, ◌++◌}
use Prim.Native.Nat.{ℕ, ◌+◌, ◌≤◌, ◌<◌, ◌-◌}
use native.Mathlib.Omega.{arith}
use borrow.Author.Tests.{eqb-true, eqb-false, ltb-true, ltb-false}
use lib.ListN.{length, take, drop, get_or, set, length-append, length-take, length-drop, length-set, get_or-append, get_or-eq_default, replicate, length-replicate, get_or-replicate}
use lib.Seq.{get_or-set_same, get_or-set_other, get_or-append-add, get_or-take, get_or-drop, ext_get_or}
use lib.Dec.{eqb, ltb}
use Rattle.bits.specs.Sets.{tabulate}
use Rattle.bits.specs.Zeros.{swept}
use Rattle.bits.proofs.Sets.{by_cases}
use Rattle.bits.proofs.Indexed.{tabulate_ext, length-tabulate, get_d_tabulate}

-- A loop over a list that puts f of the place and the element at each place, from the front: code sweeps cells of any width so.

-- m is old with its first k elements done
pub record Swept (f : ℕ → ℕ → ℕ) (old : List ℕ) (k : ℕ) (m : List ℕ) : Type 0 where
  pub long : length m ≡ length old
  pub done : (i : ℕ) → i < k → get_or m i 0 ≡ f i (get_or old i 0)
  pub rest : (i : ℕ) → k ≤ i → get_or m i 0 ≡ get_or old i 0

module _ (f : ℕ → ℕ → ℕ) (old : List ℕ) where
  pub swept_none : Swept f old 0 old
  swept_none = record { long = refl; done = λ i l. absurd (omega arith); rest = λ i l. refl }

  pub swept_more : (k : ℕ) (m : List ℕ) (v : ℕ) → Swept f old k m → k < length old → v ≡ f k (get_or m k 0) → Swept f old (k + 1) (set m k v)
  swept_more k m v s l e =
      record {
        long = length-set m k v ∙ s.long;
        done =
            λ i p. by_cases (eqb i k)
            (λ t. let q : i ≡ k = eqb-true i k t in
            let b : k < length m = rw s.long l in
            rw (q, get_or-set_same m k v 0 b) (e ∙ ap (f k) (s.rest k (omega arith))))
            (λ t. let q = eqb-false i k t in get_or-set_other m k i v 0 q ∙ s.done i (omega arith));
        rest = λ i p. get_or-set_other m k i v 0 (λ q. omega arith) ∙ s.rest i (omega arith);
      }

-- a list swept to 0
pub swept-zero : (old m : List ℕ) → Swept (λ i w. 0) old (length old) m → (i : ℕ) → get_or m i 0 ≡ 0
swept-zero old m s i =
    by_cases (ltb i (length old)) (λ t. s.done i (ltb-true i (length old) t))
    (λ t. get_or-eq_default m 0 (omega (arith, ltb-false i (length old) t, s.long)))

-- a sweep that looks at no element makes a table
pub swept-table : (n : ℕ) (f : ℕ → ℕ) (old m : List ℕ) → length old ≡ n → Swept (λ i x. f i) old n m → m ≡ tabulate n f
swept-table n f old m l s = tabulate_ext n f 0 m (s.long ∙ l) s.done

-- new is old with n elements from place a on set to 0
pub record Wiped (a n : ℕ) (old new : List ℕ) : Type 0 where
  pub long : length new ≡ length old
  pub inside : (i : ℕ) → a ≤ i → i < a + n → get_or new i 0 ≡ 0
  pub below : (i : ℕ) → i < a → get_or new i 0 ≡ get_or old i 0
  pub above : (i : ℕ) → a + n ≤ i → get_or new i 0 ≡ get_or old i 0

-- the part from a to a + n, lent, swept to 0, and put back
pub wiped_part : (a n : ℕ) (old part : List ℕ) → a + n ≤ length old
    → Swept (λ i w. 0) (take (a + n - a) (drop a old)) (length (take (a + n - a) (drop a old))) part
    → Wiped a n old (take a old ++ (part ++ drop (a + n - a) (drop a old)))
wiped_part a n old part h s =
    let e : a + n - a ≡ n = omega arith in
    let l : length (take (a + n - a) (drop a old)) ≡ n = simp (length-take, length-drop) (omega arith) in
    let p : length part ≡ n = s.long ∙ l in
    let f : length (take a old) ≡ a = simp length-take (omega arith) in
    record {
      long = simp (length-append, length-take, length-drop) (omega arith);
      inside =
          λ i b c. let q : i ≡ length (take a old) + (i - a) = omega arith in
          let r : i - a < length part = omega arith in
          rw q (get_or-append-add (take a old) _ (i - a) 0 ∙ get_or-append part _ 0 (i - a) r ∙ s.done (i - a) (omega arith));
      below = λ i b. let q : i < length (take a old) = omega arith in get_or-append (take a old) _ 0 i q ∙ get_or-take a old i 0 b;
      above =
          λ i b. let q : i ≡ length (take a old) + (length part + (i - a - n)) = omega arith in
          let r : a + (a + n - a + (i - a - n)) ≡ i = omega arith in
          ap (λ (j : ℕ). get_or (take a old ++ (part ++ drop (a + n - a) (drop a old))) j 0) q ∙ get_or-append-add (take a old) _ _ 0
          ∙ get_or-append-add part _ _ 0
          ∙ get_or-drop (a + n - a) (drop a old) _ 0 ∙ get_or-drop a old _ 0 ∙ ap (λ (j : ℕ). get_or old j 0) r;
    }

-- a loop that puts v at each place
pub swept_fill : (v : ℕ) (old : List ℕ) (k : ℕ) (m : List ℕ) → Swept (λ (i x : ℕ). v) old k m → length old ≤ k
    → m ≡ replicate (length old) v
swept_fill v old k m s h =
    ext_get_or 0 m (replicate (length old) v) (s.long ∙ sym (length-replicate (length old) v))
    (λ i l. let b : i < length old = rw s.long at l in s.done i (omega arith) ∙ sym (get_or-replicate (length old) i v 0 b))

-- and back
pub zeroed : (old m : List ℕ) → m ≡ replicate (length old) 0 → Swept (λ k w. 0) old (length old) m
zeroed old m e =
    let l : length {A = ℕ} (replicate (length old) 0) ≡ length old = length-replicate (length old) 0 in
    rw e
    (record {
      long = l;
      done = λ i h. get_or-replicate (length old) i 0 0 h;
      rest = λ i h. get_or-eq_default (replicate (length old) 0) 0 (omega arith) ∙ sym (get_or-eq_default old 0 h);
    })

-- a sweep of the whole list, as an equation, and back
pub swept_is : (f : ℕ → ℕ → ℕ) (old m : List ℕ) → Swept f old (length old) m → m ≡ swept f old
unfolding swept
swept_is f old m s = tabulate_ext (length old) (λ (k : ℕ). f k (get_or old k 0)) 0 m s.long s.done

pub is_swept : (f : ℕ → ℕ → ℕ) (old m : List ℕ) → m ≡ swept f old → Swept f old (length old) m
unfolding swept
is_swept f old m e =
    let l : length m ≡ length old = rw e (length-tabulate (length old) (λ (k : ℕ). f k (get_or old k 0))) in
    record {
      long = l;
      done = λ i h. rw e (get_d_tabulate (length old) (λ (k : ℕ). f k (get_or old k 0)) i 0 h);
      rest = λ i h. get_or-eq_default m 0 (omega (arith, l)) ∙ sym (get_or-eq_default old 0 h);
    }
