-- One bit put into many cells, for any width w: what a loop over the cells has done after each turn (`marks_more`), and what it does to
-- an image's bits (`at-with_bits`).
use mathlib.Core.Path.{◌≡◌, refl, sym, ap, ◌∙◌}
use mathlib.Core.Bool.{Bool, true, false, ◌&&◌, ◌||◌, cond, or-false, or-true}
use mathlib.Core.List.{List}
use Prim.Native.Nat.{ℕ, ◌+◌, ◌*◌, ◌/◌, ◌%◌, ◌^◌, ◌<◌}
use native.Mathlib.Nat.{div-add-mod'}
use borrow.Author.Tests.{eqb-true, eqb-false, eq-eqb}
use lib.ListN.{length, get_or, set, length-set}
use lib.Seq.{get_or-set_same, get_or-set_other}
use lib.Arith.{digits_div, digits_mod}
use lib.Dec.{eqb}
use Rattle.bits.specs.Sets.{any_below}
use Rattle.bits.specs.Bits.{bit, with_bit}
use Rattle.bits.specs.Cells.{at}
use Rattle.bits.specs.Zeros.{with_bits}
use Rattle.bits.proofs.Sets.{iff, by_cases, fst, snd, both}
use Rattle.bits.proofs.Indexed.{some_suc, length-tabulate, get_d_tabulate, tabulate_ext}
use Rattle.bits.proofs.Bits.{bit_with, with_lt}
use Rattle.bits.proofs.Marks.{Cells}

-- a bit that is there
pub with_twice : (n b : ℕ) → with_bit (with_bit n b) b ≡ with_bit n b
with_twice n b = again (with_bit n b) (bit_with n b b ∙ rw (eq-eqb b b refl) (or-true (bit n b)))
  where
    again : (x : ℕ) → bit x b ≡ true → with_bit x b ≡ x
    again x e = unfold with_bit in (rw e)

-- m is old with bit b too at each place that passes
pub record Marks (f : ℕ → Bool) (b : ℕ) (old m : List ℕ) : Type 0 where
  pub long : length m ≡ length old
  pub cell : (k : ℕ) → k < length old → get_or m k 0 ≡ cond (f k) (with_bit (get_or old k 0) b) (get_or old k 0)

-- a loop over places g 0, g 1, and so on, that puts bit b at g i where c i
module _ (g : ℕ → ℕ) (c : ℕ → Bool) (b : ℕ) (old : List ℕ) where
  pub marks_none : Marks (λ k. any_below 0 (λ i. c i && eqb k (g i))) b old old
  unfolding any_below
  marks_none = record { long = refl; cell = λ k l. refl }

  pub marks_more : (n : ℕ) (m : List ℕ) (v : ℕ) → Marks (λ k. any_below n (λ i. c i && eqb k (g i))) b old m → g n < length old
      → v ≡ cond (c n) (with_bit (get_or m (g n) 0) b) (get_or m (g n) 0)
      → Marks (λ k. any_below (n + 1) (λ i. c i && eqb k (g i))) b old (set m (g n) v)
  marks_more n m v z l e =
      let h : g n < length m = rw z.long l in
      record {
        long = length-set m (g n) v ∙ z.long;
        cell =
            λ k j. rw (some_suc n (λ i. c i && eqb k (g i)))
            (by_cases (eqb k (g n))
            (λ t. let q : k ≡ g n = eqb-true k (g n) t in
            rw (t, q, get_or-set_same m (g n) v 0 h)
            (e ∙ rw (z.cell (g n) l) (turn (c n) (any_below n (λ i. c i && eqb (g n) (g i))) (get_or old (g n) 0))))
            (λ t. rw t (get_or-set_other m (g n) k v 0 (eqb-false k (g n) t) ∙ z.cell k j ∙ same (c n) (any_below n (λ i. c i && eqb k (g i))) _ _)));
      }
    where
      turn : (x y : Bool) (o : ℕ)
          → cond x (with_bit (cond y (with_bit o b) o) b) (cond y (with_bit o b) o) ≡ cond ((x && true) || y) (with_bit o b) o
      turn true true o = with_twice o b
      turn true false o = refl
      turn false y o = refl

      same : (x y : Bool) (u v : ℕ) → cond y u v ≡ cond ((x && false) || y) u v
      same true y u v = refl
      same false y u v = refl

module _ (f : ℕ → Bool) (b : ℕ) (s : List ℕ) where
  pub length-with_bits : length (with_bits f b s) ≡ length s
  unfolding with_bits
  length-with_bits = length-tabulate (length s) _

  pub get_or-with_bits : (k : ℕ) → k < length s → get_or (with_bits f b s) k 0 ≡ cond (f k) (with_bit (get_or s k 0) b) (get_or s k 0)
  unfolding with_bits
  get_or-with_bits k l = get_d_tabulate (length s) (λ (k : ℕ). cond (f k) (with_bit (get_or s k 0) b) (get_or s k 0)) k 0 l

  -- a loop that has put the bit into each of those cells
  pub with_bits_is : (m : List ℕ) → Marks f b s m → m ≡ with_bits f b s
  unfolding with_bits
  with_bits_is m z = tabulate_ext (length s) _ 0 m z.long z.cell

  pub at-with_bits : (w k : ℕ) → k / w < length s → at w (with_bits f b s) k ≡ at w s k || (f (k / w) && eqb (k % w) b)
  unfolding at
  at-with_bits w k l = ap (λ (x : ℕ). bit x (k % w)) (get_or-with_bits (k / w) l) ∙ go (f (k / w))
    where
      go : (x : Bool) → bit (cond x (with_bit (get_or s (k / w) 0) b) (get_or s (k / w) 0)) (k % w)
          ≡ bit (get_or s (k / w) 0) (k % w) || (x && eqb (k % w) b)
      go true = bit_with (get_or s (k / w) 0) b (k % w)
      go false = sym (or-false _)

  pub cells-with_bits : (w : ℕ) → b < w → Cells w s → Cells w (with_bits f b s)
  cells-with_bits w h c k l =
      let j : k < length s = rw length-with_bits at l in
      rw (get_or-with_bits k j) (go (f k) (get_or s k 0) (c k j))
    where
      go : (x : Bool) (o : ℕ) → o < 2 ^ w → cond x (with_bit o b) o < 2 ^ w
      go true o q = with_lt w o b q h
      go false o q = q

-- a bit of an image, by its cell and its place there
pub cell_place : (w c b : ℕ) → b < w → (k : ℕ) → eqb (k / w) c && eqb (k % w) b ≡ eqb k (c * w + b)
cell_place w c b h k =
    iff _ _
    (λ e. let p : k / w ≡ c = eqb-true (k / w) c (fst (eqb (k / w) c) (eqb (k % w) b) e) in
    let q : k % w ≡ b = eqb-true (k % w) b (snd (eqb (k / w) c) (eqb (k % w) b) e) in
    eq-eqb k (c * w + b) (sym (div-add-mod' k w) ∙ rw (p, q)))
    (λ e. let q : k ≡ c * w + b = eqb-true k (c * w + b) e in
    rw q (both (eq-eqb _ _ (digits_div c h)) (eq-eqb _ _ (digits_mod c h))))
