-- Where each bit of a conversion comes from, and what a turn of its loops puts in.
use mathlib.Core.Path.{◌≡◌, refl, sym, ap, ap₂, ◌∙◌}
use mathlib.Core.Bool.{Bool, true, false, not, ◌&&◌, cond, false≢true, and_comm, and-true}
use mathlib.Core.List.{List, [], ◌∷◌}
use Prim.Native.Nat.{ℕ, suc, ◌+◌, ◌-◌, ◌*◌, ◌/◌, ◌%◌, ◌^◌, ◌≤◌, ◌<◌}
use native.Mathlib.Omega.{arith}
use borrow.Author.Tests.{le-leb, leb-true, eq-eqb, eqb-true, not-true}
use lib.ListN.{length, get_or, set, length-set}
use lib.Seq.{get_or-set_same, get_or-set_other}
use lib.Dec.{eqb, leb}
use lib.Bits.{bit_and, and_le_l}
use Rattle.bits.specs.Sets.{all_below}
use Rattle.bits.specs.Bits.{bit, with_bit, without_bit, of_bits}
use Rattle.bits.specs.Cells.{at}
use Rattle.layouts.specs.Layouts.{lists, rows}
use Rattle.layouts.specs.Convert.{convert}
use Rattle.bits.proofs.Sets.{iff, fst, snd, both}
use Rattle.bits.proofs.Indexed.{below_elim, below_none, below_suc}
use Rattle.bits.proofs.Bits.{ext, bit-without, of_bits_lt, bit-of_bits, of_bits_cong, bit-and, bit_complement, bit_of_zero}
use Rattle.bits.proofs.Lowest.{bit-part}
use Rattle.bits.proofs.Eight.{byte_of}
use Rattle.std.specs.Int.{w64, to_le_bytes}
use Rattle.std.specs.List.{fold}
use native.Mathlib.Nat.{mod-lt}
use Rattle.layouts.proofs.Edits.{lists-flat, rows-flat}
use Rattle.bits.proofs.Marks.{cell_bit, cells-set}
use Rattle.layouts.proofs.Convert.{convert-live, convert-bit, convert-length, convert-cells, convert_cell}
use Rattle.convert.specs.Blocks.{lacking, ahead, full_on, stage}
use Rattle.convert.proofs.Pending.{pending, placed, lacking-length, lacking-cells, open_block, close_block, put-place, put-bit, end_blocks, at-put, begin_cells}

-- ---- lists to rows: the persons of every list so far
full-none : (f : ℕ → ℕ) → 18446744073709551615 ≡ of_bits 64 (λ p. all_below 0 (λ r. bit (f r) p))
full-none f =
    ext 64 18446744073709551615 _ (omega arith) (of_bits_lt 64 _)
    (λ i l. bit_complement 64 0 i (omega arith) l ∙ ap not (bit_of_zero i)
    ∙ sym (bit-of_bits 64 (λ p. all_below 0 (λ r. bit (f r) p)) i l ∙ below_none _))

full_more : (bits x n : ℕ) (f : ℕ → ℕ) → bits ≡ of_bits 64 (λ p. all_below n (λ r. bit (f r) p)) → x ≡ f n
    → bit_and bits x ≡ of_bits 64 (λ p. all_below (n + 1) (λ r. bit (f r) p))
full_more bits x n f e d =
    ext 64 (bit_and bits x) _ (omega (arith, and_le_l bits x, of_bits_lt 64 (λ p. all_below n (λ r. bit (f r) p)))) (of_bits_lt 64 _)
    (λ i l. bit-and bits x i
    ∙ ap₂ ◌&&◌ (ap (λ (y : ℕ). bit y i) e ∙ bit-of_bits 64 (λ p. all_below n (λ r. bit (f r) p)) i l) (ap (λ (y : ℕ). bit y i) d)
    ∙ and_comm (all_below n (λ r. bit (f r) i)) (bit (f n) i) ∙ sym (below_suc n (λ r. bit (f r) i))
    ∙ sym (bit-of_bits 64 (λ p. all_below (n + 1) (λ r. bit (f r) p)) i l))

-- a list more, and each of the lists from one on
full_fold : (xs : List ℕ) (bits n : ℕ) (f : ℕ → ℕ) → bits ≡ of_bits 64 (λ p. all_below n (λ r. bit (f r) p))
    → ((k : ℕ) → k < length xs → get_or xs k 0 ≡ f (n + k)) → fold bit_and bits xs ≡ of_bits 64 (λ p. all_below (n + length xs) (λ r. bit (f r) p))
full_fold [] bits n f e g = let z : n ≡ n + 0 = omega arith in e ∙ ap (λ (m : ℕ). of_bits 64 (λ p. all_below m (λ r. bit (f r) p))) z
full_fold (x ∷ xs) bits n f e g =
    let z : n + 1 + length xs ≡ n + suc (length xs) = omega arith in
    let y : n + 0 ≡ n = omega arith in
    full_fold xs (bit_and bits x) (n + 1) f (full_more bits x n f e (g 0 (omega arith) ∙ ap f y))
    (λ k l. g (suc k) (omega arith) ∙ ap f (let q : n + suc k ≡ n + 1 + k = omega arith in q))
    ∙ ap (λ (m : ℕ). of_bits 64 (λ p. all_below m (λ r. bit (f r) p))) z

pub full_fold_all : (xs : List ℕ) (f : ℕ → ℕ) → length xs ≡ 8 → ((k : ℕ) → k < 8 → get_or xs k 0 ≡ f k)
    → fold bit_and 18446744073709551615 xs ≡ of_bits 64 (λ p. all_below 8 (λ r. bit (f r) p))
full_fold_all xs f l g =
    full_fold xs 18446744073709551615 0 f (full-none f) (λ k h. g k (omega arith) ∙ ap f (let q : k ≡ 0 + k = omega arith in q))
    ∙ ap (λ (m : ℕ). of_bits 64 (λ p. all_below m (λ r. bit (f r) p))) (let q : 0 + length xs ≡ 8 = omega arith in q)

-- a bit that is left is one of those before
pub left_bit : (rest left b i : ℕ) → left ≡ without_bit rest b → bit left i ≡ true → bit rest i ≡ true
left_bit rest left b i e h = fst (bit rest i) (not (eqb i b)) (sym (bit-without rest b i) ∙ ap (λ (x : ℕ). bit x i) (sym e) ∙ h)

-- the bit of a right in lists
in_list : (p on b : ℕ) → p < 64 → on < 64 → b < 8
    → 64 + ((8 * ((8 * (64 * p + on) + b) / 8 % 64) + (8 * (64 * p + on) + b) % 8) * 64 + (8 * (64 * p + on) + b) / 512)
    ≡ (1 + 8 * on + b) * 64 + p % 64
in_list p on b h k l =
    let o : (8 * (64 * p + on) + b) / 8 % 64 ≡ on = omega arith in
    let r : (8 * (64 * p + on) + b) % 8 ≡ b = omega arith in
    let q : (8 * (64 * p + on) + b) / 512 ≡ p = omega arith in
    rw (o, r, q) (omega arith)

-- the byte of eight rights
every : 255 ≡ of_bits 8 (λ (b : ℕ). true)
unfolding of_bits
every = refl

-- the number of a block is that of its item, and of the right that is left where the person has not every right
nine : (i on x r : ℕ) (v : Bool) → r < 8 → x < 9 → 9 * i + cond v 0 (1 + r) ≡ 9 * on + x → (i ≡ on) × (cond v 0 (1 + r) ≡ x)
nine i on x r true h l e = (omega arith, omega arith)
nine i on x r false h l e = (omega arith, omega arith)

module _ (s : List ℕ) where
  row-live : (k b : ℕ) → k < 8 → b < 8 → at 8 (convert lists rows s) (k * 8 + b) ≡ bit (get_or s 0 0) ((8 * k + b) % 64)
  unfolding lists rows
  row-live k b h l =
      convert-live lists rows lists-flat rows-flat s (k * 8 + b) (le-leb (k * 8 + b) 63 (omega arith))
      ∙ cell_bit 64 (omega arith) s 0 ((8 * k + b) % 64) (omega arith) (k * 8 + b) (omega arith)

  -- a byte of the live set
  pub live_byte : (k : ℕ) → k < 8 → get_or s 0 0 < 2 ^ 64 → get_or (to_le_bytes w64 (get_or s 0 0)) k 0 ≡ get_or (convert lists rows s) k 0
  unfolding lists rows
  live_byte k h f =
      byte_of (get_or s 0 0) k h
      ∙ ext 8 _ (of_bits 8 (λ (b : ℕ). at 8 (convert lists rows s) (k * 8 + b))) (mod-lt _ (omega arith)) (of_bits_lt 8 _)
      (λ b l. bit-part (get_or s 0 0) (8 * k) 8 b l
      ∙ ap (bit (get_or s 0 0)) (let z : 8 * k + b ≡ (8 * k + b) % 64 = omega arith in z)
      ∙ sym (bit-of_bits 8 (λ (b : ℕ). at 8 (convert lists rows s) (k * 8 + b)) b l ∙ row-live k b h l))
      ∙ convert_cell lists rows lists-flat rows-flat s k (omega arith)

  row-grant : (p on b : ℕ) → p < 64 → on < 64 → b < 8
      → at 8 (convert lists rows s) ((8 + 64 * p + on) * 8 + b) ≡ bit (get_or s (1 + 8 * on + b) 0) (p % 64)
  unfolding lists rows
  row-grant p on b h k l =
      ap (at 8 (convert lists rows s)) (let e : (8 + 64 * p + on) * 8 + b ≡ 64 + (8 * (64 * p + on) + b) = omega arith in e)
      ∙ convert-bit lists rows lists-flat rows-flat s (8 * (64 * p + on) + b) (omega arith)
      ∙ cell_bit 64 (omega arith) s (1 + 8 * on + b) (p % 64) (omega arith) _ (in_list p on b h k l)

  -- the block of a place, both ways
  stage_is : (k on p : ℕ) → k / 8 % 64 ≡ on → k / 512 ≡ p → stage s k ≡ 9 * on + cond (bit (full_on s on) p) 0 (1 + k % 8)
  unfolding rows stage
  stage_is k on p e d = rw (e, d)

  first-stage : (k on : ℕ) → stage s k ≡ 9 * on → (k / 8 % 64 ≡ on) × (bit (full_on s on) (k / 512) ≡ true)
  first-stage k on e =
      let n = nine (k / 8 % 64) on 0 (k % 8) (bit (full_on s (k / 8 % 64)) (k / 512)) (omega arith) (omega arith)
      (sym (stage_is k _ _ refl refl) ∙ e ∙ (let z : 9 * on ≡ 9 * on + 0 = omega arith in z)) in
      (n.0, rw (← n.0) (has _ n.1))
    where
      has : (v : Bool) → cond v 0 (1 + k % 8) ≡ 0 → v ≡ true
      has true e = refl
      has false e = absurd (omega arith)

  later-stage : (k on r : ℕ) → r < 8 → stage s k ≡ 9 * on + 1 + r
      → (k / 8 % 64 ≡ on) × (k % 8 ≡ r) × (bit (full_on s on) (k / 512) ≡ false)
  later-stage k on r h e =
      let n = nine (k / 8 % 64) on (1 + r) (k % 8) (bit (full_on s (k / 8 % 64)) (k / 512)) (omega arith) (omega arith)
      (sym (stage_is k _ _ refl refl) ∙ e ∙ (let z : 9 * on + 1 + r ≡ 9 * on + (1 + r) = omega arith in z)) in
      let q = has _ n.1 in
      (n.0, q.0, rw (← n.0) q.1)
    where
      has : (v : Bool) → cond v 0 (1 + k % 8) ≡ 1 + r → (k % 8 ≡ r) × (v ≡ false)
      has true e = absurd (omega arith)
      has false e = (omega arith, refl)

  pub rows_begin : (m : List ℕ) → length m ≡ 4104 → ((i : ℕ) → i < 8 → get_or m i 0 ≡ get_or (convert lists rows s) i 0)
      → ((i : ℕ) → 8 ≤ i → get_or m i 0 ≡ 0)
      → m ≡ lacking 8 4104 (ahead (stage s) 0) (convert lists rows s)
  unfolding rows
  rows_begin m l a b =
      begin_cells 8 4104 8 (omega arith) (convert lists rows s) m (stage s) rows.person refl
      (convert-length lists rows lists-flat rows-flat s)
      (convert-cells lists rows lists-flat rows-flat s) l a b

  -- ---- the persons with every right on an item: the block has no others
  pub full_open : (on : ℕ) → lacking 8 4104 (ahead (stage s) (9 * on)) (convert lists rows s)
      ≡ lacking 8 4104 (pending (stage s) rows.person (9 * on) (full_on s on)) (convert lists rows s)
  unfolding rows
  full_open on =
      open_block 8 4104 (omega arith) (convert lists rows s) (stage s) rows.person (9 * on) (full_on s on)
      (λ k l q n. absurd (false≢true (sym n ∙ (first-stage k on q).1)))

  -- byte c of rows is of person p and item on
  full_byte : (on p j : ℕ) → on < 64 → p < 64 → bit (full_on s on) p ≡ true
      → eqb (j / 8) (8 + 64 * p + on) ≡ placed (stage s) rows.person (9 * on) p j
  unfolding rows
  full_byte on p j h k f =
      iff _ _
      (λ t. let e = eqb-true (j / 8) (8 + 64 * p + on) t in
      let z = stage_is (j - 64) on p (omega arith) (omega arith) in
      let n : 9 * on + 0 ≡ 9 * on = omega arith in
      both (le-leb 64 j (omega arith))
      (both (eq-eqb (9 * on) (stage s (j - 64)) (sym ((rw f at z) ∙ n))) (eq-eqb ((j - 64) / 512) p (omega arith))))
      (λ t. let u = leb-true 64 j (fst (leb 64 j) _ t) in
      let v = snd (leb 64 j) _ t in
      let x = (first-stage (j - 64) on (sym (eqb-true (9 * on) (stage s (j - 64)) (fst _ (eqb ((j - 64) / 512) p) v)))).0 in
      let y = eqb-true ((j - 64) / 512) p (snd (eqb (9 * on) (stage s (j - 64))) _ v) in
      eq-eqb (j / 8) (8 + 64 * p + on) (omega arith))

  full-value : (on p : ℕ) → on < 64 → p < 64 → bit (full_on s on) p ≡ true → 255 ≡ get_or (convert lists rows s) (8 + 64 * p + on) 0
  unfolding rows full_on
  full-value on p h k f =
      every ∙ of_bits_cong 8 (λ (b : ℕ). true) (λ b. at 8 (convert lists rows s) ((8 + 64 * p + on) * 8 + b))
      (λ b l. sym (row-grant p on b k h l ∙ rw (let z : p % 64 ≡ p = omega arith in z)
      (below_elim 8 (λ r. bit (get_or s (1 + 8 * on + r) 0) p) (sym (bit-of_bits 64 _ p k) ∙ f) b l)))
      ∙ convert_cell lists rows lists-flat rows-flat s (8 + 64 * p + on) (omega arith)

  pub full_put : (on p rest left : ℕ) (m : List ℕ) → on < 64 → p < 64
      → m ≡ lacking 8 4104 (pending (stage s) rows.person (9 * on) rest) (convert lists rows s)
      → bit (full_on s on) p ≡ true → left ≡ without_bit rest p
      → set m (8 + 64 * p + on) 255 ≡ lacking 8 4104 (pending (stage s) rows.person (9 * on) left) (convert lists rows s)
  unfolding rows
  full_put on p rest left m h k e f z =
      let t = convert lists rows s in
      let c = 8 + 64 * p + on in
      let l : length m ≡ 4104 = rw e (lacking-length 8 4104 (omega arith) t _) in
      rw z
      (put-place 8 4104 (omega arith) t (stage s) rows.person (9 * on) rest p m (set m c 255) e (length-set m c 255 ∙ l)
      (cells-set 8 (omega arith) m c 255 (rw e (lacking-cells 8 4104 (omega arith) t _)) (omega arith))
      (λ j b. at-put 8 m t c 255 j (omega arith) (full-value on p h k f) ∙ ap (λ y. cond y (at 8 t j) (at 8 m j)) (full_byte on p j h k f)))

  -- ---- a list of an item: the others of its persons
  pub list_open : (on r rest : ℕ) → on < 64 → r < 8
      → ((p : ℕ) → p < 64 → bit rest p ≡ bit (get_or s (1 + 8 * on + r) 0) p && not (bit (full_on s on) p))
      → lacking 8 4104 (ahead (stage s) (9 * on + 1 + r)) (convert lists rows s)
      ≡ lacking 8 4104 (pending (stage s) rows.person (9 * on + 1 + r) rest) (convert lists rows s)
  unfolding rows
  list_open on r rest h k e =
      open_block 8 4104 (omega arith) (convert lists rows s) (stage s) rows.person (9 * on + 1 + r) rest
      (λ j l q n. let z = later-stage j on r k q in
      let p : j / 512 % 64 ≡ j / 512 = omega arith in
      ap (at 8 (convert lists rows s)) (let y : 64 + j ≡ (8 + 64 * (j / 512) + on) * 8 + r = omega (arith, z.0, z.1) in y)
      ∙ row-grant (j / 512) on r (omega arith) h k
      ∙ rw p
      (sym (and-true _) ∙ ap (λ x. bit (get_or s (1 + 8 * on + r) 0) (j / 512) && not x) (sym z.2) ∙ sym (e (j / 512) (omega arith))
      ∙ n))

  list-bit : (on r p j : ℕ) → on < 64 → r < 8 → p < 64 → bit (full_on s on) p ≡ false
      → eqb j ((8 + 64 * p + on) * 8 + r) ≡ placed (stage s) rows.person (9 * on + 1 + r) p j
  unfolding rows
  list-bit on r p j h k l f =
      iff _ _
      (λ t. let e = eqb-true j ((8 + 64 * p + on) * 8 + r) t in
      let z = stage_is (j - 64) on p (omega arith) (omega arith) in
      let d : (j - 64) % 8 ≡ r = omega arith in
      let n : 9 * on + (1 + r) ≡ 9 * on + 1 + r = omega arith in
      both (le-leb 64 j (omega arith))
      (both (eq-eqb (9 * on + 1 + r) (stage s (j - 64)) (sym ((rw (f, d) at z) ∙ n))) (eq-eqb ((j - 64) / 512) p (omega arith))))
      (λ t. let u = leb-true 64 j (fst (leb 64 j) _ t) in
      let v = snd (leb 64 j) _ t in
      let x = later-stage (j - 64) on r k (sym (eqb-true (9 * on + 1 + r) (stage s (j - 64)) (fst _ (eqb ((j - 64) / 512) p) v))) in
      let y = eqb-true ((j - 64) / 512) p (snd (eqb (9 * on + 1 + r) (stage s (j - 64))) _ v) in
      eq-eqb j ((8 + 64 * p + on) * 8 + r) (omega (arith, x.0, x.1)))

  pub list_put : (on r p rest left v : ℕ) (m : List ℕ) → on < 64 → r < 8 → p < 64
      → m ≡ lacking 8 4104 (pending (stage s) rows.person (9 * on + 1 + r) rest) (convert lists rows s)
      → bit (get_or s (1 + 8 * on + r) 0) p && not (bit (full_on s on) p) ≡ true
      → v ≡ with_bit (get_or m (8 + 64 * p + on) 0) (r % 8) → left ≡ without_bit rest p
      → set m (8 + 64 * p + on) v ≡ lacking 8 4104 (pending (stage s) rows.person (9 * on + 1 + r) left) (convert lists rows s)
  unfolding rows
  list_put on r p rest left v m h k l e o q z =
      let d : r % 8 ≡ r = omega arith in
      let y : p % 64 ≡ p = omega arith in
      let f : bit (full_on s on) p ≡ false = not-true _ (snd (bit (get_or s (1 + 8 * on + r) 0) p) _ o) in
      rw (z, q, d)
      (put-bit 8 4104 (omega arith) (convert lists rows s) (stage s) rows.person (9 * on + 1 + r) rest p (8 + 64 * p + on) r m
      (omega arith) k e (row-grant p on r l h k ∙ rw y (fst _ (not (bit (full_on s on) p)) o)) (λ j b. list-bit on r p j h k l f))

  -- the end of a block, and of the last
  pub rows_close : (t u rest : ℕ) → rest ≡ 0 → u ≡ t + 1
      → lacking 8 4104 (pending (stage s) rows.person t rest) (convert lists rows s)
      ≡ lacking 8 4104 (ahead (stage s) u) (convert lists rows s)
  rows_close t u rest e d = rw (e, d) (close_block 8 4104 (omega arith) (convert lists rows s) (stage s) rows.person t)

  pub rows_end : lacking 8 4104 (ahead (stage s) 576) (convert lists rows s) ≡ convert lists rows s
  unfolding rows
  rows_end =
      end_blocks 8 4104 (omega arith) (convert lists rows s) (stage s) rows.person 576
      (convert-length lists rows lists-flat rows-flat s)
      (convert-cells lists rows lists-flat rows-flat s)
      (λ k l. rw (stage_is k _ _ refl refl)
      (last (k / 8 % 64) (k % 8) (bit (full_on s (k / 8 % 64)) (k / 512)) (omega arith) (omega arith)))
    where
      last : (i r : ℕ) (v : Bool) → i < 64 → r < 8 → 9 * i + cond v 0 (1 + r) < 576
      last i r true h k = omega arith
      last i r false h k = omega arith

-- ---- rows to lists: the block of a place, which is eight bytes of a row, and its place in the block
abbrev pub eights : ℕ → ℕ
eights k = 8 * lists.person k + lists.item k / 8

abbrev pub eighth : ℕ → ℕ
eighth k = 8 * (lists.item k % 8) + lists.right k

-- the place of bit p of list m in rows
in_row : (m p : ℕ) → m < 512 → p < 64
    → 64 + ((64 * ((64 * m + p) % 64) + (64 * m + p) / 512) * 8 + (64 * m + p) / 64 % 8) ≡ (8 + 64 * p + m / 8) * 8 + m % 8
in_row m p h l =
    let w : (64 * m + p) % 64 ≡ p = omega arith in
    let o : (64 * m + p) / 512 ≡ m / 8 = omega arith in
    let r : (64 * m + p) / 64 ≡ m = omega arith in
    rw (w, o, r) (omega arith)

-- place k of block t at b, both ways
eighth_is : (k : ℕ) → 8 * (k / 512 % 8) + k / 64 % 8 ≡ k / 64 % 64
eighth_is k = let e : k / 512 ≡ k / 64 / 8 = omega arith in rw e (within (k / 64))
  where
    within : (q : ℕ) → 8 * (q / 8 % 8) + q % 8 ≡ q % 64
    within q = omega arith

eights_is : (k : ℕ) → k / 512 / 8 ≡ k / 64 / 64
eights_is k = omega arith

spot : (t b k : ℕ) → k < 32768 → 8 * (k % 64) + k / 512 / 8 ≡ t → 8 * (k / 512 % 8) + k / 64 % 8 ≡ b
    → 64 + k ≡ (1 + 64 * (t % 8) + b) * 64 + t / 8
spot t b k l e d = joined (k / 64) (k % 64) (omega arith) (omega arith) (rw (eights_is k) at e) (rw (eighth_is k) at d) (omega arith)
  where
    joined : (q p : ℕ) → q < 512 → p < 64 → 8 * p + q / 64 ≡ t → q % 64 ≡ b → k ≡ 64 * q + p → 64 + k ≡ (1 + 64 * (t % 8) + b) * 64 + t / 8
    joined q p h l e d z =
        let x : t / 8 ≡ p = omega arith in
        let y : t % 8 ≡ q / 64 = omega arith in
        rw (x, y) (omega arith)

back : (t b k : ℕ) → t < 512 → b < 64 → k ≡ 64 * (64 * (t % 8) + b) + t / 8
    → (t ≡ 8 * (k % 64) + k / 512 / 8) × (8 * (k / 512 % 8) + k / 64 % 8 ≡ b)
back t b k h l e =
    let q : k / 64 ≡ 64 * (t % 8) + b = omega arith in
    let p : k % 64 ≡ t / 8 = omega arith in
    (rw (eights_is k, q, p) (omega arith), rw (eighth_is k, q) (omega arith))

-- bit b of block t of a list's words
eight-bit : (t b j : ℕ) → t < 512 → b < 64 → j < 32832 → eqb j ((1 + 64 * (t % 8) + b) * 64 + t / 8) ≡ placed eights eighth t b j
unfolding lists
eight-bit t b j h k l =
    iff _ _
    (λ z. let e = eqb-true j ((1 + 64 * (t % 8) + b) * 64 + t / 8) z in
    let r = back t b (j - 64) h k (omega arith) in
    both (le-leb 64 j (omega arith))
    (both (eq-eqb t (8 * ((j - 64) % 64) + (j - 64) / 512 / 8) r.0) (eq-eqb (8 * ((j - 64) / 512 % 8) + (j - 64) / 64 % 8) b r.1)))
    (λ z. let u = leb-true 64 j (fst (leb 64 j) _ z) in
    let v = snd (leb 64 j) _ z in
    let x = eqb-true t (8 * ((j - 64) % 64) + (j - 64) / 512 / 8) (fst _ (eqb (8 * ((j - 64) / 512 % 8) + (j - 64) / 64 % 8) b) v) in
    let y = eqb-true (8 * ((j - 64) / 512 % 8) + (j - 64) / 64 % 8) b (snd (eqb t (8 * ((j - 64) % 64) + (j - 64) / 512 / 8)) _ v) in
    let d : 64 + (j - 64) ≡ j = omega (arith, u) in
    eq-eqb j ((1 + 64 * (t % 8) + b) * 64 + t / 8) (sym d ∙ spot t b (j - 64) (omega (arith, u)) (sym x) y))

module _ (s : List ℕ) where
  -- bit i of eight bytes of a row
  list-grant : (t i : ℕ) → t < 512 → i < 64
      → at 64 (convert rows lists s) ((1 + 64 * (t % 8) + i) * 64 + t / 8) ≡ at 8 s (8 * (8 + 8 * t) + i)
  unfolding lists rows
  list-grant t i h l =
      ap (at 64 (convert rows lists s))
      (let e : (1 + 64 * (t % 8) + i) * 64 + t / 8 ≡ 64 + (64 * (64 * (t % 8) + i) + t / 8) = omega arith in e)
      ∙ convert-bit rows lists rows-flat lists-flat s (64 * (64 * (t % 8) + i) + t / 8) (omega arith)
      ∙ ap (at 8 s) (in_row (64 * (t % 8) + i) (t / 8) (omega arith) (omega arith)
      ∙ (let e : (8 + 64 * (t / 8) + (64 * (t % 8) + i) / 8) * 8 + (64 * (t % 8) + i) % 8 ≡ 8 * (8 + 8 * t) + i = omega arith in e))

  pub lists_begin : (m : List ℕ) (v : ℕ) → length m ≡ 513 → ((i : ℕ) → get_or m i 0 ≡ 0) → v ≡ of_bits 64 (λ i. at 8 s (8 * 0 + i))
      → set m 0 v ≡ lacking 64 513 (ahead eights 0) (convert rows lists s)
  unfolding lists rows
  lists_begin m v l z e =
      let t = convert rows lists s in
      let n : length t ≡ 513 = convert-length rows lists rows-flat lists-flat s in
      begin_cells 64 513 1 (omega arith) t (set m 0 v) eights eighth refl n
      (convert-cells rows lists rows-flat lists-flat s) (length-set m 0 v ∙ l)
      (λ i b. let q : i ≡ 0 = omega arith in
      rw (q, get_or-set_same m 0 v 0 (omega arith))
      (e ∙ of_bits_cong 64 _ _ (λ i b. sym (live i b)) ∙ convert_cell rows lists rows-flat lists-flat s 0 (omega arith)))
      (λ i b. get_or-set_other m 0 i v 0 (λ q. omega arith) ∙ z i)
    where
      live : (i : ℕ) → i < 64 → at 64 (convert rows lists s) (0 * 64 + i) ≡ at 8 s (8 * 0 + i)
      live i b =
          ap (at 64 (convert rows lists s)) (let e : 0 * 64 + i ≡ i = omega arith in e)
          ∙ convert-live rows lists rows-flat lists-flat s i (le-leb i 63 (omega arith))
          ∙ ap (at 8 s) (let e : i ≡ 8 * 0 + i = omega arith in e)

  pub lists_open : (t rest : ℕ) → t < 512 → rest ≡ of_bits 64 (λ i. at 8 s (8 * (8 + 8 * t) + i))
      → lacking 64 513 (ahead eights t) (convert rows lists s) ≡ lacking 64 513 (pending eights eighth t rest) (convert rows lists s)
  unfolding lists
  lists_open t rest h e =
      open_block 64 513 (omega arith) (convert rows lists s) eights eighth t rest
      (λ k l q n. let i : ℕ = 8 * (k / 512 % 8) + k / 64 % 8 in
      let b : i < 64 = omega arith in
      ap (at 64 (convert rows lists s)) (spot t i k (omega arith) q refl) ∙ list-grant t i h b
      ∙ sym (bit-of_bits 64 (λ i. at 8 s (8 * (8 + 8 * t) + i)) i b)
      ∙ ap (λ (x : ℕ). bit x i) (sym e) ∙ n)

  -- a bit put in, one of the eight bytes'
  pub lists-put : (t b p rest left v : ℕ) (m : List ℕ) → t < 512 → b < 64 → p ≡ t / 8 % 64
      → m ≡ lacking 64 513 (pending eights eighth t rest) (convert rows lists s)
      → bit (of_bits 64 (λ i. at 8 s (8 * (8 + 8 * t) + i))) b ≡ true
      → v ≡ with_bit (get_or m (1 + 64 * (t % 8) + b) 0) p → left ≡ without_bit rest b
      → set m (1 + 64 * (t % 8) + b) v ≡ lacking 64 513 (pending eights eighth t left) (convert rows lists s)
  unfolding lists
  lists-put t b p rest left v m h k r e o q z =
      let d : p ≡ t / 8 = omega arith in
      rw (z, q, d)
      (put-bit 64 513 (omega arith) (convert rows lists s) eights eighth t rest b (1 + 64 * (t % 8) + b) (t / 8) m (omega arith)
      (omega arith) e (list-grant t b h k ∙ sym (bit-of_bits 64 (λ i. at 8 s (8 * (8 + 8 * t) + i)) b k) ∙ o)
      (λ j g. eight-bit t b j h k g))

  pub lists_close : (t rest : ℕ) → rest ≡ 0
      → lacking 64 513 (pending eights eighth t rest) (convert rows lists s) ≡ lacking 64 513 (ahead eights (t + 1)) (convert rows lists s)
  lists_close t rest e = rw e (close_block 64 513 (omega arith) (convert rows lists s) eights eighth t)

  pub lists-end : lacking 64 513 (ahead eights 512) (convert rows lists s) ≡ convert rows lists s
  unfolding lists
  lists-end =
      end_blocks 64 513 (omega arith) (convert rows lists s) eights eighth 512 (convert-length rows lists rows-flat lists-flat s)
      (convert-cells rows lists rows-flat lists-flat s) (λ k l. omega arith)
