-- What code does to the bytes of a grants image, as the commands of document 01: the byte of person p, item o and right r stands at
-- 8 + (512 * o + 64 * r + p), and its bit d is the depth d.
use mathlib.Core.Path.{◌≡◌, ap, ◌∙◌, sym}
use mathlib.Core.Bool.{not, ◌&&◌, or_comm}
use mathlib.Core.List.{List}
use Prim.Native.Nat.{ℕ, ◌+◌, ◌*◌, ◌/◌, ◌%◌, ◌^◌, ◌<◌}
use native.Mathlib.Omega.{arith}
use borrow.Author.Tests.{eqb-true, eq-eqb, ne_eqb, leb-true}
use lib.ListN.{length, get_or, set}
use lib.Dec.{eqb, leb}
use Rattle.model.specs.Journal.{grant}
use Rattle.bits.specs.Bits.{bit, with_bit, without_bit}
use Rattle.bits.specs.Cells.{at}
use Rattle.bits.specs.Zeros.{zeroed, spaced}
use Rattle.model.specs.Commands.{depths}
use Rattle.layouts.specs.Layouts.{grant_bytes, grant_cells, held, created, deleted, allowed, dropped, withdrawn}
use Rattle.bits.proofs.Sets.{iff, fst, snd, both, any_cong}
use Rattle.model.proofs.Commands.{small}
use Rattle.layouts.proofs.Layouts.{bytes_laws}
use Rattle.bits.proofs.Marks.{Cells, marked, cleared, at_cell}
use Rattle.layouts.proofs.Subjects.{bytes_whole}
use Rattle.layouts.proofs.Edits.{in_range, allow_is, cleared_is, create_is, some_depth, withdraw_cell, delete-cells}
use Rattle.bits.proofs.Zeros.{spaced_before, spaced_block, spaced-column}

abbrev byte_at : ℕ → ℕ → ℕ → ℕ
byte_at p o r = 8 + (512 * o + 64 * r + p)

-- k is where the code finds the byte
pub grants-held : (s : List ℕ) (p o r k : ℕ) → k ≡ byte_at p o r → get_or s k 0 < 2 ^ 8 → not (eqb (get_or s k 0) 0) ≡ held grant_bytes s p o r
unfolding grant_bytes
grants-held s p o r k e h =
    sym
    (any_cong _ (bit (get_or s k 0)) (λ d. leb d 7) depths small
    (λ d m. ap (at 8 s) (let z : 64 + ((512 * o + 64 * r + p) * 8 + d) ≡ k * 8 + d = omega arith in z)
    ∙ at_cell 8 (omega arith) s k d (omega (arith, leb-true d 7 m)))
    ∙ some_depth (get_or s k 0) h)

-- the places of a byte
about : (p o r i : ℕ) → p < 64 → o < 64 → r < 8 → i < 262144
    → eqb ((64 + i) / 8) (byte_at p o r) ≡ eqb (i / 8 % 64) p && eqb (i / 4096) o && eqb (i / 512 % 8) r
about p o r i a b c u =
    iff _ _
    (λ t. let z = eqb-true ((64 + i) / 8) (byte_at p o r) t in
    both (both (eq-eqb (i / 8 % 64) p (omega arith)) (eq-eqb (i / 4096) o (omega arith))) (eq-eqb (i / 512 % 8) r (omega arith)))
    (λ t. let x = eqb-true (i / 8 % 64) p (fst _ (eqb (i / 4096) o) (fst _ (eqb (i / 512 % 8) r) t)) in
    let y = eqb-true (i / 4096) o (snd (eqb (i / 8 % 64) p) _ (fst _ (eqb (i / 512 % 8) r) t)) in
    let z = eqb-true (i / 512 % 8) r (snd (eqb (i / 8 % 64) p && eqb (i / 4096) o) _ t) in
    eq-eqb ((64 + i) / 8) (byte_at p o r) (omega arith))

module _ (s : List ℕ) (l : length s ≡ grant_cells) (h : Cells 8 s) where
  module _ (p o r : ℕ) (a : p < 64) (b : o < 64) (c : r < 8) (k : ℕ) (e : k ≡ byte_at p o r) where
    -- i is the depth as the code has it, v the byte that it puts
    pub grants-allow : (d i v : ℕ) → d < 8 → i ≡ d → v ≡ with_bit (get_or s k 0) (i % 8) → set s k v ≡ allowed grant_bytes s (grant p o r d)
    unfolding grant_bytes
    grants-allow d i v m f g =
        rw (g, f) (allow_is grant_bytes bytes_laws s l h p o r d k (d % 8) a b c m (omega arith) (omega arith))

    pub grants-drop : (d i v : ℕ) → d < 8 → i ≡ d → v ≡ without_bit (get_or s k 0) (i % 8) → set s k v ≡ dropped grant_bytes s (grant p o r d)
    unfolding grant_bytes
    grants-drop d i v m f g =
        rw (g, f)
        (cleared_is grant_bytes bytes_laws s l h _ k (d % 8) (bytes_laws.below (grant p o r d) (in_range p o r d a b c m)) (omega arith)
        (omega arith))

    pub grants-withdraw : set s k 0 ≡ withdrawn grant_bytes s p o r
    unfolding grant_bytes
    grants-withdraw =
        rw e
        (withdraw_cell grant_bytes bytes_laws s l h bytes_whole p o r (byte_at p o r) a b c (omega arith)
        (λ i u. ne_eqb (i / 8) (byte_at p o r) (λ z. omega arith))
        (λ i u. about p o r i a b c u))

  -- delete: the item out of the live set, its block, then its byte as a person in each row
  all-deleted : (on : ℕ) → on < 64
      → zeroed (spaced (8 + on) 64 512) (zeroed (spaced (8 + 512 * on) 1 512) (cleared s (on / 8) (on % 8))) ≡ deleted grant_bytes s on
  unfolding grant_bytes
  all-deleted on o =
      delete-cells grant_bytes bytes_laws s l h on (on / 8) (on % 8) (spaced (8 + 512 * on) 1 512) (spaced (8 + on) 64 512) o (omega arith)
      (omega arith) (omega arith)
      (λ i u. rw (spaced_before (8 + 512 * on) 1 512 (i / 8) (omega arith), spaced_before (8 + on) 64 512 (i / 8) (omega arith)))
      (λ i u. let e : (64 + i) / 8 ≡ 8 + i / 8 = omega arith in
      let q : i / 8 / 512 ≡ i / 4096 = omega arith in
      rw (e, spaced_block 8 512 on (i / 8) (omega arith), spaced-column 8 64 512 on (i / 8) o (omega arith), q)
      (or_comm (eqb (i / 4096) on) (eqb (i / 8 % 64) on)))

  -- u, v and x are what the three steps of the code leave, i the item as the code has it
  pub grants-delete : (on i : ℕ) (u v x : List ℕ) → on < 64 → i ≡ on → u ≡ cleared s (on / 8) (on % 8)
      → v ≡ zeroed (spaced (8 + 512 * i) 1 512) u → x ≡ zeroed (spaced (8 + i) 64 512) v → x ≡ deleted grant_bytes s on
  grants-delete on i u v x o e f g q = q ∙ rw (g, f, e) (all-deleted on o)

-- create: the item into the live set, which leaves u, then an edit grant of depth 0
pub grants-create : (s u x : List ℕ) (p o r d : ℕ) → length s ≡ grant_cells → o < 64 → r ≡ 0 → d ≡ 0 → u ≡ marked s (o / 8) (o % 8)
    → x ≡ allowed grant_bytes u (grant p o r d) → x ≡ created grant_bytes s p o
unfolding grant_bytes
grants-create s u x p o r d l b y z e q =
    q ∙ rw (e, y, z) (create_is grant_bytes bytes_laws s l p o (o / 8) (o % 8) b (omega arith) (omega arith))
