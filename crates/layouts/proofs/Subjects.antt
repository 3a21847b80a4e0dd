-- The subjects are exactly the persons who hold a right on an item; of a journal, those whom some grant names as person.
use mathlib.Core.Path.{◌≡◌, sym, ap, ◌∙◌}
use mathlib.Core.Bool.{true, ◌&&◌}
use mathlib.Core.List.{List}
use Prim.Native.Nat.{ℕ, ◌/◌, ◌%◌, ◌≤◌, ◌<◌}
use native.Mathlib.Omega.{arith}
use borrow.Author.Tests.{eqb-true, eq-eqb, leb-true, le-leb}
use lib.Dec.{eqb, leb}
use Rattle.bits.specs.Sets.{any}
use Rattle.bits.specs.Bits.{bit}
use Rattle.model.specs.Journal.{Grant, Journal, grant, same_grant, lives}
use Rattle.model.specs.Commands.{depths}
use Rattle.layouts.specs.Layouts.{Layout, lists, rows, grant_bytes, grant_bit, held}
use Rattle.layouts.specs.Subjects.{subjects_of, is_subject}
use Rattle.bits.proofs.Sets.{iff, fst, snd, both, find, any_same, any_mono, found, eqb_self}
use Rattle.bits.proofs.Indexed.{some_intro, some_elim}
use Rattle.bits.proofs.Bits.{bit-of_bits}
use Rattle.model.specs.Invariant.{ranged, sound, Inv}
use Rattle.model.proofs.Invariant.{same_grant_lem}
use Rattle.layouts.specs.Laws.{Laws, image_of, Flat, Whole}
use Rattle.model.proofs.Commands.{depth_in, small}
use Rattle.layouts.proofs.Layouts.{bit-at_of, bytes_laws}
use Rattle.layouts.proofs.Edits.{in_range, lists-flat, rows-flat}
use Rattle.layouts.proofs.Convert.{about}

pub flat-whole : (L : Layout) → Flat L → Whole L
flat-whole L F = record { laws = F.laws; grant-at = about L; place_at = F.onto; ranged-at = F.within }

pub lists-whole : Whole lists
lists-whole = flat-whole lists lists-flat

pub rows_whole : Whole rows
rows_whole = flat-whole rows rows-flat

pub bytes_whole : Whole grant_bytes
unfolding grant_bytes
bytes_whole = record {
  laws = bytes_laws;
  grant-at = λ k. grant (k / 8 % 64) (k / 4096) (k / 512 % 8) (k % 8);
  place_at = λ k h. omega arith;
  ranged-at = λ k h. in_range (k / 8 % 64) (k / 4096) (k / 512 % 8) (k % 8) (omega arith) (omega arith) (omega arith) (omega arith);
}

module _ (L : Layout) where
  pub subject_bit : (s : List ℕ) (p : ℕ) → p < 64 → bit (subjects_of L s) p ≡ is_subject L s p
  unfolding subjects_of
  subject_bit s p h = bit-of_bits 64 (is_subject L s) p h

-- the bit of a grant is a right held
pub bit-holds : (L : Layout) (s : List ℕ) (g : Grant) → ranged g ≡ true → grant_bit L s (L.place g) ≡ true
    → held L s g.person g.item g.right ≡ true
bit-holds L s g r t =
    let d : leb g.depth 7 ≡ true = search (fst, snd) in
    any_same (λ d. grant_bit L s (L.place (grant g.person g.item g.right d))) eqb eqb-true g.depth depths
    (depth_in g.depth d) t

-- ---- a subject holds a right on an item, and who holds one is a subject
module _ (L : Layout) (H : Whole L) (s : List ℕ) (p : ℕ) (h : p < 64) where
  about_subject : (k : ℕ) → k < L.size → grant_bit L s k ≡ true → L.person k ≡ p → (g : Grant) → ranged g ≡ true → L.place g ≡ k
      → (o : ℕ) × (r : ℕ) × (o ≤ 63) × (r ≤ 7) × (held L s p o r ≡ true)
  about_subject k l t u g r q =
      let w : g.person ≡ p = sym (H.laws.person_of g r) ∙ ap L.person q ∙ u in
      let a : leb g.item 63 ≡ true = search (fst, snd) in
      let b : leb g.right 7 ≡ true = search (fst, snd) in
      (g.item, g.right, leb-true _ 63 a, leb-true _ 7 b, rw w at (bit-holds L s g r (ap (grant_bit L s) q ∙ t)))

  pub subject_holds : bit (subjects_of L s) p ≡ true → (o : ℕ) × (r : ℕ) × (o ≤ 63) × (r ≤ 7) × (held L s p o r ≡ true)
  subject_holds e =
      let f = some_elim L.size _ (sym (subject_bit L s p h) ∙ e) in
      about_subject f.0 f.1 (fst (grant_bit L s f.0) _ f.2) (eqb-true _ _ (snd (grant_bit L s f.0) _ f.2))
      (H.grant-at f.0) (H.ranged-at f.0 f.1) (H.place_at f.0 f.1)

  pub holds_subject : (o r : ℕ) → o ≤ 63 → r ≤ 7 → held L s p o r ≡ true → bit (subjects_of L s) p ≡ true
  holds_subject o r a b e =
      let f = find (λ d. grant_bit L s (L.place (grant p o r d))) (λ d. leb d 7) depths small e in
      let g : ranged (grant p o r f.0) ≡ true = both (both (le-leb p 63 (omega arith)) (le-leb o 63 a)) (both (le-leb r 7 b) f.1) in
      subject_bit L s p h
      ∙ some_intro L.size _ (L.place (grant p o r f.0)) (H.laws.below _ g) (both f.2 (eq-eqb _ _ (H.laws.person_of _ g)))

-- ---- the subjects of a journal's image are the persons of its grants
module _ (L : Layout) (W : Laws L) (j : Journal) (v : Inv j) (p : ℕ) (h : p < 64) where
  pub subjects_of_lem : bit (subjects_of L (image_of L j)) p ≡ any (λ g. eqb g.person p) j.grants
  subjects_of_lem =
      subject_bit L (image_of L j) p h ∙ iff _ _ named holds
    where
      named : is_subject L (image_of L j) p ≡ true → any (λ g. eqb g.person p) j.grants ≡ true
      named e =
          let f = some_elim L.size _ e in
          let u : L.person f.0 ≡ p = eqb-true _ _ (snd (grant_bit L (image_of L j) f.0) _ f.2) in
          any_mono (λ g. eqb (L.place g) f.0) (λ g. eqb g.person p) (sound (lives j)) j.grants v.grants-sound
          (λ g k t. eq-eqb _ _ (sym (W.person_of g (fst (ranged g) _ k)) ∙ ap L.person (eqb-true _ _ t) ∙ u))
          (sym (bit-at_of L W j f.0 f.1) ∙ fst (grant_bit L (image_of L j) f.0) _ f.2)

      holds : any (λ g. eqb g.person p) j.grants ≡ true → is_subject L (image_of L j) p ≡ true
      holds e =
          let f = found (λ g. sound (lives j) g && eqb g.person p) same_grant (λ g. simp eqb_self) j.grants
          (any_mono (λ g. eqb g.person p) (λ g. sound (lives j) g && eqb g.person p) (sound (lives j)) j.grants v.grants-sound
          (λ g k t. both k t) e) in
          let r : ranged f.0 ≡ true = fst (ranged f.0) _ (fst (sound (lives j) f.0) _ f.1) in
          let w : f.0.person ≡ p = eqb-true _ _ (snd (sound (lives j) f.0) _ f.1) in
          some_intro L.size _ (L.place f.0) (W.below f.0 r)
          (both (bit-at_of L W j (L.place f.0) (W.below f.0 r)
          ∙ any_same (λ g. eqb (L.place g) (L.place f.0)) same_grant same_grant_lem f.0 j.grants f.2 (eqb_self (L.place f.0)))
          (eq-eqb _ _ (W.person_of f.0 r ∙ w)))
