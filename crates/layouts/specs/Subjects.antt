-- The subjects of a unit: 'the persons with at least one grant, as a 64-bit number, bit i for item i' (document 01's 'holder roll').
-- 002's own formulas for its subject set go wrong: they leave a person off after revoking a right never held, and keep one whose
-- only object was deleted. Its section 4.1 decides: a subject is who holds a right on some object.
use Rattle.std.specs.Prelude.{◌≡◌, Bool, ◌&&◌, cond, Result, List, ℕ, eqb}
use Rattle.model.specs.declared.Refusal.{Refusal}
use Rattle.bits.specs.Sets.{any_below}
use Rattle.model.specs.Answers.{Numbered}
use Rattle.bits.specs.Bits.{of_bits}
use Rattle.layouts.specs.Layouts.{Layout, grant_bit, guarded}

module _ (L : Layout) where
  -- person p is one of them: some place about p has its bit
  abbrev pub is_subject : List ℕ → ℕ → Bool
  is_subject s p = any_below L.size (λ k. grant_bit L s k && eqb (L.person k) p)

  -- all of them, bit p for person p
  unfoldable pub subjects_of : List ℕ → ℕ
  subjects_of s = of_bits 64 (is_subject s)

  -- 'conversion and holder roll know 1, 2'
  abbrev pub subjects_number : List ℕ → ℕ
  subjects_number s = guarded L s 0

  -- 'Beside a refusal, depth, number of persons and holder roll are 0'
  abbrev pub subjects_answer : List ℕ → ℕ
  subjects_answer s = cond (eqb (subjects_number s) 0) (subjects_of s) 0

  -- answer r and image x of asking for the subjects
  abbrev pub Tells : List ℕ → Result ℕ Refusal → List ℕ → Type 0
  Tells s r x = Numbered r (subjects_number s) (subjects_of s) × (x ≡ s)
