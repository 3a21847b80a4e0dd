-- 'Lists turn into rows and rows into lists, by images': the same live set and grants in another layout.
use Rattle.std.specs.Prelude.{◌≡◌, not, ◌&&◌, cond, List, Result, ⊤, ℕ, length, eqb}
use Rattle.model.specs.declared.Refusal.{Refusal}
use Rattle.model.specs.Answers.{Numbered, ◌when◌else◌}
use Rattle.model.specs.Journal.{grant}
use Rattle.layouts.specs.Layouts.{Layout, live_in, grant_bit, build, is_in_order}

-- the image s of layout L, in layout M; depths are dropped
unfoldable pub convert : Layout → Layout → List ℕ → List ℕ
convert L M s = build M (live_in L s) (λ k. grant_bit L s (L.place (grant (M.person k) (M.item k) (M.right k) 0)))

-- s is read and t is written. 'conversion and holder roll know 1, 2, and judge only the image they read':
-- 1 where either buffer has a wrong length, 2 where s is not in order
abbrev pub convert_number : Layout → Layout → List ℕ → List ℕ → ℕ
convert_number L M s t =
    1 when not (eqb (length s) L.cells && eqb (length t) M.cells) else 2 when not (is_in_order L s) else 0

-- what t holds after: 'all unchanged' where it is refused
abbrev pub convert_of : Layout → Layout → List ℕ → List ℕ → List ℕ
convert_of L M s t = cond (eqb (convert_number L M s t) 0) (convert L M s) t

-- answer r, and what both buffers hold after: the contract of every conversion
abbrev pub Converts : Layout → Layout → List ℕ → List ℕ → Result ⊤ Refusal → List ℕ → List ℕ → Type 0
Converts L M s t r x y = Numbered r (convert_number L M s t) tt × (x ≡ s) × (y ≡ convert_of L M s t)
