-- What is asked of a layout, and the image of a journal in it. The three layouts are shown to keep their laws: `lists-laws`, `rows-laws`,
-- `bytes_laws`, `lists-flat`, `rows-flat`, `bytes_whole`.
use Rattle.std.specs.Prelude.{◌≡◌, Bool, true, List, ℕ, ◌+◌, ◌*◌, ◌<◌, eqb}
use Rattle.bits.specs.Sets.{any}
use Rattle.model.specs.Journal.{Grant, Journal, grant, lives}
use Rattle.layouts.specs.Layouts.{Layout, build}
use Rattle.model.specs.Invariant.{ranged}

-- the cells hold the live set and the places, and a place tells whom and what its grant is about
pub record Laws (L : Layout) : Type 0 where
  pub wide : 0 < L.width
  pub fits : L.cells * L.width ≡ 64 + L.size
  pub below : (g : Grant) → ranged g ≡ true → L.place g < L.size
  pub person_of : (g : Grant) → ranged g ≡ true → L.person (L.place g) ≡ g.person
  pub item_of : (g : Grant) → ranged g ≡ true → L.item (L.place g) ≡ g.item
  pub right_of : (g : Grant) → ranged g ≡ true → L.right (L.place g) ≡ g.right

-- of lists and rows besides: a place has no depth, and every place is of a grant within the limits
pub record Flat (L : Layout) : Type 0 where
  pub laws : Laws L
  pub depthless : (p o r d : ℕ) → L.place (grant p o r d) ≡ L.place (grant p o r 0)
  pub onto : (k : ℕ) → k < L.size → L.place (grant (L.person k) (L.item k) (L.right k) 0) ≡ k
  pub within : (k : ℕ) → k < L.size → ranged (grant (L.person k) (L.item k) (L.right k) 0) ≡ true

-- each place is that of a grant within the limits
pub record Whole (L : Layout) : Type 0 where
  pub laws : Laws L
  pub grant-at : ℕ → Grant
  pub place_at : (k : ℕ) → k < L.size → L.place (grant-at k) ≡ k
  pub ranged-at : (k : ℕ) → k < L.size → ranged (grant-at k) ≡ true

module _ (L : Layout) where
  -- place k has its bit: some grant of the journal has that place
  abbrev pub placed : Journal → ℕ → Bool
  placed j k = any (λ g. eqb (L.place g) k) j.grants

  -- the image that holds a journal's live items and grants
  unfoldable pub image_of : Journal → List ℕ
  image_of j = build L (lives j) (placed j)
