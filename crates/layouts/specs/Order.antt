-- An image in order, block by block: what the scan of a unit tests.
use Rattle.std.specs.Prelude.{Bool, not, ◌&&◌, ◌||◌, List, ℕ, ◌+◌, ◌*◌}
use Rattle.bits.specs.Sets.{all_below}
use Rattle.layouts.specs.Layouts.{Layout, live_in, grant_bit}

module _ (L : Layout) (s : List ℕ) where
  -- place k is empty, or names living items
  abbrev pub names_live : ℕ → Bool
  names_live k = not (grant_bit L s k) || (live_in L s (L.person k) && live_in L s (L.item k))

  -- the same of block i of n places
  unfoldable pub block_ok : ℕ → ℕ → Bool
  block_ok n i = all_below n (λ j. names_live (n * i + j))

  -- the same in two parts: place k is empty or names a living item
  abbrev pub names_item : ℕ → Bool
  names_item k = not (grant_bit L s k) || live_in L s (L.item k)

  -- and is empty or names a living person
  abbrev pub names_person : ℕ → Bool
  names_person k = not (grant_bit L s k) || live_in L s (L.person k)

  -- the first of block i of n places
  unfoldable pub items_ok : ℕ → ℕ → Bool
  items_ok n i = all_below n (λ j. names_item (n * i + j))

  -- the second of block i of n places
  unfoldable pub persons_ok : ℕ → ℕ → Bool
  persons_ok n i = all_below n (λ j. names_person (n * i + j))
