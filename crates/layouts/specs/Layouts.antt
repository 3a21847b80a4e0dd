-- Lists, rows and the grants of a chain unit: one theory for all three images.
-- An image begins with the live set (document 01's 'roll'), bits 0 to 63; bit 64 + k is place k, and a layout says which grant has
-- which place. The three images differ in their layout alone.
use Rattle.std.specs.Prelude.{◌≡◌, Bool, false, not, ◌&&◌, ◌||◌, cond, Option, Some, None, Result, ⊤, List, [], ◌∷◌, ℕ, ◌+◌, ◌-◌, ◌*◌, ◌/◌, ◌%◌, length, eqb, ltb}
use Rattle.model.specs.declared.Edit.{Edit}
use Rattle.model.specs.declared.Edit.TheVariants as edit
use Rattle.model.specs.declared.Arguments.{Arguments}
use Rattle.model.specs.declared.Facts.{Facts}
use Rattle.model.specs.declared.Refusal.{Refusal}
use Rattle.bits.specs.Sets.{any, all, all_below}
use Rattle.model.specs.Commands.{members_of, depths}
use Rattle.model.specs.Answers.{asked, Numbered, answer_with, flat, ◌when◌else◌}
use Rattle.layouts.specs.Machine.{Machine, guarded_by}
use Rattle.model.specs.Journal.{Grant, grant, of_each_depth}
use Rattle.bits.specs.Cells.{at, image}

-- where an image has the bit of each grant
pub record Layout : Type 0 where
  -- bits to a cell, and cells
  pub width : ℕ
  pub cells : ℕ
  -- how many places there are
  pub size : ℕ
  -- the place of a grant, and whom and what a place is about
  pub place : Grant → ℕ
  pub person : ℕ → ℕ
  pub item : ℕ → ℕ
  pub right : ℕ → ℕ

-- the cells of the three images: 'Lists: 513 words of 64 bits'
abbrev pub list_words : ℕ
list_words = 513

-- 'Rows: 4,104 bytes'
abbrev pub row_bytes : ℕ
row_bytes = 4104

-- 'Grants of a chain unit: 32,776 bytes'
abbrev pub grant_cells : ℕ
grant_cells = 32776

-- 'Lists: 513 words of 64 bits .. Word 1 + 8·on + right has bit s for each person s granted'
unfoldable pub lists : Layout
lists = record {
  width = 64;
  cells = list_words;
  size = 32768;
  place = λ g. (8 * g.item + g.right) * 64 + g.person;
  person = λ k. k % 64;
  item = λ k. k / 512;
  right = λ k. k / 64 % 8;
}

-- 'Rows: 4,104 bytes .. Byte 8 + 64·person + on has bit r for each right'
unfoldable pub rows : Layout
rows = record {
  width = 8;
  cells = row_bytes;
  size = 32768;
  place = λ g. (64 * g.person + g.item) * 8 + g.right;
  person = λ k. k / 512;
  item = λ k. k / 8 % 64;
  right = λ k. k % 8;
}

-- 'Grants of a chain unit: 32,776 bytes .. Byte 8 + 512·on + 64·right + person has bit d for each depth'
unfoldable pub grant_bytes : Layout
grant_bytes = record {
  width = 8;
  cells = grant_cells;
  size = 262144;
  place = λ g. (512 * g.item + 64 * g.right + g.person) * 8 + g.depth;
  person = λ k. k / 8 % 64;
  item = λ k. k / 4096;
  right = λ k. k / 512 % 8;
}

module _ (L : Layout) where
  -- item i lives
  abbrev pub live_in : List ℕ → ℕ → Bool
  live_in s i = at L.width s i

  -- the bit of place k
  abbrev pub grant_bit : List ℕ → ℕ → Bool
  grant_bit s k = at L.width s (64 + k)

  -- the image with this live set and these places
  unfoldable pub build : (ℕ → Bool) → (ℕ → Bool) → List ℕ
  build f g = image L.width L.cells (λ k. cond (ltb k 64) (f k) (g (k - 64)))

  -- p has a grant on o, right r, at any depth
  abbrev pub held : List ℕ → ℕ → ℕ → ℕ → Bool
  held s p o r = any (λ d. grant_bit s (L.place (grant p o r d))) depths

  -- 'An image is in order when item 0 lives, no dead item is named in it'
  unfoldable pub is_in_order : List ℕ → Bool
  is_in_order s = live_in s 0 && all_below L.size (λ k. not (grant_bit s k) || (live_in s (L.person k) && live_in s (L.item k)))

  -- the answer n, after numbers 1 and 2
  abbrev pub guarded : List ℕ → ℕ → ℕ
  guarded s n = guarded_by (eqb (length s) L.cells) (is_in_order s) n

  -- what the table asks; no loan is ever in the way here
  abbrev pub facts_of : List ℕ → Arguments → Facts
  facts_of s a = record {
    by = live_in s a.by;
    on = live_in s a.on;
    to = live_in s a.to;
    members = all (live_in s) (members_of a.set);
    edits = held s a.by a.on 0;
    back = false;
    past = false;
    full = false;
  }

  -- the image with item o and an edit grant on it to p
  abbrev pub created : List ℕ → ℕ → ℕ → List ℕ
  created s p o = build (λ i. eqb i o || live_in s i) (λ k. eqb (L.place (grant p o 0 0)) k || grant_bit s k)

  -- without item o
  abbrev pub deleted : List ℕ → ℕ → List ℕ
  deleted s o = build (λ i. live_in s i && not (eqb i o)) (λ k. grant_bit s k && not (eqb (L.person k) o || eqb (L.item k) o))

  -- with grant g
  abbrev pub allowed : List ℕ → Grant → List ℕ
  allowed s g = build (live_in s) (λ k. eqb (L.place g) k || grant_bit s k)

  -- with a grant on o, right r, depth d to each member of a set: the places of these grants have their bits, the rest is as it was
  abbrev pub allowed_set : List ℕ → ℕ → ℕ → ℕ → ℕ → List ℕ
  allowed_set s set o r d = build (live_in s) (λ k. any (λ p. eqb (L.place (grant p o r d)) k) (members_of set) || grant_bit s k)

  -- without grant g: a drop
  abbrev pub dropped : List ℕ → Grant → List ℕ
  dropped s g = build (live_in s) (λ k. grant_bit s k && not (eqb (L.place g) k))

  -- the same of several grants, one after the other
  abbrev pub dropped_all : List ℕ → List Grant → List ℕ
  dropped_all s [] = s
  dropped_all s (g ∷ gs) = dropped_all (dropped s g) gs

  -- 'withdraw is eight drops .. done as one': without p's grants on o, right r, of each depth. In lists and rows they have one place; that
  -- every place about p, o and r is cleared, and no other, is `withdrawn-places`
  unfoldable pub withdrawn : List ℕ → ℕ → ℕ → ℕ → List ℕ
  withdrawn s p o r = dropped_all s (of_each_depth p o r)

  -- the image after an accepted command
  abbrev pub edited : List ℕ → Arguments → Option Edit → List ℕ
  edited s a (Some edit.Create) = created s a.by a.on
  edited s a (Some edit.Delete) = deleted s a.on
  edited s a (Some edit.Allow) = allowed s (grant a.to a.on a.right a.depth)
  edited s a (Some edit.Withdraw) = withdrawn s a.to a.on a.right
  edited s a (Some edit.AllowSet) = allowed_set s a.set a.on a.right a.depth
  edited s a None = s

  -- by the change that its arguments name
  abbrev pub after : List ℕ → Arguments → List ℕ
  after s a = edited s a a.edit

  -- a unit of this layout: lists, rows; none of their commands counts anything
  abbrev pub flat_unit : Machine (List ℕ)
  flat_unit = record {
    has = flat;
    sized = λ s. eqb (length s) L.cells;
    ordered = is_in_order;
    facts = facts_of;
    after = after;
    counts = λ s a. 0;
  }

  -- answer r and image x of a look at the image alone, which knows 1 and 2
  abbrev pub Inspects : List ℕ → Result ⊤ Refusal → List ℕ → Type 0
  Inspects s r x = Numbered r (guarded s 0) tt × (x ≡ s)

  -- the check's number
  abbrev pub check_number : List ℕ → ℕ → ℕ → ℕ → ℕ
  check_number s p o r = guarded s (asked p o r)

  -- whether it says yes: never beside a refusal
  abbrev pub check_yes : List ℕ → ℕ → ℕ → ℕ → Bool
  check_yes s p o r = eqb (check_number s p o r) 0 && held s p o r

  -- the image after a check: 'no check changes an image'
  abbrev pub check_left : List ℕ → ℕ → ℕ → ℕ → List ℕ
  check_left s p o r = s

  -- answer a and image x of a check: its contract
  abbrev pub Checks : List ℕ → ℕ → ℕ → ℕ → Result Bool Refusal → List ℕ → Type 0
  Checks s p o r a x = (a ≡ answer_with (check_number s p o r) (check_yes s p o r)) × (x ≡ check_left s p o r)

  -- the image of a fresh unit: item 0 lives, with an edit grant on itself
  unfoldable pub fresh_image : List ℕ
  fresh_image = build (λ i. eqb i 0) (λ k. eqb (L.place (grant 0 0 0 0)) k)

  -- 'making a fresh unit knows 1 alone': whatever the buffer held
  abbrev pub fresh_number : List ℕ → ℕ
  fresh_number s = 1 when not (eqb (length s) L.cells) else 0

  -- the image after it: 'all unchanged' where it is refused
  abbrev pub fresh_of : List ℕ → List ℕ
  fresh_of s = cond (eqb (fresh_number s) 0) fresh_image s

  -- answer r and image x of making a fresh unit
  abbrev pub Freshens : List ℕ → Result ⊤ Refusal → List ℕ → Type 0
  Freshens s r x = Numbered r (fresh_number s) tt × (x ≡ fresh_of s)
