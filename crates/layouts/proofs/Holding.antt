-- A unit that holds an image of grants, alone or beside more: what allowset needs to know of it. `flat-holds` and `chain-holds` say that
-- the three units are such.
use mathlib.Core.Path.{◌≡◌}
use mathlib.Core.Bool.{true}
use mathlib.Core.List.{List}
use Prim.Native.Nat.{ℕ}
use lib.ListN.{length}
use lib.Dec.{leb}
use Rattle.bits.specs.Sets.{all}
use Rattle.model.specs.declared.Arguments.{Arguments}
use Rattle.model.specs.declared.Command.TheVariants.{Allow, AllowSet}
use Rattle.model.specs.Commands.{arguments_of, members_of}
use Rattle.model.specs.Journal.{grant}
use Rattle.layouts.specs.Machine.{Machine}
use Rattle.layouts.specs.Layouts.{Layout, live_in, held, is_in_order, allowed, allowed_set}

-- `image` is the state's image of grants, and `with` the state with another one in its place
pub record Holds (L : Layout) {S : Type 0} (M : Machine S) (image : S → List ℕ) (with : S → List ℕ → S) : Type 0 where
  pub image_with : (s : S) (x : List ℕ) → image (with s x) ≡ x
  pub with_image : (s : S) → with s (image s) ≡ s
  pub with_with : (s : S) (x y : List ℕ) → with (with s x) y ≡ with s y
  -- what the table asks is asked of the image
  pub by : (s : S) (a : Arguments) → (M.facts s a).by ≡ live_in L (image s) a.by
  pub on : (s : S) (a : Arguments) → (M.facts s a).on ≡ live_in L (image s) a.on
  pub to : (s : S) (a : Arguments) → (M.facts s a).to ≡ live_in L (image s) a.to
  pub members : (s : S) (a : Arguments) → (M.facts s a).members ≡ all (live_in L (image s)) (members_of a.set)
  pub edits : (s : S) (a : Arguments) → (M.facts s a).edits ≡ held L (image s) a.by a.on 0
  -- allow and allowset change the image alone
  pub allow : (s : S) (by to on right depth : ℕ)
      → M.after s (arguments_of (Allow by to on right depth)) ≡ with s (allowed L (image s) (grant to on right depth))
  pub allow-set : (s : S) (by set on right depth : ℕ)
      → M.after s (arguments_of (AllowSet by set on right depth)) ≡ with s (allowed_set L (image s) set on right depth)
  -- the image of a state that may be read
  pub in_order : (s : S) → M.ordered s ≡ true → is_in_order L (image s) ≡ true
  -- the state may be read with any other image in order that has the same live set
  pub sized : (s : S) (x : List ℕ) → M.sized s ≡ true → length x ≡ L.cells → M.sized (with s x) ≡ true
  pub ordered : (s : S) (x : List ℕ) → M.ordered s ≡ true → is_in_order L x ≡ true
      → ((i : ℕ) → leb i 63 ≡ true → live_in L x i ≡ live_in L (image s) i) → M.ordered (with s x) ≡ true
