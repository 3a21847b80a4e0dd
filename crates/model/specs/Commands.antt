-- Items, rights, depths, shifts and sets of items: the limits of documents 01 and 02, and the arguments of a command, raw and within
-- their limits.
-- The commands are the enum `Command` of src/; its numbers are any numbers here.
use Rattle.std.specs.Prelude.{Bool, true, false, ◌&&◌, cond, List, [], ◌∷◌, Option, Some, None, ℕ, ◌≤◌, eqb, leb, length}
use Rattle.bits.specs.Bits.{members}
use Rattle.model.specs.declared.Command.{Command}
use Rattle.model.specs.declared.Command.TheVariants.{Create, Delete, Allow, Withdraw, Lend, Recall, Shift, AllowSet, Drop, Sweep}
use Rattle.model.specs.declared.Verb.{Verb}
use Rattle.model.specs.declared.Verb.TheVariants as verb
use Rattle.model.specs.declared.Edit.{Edit}
use Rattle.model.specs.declared.Edit.TheVariants as edit
use Rattle.model.specs.declared.Arguments.{Arguments}
use Rattle.model.specs.declared.Typed.{Typed}
use Rattle.model.specs.declared.Item.{Item}
use Rattle.model.specs.declared.Right.{Right}
use Rattle.model.specs.declared.Depth.{Depth}
use Rattle.model.specs.declared.Shift as shiftKind
use Rattle.model.specs.declared.Question.{Question}

-- ---- the arguments; a command without a `to` names `on` alone, one without a right, a depth, a shift or a set has 0 there
abbrev pub arguments : Verb → Option Edit → ℕ → ℕ → ℕ → ℕ → ℕ → ℕ → ℕ → Arguments
arguments v e by to on right depth shift set =
    record { verb = v; edit = e; by = by; to = to; on = on; right = right; depth = depth; shift = shift; set = set }

-- each command's arguments, in the order in which the paper names them
abbrev pub arguments_of : Command → Arguments
arguments_of (Create by on) = arguments verb.Create (Some edit.Create) by on on 0 0 0 0
arguments_of (Delete by on) = arguments verb.Delete (Some edit.Delete) by on on 0 0 0 0
arguments_of (Allow by to on right depth) = arguments verb.Allow (Some edit.Allow) by to on right depth 0 0
arguments_of (Withdraw by to on right) = arguments verb.Withdraw (Some edit.Withdraw) by to on right 0 0 0
-- 'lend and recall gain `last` at the end'
arguments_of (Lend by to on right depth last) = arguments verb.Lend None by to on right depth last 0
arguments_of (Recall by to on right depth last) = arguments verb.Recall None by to on right depth last 0
-- '`do=shift by now` .. needs edit on item 0', which is the item it is about
arguments_of (Shift by now) = arguments verb.Shift None by 0 0 0 0 now 0
-- '`allowset` takes by, set .., on, right, depth'
arguments_of (AllowSet by set on right depth) = arguments verb.AllowSet (Some edit.AllowSet) by on on right depth 0 set
-- '`drop` (by, to, on, right, depth)': a depth of the grants of a chain unit, which lists and rows do not have
arguments_of (Drop by to on right depth) = arguments verb.Drop None by to on right depth 0 0
-- '`do=sweep by`': it names no other item
arguments_of (Sweep by) = arguments verb.Sweep None by 0 0 0 0 0 0

-- sweep 'returns how many there were': the one command that counts
abbrev pub sweeps : Verb → Bool
sweeps verb.Create = false
sweeps verb.Delete = false
sweeps verb.Allow = false
sweeps verb.Withdraw = false
sweeps verb.Lend = false
sweeps verb.Recall = false
sweeps verb.Shift = false
sweeps verb.AllowSet = false
sweeps verb.Drop = false
sweeps verb.Sweep = true

-- a command of that verb
abbrev pub is_sweep : Command → Bool
is_sweep c = sweeps (arguments_of c).verb

-- 'a 64-bit number, .. bit i for item i': the members of a set, rising
abbrev pub members_of : ℕ → List ℕ
members_of set = members 64 set

-- 'the set is empty'
abbrev pub is_empty : ℕ → Bool
is_empty set = eqb (length (members_of set)) 0

-- ---- the limits
-- 'An item is .. numbered 0 to 63': two of them
abbrev pub items : ℕ → ℕ → Bool
items i k = leb i 63 && leb k 63

-- 'Rights are 0 to 7 .. Depths are 0 to 7': one of each
abbrev pub right_depth : ℕ → ℕ → Bool
right_depth r d = leb r 7 && leb d 7

-- 'Depths are 0 to 7': all of them
abbrev pub depths : List ℕ
depths = 0 ∷ 1 ∷ 2 ∷ 3 ∷ 4 ∷ 5 ∷ 6 ∷ 7 ∷ []

-- 'Number 3 also covers a shift above 255'
abbrev pub shifts : ℕ → Bool
shifts n = leb n 255

-- '1,024 loans stand': the most that do
abbrev pub most_loans : ℕ
most_loans = 1024

-- every argument is within its limit; a set has none
abbrev pub fits : Arguments → Bool
fits a = items a.by a.to && items a.to a.on && right_depth a.right a.depth && shifts a.shift

-- the same, as bounds
pub record Ranged (a : Arguments) : Type 0 where
  pub by : a.by ≤ 63
  pub to : a.to ≤ 63
  pub on : a.on ≤ 63
  pub right : a.right ≤ 7
  pub depth : a.depth ≤ 7
  pub shift : a.shift ≤ 255

-- the arguments as items, rights, depths, shifts and sets
abbrev pub typed_of : Arguments → Typed
typed_of a = record {
  verb = a.verb;
  edit = a.edit;
  by = record { 0 = a.by };
  to = record { 0 = a.to };
  on = record { 0 = a.on };
  right = record { 0 = a.right };
  depth = record { 0 = a.depth };
  shift = record { 0 = a.shift };
  set = record { 0 = a.set };
}

-- and back
abbrev pub raw_of : Typed → Arguments
raw_of t = arguments t.verb t.edit t.by.0 t.to.0 t.on.0 t.right.0 t.depth.0 t.shift.0 t.set.0

-- none where number 3 applies
abbrev pub within_of : Arguments → Option Typed
within_of a = cond (fits a) (Some (typed_of a)) None

-- the arguments of a check, each as its kind
abbrev pub asking : ℕ → ℕ → ℕ → Question
asking who on right = record { who = record { 0 = who }; on = record { 0 = on }; right = record { 0 = right } }

-- none where number 3 applies
abbrev pub question_of : ℕ → ℕ → ℕ → Option Question
question_of who on right = cond (items who on && right_depth right 0) (Some (asking who on right)) None

-- a number as an item
abbrev pub item_of : ℕ → Option Item
item_of n = cond (leb n 63) (Some (record { 0 = n })) None

-- a number as a right
abbrev pub right_of : ℕ → Option Right
right_of n = cond (leb n 7) (Some (record { 0 = n })) None

-- a number as a depth
abbrev pub depth_of : ℕ → Option Depth
depth_of n = cond (leb n 7) (Some (record { 0 = n })) None

-- a number as a shift
abbrev pub shift_of : ℕ → Option shiftKind.Shift
shift_of n = cond (leb n 255) (Some (record { 0 = n })) None
