-- Terms of the contracts of the reader's own functions. No theorem names them: what `parse` says is `parse_line`.
use Rattle.std.specs.Prelude.{◌≡◌, Option, Some, None, cond, List, [], ◌∷◌, ℕ, ◌+◌, ◌<◌, length, drop, get_or}
use Rattle.lines.specs.declared.Key.{Key}
use Rattle.lines.specs.declared.Key.TheVariants.{By, Who, To, Set, On, Right, Last, Now, Depth}
use Rattle.lines.specs.declared.Action.{Action}
use Rattle.lines.specs.declared.Action.TheVariants.{Create, Delete, Allow, AllowSet, Withdraw, Drop, Lend, Recall, Shift, Sweep, Check}
use Rattle.lines.specs.Bytes.{bytes}
use Rattle.lines.specs.Grammar.{Kind, number, set, Part, literal, value, forms, form_of}
use Rattle.lines.specs.Line.{starts_with, hexadecimal, hex_value, value_at, values_by}

-- the place after the bytes of w, where they stand at a place of s
unfoldable pub after_at : List ℕ → List ℕ → ℕ → Option ℕ
after_at w s at = cond (starts_with w (drop at s)) (Some (at + length w)) None

-- the value of a lowercase hexadecimal digit
unfoldable pub hex_value_of : ℕ → Option ℕ
hex_value_of b = cond (hexadecimal b) (Some (hex_value b)) None

-- the bytes of key at a place of s, and the value after them
unfoldable pub field_at : Kind → List ℕ → List ℕ → ℕ → Option (ℕ × ℕ)
field_at k key s at = cond (starts_with key (drop at s)) (value_at k s (at + length key)) None

-- ---- a pattern as the code has it: a word and keys
-- the bytes of a key
abbrev pub key_text : Key → List ℕ
key_text By = bytes " by="
key_text Who = bytes " who="
key_text To = bytes " to="
key_text Set = bytes " set="
key_text On = bytes " on="
key_text Right = bytes " right="
key_text Last = bytes " last="
key_text Now = bytes " now="
key_text Depth = bytes " depth="

-- the kind of its value
abbrev pub key_kind : Key → Kind
key_kind By = number
key_kind Who = number
key_kind To = number
key_kind Set = set
key_kind On = number
key_kind Right = number
key_kind Last = number
key_kind Now = number
key_kind Depth = number

-- the value of a key at a place of s
unfoldable pub key_at : Key → List ℕ → ℕ → Option (ℕ × ℕ)
key_at k s at = field_at (key_kind k) (key_text k) s at

-- a run of bytes before the rest of a pattern
abbrev pub literals : List ℕ → List Part → List Part
literals [] t = t
literals (c ∷ w) t = literal c ∷ literals w t

-- the pattern of keys
abbrev pub keys_parts : List Key → List Part
keys_parts [] = []
keys_parts (k ∷ ks) = literals (key_text k) (value (key_kind k) ∷ keys_parts ks)

-- the pattern of a verb's word and keys
abbrev pub parts_of : List ℕ → List Key → List Part
parts_of w ks = literals (bytes "do=") (literals w (keys_parts ks))

-- the place of a verb in the grammar's list
abbrev pub place : Action → ℕ
place Create = 0
place Delete = 1
place Allow = 2
place AllowSet = 3
place Withdraw = 4
place Drop = 5
place Lend = 6
place Recall = 7
place Shift = 8
place Sweep = 9
place Check = 10

-- its word
abbrev pub word_of : Action → List ℕ
word_of Create = bytes "create"
word_of Delete = bytes "delete"
word_of Allow = bytes "allow"
word_of AllowSet = bytes "allowset"
word_of Withdraw = bytes "withdraw"
word_of Drop = bytes "drop"
word_of Lend = bytes "lend"
word_of Recall = bytes "recall"
word_of Shift = bytes "shift"
word_of Sweep = bytes "sweep"
word_of Check = bytes "check"

-- its keys
abbrev pub keys_of : Action → List Key
keys_of Create = By ∷ On ∷ []
keys_of Delete = By ∷ On ∷ []
keys_of Allow = By ∷ To ∷ On ∷ Right ∷ Depth ∷ []
keys_of AllowSet = By ∷ Set ∷ On ∷ Right ∷ Depth ∷ []
keys_of Withdraw = By ∷ To ∷ On ∷ Right ∷ []
keys_of Drop = By ∷ To ∷ On ∷ Right ∷ Depth ∷ []
keys_of Lend = By ∷ To ∷ On ∷ Right ∷ Depth ∷ Last ∷ []
keys_of Recall = By ∷ To ∷ On ∷ Right ∷ Depth ∷ Last ∷ []
keys_of Shift = By ∷ Now ∷ []
keys_of Sweep = By ∷ []
keys_of Check = Who ∷ On ∷ Right ∷ []

-- ---- values in an array
-- the most values that a line has
abbrev pub most : ℕ
most = 6

-- r has the values that were read, and 0 after them
unfoldable pub ReadAs : Option (List ℕ) → Option (List ℕ) → Type 0
ReadAs (Some vs) (Some out) = (i : ℕ) → get_or out i 0 ≡ get_or vs i 0
ReadAs (Some vs) None = ⊥
ReadAs None (Some out) = ⊥
ReadAs None None = Unit

-- no verb but v has the line s
unfoldable pub Only : List ℕ → ℕ → Type 0
Only s v = (u : ℕ) (vs : List ℕ) → u < length forms → values_by (form_of u).pattern s ≡ Some vs → u ≡ v
