-- What a line asks for, read by the patterns of the grammar. A line stands here without its byte 10.
use Rattle.std.specs.Prelude.{Option, Some, None, Bool, true, false, not, ◌&&◌, ◌||◌, cond, List, [], ◌∷◌, ◌++◌, ℕ, ◌+◌, ◌-◌, ◌*◌, length, take, drop, get_or, eqb, leb}
use Rattle.std.specs.Option.{option_and_then}
use Rattle.bits.specs.Sets.{all}
use Rattle.lines.specs.declared.Request.{Request}
use Rattle.lines.specs.Grammar.{Kind, number, set, Part, literal, value, Form, forms, meaning}

-- l begins with w
abbrev pub starts_with : List ℕ → List ℕ → Bool
starts_with [] l = true
starts_with (a ∷ w) [] = false
starts_with (a ∷ w) (b ∷ l) = cond (eqb b a) (starts_with w l) false

-- ---- values
-- a byte that is a decimal digit
abbrev pub digit : ℕ → Bool
digit b = leb 48 b && leb b 57

-- the digits that l begins with
abbrev pub digits : List ℕ → List ℕ
digits [] = []
digits (b ∷ l) = cond (digit b) (b ∷ digits l) []

-- the value of the digits of l, after digits of value v
abbrev pub value_from : ℕ → List ℕ → ℕ
value_from v [] = v
value_from v (b ∷ l) = value_from (v * 10 + (b - 48)) l

-- the value of digits
abbrev pub value_of : List ℕ → ℕ
value_of ds = value_from 0 ds

-- 'Values are decimal, 1 to 10 digits, at most 4294967295, no leading zero but for 0 itself'
unfoldable pub decimal : List ℕ → Bool
decimal ds = leb 1 (length ds) && (leb (length ds) 10 && (leb (value_of ds) 4294967295 && (eqb (length ds) 1 || not (eqb (get_or ds 0 0) 48))))

-- the number that stands in s at a place, with the place after it
unfoldable pub number_at : List ℕ → ℕ → Option (ℕ × ℕ)
number_at s at = cond (decimal (digits (drop at s))) (Some (value_of (digits (drop at s)), at + length (digits (drop at s)))) None

-- a byte that is a lowercase hexadecimal digit
abbrev pub hexadecimal : ℕ → Bool
hexadecimal b = digit b || (leb 97 b && leb b 102)

-- the value of such a byte
abbrev pub hex_value : ℕ → ℕ
hex_value b = cond (digit b) (b - 48) (b - 87)

-- the value of hexadecimal digits, highest first, after digits of value v
abbrev pub set_from : ℕ → List ℕ → ℕ
set_from v [] = v
set_from v (b ∷ l) = set_from (v * 16 + hex_value b) l

-- the set that the bytes ds are, where next is the place after them: '16 lowercase hexadecimal digits'
unfoldable pub set_of : List ℕ → ℕ → Option (ℕ × ℕ)
set_of ds next = cond (eqb (length ds) 16 && all hexadecimal ds) (Some (set_from 0 ds, next)) None

-- the set that stands in s at a place, with the place after it
abbrev pub set_at : List ℕ → ℕ → Option (ℕ × ℕ)
set_at s at = set_of (take 16 (drop at s)) (at + 16)

-- the value of a kind that stands in s at a place
abbrev pub value_at : Kind → List ℕ → ℕ → Option (ℕ × ℕ)
value_at number s at = number_at s at
value_at set s at = set_at s at

-- ---- lines
-- reads s from place p on by what is left of a pattern, after the values vs; nothing comes after the pattern's end
unfoldable pub read_by : List Part → List ℕ → ℕ → List ℕ → Option (List ℕ)
read_by [] s p vs = cond (eqb p (length s)) (Some vs) None
read_by (literal c ∷ t) s p vs = cond (starts_with (c ∷ []) (drop p s)) (read_by t s (p + 1) vs) None
read_by (value k ∷ t) s p vs = option_and_then (λ r. read_by t s r.1 (vs ++ (r.0 ∷ []))) (value_at k s p)

-- the values of the whole line s by a pattern, or none where s has another
abbrev pub values_by : List Part → List ℕ → Option (List ℕ)
values_by t s = read_by t s 0 []

-- what a form asks for where it read the line, and else x
unfoldable pub or_else : Form → Option (List ℕ) → Option Request → Option Request
or_else f (Some vs) x = meaning f vs
or_else f None x = x

-- what the line s asks for: the form that reads it says so. 'Any other line, an empty one .. is malformed'
abbrev pub parse_by : List Form → List ℕ → Option Request
parse_by [] s = None
parse_by (f ∷ fs) s = or_else f (values_by f.pattern s) (parse_by fs s)

-- by all forms
unfoldable pub parse_line : List ℕ → Option Request
parse_line s = parse_by forms s
