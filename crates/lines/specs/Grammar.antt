-- The command lines that are not malformed: a line of text for each verb. `parse_line` reads exactly these (`reads`, `reads_only` in
-- proofs/Grammar). A line stands here without its byte 10.
use Rattle.std.specs.Prelude.{◌≡◌, Option, Some, None, Bool, true, ◌&&◌, cond, List, [], ◌∷◌, ◌++◌, ℕ, zero, suc, ◌^◌, ◌<◌, length, get_or, eqb, leb, ltb}
use Prim.Native.String.{String}
use Rattle.model.specs.declared.Command.TheVariants.{Create, Delete, Allow, AllowSet, Withdraw, Drop, Lend, Recall, Shift, Sweep}
use Rattle.lines.specs.declared.Request.{Request}
use Rattle.lines.specs.declared.Request.TheVariants.{Run, Ask}
use Rattle.lines.specs.Bytes.{bytes}
use Rattle.lines.specs.Show.{shown, shown_set}

-- a value's kind: a number is written in decimal digits, a set in hexadecimal digits
pub data Kind : Type 0 where
  number : Kind
  set : Kind

-- a part of a pattern: a byte that stands there as it is, or a value
pub data Part : Type 0 where
  literal : ℕ → Part
  value : Kind → Part

-- the pattern of a text, in which # (byte 35) stands for a number and @ (byte 64) for a set
abbrev pub parts : List ℕ → List Part
parts [] = []
parts (c ∷ t) = cond (eqb c 35) (value number) (cond (eqb c 64) (value set) (literal c)) ∷ parts t

-- the number of values in a pattern
abbrev pub count : List Part → ℕ
count [] = 0
count (literal c ∷ t) = count t
count (value k ∷ t) = suc (count t)

-- what a line asks for, by its n values in their order; a malformed line asks for None
abbrev pub Asks : ℕ → Type 0
Asks zero = Option Request
Asks (suc n) = ℕ → Asks n

-- a verb's line: its pattern, and what it asks for
pub record Form : Type 0 where
  pub pattern : List Part
  pub asks : Asks (count pattern)

-- the form that a text shows
abbrev pub form : (t : String) → Asks (count (parts (bytes t))) → Form
form t f = record { pattern = parts (bytes t); asks = f }

-- 'A line is key=value fields in fixed order, one space between': '`do` (create, delete, allow, withdraw, lend, recall, check), then the
-- fields in the order of the journal section; check has who, on, right'; 'lend and recall gain `last` at the end', '`do=shift by now`',
-- '`allowset` takes by, set .., on, right, depth', 'withdraw is split: `drop` (by, to, on, right, depth)', and '`do=sweep by`'. A verb is a
-- place in this list
abbrev pub forms : List Form
forms =
    form "do=create by=# on=#" (λ by on. Some (Run (Create by on))) ∷
    form "do=delete by=# on=#" (λ by on. Some (Run (Delete by on))) ∷
    form "do=allow by=# to=# on=# right=# depth=#" (λ by to on right depth. Some (Run (Allow by to on right depth))) ∷
    form "do=allowset by=# set=@ on=# right=# depth=#" (λ by set on right depth. Some (Run (AllowSet by set on right depth))) ∷
    form "do=withdraw by=# to=# on=# right=#" (λ by to on right. Some (Run (Withdraw by to on right))) ∷
    form "do=drop by=# to=# on=# right=# depth=#" (λ by to on right depth. Some (Run (Drop by to on right depth))) ∷
    form "do=lend by=# to=# on=# right=# depth=# last=#" (λ by to on right depth last. Some (Run (Lend by to on right depth last))) ∷
    form "do=recall by=# to=# on=# right=# depth=# last=#" (λ by to on right depth last. Some (Run (Recall by to on right depth last))) ∷
    form "do=shift by=# now=#" (λ by now. Some (Run (Shift by now))) ∷
    form "do=sweep by=#" (λ by. Some (Run (Sweep by))) ∷
    form "do=check who=# on=# right=#" (λ who on right. Some (Ask who on right)) ∷
    []

-- what stands past the end of the list
abbrev pub no_form : Form
no_form = form "" None

-- the form of a verb
abbrev pub form_of : ℕ → Form
form_of v = get_or forms v no_form

-- n values in a list, from place k on, handed to what asks for them
abbrev pub applied : (n : ℕ) → Asks n → ℕ → List ℕ → Option Request
applied zero x k vs = x
applied (suc n) f k vs = applied n (f (get_or vs k 0)) (suc k) vs

-- what a form asks for with these values
unfoldable pub meaning : Form → List ℕ → Option Request
meaning f vs = applied (count f.pattern) f.asks 0 vs

-- the bytes of a value: 'decimal .. no leading zero but for 0 itself', or '16 lowercase hexadecimal digits, highest first'
abbrev pub shown_as : Kind → ℕ → List ℕ
shown_as number v = shown v
shown_as set v = shown_set v

-- a value within its kind's limit: 'at most 4294967295', or 'a 64-bit number'
abbrev pub fits_as : Kind → ℕ → Bool
fits_as number v = leb v 4294967295
fits_as set v = ltb v (2 ^ 64)

-- the bytes of a pattern with these values
abbrev pub written : List Part → List ℕ → List ℕ
written [] vs = []
written (literal c ∷ t) vs = c ∷ written t vs
written (value k ∷ t) [] = []
written (value k ∷ t) (v ∷ vs) = shown_as k v ++ written t vs

-- each of these values is within the limit of the pattern's value at its place
abbrev pub within : List Part → List ℕ → Bool
within [] vs = true
within (literal c ∷ t) vs = within t vs
within (value k ∷ t) [] = true
within (value k ∷ t) (v ∷ vs) = fits_as k v && within t vs

-- the line s asks for x: it is the line of a verb with as many values as its pattern has, each within its limit
pub record Written (s : List ℕ) (x : Option Request) : Type 0 where
  pub verb : ℕ
  pub known : verb < length forms
  pub values : List ℕ
  pub line : s ≡ written (form_of verb).pattern values
  pub many : length values ≡ count (form_of verb).pattern
  pub small : within (form_of verb).pattern values ≡ true
  pub means : x ≡ meaning (form_of verb) values
