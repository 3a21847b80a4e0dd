-- Document 01's listing, with document 02's `last`: what its lines ask for; lines with a set, of drop and of sweep; and lines that are
-- malformed.
-- By computation.
use mathlib.Core.Path.{◌≡◌, refl}
use Prim.Native.Nat.{ℕ}
use mathlib.Core.List.{List, [], ◌∷◌, ◌++◌}
use Rattle.std.specs.Prelude.{Some, None}
use Rattle.bits.specs.Sets.{all}
use Rattle.model.specs.declared.Command.TheVariants.{Create, Allow, Withdraw, Lend, Shift, AllowSet, Drop, Sweep}
use Rattle.lines.specs.declared.Request.TheVariants.{Run, Ask}
use Rattle.lines.specs.Bytes.{bytes}
use Rattle.lines.specs.Show.{shown}
use Rattle.lines.specs.Grammar.{meaning}
use Rattle.lines.specs.Line.{parse_line, or_else, read_by, number_at, decimal, set_of}
use Rattle.lines.specs.Collect.{lines_from}
use Rattle.output.specs.Output.{newline, last_output}
use Rattle.transcript.specs.Program.{asks_of, output_from, output_of}

unfoldable pub listing_input : List ℕ
listing_input =
    bytes "do=create by=0 on=3\ndo=create by=0 on=4\ndo=create by=0 on=9\ndo=allow by=0 to=3 on=9 right=1 depth=1\n"
    ++ bytes "do=lend by=3 to=4 on=9 right=1 depth=0 last=0\ndo=check who=4 on=9 right=1\ndo=withdraw by=0 to=3 on=9 right=1\ndo=check who=4 on=9 right=1\n"

pub listing_asks :
    asks_of listing_input
    ≡ Some (Run (Create 0 3)) ∷ Some (Run (Create 0 4)) ∷ Some (Run (Create 0 9)) ∷ Some (Run (Allow 0 3 9 1 1))
    ∷ Some (Run (Lend 3 4 9 1 0 0)) ∷ Some (Ask 4 9 1) ∷ Some (Run (Withdraw 0 3 9 1)) ∷ Some (Ask 4 9 1) ∷ []
unfolding listing_input lines_from parse_line or_else meaning read_by number_at decimal
listing_asks = refl

-- malformed: a leading zero, a number too large, a field too many, two spaces, a space at the end, an empty line, fields in another order,
-- lend and recall without `last`, shift without `now`, a line that is not ended
pub malformed_lines :
    asks_of (bytes "do=create by=00 on=3\ndo=check who=4 on=9 right=4294967296\ndo=create by=0 on=3 right=1\ndo=create  by=0 on=3\n"
    ++ bytes "do=create by=0 on=3 \n\ndo=create on=3 by=0\ndo=lend by=3 to=4 on=9 right=1 depth=0\n"
    ++ bytes "do=recall by=3 to=4 on=9 right=1 depth=0\ndo=shift by=0\ndo=create by=0 on=3")
    ≡ None ∷ None ∷ None ∷ None ∷ None ∷ None ∷ None ∷ None ∷ None ∷ None ∷ None ∷ []
unfolding lines_from parse_line or_else meaning read_by number_at decimal
malformed_lines = refl

-- the largest value
pub largest_value :
    asks_of (bytes "do=lend by=3 to=4 on=9 right=1 depth=4294967295 last=4294967295\ndo=shift by=0 now=4294967295\n")
    ≡ Some (Run (Lend 3 4 9 1 4294967295 4294967295)) ∷ Some (Run (Shift 0 4294967295)) ∷ []
unfolding lines_from parse_line or_else meaning read_by number_at decimal
largest_value = refl

-- sets of items 0 to 3, and of all 64; and malformed ones: upper case, 15 digits, 17, 0x, a sign
pub set_lines :
    asks_of (bytes "do=allowset by=0 set=000000000000000f on=9 right=1 depth=2\n"
    ++ bytes "do=allowset by=0 set=ffffffffffffffff on=9 right=1 depth=2\n")
    ≡ Some (Run (AllowSet 0 15 9 1 2)) ∷ Some (Run (AllowSet 0 18446744073709551615 9 1 2)) ∷ []
unfolding lines_from parse_line or_else meaning read_by number_at decimal set_of all
set_lines = refl

pub malformed_sets :
    asks_of (bytes "do=allowset by=0 set=000000000000000F on=9 right=1 depth=2\ndo=allowset by=0 set=00000000000000f on=9 right=1 depth=2\n"
    ++ bytes "do=allowset by=0 set=0000000000000000f on=9 right=1 depth=2\ndo=allowset by=0 set=0x0000000000000f on=9 right=1 depth=2\n"
    ++ bytes "do=allowset by=0 set=+00000000000000f on=9 right=1 depth=2\n")
    ≡ None ∷ None ∷ None ∷ None ∷ None ∷ []
unfolding lines_from parse_line or_else meaning read_by number_at decimal set_of all
malformed_sets = refl

-- drops; and malformed ones: without depth, a field too many, on before to, depth before right, a leading zero, upper case, a set,
-- another word
pub drop-lines :
    asks_of (bytes "do=drop by=0 to=3 on=9 right=1 depth=2\n"
    ++ bytes "do=drop by=1 to=2 on=3 right=4 depth=4294967295\n")
    ≡ Some (Run (Drop 0 3 9 1 2)) ∷ Some (Run (Drop 1 2 3 4 4294967295)) ∷ []
unfolding lines_from parse_line or_else meaning read_by number_at decimal
drop-lines = refl

pub malformed_drops :
    asks_of (bytes "do=drop by=0 to=3 on=9 right=1\ndo=drop by=0 to=3 on=9 right=1 depth=2 last=0\n"
    ++ bytes "do=drop by=0 on=9 to=3 right=1 depth=2\ndo=drop by=0 to=3 on=9 depth=2 right=1\n"
    ++ bytes "do=drop by=0 to=3 on=9 right=1 depth=02\ndo=Drop by=0 to=3 on=9 right=1 depth=2\n"
    ++ bytes "do=drop by=0 set=000000000000000f on=9 right=1 depth=2\ndo=drops by=0 to=3 on=9 right=1 depth=2\n")
    ≡ None ∷ None ∷ None ∷ None ∷ None ∷ None ∷ None ∷ None ∷ []
unfolding lines_from parse_line or_else meaning read_by number_at decimal
malformed_drops = refl

-- sweeps; and malformed ones: without by, without its value, a field too many, upper case, another word, a leading zero, two spaces, a space
-- at the end, a number too large
pub sweep_lines :
    asks_of (bytes "do=sweep by=0\ndo=sweep by=4294967295\n") ≡ Some (Run (Sweep 0)) ∷ Some (Run (Sweep 4294967295)) ∷ []
unfolding lines_from parse_line or_else meaning read_by number_at decimal
sweep_lines = refl

pub malformed_sweeps :
    asks_of (bytes "do=sweep\ndo=sweep by=\ndo=sweep by=0 now=1\ndo=Sweep by=0\ndo=sweeps by=0\n"
    ++ bytes "do=sweep by=00\ndo=sweep  by=0\ndo=sweep by=0 \ndo=sweep by=4294967296\n")
    ≡ None ∷ None ∷ None ∷ None ∷ None ∷ None ∷ None ∷ None ∷ None ∷ []
unfolding lines_from parse_line or_else meaning read_by number_at decimal
malformed_sweeps = refl

-- 'Empty input gives `lines=0`'
pub empty_output : output_of [] ≡ bytes "lines=0\n"
unfolding output_of output_from lines_from last_output newline shown
empty_output = refl
