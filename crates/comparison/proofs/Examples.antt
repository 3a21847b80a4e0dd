-- A told story of the comparison, on words: what the two are told and answer, and where tickets say yes and the lists' journal has no
-- grant, the person issued the ticket.
use mathlib.Core.Path.{◌≡◌, refl}
use mathlib.Core.Bool.{true, false}
use mathlib.Core.List.{List, [], ◌∷◌, ◌++◌, map}
use Prim.Native.Nat.{ℕ}
use Rattle.bits.specs.Sets.{any, all, keep, add, tabulate}
use Rattle.bits.specs.Bits.{bit, with_bit, members}
use Rattle.model.specs.Journal as journal
use Rattle.model.specs.Journal.{has_grant, answered, Journal}
use Rattle.ticketing.specs.Machine.{vacancies, fresh_tickets, issued, put}
use Rattle.ticketing.specs.Order.{differ}
use Rattle.ticketing.specs.Image.{words_of, tickets_in, image_of, machine_of}
use Rattle.ticketing.specs.Unit.{check_yes, fresh_image}
use Rattle.comparison.specs.Comparison.{Shared, create, allow, listed, told, run_of, answers_of}

-- 3 may not allow on 9; 7 is dead, so that its ticket is generated and not passed
abbrev story : List Shared
story = create 0 3 ∷ create 0 9 ∷ allow 0 3 9 1 ∷ allow 3 0 9 1 ∷ allow 0 7 9 2 ∷ []

-- the words of the ticket unit after it, and all that it answers
abbrev after : List ℕ → List Shared → List ℕ
after s [] = s
after s (c ∷ cs) = after (run_of s (told s c)) cs

abbrev said : List ℕ → List Shared → List ℕ
said s [] = []
said s (c ∷ cs) = answers_of s (told s c) ++ said (run_of s (told s c)) cs

-- what the journal of the lists answers
abbrev entered : Journal → List Shared → List ℕ
entered j [] = []
entered j (c ∷ cs) = answered j (listed c) ∷ entered (journal.step j (listed c)) cs

-- done, done, generated and passed, no ticket, generated and the other dead
tickets_say : said fresh_image story ≡ 0 ∷ 0 ∷ 0 ∷ 0 ∷ 17 ∷ 0 ∷ 5 ∷ []
unfolding fresh_image fresh_tickets vacancies image_of words_of machine_of tickets_in put any all keep tabulate members differ bit with_bit
tickets_say = refl

lists_say : entered journal.fresh story ≡ 0 ∷ 0 ∷ 0 ∷ 8 ∷ 5 ∷ []
unfolding journal.fresh any all keep add tabulate members bit
lists_say = refl

-- 3's right 1 is granted; 0's right 1 and right 2 are only issued
ticket_yeses : (let s = after fresh_image story in check_yes s 3 9 1 ∷ check_yes s 0 9 1 ∷ check_yes s 0 9 2 ∷ check_yes s 3 9 2 ∷ [])
    ≡ true ∷ true ∷ true ∷ false ∷ []
unfolding fresh_image fresh_tickets vacancies image_of words_of machine_of tickets_in put any all keep tabulate members differ bit with_bit
ticket_yeses = refl

list_yeses : (let j = journal.run journal.fresh (map listed story) in
    has_grant j 3 9 1 ∷ has_grant j 0 9 1 ∷ has_grant j 0 9 2 ∷ has_grant j 3 9 2 ∷ [])
    ≡ true ∷ false ∷ false ∷ false ∷ []
unfolding journal.fresh any all keep add tabulate members bit
list_yeses = refl

issues : (let m = machine_of (after fresh_image story) in issued m 3 9 1 ∷ issued m 0 9 1 ∷ issued m 0 9 2 ∷ issued m 3 9 2 ∷ [])
    ≡ false ∷ true ∷ true ∷ false ∷ []
unfolding fresh_image fresh_tickets vacancies image_of words_of machine_of tickets_in put any all keep tabulate members differ bit with_bit
issues = refl
