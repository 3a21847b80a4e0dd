-- A told story of tickets: every number that a command knows, what generate gives back, what the check says and the words of an image, by
-- computation on all 1,024 places. The expected numbers are worked out from request K6.
use mathlib.Core.Path.{◌≡◌, refl}
use mathlib.Core.Bool.{Bool, true, false}
use mathlib.Core.List.{List, [], ◌∷◌}
use Prim.Native.Nat.{ℕ}
use lib.ListN.{get_or, replicate}
use Rattle.bits.specs.Sets.{any, all, count, keep, tabulate}
use Rattle.bits.specs.Bits.{bit, with_bit, without_bit, members}
use Rattle.ticketing.specs.declared.TicketCommand.{TicketCommand}
use Rattle.ticketing.specs.declared.TicketCommand.TheVariants.{Create, Generate, Pass, Remove, Delete}
use Rattle.ticketing.specs.Machine.{Tickets, ticket, tickets, only, vacancies, fresh_tickets, is_live, given, put, run, answers, ticket_yes}
use Rattle.ticketing.specs.Order.{differ, is_in_order}
use Rattle.ticketing.specs.Image.{words_of, image_of, machine_of, tickets_in}
use Rattle.ticketing.specs.Unit.{answer_of, check_number, fresh_number}

-- ---- done
-- 0 makes 3, 4 and 9: tickets 1, 2 and 3. Ticket 4, right 1 on 9, goes from 0 to 3 and from 3 to 4.
abbrev base : List TicketCommand
base = Create 0 3 ∷ Create 0 4 ∷ Create 0 9 ∷ Generate 0 9 1 ∷ Pass 0 3 4 ∷ Pass 3 4 4 ∷ []

base_done : answers fresh_tickets base ≡ 0 ∷ 0 ∷ 0 ∷ 0 ∷ 0 ∷ 0 ∷ []
unfolding fresh_tickets vacancies put any all bit with_bit
base_done = refl

-- ---- refused, in the state that they leave
abbrev refused : List TicketCommand → List ℕ
refused cs = answers (run fresh_tickets base) cs

-- 3 before 4 before 6; 3 may make an item with no ticket at all
creates : refused (Create 64 5 ∷ Create 7 64 ∷ Create 7 9 ∷ Create 0 9 ∷ Create 3 5 ∷ []) ≡ 3 ∷ 3 ∷ 4 ∷ 6 ∷ 0 ∷ []
unfolding fresh_tickets vacancies put any all bit with_bit
creates = refl

-- 3, a right above 7; 4 before 5; 5; 17, for 3 holds right 1 on 9 and not right 0
generates : refused (Generate 0 64 1 ∷ Generate 0 9 8 ∷ Generate 7 5 1 ∷ Generate 0 5 1 ∷ Generate 3 9 1 ∷ []) ≡ 3 ∷ 3 ∷ 4 ∷ 5 ∷ 17 ∷ []
unfolding fresh_tickets vacancies put any all bit with_bit
generates = refl

-- 3; 4 before 5; 5; 17, for 9 holds nothing, 3 not ticket 3, and nobody ticket 5
passes : refused (Pass 0 64 4 ∷ Pass 7 5 4 ∷ Pass 0 5 4 ∷ Pass 9 3 4 ∷ Pass 3 4 3 ∷ Pass 0 3 5 ∷ []) ≡ 3 ∷ 4 ∷ 5 ∷ 17 ∷ 17 ∷ 17 ∷ []
unfolding fresh_tickets vacancies put any all bit with_bit
passes = refl

-- 3; 4; 17, for 3 holds ticket 4 and no right 0 on 9, and no ticket has number 5
removes : refused (Remove 64 4 ∷ Remove 7 4 ∷ Remove 3 4 ∷ Remove 0 5 ∷ []) ≡ 3 ∷ 4 ∷ 17 ∷ 17 ∷ []
unfolding fresh_tickets vacancies put any all bit with_bit
removes = refl

-- 3; 4 before 5; 5; 7, not 17; 17; and by 0, who holds right 0 on 9, done
deletes : refused (Delete 0 64 ∷ Delete 7 5 ∷ Delete 0 5 ∷ Delete 3 0 ∷ Delete 3 9 ∷ Delete 0 9 ∷ []) ≡ 3 ∷ 4 ∷ 5 ∷ 7 ∷ 17 ∷ 0 ∷ []
unfolding fresh_tickets vacancies put any all bit with_bit without_bit
deletes = refl

-- ---- what ends
-- ticket 4 is gone for 3 too; its place is used again and its number is not; after delete and create, right 0 on 9 is its new maker's alone
ends : refused (
    Remove 0 4 ∷ Remove 0 4 ∷ Pass 3 4 4 ∷ Generate 0 9 2 ∷ Pass 0 3 4 ∷ Pass 0 3 5 ∷ Delete 0 9 ∷ Pass 0 3 5 ∷ Create 3 9
    ∷ Generate 0 9 1 ∷ Generate 3 9 1 ∷ []
    ) ≡ 0 ∷ 17 ∷ 17 ∷ 0 ∷ 17 ∷ 0 ∷ 0 ∷ 17 ∷ 0 ∷ 17 ∷ 0 ∷ []
unfolding fresh_tickets vacancies put any all bit with_bit without_bit
ends = refl

-- a deleted person leaves every holder set, and a new one of that number inherits nothing
inherits : refused (Delete 0 3 ∷ Create 0 3 ∷ Pass 3 4 4 ∷ Pass 4 3 4 ∷ Pass 3 4 4 ∷ []) ≡ 0 ∷ 0 ∷ 17 ∷ 0 ∷ 0 ∷ []
unfolding fresh_tickets vacancies put any all bit with_bit without_bit
inherits = refl

-- item 5 is 3's alone: 'A ticket with no holder left ends', and then nobody may delete it
orphaned : refused (Create 3 5 ∷ Delete 0 5 ∷ Delete 0 3 ∷ Generate 0 5 1 ∷ Delete 0 5 ∷ Create 0 5 ∷ []) ≡ 0 ∷ 17 ∷ 0 ∷ 17 ∷ 17 ∷ 6 ∷ []
unfolding fresh_tickets vacancies put any all bit with_bit without_bit
orphaned = refl

-- ---- numbers given: 4, 5 though ticket 4 has ended, and 0 beside a refusal
numbers : given (run fresh_tickets (Create 0 3 ∷ Create 0 4 ∷ Create 0 9 ∷ [])) (Generate 0 9 1)
    ∷ given (run fresh_tickets (Create 0 3 ∷ Create 0 4 ∷ Create 0 9 ∷ Generate 0 9 1 ∷ Remove 0 4 ∷ [])) (Generate 0 9 1)
    ∷ given (run fresh_tickets base) (Generate 3 9 1) ∷ [] ≡ 4 ∷ 5 ∷ 0 ∷ []
unfolding fresh_tickets vacancies put any all bit with_bit
numbers = refl

-- ---- checks
abbrev yeses : List TicketCommand → List Bool
yeses cs =
    let m = run fresh_tickets cs in
    ticket_yes m 0 9 0 ∷ ticket_yes m 0 9 1 ∷ ticket_yes m 3 9 1 ∷ ticket_yes m 4 9 1 ∷ ticket_yes m 3 9 0 ∷ ticket_yes m 9 9 1
    ∷ ticket_yes m 64 9 1 ∷ []

base-checks : yeses base ≡ true ∷ true ∷ true ∷ true ∷ false ∷ false ∷ false ∷ []
unfolding fresh_tickets vacancies put any all bit with_bit
base-checks = refl

-- removed: right 0 stays 0's, and nobody has right 1
removed_checks : yeses (Create 0 3 ∷ Create 0 4 ∷ Create 0 9 ∷ Generate 0 9 1 ∷ Pass 0 3 4 ∷ Pass 3 4 4 ∷ Remove 0 4 ∷ [])
    ≡ true ∷ false ∷ false ∷ false ∷ false ∷ false ∷ false ∷ []
unfolding fresh_tickets vacancies put any all bit with_bit
removed_checks = refl

-- ---- 15 and 16, which no short list of commands reaches
-- 1,024 live tickets, all of 0's for right 0 on item 0; 3 lives too
abbrev crowd : ℕ → Tickets
crowd next = tickets (with_bit (only 0) 3) next (tabulate 1024 (λ n. ticket n 0 0 0 (only 0)))

crowd_counts : count is_live (crowd 1024).records ≡ 1024
unfolding tabulate count with_bit bit
crowd_counts = refl

-- 15 after 6 and 17; one removed, there is room again, for the one after it too
fifteens : answers (crowd 1024) (
    Create 0 3 ∷ Create 0 4 ∷ Generate 3 0 1 ∷ Generate 0 0 1 ∷ Pass 0 3 7 ∷ Remove 0 7 ∷ Generate 0 0 1 ∷ Create 0 4 ∷ []
    ) ≡ 6 ∷ 15 ∷ 17 ∷ 15 ∷ 0 ∷ 0 ∷ 0 ∷ 15 ∷ []
unfolding tabulate put any all bit with_bit
fifteens = refl

-- 15 before 16
fifteen-first : answers (crowd 4294967295) (Create 0 4 ∷ Generate 0 0 1 ∷ []) ≡ 15 ∷ 15 ∷ []
unfolding tabulate put any all bit with_bit
fifteen-first = refl

-- fresh but for its next number
abbrev late : ℕ → Tickets
late next = tickets (only 0) next (ticket 0 0 0 0 (only 0) ∷ vacancies 1023)

-- the last number but one is given; then 16, after 5 and 6; what issues no ticket is done as ever
sixteens : answers (late 4294967294) (
    Generate 0 0 1 ∷ Generate 0 0 1 ∷ Create 0 3 ∷ Generate 0 5 1 ∷ Create 0 0 ∷ Pass 0 0 4294967294 ∷ Remove 0 4294967294 ∷ Create 0 3
    ∷ []
    ) ≡ 0 ∷ 16 ∷ 16 ∷ 5 ∷ 6 ∷ 0 ∷ 0 ∷ 16 ∷ []
unfolding vacancies put any all bit with_bit
sixteens = refl

-- ---- words
-- the live set 0, 3, 4 and 9; the next number 5; ticket 4, at place 4: number 4, item 9, right 1, issuer 0, held by 0, 3 and 4
words : (let s = image_of (run fresh_tickets base) in get_or s 0 0 ∷ get_or s 1 0 ∷ get_or s 10 0 ∷ get_or s 11 0 ∷ get_or s 12 0 ∷ get_or s 13 0 ∷ [])
    ≡ 537 ∷ 5 ∷ 1138166333444 ∷ 25 ∷ 0 ∷ 0 ∷ []
unfolding fresh_tickets vacancies put any all bit with_bit image_of words_of
words = refl

-- 1 before 2, 3 and 4; 2 where item 0 does not live
guards : answer_of [] (Create 64 64) ∷ check_number [] 64 0 0 ∷ fresh_number [] ∷ answer_of (replicate 2050 0) (Create 64 0)
    ∷ check_number (replicate 2050 0) 0 0 0 ∷ fresh_number (replicate 2050 7) ∷ [] ≡ 1 ∷ 1 ∷ 1 ∷ 2 ∷ 2 ∷ 0 ∷ []
unfolding machine_of tickets_in any all differ bit
guards = refl

-- the state of the story is in order
ordered : is_in_order (run fresh_tickets base) ≡ true
unfolding fresh_tickets vacancies put any all differ bit with_bit members keep tabulate
ordered = refl
