-- What the exported functions return and write: the units' own definitions, with yes as 1 and no as 0.
use Rattle.std.specs.Prelude.{◌≡◌, Bool, true, cond, List, ℕ}
use Rattle.model.specs.declared.Command.{Command}
use Rattle.layouts.specs.Machine.{Machine, answer_of, counted_of, step_of}
use Rattle.layouts.specs.Layouts.{Layout, check_number, check_yes, check_left, fresh_number, fresh_of, guarded}
use Rattle.layouts.specs.Convert.{convert_number, convert_of}
use Rattle.layouts.specs.Subjects.{subjects_number, subjects_answer}
use Rattle.delegation.specs.Images.{Images}
use Rattle.delegation.specs.ChainUnit.{chain_check_number, chain_found, chain_buffer, chain_left, chain_fresh_number, chain_fresh_of, chain_guarded}
use Rattle.ticketing.specs.declared.TicketCommand.{TicketCommand}
use Rattle.ticketing.specs.Unit as tickets

-- yes is 1 and no is 0
abbrev pub flag : Bool → ℕ
flag b = cond b 1 0

-- number n and state x of a command, of any unit
abbrev pub Gives : {S : Type 0} → Machine S → S → Command → ℕ → S → Type 0
Gives M s c n x = (n ≡ answer_of M s c) × (x ≡ step_of M s c)

-- the same, and the count k, 0 beside a refusal
abbrev pub GivesCount : {S : Type 0} → Machine S → S → Command → ℕ → ℕ → S → Type 0
GivesCount M s c n k x = Gives M s c n x × (k ≡ counted_of M s c)

-- number n of a conversion, and what both buffers hold after
abbrev pub Turns : Layout → Layout → List ℕ → List ℕ → ℕ → List ℕ → List ℕ → Type 0
Turns L M s t n x y = (n ≡ convert_number L M s t) × (x ≡ s) × (y ≡ convert_of L M s t)

module _ (L : Layout) where
  -- number n and image x of making a fresh unit
  abbrev pub Freshens : List ℕ → ℕ → List ℕ → Type 0
  Freshens s n x = (n ≡ fresh_number L s) × (x ≡ fresh_of L s)

  -- number n, yes y and image x of a check
  abbrev pub Answers : List ℕ → ℕ → ℕ → ℕ → ℕ → ℕ → List ℕ → Type 0
  Answers s p o r n y x = (n ≡ check_number L s p o r) × (y ≡ flag (check_yes L s p o r)) × (x ≡ check_left L s p o r)

  -- number n, persons w and image x of the subjects
  abbrev pub Subjects : List ℕ → ℕ → ℕ → List ℕ → Type 0
  Subjects s n w x = (n ≡ subjects_number L s) × (w ≡ subjects_answer L s) × (x ≡ s)

  -- number n and image x of judging an image
  abbrev pub Inspects : List ℕ → ℕ → List ℕ → Type 0
  Inspects s n x = (n ≡ guarded L s 0) × (x ≡ s)

-- ---- the same of a chain unit
abbrev pub ChainFreshens : Images → ℕ → Images → Type 0
ChainFreshens s n x = (n ≡ chain_fresh_number s) × (x ≡ chain_fresh_of s)

-- number n, depth d, number of persons k, buffer b and images x of a check
abbrev pub ChainAnswers : Images → List ℕ → ℕ → ℕ → ℕ → ℕ → ℕ → ℕ → List ℕ → Images → Type 0
ChainAnswers s buffer p o r n d k b x =
    (n ≡ chain_check_number s buffer p o r) × (d ≡ (chain_found s buffer p o r).depth) × (k ≡ (chain_found s buffer p o r).persons)
    × (b ≡ chain_buffer s buffer p o r) × (x ≡ chain_left s buffer p o r)

-- number n and images x of a look at the images alone
abbrev pub ChainInspects : Images → ℕ → Images → Type 0
ChainInspects s n x = (n ≡ chain_guarded s true 0) × (x ≡ s)

-- ---- the same of a ticket unit, in the words of request K6
-- 'fresh, item 0 lives, the next is 1 and ticket 0 is 0's for right 0 on item 0'
abbrev pub TicketFreshens : List ℕ → ℕ → List ℕ → Type 0
TicketFreshens s n x = (n ≡ tickets.fresh_number s) × (x ≡ tickets.fresh_of s)

-- 'create issues ..', 'pass (by, to, number) needs ..', 'remove (by, number) needs ..', 'delete needs one too ..': number n and image x
abbrev pub TicketGives : List ℕ → TicketCommand → ℕ → List ℕ → Type 0
TicketGives s c n x = (n ≡ tickets.answer_of s c) × (x ≡ tickets.step_of s c)

-- 'generate (by, on, right) .. leaves the new ticket with the issuer': the same, and the number k of that ticket, 0 beside a refusal
abbrev pub TicketGenerates : List ℕ → TicketCommand → ℕ → ℕ → List ℕ → Type 0
TicketGenerates s c n k x = TicketGives s c n x × (k ≡ tickets.given_of s c)

-- 'The check says yes exactly when the person holds a live ticket for that item and right': number n, yes y and image x
abbrev pub TicketAnswers : List ℕ → ℕ → ℕ → ℕ → ℕ → ℕ → List ℕ → Type 0
TicketAnswers s p o r n y x = (n ≡ tickets.check_number s p o r) × (y ≡ flag (tickets.check_yes s p o r)) × (x ≡ s)

-- 'In order: ..': number n and image x of judging an image
abbrev pub TicketInspects : List ℕ → ℕ → List ℕ → Type 0
TicketInspects s n x = (n ≡ tickets.guarded s 0) × (x ≡ s)
