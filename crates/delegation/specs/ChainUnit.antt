-- The chain unit: its ten commands, and its check.
use Rattle.std.specs.Prelude.{◌≡◌, Bool, true, not, ◌&&◌, cond, Option, Result, ⊤, List, [], ◌∷◌, ℕ, ◌+◌, ◌*◌, ◌≤◌, length, eqb, leb, ltb}
use Rattle.model.specs.declared.Arguments.{Arguments}
use Rattle.model.specs.declared.Facts.{Facts}
use Rattle.model.specs.declared.Verb.{Verb}
use Rattle.model.specs.declared.Verb.TheVariants as verb
use Rattle.model.specs.declared.Refusal.{Refusal}
use Rattle.model.specs.declared.BestChain.{BestChain}
use Rattle.bits.specs.Sets.{any, all, count}
use Rattle.layouts.specs.Machine.{Machine, guarded_by}
use Rattle.model.specs.Commands.{sweeps, members_of, most_loans}
use Rattle.model.specs.Answers.{Found, asked, Numbered, answer_with, found_said, nothing, ◌when◌else◌}
use Rattle.model.specs.Journal.{Grant, Loan, grant, of_each_depth, is_past, loan_in}
use Rattle.layouts.specs.Layouts.{grant_bytes, grant_cells, live_in, held, is_in_order, created, deleted, allowed, allowed_set, dropped, fresh_image}
use Rattle.delegation.specs.Loans.{word_of, word_names, word_from, word_dated, word_past, loan_words, count_of, shift_in, used, loans_image, loans_with, loans_kept, loans_at, fresh_header, loans_in_order}
use Rattle.delegation.specs.Images.{Images, images, standing_in}
use Rattle.delegation.specs.Search.{found_of, chain_of}

-- 'no dead item is named in it (for loans, by the grants' roll)'
abbrev pub chain_in_order : Images → Bool
chain_in_order s = is_in_order grant_bytes s.grants && loans_in_order (live_in grant_bytes s.grants) s.loans

-- both images have their lengths; room: so has every other lent buffer
abbrev pub chain_sized : Images → Bool → Bool
chain_sized s room = eqb (length s.grants) grant_cells && eqb (length s.loans) loan_words && room

-- the answer n, after numbers 1 and 2
abbrev pub chain_guarded : Images → Bool → ℕ → ℕ
chain_guarded s room n = guarded_by (chain_sized s room) (chain_in_order s) n

-- the same of a command, which is lent both images alone
abbrev pub chain_guard : Images → ℕ → ℕ
chain_guard s n = chain_guarded s true n

-- the grants that stand in a chain unit
abbrev pub chain_stands : Images → Grant → Bool
chain_stands s g = standing_in s.grants g

-- the loans that stand in it
abbrev pub chain_lent : Images → Loan → Bool
chain_lent s l = any (eqb (word_of l)) (used s.loans)

-- what the table asks; back: 'the new shift is below the present one and such a loan stands'; past: 'last is set and below the present
-- shift'; full: '1,024 loans stand and this is not one of them'
abbrev pub chain_facts : Images → Arguments → Facts
chain_facts s a = record {
  by = live_in grant_bytes s.grants a.by;
  on = live_in grant_bytes s.grants a.on;
  to = live_in grant_bytes s.grants a.to;
  members = all (live_in grant_bytes s.grants) (members_of a.set);
  edits = held grant_bytes s.grants a.by a.on 0;
  back = ltb a.shift (shift_in s.loans) && any word_dated (used s.loans);
  past = is_past (shift_in s.loans) a.shift;
  full = leb most_loans (count_of s.loans) && not (any (eqb (word_of (loan_in a))) (used s.loans));
}

-- 'a person's last grant on an item and right ends': p had one on o, right r, in grants image gs, and has none in hs
abbrev pub last_ends_in : List ℕ → List ℕ → ℕ → ℕ → ℕ → Bool
last_ends_in gs hs p o r = held grant_bytes gs p o r && not (held grant_bytes hs p o r)

-- both images after one drop: 'ends one grant', and 'when a person's last grant on an item and right ends by withdraw or drop, the loans
-- that person made there end too; loans further down stay'
abbrev pub chain_dropped : Images → Grant → Images
chain_dropped s g =
    images (dropped grant_bytes s.grants g)
    (loans_kept (λ w. not (last_ends_in s.grants (dropped grant_bytes s.grants g) g.person g.item g.right
    && word_from g.person g.item g.right w)) s.loans)

-- the same of several grants, one after the other
abbrev pub chain_dropped_all : Images → List Grant → Images
chain_dropped_all s [] = s
chain_dropped_all s (g ∷ gs) = chain_dropped_all (chain_dropped s g) gs

-- 'withdraw is eight drops .. done as one'. What they leave together is `withdrawn-chain`
unfoldable pub chain_withdrawn : Images → ℕ → ℕ → ℕ → Images
chain_withdrawn s p o r = chain_dropped_all s (of_each_depth p o r)

-- both images after an accepted command: what it does to one may ask the other
abbrev pub chain_done : Images → Arguments → Verb → Images
chain_done s a verb.Create = images (created grant_bytes s.grants a.by a.on) s.loans
chain_done s a verb.Delete = images (deleted grant_bytes s.grants a.on) (loans_kept (λ w. not (word_names a.on w)) s.loans)
chain_done s a verb.Allow = images (allowed grant_bytes s.grants (grant a.to a.on a.right a.depth)) s.loans
chain_done s a verb.Withdraw = chain_withdrawn s a.to a.on a.right
chain_done s a verb.Lend = images s.grants (loans_with (word_of (loan_in a)) s.loans)
chain_done s a verb.Recall = images s.grants (loans_kept (λ w. not (eqb (word_of (loan_in a)) w)) s.loans)
chain_done s a verb.Shift = images s.grants (loans_at a.shift s.loans)
chain_done s a verb.Drop = chain_dropped s (grant a.to a.on a.right a.depth)
chain_done s a verb.Sweep = images s.grants (loans_kept (λ w. not (word_past (shift_in s.loans) w)) s.loans)
chain_done s a verb.AllowSet = images (allowed_set grant_bytes s.grants a.set a.on a.right a.depth) s.loans

-- by the verb of its arguments
abbrev pub chain_after : Images → Arguments → Images
chain_after s a = chain_done s a a.verb

-- what an accepted command of that verb counts: sweep the loans past their last shift, and no other anything
abbrev pub chain_count : Images → Verb → ℕ
chain_count s v = cond (sweeps v) (count (word_past (shift_in s.loans)) (used s.loans)) 0

-- a chain unit has every command
abbrev pub chain_unit : Machine Images
chain_unit = record {
  has = λ c. true;
  sized = λ s. chain_sized s true;
  ordered = chain_in_order;
  facts = chain_facts;
  after = chain_after;
  counts = λ s a. chain_count s a.verb;
}

-- answer r and images x of a look at the images alone, which knows 1 and 2
abbrev pub ChainInspects : Images → Result ⊤ Refusal → Images → Type 0
ChainInspects s r x = Numbered r (chain_guarded s true 0) tt × (x ≡ s)

-- ---- the check of person p on item o, right r, with a chain buffer
abbrev pub chain_check_number : Images → List ℕ → ℕ → ℕ → ℕ → ℕ
chain_check_number s buffer p o r = chain_guarded s (eqb (length buffer) 8) (asked p o r)

-- yes or no, depth and number of persons; 'beside a refusal, depth, number of persons .. are 0'
abbrev pub chain_found : Images → List ℕ → ℕ → ℕ → ℕ → Found
chain_found s buffer p o r = cond (eqb (chain_check_number s buffer p o r) 0) (found_of s.grants s.loans (8 * o + r) p) nothing

-- the buffer after it; a refusal leaves it as it was
abbrev pub chain_buffer : Images → List ℕ → ℕ → ℕ → ℕ → List ℕ
chain_buffer s buffer p o r = cond (eqb (chain_check_number s buffer p o r) 0) (chain_of s.grants s.loans (8 * o + r) p) buffer

-- the images after it: 'no check changes an image'
abbrev pub chain_left : Images → List ℕ → ℕ → ℕ → ℕ → Images
chain_left s buffer p o r = s

-- answer a, buffer b and images x of a check: its contract
abbrev pub ChainChecks : Images → List ℕ → ℕ → ℕ → ℕ → Result (Option BestChain) Refusal → List ℕ → Images → Type 0
ChainChecks s buffer p o r a b x =
    (a ≡ answer_with (chain_check_number s buffer p o r) (found_said (chain_found s buffer p o r))) × (b ≡ chain_buffer s buffer p o r)
    × (x ≡ chain_left s buffer p o r)

-- from images s to images x nobody goes from no to yes, and nobody's depth rises: whatever is asked, with whatever chain buffer
abbrev pub NobodyGains : Images → Images → Type 0
NobodyGains s x = (buffer : List ℕ) (p o r : ℕ) → (chain_found x buffer p o r).yes ≡ true
    → ((chain_found s buffer p o r).yes ≡ true) × ((chain_found x buffer p o r).depth ≤ (chain_found s buffer p o r).depth)

-- images at shift n, 'with all else equal'
abbrev pub chain_at : ℕ → Images → Images
chain_at n s = images s.grants (loans_at n s.loans)

-- every check of images x has the number that it has of images s, and the same yes or no, depth and number of persons
abbrev pub SameAnswers : Images → Images → Type 0
SameAnswers s x = (buffer : List ℕ) (p o r : ℕ)
    → (chain_check_number x buffer p o r ≡ chain_check_number s buffer p o r) × (chain_found x buffer p o r ≡ chain_found s buffer p o r)

-- the images of a fresh unit: the fresh grants, and no loan
unfoldable pub chain_fresh : Images
chain_fresh = record { grants = fresh_image grant_bytes; loans = loans_image fresh_header [] }

-- 'making a fresh unit knows 1 alone': whatever the buffers held
abbrev pub chain_fresh_number : Images → ℕ
chain_fresh_number s = 1 when not (eqb (length s.grants) grant_cells && eqb (length s.loans) loan_words) else 0

-- both images after it: 'all unchanged' where it is refused
abbrev pub chain_fresh_of : Images → Images
chain_fresh_of s = cond (eqb (chain_fresh_number s) 0) chain_fresh s

-- answer r and images x of making a fresh unit
abbrev pub ChainFreshens : Images → Result ⊤ Refusal → Images → Type 0
ChainFreshens s r x = Numbered r (chain_fresh_number s) tt × (x ≡ chain_fresh_of s)
