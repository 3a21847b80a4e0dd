-- Every line of the output has one of the forms that document 01 shows.
use mathlib.Core.Path.{◌≡◌, refl, sym, subst}
use mathlib.Core.Bool.{Bool, true, false, cond}
use mathlib.Core.List.{List, [], ◌∷◌, ◌++◌}
use Prim.Native.Nat.{ℕ, ◌+◌}
use lib.ListN.{length, length-map}
use lib.Seq.{take-length}
use lib.Dec.{eqb}
use borrow.Author.Tests.{eqb-true}
use Rattle.std.specs.Prelude.{Option, Some, None}
use Rattle.model.specs.declared.Command.{Command}
use Rattle.bits.proofs.Sets.{by_cases}
use Rattle.model.specs.Commands.{is_sweep}
use Rattle.model.specs.Answers.{asked, flat}
use Rattle.model.specs.Journal.{Journal, answered, counted, has_grant}
use Rattle.model.proofs.Steps.{sweep_passed}
use Rattle.model.specs.Chain.{granted, lent, JournalChain}
use Rattle.lines.specs.declared.Request.{Request}
use Rattle.lines.specs.declared.Request.TheVariants.{Run, Ask}
use Rattle.output.specs.declared.reply.Said.TheVariants.{Number, Yes, No, Passed}
use Rattle.output.specs.declared.reply.Tail.TheVariants.{Nothing, Dashes, Chain, Swept, Unswept}
use Rattle.lines.specs.Collect.{lines_of, parsed_of}
use Rattle.output.specs.Output.{said_text, persons, tail_text, output_line, reply, offered_said, command_tail}
use Rattle.transcript.specs.Program.{output_of}
use Rattle.transcript.specs.Text as text
use Rattle.transcript.specs.Text.{grant_said, CheckLine, LineAllowed, Allowed}
use Rattle.transcript.specs.Forms.{Form, numbers, passed, swept, not-swept, refused, no, yes, Formed, last, next}
use Rattle.transcript.proofs.Text.{text_agreement}

numbers-form : (n : ℕ) (b : Bool) (a m : ℕ) → Form n (output_line n (reply (offered_said b a) (offered_said b a) (Number m) Nothing) [])
unfolding output_line said_text tail_text
numbers-form n true a m = numbers a m
numbers-form n false a m = passed m

sweep_form : (n m k : ℕ) → Form n (output_line n (reply Passed Passed (Number m) (cond (eqb m 0) (Swept k) Unswept)) [])
unfolding output_line said_text tail_text
sweep_form n m k =
    by_cases (eqb m 0) (λ z. rw (z, eqb-true m 0 z) (swept k)) (λ z. rw z (not-swept m))

-- of lists and rows, which lack sweep, the number a of a command or that they pass it over; the chain unit's number m and count k
command_form : (n : ℕ) (c : Command) (a m k : ℕ)
    → Form n (output_line n (reply (offered_said (flat c) a) (offered_said (flat c) a) (Number m) (command_tail c m k)) [])
command_form n c a m k =
    by_cases (is_sweep c) (λ t. rw (t, sweep_passed c t) (sweep_form n m k)) (λ t. rw t (numbers-form n (flat c) a m))

none-form : (n : ℕ) (b : Bool) → Form n (output_line n (reply (cond b Yes No) (cond b Yes No) No Dashes) [])
unfolding output_line said_text tail_text
none-form n true = no true
none-form n false = no false

found-form : (n : ℕ) (b : Bool) (d p : ℕ) (ps : List ℕ)
    → Form n (output_line n (reply (cond b Yes No) (cond b Yes No) Yes (Chain d (length (p ∷ ps)))) (p ∷ ps))
unfolding output_line said_text tail_text persons
found-form n true d p ps = rw (take-length ps) (yes true d p ps)
found-form n false d p ps = rw (take-length ps) (yes false d p ps)

refused-form : (n a : ℕ) → Form n (output_line n (reply (Number a) (Number a) (Number a) Dashes) [])
unfolding output_line said_text tail_text
refused-form n a = refused a

-- a chain has a person
some : (ps : List ℕ) (p : ℕ) → (q : ℕ) × (qs : List ℕ) × (ps ++ (p ∷ []) ≡ q ∷ qs)
some [] p = (p, [], refl)
some (q ∷ ps) p = (q, ps ++ (p ∷ []), refl)

chain_some : (j : Journal) (o r : ℕ) {ps : List ℕ} {p a : ℕ} → JournalChain j o r ps p a → (q : ℕ) × (qs : List ℕ) × (ps ≡ q ∷ qs)
chain_some j o r (granted {p} h) = (p, [], refl)
chain_some j o r (lent {ps} l s c) = some ps l.borrower

check_form : {j k : Journal} {n p o r : ℕ} {t : List ℕ} → CheckLine j k n p o r t → Form n t
check_form {j} {k} {n} {p} {o} {r} (text.refused h) = refused-form n (asked p o r)
check_form {j} {k} {n} {p} {o} {r} (text.none e h) = none-form n (has_grant k p o r)
check_form {j} {k} {n} {p} {o} {r} (text.found e g) =
    let s = chain_some j o r g.chain in
    subst (λ (ps : List ℕ). Form n (output_line n (reply (grant_said k p o r) (grant_said k p o r) Yes (Chain g.depth (length ps))) ps))
    (sym s.2)
    (found-form n (has_grant k p o r) g.depth s.0 s.1)

line-form : (j k : Journal) (n : ℕ) (x : Option Request) (t : List ℕ) → LineAllowed j k n x t → Form n t
line-form j k n (Some (Run c)) t e = subst (Form n) (sym e) (command_form n c (answered k c) (answered j c) (counted j c))
line-form j k n (Some (Ask who on right)) t e = check_form e
line-form j k n None t e = subst (Form n) (sym e) (numbers-form n true 11 11)

formed : {feed : Journal → Command → Journal} {j k : Journal} {n : ℕ} {xs : List (Option Request)} {t : List ℕ} → Allowed feed j k n xs t
    → Formed n (length xs) t
formed text.last = last
formed {j = j} {k} {n} (text.next {x = x} t a rest) = next t (line-form j k (n + 1) x t a) (formed rest)

-- one line of output for each line of input, and the last
pub output_formed : (input : List ℕ) → Formed 0 (length (lines_of input)) (output_of input)
output_formed input =
    subst (λ (k : ℕ). Formed 0 k (output_of input)) (length-map (lines_of input) parsed_of) (formed (text_agreement input).every)
