-- Demand 3 at the text interface, from `agreement`.
use mathlib.Core.Path.{◌≡◌, refl, sym, ap, ◌∙◌, subst}
use mathlib.Core.Bool.{Bool, true, false, true≢false}
use mathlib.Core.List.{List, [], ◌∷◌}
use Prim.Native.Nat.{ℕ, ◌+◌}
use borrow.Author.Tests.{eqb-true, eqb-false, ne_eqb}
use lib.ListN.{length, take}
use lib.Seq.{take-length}
use lib.Dec.{eqb}
use Rattle.std.specs.Prelude.{Option, Some, None}
use Rattle.model.specs.declared.Command.{Command}
use Rattle.model.specs.Answers.{Found, asked, nothing, flat}
use Rattle.model.specs.Commands.{is_sweep}
use Rattle.model.specs.Journal.{Journal, answered, counted, fresh, step, has_grant}
use Rattle.layouts.specs.Machine.{answer_of}
use Rattle.layouts.specs.Layouts.{lists, rows, flat_unit}
use Rattle.model.specs.Chain.{Meets, JournalChain}
use Rattle.delegation.specs.ChainUnit.{chain_found, chain_buffer}
use Rattle.agreement.specs.Agreement.{Units, fresh_units, Agrees, Answers, Follows, flat_step}
use Rattle.bits.proofs.Sets.{by_cases}
use Rattle.model.proofs.Chain.{given}
use Rattle.agreement.proofs.Agreement.{agreement}
use Rattle.lines.specs.declared.Request.{Request}
use Rattle.lines.specs.declared.Request.TheVariants.{Run, Ask}
use Rattle.output.specs.declared.reply.Said.{Said}
use Rattle.output.specs.declared.reply.Said.TheVariants.{Number, Yes, No}
use Rattle.output.specs.declared.reply.Tail.{Tail}
use Rattle.output.specs.declared.reply.Tail.TheVariants.{Nothing, Dashes, Chain}
use Rattle.output.specs.declared.reply.Reply.{Reply}
use Rattle.output.specs.Output.{tail_text, output_line, reply, offered_said, command_tail, check_said, check_tail, lent_buffer}
use Rattle.transcript.specs.Program.{reply_of, via_of, units_after, output_from, asks_of, output_of}
use Rattle.transcript.specs.Text.{grant_said, command_line, CheckLine, refused, none, found, Allowed, last, next, commands_of, TextAgreement}

first_agrees : (feed : Journal → Command → Journal) (cs : List Command) (j k : Journal) (u : Units) → Follows feed j k u cs → Agrees j k u
first_agrees feed [] j k u h = h
first_agrees feed (c ∷ cs) j k u h = h.0

-- a line depends on the chain buffer through its tail alone
same_line : (n : ℕ) (l r c : Said) (t t' : Tail) (via via' : List ℕ) → tail_text t via ≡ tail_text t' via'
    → output_line n (reply l r c t) via ≡ output_line n (reply l r c t') via'
unfolding output_line
same_line n l r c t t' via via' e = rw e

-- a command's line, whose tail asks nothing of the buffer
command_tail_lem : (c : Command) (n k : ℕ) → tail_text (command_tail c n k) lent_buffer ≡ tail_text (command_tail c n k) []
unfolding tail_text
command_tail_lem c n k =
    by_cases (is_sweep c) (λ t. rw t (by_cases (eqb n 0) (λ z. rw z) (λ z. rw z))) (λ t. rw t)

offered : (b : Bool) (m n : ℕ) → (b ≡ true → m ≡ n) → offered_said b m ≡ offered_said b n
offered true m n h = ap Number (h refl)
offered false m n h = refl

command_line_lem : (j k : Journal) (u : Units) (n : ℕ) (c : Command) → Answers j k u c
    → output_line n (reply_of u (Some (Run c))) (via_of u (Some (Run c))) ≡ command_line j k n c
unfolding reply_of via_of
command_line_lem j k u n c a =
    let l = offered (flat c) (answer_of (flat_unit lists) u.lists c) (answered k c) a.list in
    let r = offered (flat c) (answer_of (flat_unit rows) u.rows c) (answered k c) a.row in
    (λ i. output_line n (reply (l i) (r i) (Number (a.chain i)) (command_tail c (a.chain i) (a.count i))) lent_buffer)
    ∙ same_line n _ _ _ _ _ lent_buffer [] (command_tail_lem c (answered j c) (counted j c))

malformed_line : (u : Units) (n : ℕ)
    → output_line n (reply_of u None) (via_of u None) ≡ output_line n (reply (Number 11) (Number 11) (Number 11) Nothing) []
unfolding reply_of via_of output_line tail_text
malformed_line u n = refl

-- ---- a check's line
dashes-line : (n : ℕ) (l r c : Said) (via : List ℕ) → output_line n (reply l r c Dashes) via ≡ output_line n (reply l r c Dashes) []
dashes-line n l r c via = same_line n l r c Dashes Dashes via [] (unfold tail_text in refl)

chain-line : (n : ℕ) (l r c : Said) (d k : ℕ) (via : List ℕ)
    → output_line n (reply l r c (Chain d k)) via ≡ output_line n (reply l r c (Chain d (length (take k via)))) (take k via)
chain-line n l r c d k via =
    same_line n l r c (Chain d k) (Chain d (length (take k via))) via (take k via) (unfold tail_text in (rw take-length))

module _ (j k : Journal) (n p o r : ℕ) where
  -- the reply to a check, where f was found
  abbrev checked : ℕ → Found → Reply
  checked m f = reply (check_said m (has_grant k p o r)) (check_said m (has_grant k p o r)) (check_said m f.yes) (check_tail f)

  check_refused : (via : List ℕ) → (asked p o r ≡ 0 → ⊥) → CheckLine j k n p o r (output_line n (checked (asked p o r) nothing) via)
  check_refused via ne =
      subst (CheckLine j k n p o r) (sym
      (rw (ne_eqb (asked p o r) 0 ne) (dashes-line n (Number (asked p o r)) (Number (asked p o r)) (Number (asked p o r)) via)))
      (refused ne)

  check_settled : (f : Found) (via : List ℕ) → asked p o r ≡ 0 → Meets (λ ps a. JournalChain j o r ps p a) f via
      → CheckLine j k n p o r (output_line n (checked 0 f) via)
  check_settled f via e m =
      by_cases f.yes
      (λ y. let shown : List ℕ = take f.persons via in
      let line : CheckLine j k n p o r
      (output_line n (reply (grant_said k p o r) (grant_said k p o r) Yes (Chain f.depth (length shown))) shown)
      = found e (given m y) in
      subst (CheckLine j k n p o r)
      (sym (rw y (chain-line n (grant_said k p o r) (grant_said k p o r) Yes f.depth f.persons via))) line)
      (λ y. subst (CheckLine j k n p o r) (sym (rw y (dashes-line n (grant_said k p o r) (grant_said k p o r) No via)))
      (none e (λ ps b c. true≢false (sym (m.greatest ps b c).0 ∙ y))))

  module _ (u : Units) (a : Agrees j k u) where
    check_reply : reply_of u (Some (Ask p o r)) ≡ checked (asked p o r) (chain_found u.chains lent_buffer p o r)
    unfolding reply_of
    check_reply =
        λ i. reply (check_said (a.list.number p o r i) (a.list.yes p o r i)) (check_said (a.row.number p o r i) (a.row.yes p o r i))
        (check_said (a.chain.number lent_buffer refl p o r i) (chain_found u.chains lent_buffer p o r).yes)
        (check_tail (chain_found u.chains lent_buffer p o r))

    check_line : CheckLine j k n p o r (output_line n (reply_of u (Some (Ask p o r))) (via_of u (Some (Ask p o r))))
    unfolding via_of
    check_line =
        by_cases (eqb (asked p o r) 0)
        (λ q. let e = eqb-true (asked p o r) 0 q in
        subst (λ x. CheckLine j k n p o r (output_line n x (chain_buffer u.chains lent_buffer p o r)))
        (sym (check_reply ∙ ap (λ (m : ℕ). checked m (chain_found u.chains lent_buffer p o r)) e))
        (check_settled (chain_found u.chains lent_buffer p o r) (chain_buffer u.chains lent_buffer p o r) e
        (a.chain.meets lent_buffer refl p o r e)))
        (λ q. let ne = eqb-false (asked p o r) 0 q in
        subst (λ x. CheckLine j k n p o r (output_line n x (chain_buffer u.chains lent_buffer p o r)))
        (sym (check_reply ∙ ap (checked (asked p o r)) (a.chain.beyond lent_buffer refl p o r ne).0))
        (check_refused (chain_buffer u.chains lent_buffer p o r) ne))

-- ---- all lines
allowed : (feed : Journal → Command → Journal) (xs : List (Option Request)) (j k : Journal) (u : Units) (n : ℕ)
    → Follows feed j k u (commands_of xs) → Allowed feed j k n xs (output_from n u xs)
unfolding output_from units_after
allowed feed [] j k u n h = last
allowed feed (Some (Run c) ∷ xs) j k u n h = next _ (command_line_lem j k u (n + 1) c h.1) (allowed feed xs _ _ _ (n + 1) h.2)
allowed feed (Some (Ask who on right) ∷ xs) j k u n h =
    next _ (check_line j k (n + 1) who on right u (first_agrees feed (commands_of xs) j k u h)) (allowed feed xs j k u (n + 1) h)
allowed feed (None ∷ xs) j k u n h = next _ (malformed_line u (n + 1)) (allowed feed xs j k u (n + 1) h)

-- for every input
pub text_agreement : (input : List ℕ) → TextAgreement (asks_of input) (output_of input)
unfolding output_of
text_agreement input =
    let a = agreement (commands_of (asks_of input)) in
    record {
      every = allowed flat_step (asks_of input) fresh fresh fresh_units 0 a.every;
      dropless = λ n. allowed step (asks_of input) fresh fresh fresh_units 0 (a.dropless n);
    }
