-- What the units' contracts say is the reply to a line: for the function that runs a line on the three units.
use mathlib.Core.Path.{◌≡◌, refl, ap, ◌∙◌}
use mathlib.Core.Bool.{Bool, true, false, cond}
use mathlib.Core.List.{List}
use Prim.Native.Nat.{ℕ}
use Rattle.model.specs.declared.Command.{Command}
use Rattle.std.specs.Prelude.{Option, Some, None, Result, ⊤}
use Rattle.std.specs.Result.{result_unwrap_or}
use Rattle.model.specs.declared.BestChain.{BestChain}
use Rattle.model.specs.declared.Refusal.{Refusal}
use Rattle.model.specs.Answers.{number_of, answer_for, checked_yes, found_in, flat}
use Rattle.layouts.specs.Machine.{answer_of, counted_of, Offers, RanCounting}
use Rattle.layouts.specs.Layouts.{Layout, lists, rows, flat_unit, check_number, check_yes, Checks}
use Rattle.delegation.specs.Images.{images}
use Rattle.delegation.specs.ChainUnit.{chain_unit, ChainChecks}
use Rattle.agreement.specs.Agreement.{Units}
use Rattle.model.proofs.Answers.{Known, known_number, counted_number}
use Rattle.layouts.proofs.Ends.{flat-known, told}
use Rattle.delegation.proofs.ChainEnds.{chain-told}
use Rattle.lines.specs.declared.Request.TheVariants.{Run, Ask}
use Rattle.output.specs.declared.reply.Said.TheVariants.{Number}
use Rattle.output.specs.declared.reply.Reply.{Reply}
use Rattle.output.specs.Output.{reply, offered_said, offered_of, command_tail, check_said, check_tail, malformed_reply, lent_buffer}
use Rattle.transcript.specs.Program.{reply_of, via_of, units_after}
use Rattle.reader.specs.Replies.{units_in, Replies}

-- a command offered to lists or rows
offered_said_lem : (L : Layout) (s : List ℕ) (c : Command) (o : Option (Result ⊤ Refusal)) (x : List ℕ) → Offers (flat_unit L) s c o x
    → offered_of o ≡ offered_said (flat c) (answer_of (flat_unit L) s c)
offered_said_lem L s c o x h = ap offered_of h.0 ∙ go (flat c) (answer_of (flat_unit L) s c) (flat-known L s c)
  where
    go : (b : Bool) (n : ℕ) → Known n → offered_of (cond b (Some (answer_for n)) None) ≡ offered_said b n
    go true n k = ap Number (known_number n tt k)
    go false n k = refl

module _ (u : Units) where
  -- a command
  pub command_replies : (c : Command) (l r : Option (Result ⊤ Refusal)) (a : Result ℕ Refusal) (x y g t : List ℕ) (s : Reply) → Offers (flat_unit lists) u.lists c l x
      → Offers (flat_unit rows) u.rows c r y → RanCounting chain_unit u.chains c a (images g t)
      → s ≡ reply (offered_of l) (offered_of r) (Number (number_of a)) (command_tail c (number_of a) (result_unwrap_or a 0))
      → Replies u (Some (Run c)) s lent_buffer (units_in x y g t)
  unfolding reply_of via_of units_after
  command_replies c l r a x y g t s hl hr hc e =
      let k : result_unwrap_or a 0 ≡ counted_of chain_unit u.chains c = ap (λ (x : Result ℕ Refusal). result_unwrap_or x 0) hc.0.1 ∙ counted_number (answer_of chain_unit u.chains c) _ in
      record {
        reply =
            e ∙ (λ i. reply (offered_said_lem lists u.lists c l x hl i) (offered_said_lem rows u.rows c r y hr i)
            (Number (hc.0.0 i)) (command_tail c (hc.0.0 i) (k i)));
        buffer = refl;
        units = λ i. record { lists = hl.1 i; rows = hr.1 i; chains = hc.1 i };
      }

  -- what lists or rows say of a check
  check_said_lem : (L : Layout) (s : List ℕ) (p o k : ℕ) (a : Result Bool Refusal) (x : List ℕ) → Checks L s p o k a x
      → check_said (number_of a) (checked_yes a) ≡ check_said (check_number L s p o k) (check_yes L s p o k)
  check_said_lem L s p o k a x h = let t = told L s p o k a x h in λ i. check_said (t.0 i) (t.1 i)

  -- a check, with a chain buffer of zeros
  pub check_replies : (p o k : ℕ) (l r : Result Bool Refusal) (a : Result (Option BestChain) Refusal) (x y g t via : List ℕ) (s : Reply)
      → Checks lists u.lists p o k l x → Checks rows u.rows p o k r y
      → ChainChecks u.chains lent_buffer p o k a via (images g t)
      → s ≡ reply (check_said (number_of l) (checked_yes l)) (check_said (number_of r) (checked_yes r))
      (check_said (number_of a) (found_in a).yes) (check_tail (found_in a))
      → Replies u (Some (Ask p o k)) s via (units_in x y g t)
  unfolding reply_of via_of units_after
  check_replies p o k l r a x y g t via s hl hr hc e =
      let z = chain-told u.chains lent_buffer p o k a hc.0 in
      record {
        reply =
            e ∙ (λ i. reply (check_said_lem lists u.lists p o k l x hl i) (check_said_lem rows u.rows p o k r y hr i)
            (check_said (z.0 i) (z.1 i).yes) (check_tail (z.1 i)));
        buffer = hc.1;
        units = λ i. record { lists = hl.1 i; rows = hr.1 i; chains = hc.2 i };
      }

  -- a malformed line
  pub malformed_replies : (s : Reply) → s ≡ malformed_reply → Replies u None s lent_buffer u
  unfolding reply_of via_of units_after
  malformed_replies s e = record { reply = e; buffer = refl; units = refl }
