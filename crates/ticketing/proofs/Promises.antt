-- The promises, of every state that commands lead to from fresh: such a state is in order, so the laws of what ends, of dead items and of
-- new ones hold in it; and its 1,024 places are all taken exactly when 1,024 tickets live, for a count of those that pass reaches the
-- length of a list only when all pass.
use mathlib.Core.Path.{◌≡◌, refl, sym, ap, ◌∙◌}
use mathlib.Core.Bool.{Bool, true, false, ◌&&◌, cond, false≢true, and-true}
use mathlib.Core.List.{List, [], ◌∷◌}
use Prim.Native.Nat.{ℕ, suc, ◌≤◌}
use native.Mathlib.Omega.{arith}
use borrow.Author.Tests.{eqb-true, eq-eqb, ne_eqb, leb-true}
use lib.ListN.{length}
use lib.Dec.{eqb}
use Rattle.bits.specs.Sets.{all, count}
use Rattle.bits.proofs.Sets.{fst, snd, by_cases, iff, count-keep, length-keep, eqb_self}
use Rattle.model.specs.Answers.{asked}
use Rattle.model.proofs.Invariant.{passed, blocked}
use Rattle.ticketing.specs.declared.TicketCommand.{TicketCommand}
use Rattle.ticketing.specs.declared.TicketCommand.TheVariants.{Create, Generate, Pass, Remove, Delete}
use Rattle.ticketing.specs.Machine.{Tickets, fresh_tickets, most_tickets, ticket, only, lives, is_live, is_number, holds, full, fits, answer, put, step, run}
use Rattle.ticketing.specs.Order.{has, Kept}
use Rattle.ticketing.specs.Promises.{issues, NeverAgain, RemoveTakes, DeleteEnds, InheritsNothing, Promises}
use Rattle.ticketing.proofs.Places.{bit-only, held-lives, any-put}
use Rattle.ticketing.proofs.Order.{unused, all_below_lem, kept_fresh, kept_step, kept_run, dead_unheld, dead_holds-nothing, bare_item, bare_person}
use Rattle.ticketing.proofs.Ends.{next-run, never_again, gone_for_good, removed_yes, removed_for_good, unheld, deleted-yes, nobody_holds_it, it_holds-nothing, item-ended}

-- ---- '15 when 1,024 tickets live'
all-counted : {A : Type 0} (f : A → Bool) (xs : List A) → all f xs ≡ eqb (count f xs) (length xs)
unfolding all count
all-counted f [] = refl
all-counted f (x ∷ xs) = go (f x) (all-counted f xs)
  where
    few : count f xs ≤ length xs
    few = let a = count-keep f xs in let b = length-keep f xs in omega arith

    go : (b : Bool) → all f xs ≡ eqb (count f xs) (length xs)
        → b && all f xs ≡ eqb (cond b (suc (count f xs)) (count f xs)) (suc (length xs))
    go true ih =
        ih ∙ iff _ _ (λ e. let a = eqb-true (count f xs) (length xs) e in eq-eqb (suc (count f xs)) (suc (length xs)) (omega arith))
        (λ e. let a = eqb-true (suc (count f xs)) (suc (length xs)) e in eq-eqb (count f xs) (length xs) (omega arith))
    go false ih = sym (ne_eqb (count f xs) (suc (length xs)) (λ e. let a = few in omega arith))

pub full-counted : (m : Tickets) → length m.records ≡ most_tickets → full m ≡ eqb (count is_live m.records) most_tickets
full-counted m e = all-counted is_live m.records ∙ ap (eqb (count is_live m.records)) e

-- ---- a state in order
module _ (m : Tickets) (v : Kept m) where
  -- a new ticket has the next number
  put_has : (by on right : ℕ) → full m ≡ false → has m.next (put (ticket m.next on right by (only by)) m.records) ≡ true
  put_has by on right room =
      any-put (is_number m.next) (ticket m.next on right by (only by)) m.records (λ x e. rw e) room
      ∙ rw (held-lives m.next on right by (only by) by (bit-only by by ∙ eqb_self by), eqb_self m.next)

  -- a command that issues a ticket puts one of the next number into a free place
  issued-new : (c : TicketCommand) → issues c ≡ true → answer m c ≡ 0
      → ((step m c).next ≡ suc m.next) × (has m.next (step m c).records ≡ true)
  issued-new (Create by on) i e = (rw e, rw e (put_has by on 0 room))
    where
      room : full m ≡ false
      room =
          let a = passed 2 (fits (Create by on)) _ e in
          let b = passed 3 (lives m by) _ a.1 in
          let c = blocked 5 (lives m on) _ b.1 in
          (blocked 14 (full m) _ c.1).0
  issued-new (Generate by on right) i e = (rw e, rw e (put_has by on right room))
    where
      room : full m ≡ false
      room =
          let a = passed 2 (fits (Generate by on right)) _ e in
          let b = passed 3 (lives m by) _ a.1 in
          let c = passed 4 (lives m on) _ b.1 in
          let d = passed 16 (holds m by on 0) _ c.1 in
          (blocked 14 (full m) _ d.1).0
  issued-new (Pass by to n) i e = absurd (false≢true i)
  issued-new (Remove by n) i e = absurd (false≢true i)
  issued-new (Delete by on) i e = absurd (false≢true i)

  numbers_kept : NeverAgain m
  numbers_kept = record {
    unused = λ n l. by_cases (has n m.records) (λ t. absurd (unused m.next n m.records (all_below_lem m v.order) l t)) (λ f. f);
    new = λ c i e. (issued-new c i e).1;
    rise = λ c i e cs. let a = (issued-new c i e).0 in let b = next-run cs (step m c) in omega arith;
    same = λ cs n o r p l.
        never_again (λ x i w q. eqb x n && ((eqb i o && eqb w r) && eqb q p)) cs m
        (λ x i w q h. let a : x ≡ n = search (fst, eqb-true) in omega arith);
    ended = λ cs n l e. gone_for_good cs m n l e;
  }

  remove-takes : (by n : ℕ) → answer m (Remove by n) ≡ 0 → RemoveTakes m by n
  remove-takes by n e = record {
    yes = λ p o r. ap (λ b. eqb (asked p o r) 0 && b) (removed_yes m by n e p o r);
    ended = removed_for_good m by n e (all_below_lem m v.order);
    unheld = λ cs. unheld (run (step m (Remove by n)) cs) n (removed_for_good m by n e (all_below_lem m v.order) cs);
  }

  delete-ends : (by on : ℕ) → answer m (Delete by on) ≡ 0 → DeleteEnds m by on
  delete-ends by on e = record {
    unnamed = record { there = nobody_holds_it m by on e; itself = it_holds-nothing m by on e };
    later = λ cs d.
        let k = kept_run cs (step m (Delete by on)) (kept_step m (Delete by on) v) in record {
          there = dead_unheld (run (step m (Delete by on)) cs) k on d;
          itself = dead_holds-nothing (run (step m (Delete by on)) cs) k on small d;
        };
    ended = item-ended m by on e;
    others = λ p o r h. deleted-yes m by on e p o r ∙ rw h (and-true (holds m p o r));
  }
    where
      small : on ≤ 63
      small = let a = (passed 2 (fits (Delete by on)) _ e).0 in search (fst, snd, leb-true)

  inherits_nothing : (by on : ℕ) → answer m (Create by on) ≡ 0 → InheritsNothing m by on
  inherits_nothing by on e = record { there = bare_item m v by on e; itself = bare_person m v by on e }

-- ---- every state of a run from fresh
kept : (cs : List TicketCommand) → Kept (run fresh_tickets cs)
kept cs = kept_run cs fresh_tickets kept_fresh

pub numbers_never_again : (cs : List TicketCommand) → NeverAgain (run fresh_tickets cs)
numbers_never_again cs = numbers_kept (run fresh_tickets cs) (kept cs)

pub removed_opens-nothing : (cs : List TicketCommand) (by n : ℕ) → answer (run fresh_tickets cs) (Remove by n) ≡ 0
    → RemoveTakes (run fresh_tickets cs) by n
removed_opens-nothing cs by n e = remove-takes (run fresh_tickets cs) (kept cs) by n e

pub deleted-holds-nothing : (cs : List TicketCommand) (by on : ℕ) → answer (run fresh_tickets cs) (Delete by on) ≡ 0
    → DeleteEnds (run fresh_tickets cs) by on
deleted-holds-nothing cs by on e = delete-ends (run fresh_tickets cs) (kept cs) by on e

pub recreated_inherits_nothing : (cs : List TicketCommand) (by on : ℕ) → answer (run fresh_tickets cs) (Create by on) ≡ 0
    → InheritsNothing (run fresh_tickets cs) by on
recreated_inherits_nothing cs by on e = inherits_nothing (run fresh_tickets cs) (kept cs) by on e

pub promises : (cs : List TicketCommand) → Promises (run fresh_tickets cs)
promises cs = record {
  numbers = numbers_never_again cs;
  remove = removed_opens-nothing cs;
  delete = deleted-holds-nothing cs;
  create = recreated_inherits_nothing cs;
  fifteen = full-counted (run fresh_tickets cs) (kept cs).places;
}
