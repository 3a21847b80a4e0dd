-- What becomes of a chain unit's loans by a withdraw or drop, for every two images, in order or not: the same as of the journal. An accepted
-- command found the images in order, so the loan words after it are those before that passed a test (`lent_kept`), and no command but a
-- lend of a person's on an item and right brings a word of that person's there (`none_after`). The words and the grant bits are fewer and
-- the shift is the same, so each chain was one before, and what a check finds was found before with no smaller depth.
use mathlib.Core.Path.{◌≡◌, refl, sym, ap, ap₂, ◌∙◌, subst}
use mathlib.Core.Bool.{Bool, true, false, not, ◌&&◌, ◌||◌, cond, false≢true}
use mathlib.Core.List.{List, [], ◌∷◌}
use Prim.Native.Nat.{ℕ, ◌≤◌, ◌<◌}
use native.Mathlib.Nat.{le_refl}
use borrow.Author.Tests.{eqb-true}
use lib.ListN.{length, get_or}
use lib.Dec.{eqb, leb}
use Rattle.bits.specs.Sets.{any}
use Rattle.model.specs.declared.Command.{Command}
use Rattle.model.specs.declared.Command.TheVariants.{Create, Delete, Allow, Withdraw, Lend, Recall, Shift, AllowSet, Drop, Sweep}
use Rattle.model.specs.Commands.{depths, items, right_depth, arguments_of}
use Rattle.model.specs.Answers.{asked}
use Rattle.model.specs.Journal.{Grant, grant, carries, loan_in, of_each_depth, lends_from}
use Rattle.model.specs.AllowSet.{finally}
use Rattle.model.specs.Ending.{holding, StaysClean, EndsLoans, GainsNobody}
use Rattle.model.specs.Invariant.{ranged}
use Rattle.layouts.specs.Machine.{answer_of, step_of}
use Rattle.layouts.specs.Layouts.{grant_bytes, live_in, grant_bit, held, dropped, dropped_all, withdrawn}
use Rattle.delegation.specs.Loans.{lender, borrower, loan_depth, last_shift, word_of, word_from, loan_words, used, loans_kept}
use Rattle.delegation.specs.Images.{Images, images, standing_in, ImageChain}
use Rattle.delegation.specs.ChainUnit.{chain_unit, chain_stands, chain_lent, chain_guard, chain_sized, chain_in_order, chain_facts, chain_dropped, chain_after, chain_count, chain_check_number, chain_found, NobodyGains}
use Rattle.bits.proofs.Sets.{by_cases, fst, snd, both, all_true, any_cong, any_kept, any_fewer, any_less, any_gone, any_same}
use Rattle.model.proofs.Commands.{small}
use Rattle.model.proofs.Answers.{effect_either}
use Rattle.model.proofs.Chain.{chain-map}
use Rattle.model.proofs.Invariant.{passed, accepted}
use Rattle.model.proofs.EndsLoans.{holds_on}
use Rattle.layouts.proofs.Layouts.{bytes_laws, cells-build}
use Rattle.layouts.proofs.Drops.{bits_dropped, withdrawn-eight}
use Rattle.delegation.proofs.Rising.{any-insert}
use Rattle.delegation.proofs.Loans.{word_from_lem, kept_used, kept_shift, with_used, at-used}
use Rattle.delegation.proofs.Rules.{check_meets}
use Rattle.delegation.proofs.Dropped.{loans_in_order_lem, withdrawn_is, withdrawn-chain}
use Rattle.delegation.proofs.Drop.{readable, stepped, within_of_lem, withdraw-within}

-- ---- what stands of a grant and of a loan
-- a person with a grant has one of some depth
holding_is : (x : List ℕ) (p o r : ℕ) → items p o && right_depth r 0 ≡ true
    → any (λ d. standing_in x (grant p o r d)) depths ≡ held grant_bytes x p o r
holding_is x p o r w =
    any_cong _ _ (λ d. leb d 7) depths small (λ d u. let rg : ranged (grant p o r d) ≡ true = search (fst, snd, both) in rw rg)

-- the loans image of images in order
module _ (s : Images) (long : length s.loans ≡ loan_words) (order : chain_in_order s ≡ true) where
  -- where loans were kept by a test
  pub lent_kept : (q : ℕ → Bool) (w : ℕ) → any (eqb w) (used (loans_kept q s.loans)) ≡ any (eqb w) (used s.loans) && q w
  lent_kept q w =
      ap (any (eqb w)) (kept_used _ s.loans long (loans_in_order_lem s long order) q)
      ∙ any_kept (eqb w) q (λ x. true) (q w) (used s.loans) (all_true (used s.loans)) (λ x k e. ap q (sym (eqb-true w x e)))

  none_kept : (p q : ℕ → Bool) → any p (used s.loans) ≡ false → any p (used (loans_kept q s.loans)) ≡ false
  none_kept p q n = ap (any p) (kept_used _ s.loans long (loans_in_order_lem s long order) q) ∙ any_less p q (used s.loans) n

  -- fewer grants and fewer loans make no new chain
  fewer_chains : (y : List ℕ) (q : ℕ → Bool) → ((g : Grant) → standing_in y g ≡ true → standing_in s.grants g ≡ true)
      → (o r : ℕ) {ps : List ℕ} {p a : ℕ} → ImageChain (images y (loans_kept q s.loans)) o r ps p a → ImageChain s o r ps p a
  fewer_chains y q less o r c =
      chain-map lender borrower loan_depth lender borrower loan_depth _ _ _ _ (λ p e g. less (grant p o r e) g)
      (λ w t. (
        w,
        (
          any_fewer (eqb w) q (used s.loans) (ap (any (eqb w)) (sym (kept_used _ s.loans long (loans_in_order_lem s long order) q)) ∙ t.0),
          t.1,
          t.2,
          ap (λ (n : ℕ). carries n (last_shift w)) (sym (kept_shift _ s.loans long (loans_in_order_lem s long order) q)) ∙ t.3,
        ),
        refl,
        refl,
        refl,
      )) c

-- ---- no command but a lend of p's there brings a loan of p's there
module _ (p o r : ℕ) where
  none_after : (s : Images) (c : Command) → answer_of chain_unit s c ≡ 0 → lends_from p o r c ≡ false
      → any (word_from p o r) (used s.loans) ≡ false → any (word_from p o r) (used (chain_after s (arguments_of c)).loans) ≡ false
  none_after s (Create by on) e h n = n
  none_after s (Delete by on) e h n = let k = readable s _ e in none_kept s k.0 k.1 (word_from p o r) _ n
  none_after s (Allow by to on right depth) e h n = n
  none_after s (Withdraw by to on right) e h n =
      let k = readable s _ e in
      ap (λ (x : Images). any (word_from p o r) (used x.loans))
      (withdrawn_is s k.0 k.1 to on right (withdraw-within by to on right s e))
      ∙ none_kept s k.0 k.1 (word_from p o r) _ n
  none_after s (Drop by to on right depth) e h n = let k = readable s _ e in none_kept s k.0 k.1 (word_from p o r) _ n
  none_after s (Lend by to on right depth last) e h n =
      let k = readable s _ e in
      let a = arguments_of (Lend by to on right depth last) in
      let d = accepted (chain_facts s a) a k.2 in
      ap (any (word_from p o r)) (with_used _ s.loans k.0 (loans_in_order_lem s k.0 k.1) (word_of (loan_in a)) d.full)
      ∙ any-insert (word_from p o r) (word_of (loan_in a)) (used s.loans)
      ∙ ap₂ (λ (x y : Bool). x || y) (word_from_lem p o r (loan_in a) d.fits ∙ h) n
  none_after s (Recall by to on right depth last) e h n =
      let k = readable s _ e in none_kept s k.0 k.1 (word_from p o r) _ n
  none_after s (Sweep by) e h n = let k = readable s _ e in none_kept s k.0 k.1 (word_from p o r) _ n
  none_after s (Shift by now) e h n =
      let k = readable s _ e in
      ap (any (word_from p o r)) (at-used _ s.loans k.0 (loans_in_order_lem s k.0 k.1) now) ∙ n
  none_after s (AllowSet by set on right depth) e h n = n

  none-step : (s : Images) (c : Command) → lends_from p o r c ≡ false → any (word_from p o r) (used s.loans) ≡ false
      → any (word_from p o r) (used (step_of chain_unit s c).loans) ≡ false
  none-step s c h n = go (eqb (answer_of chain_unit s c) 0) refl
    where
      go : (b : Bool) → eqb (answer_of chain_unit s c) 0 ≡ b
          → any (word_from p o r) (used (cond b (chain_after s (arguments_of c)) s).loans) ≡ false
      go true e = none_after s c (eqb-true (answer_of chain_unit s c) 0 e) h n
      go false e = n

  stays_clean : (s : Images) → any (word_from p o r) (used s.loans) ≡ false
      → StaysClean (answer_of chain_unit) (step_of chain_unit) chain_stands chain_lent s p o r
  stays_clean s n cs h l w f =
      let x : Images = finally (answer_of chain_unit) (step_of chain_unit) s cs in
      let m : any (word_from p o r) (used x.loans) ≡ false
      = holds_on (answer_of chain_unit) (step_of chain_unit) (λ y. any (word_from p o r) (used y.loans) ≡ false) (lends_from p o r) none-step
      cs s h n in
      by_cases (chain_lent x l)
      (λ t. absurd (false≢true (sym m
      ∙ any_same (word_from p o r) eqb eqb-true (word_of l) (used x.loans) t (word_from_lem p o r l w ∙ f)))) (λ t. t)

-- ---- withdraw and drop
module _ (s : Images) (by to on right : ℕ) where
  -- the person's words there are gone, where the test names them all
  gone : (q : ℕ → Bool) → length s.loans ≡ loan_words → chain_in_order s ≡ true
      → ((w : ℕ) → word_from to on right w ≡ true → q w ≡ false) → any (word_from to on right) (used (loans_kept q s.loans)) ≡ false
  gone q long order f =
      ap (any (word_from to on right)) (kept_used _ s.loans long (loans_in_order_lem s long order) q)
      ∙ any_gone (word_from to on right) q (used s.loans) f

  -- an accepted withdraw
  module _ (e : answer_of chain_unit s (Withdraw by to on right) ≡ 0) where
    abbrev left : ℕ → Bool
    left w = not (held grant_bytes s.grants to on right && word_from to on right w)

    read : (length s.loans ≡ loan_words) × (chain_in_order s ≡ true)
    read = let k = readable s _ e in (k.0, k.1)

    limits : items to on && right_depth right 0 ≡ true
    limits = withdraw-within by to on right s e

    after-withdraw : step_of chain_unit s (Withdraw by to on right)
        ≡ images (withdrawn grant_bytes s.grants to on right) (loans_kept left s.loans)
    after-withdraw = stepped s (Withdraw by to on right) e ∙ withdrawn-chain s read.0 read.1 to on right limits

  -- an accepted drop
  module _ (depth : ℕ) (e : answer_of chain_unit s (Drop by to on right depth) ≡ 0) where
    drop_read : (length s.loans ≡ loan_words) × (chain_in_order s ≡ true)
    drop_read = let k = readable s _ e in (k.0, k.1)

    drop_limits : items to on && right_depth right 0 ≡ true
    drop_limits = let w = within_of_lem by to on right s depth e in search (fst, snd, both)

    after-drop : step_of chain_unit s (Drop by to on right depth) ≡ chain_dropped s (grant to on right depth)
    after-drop = stepped s (Drop by to on right depth) e

    holding-after : holding (answer_of chain_unit) (step_of chain_unit) chain_stands chain_lent (step_of chain_unit s (Drop by to on right depth))
        to on right
        ≡ held grant_bytes (dropped grant_bytes s.grants (grant to on right depth)) to on right
    holding-after =
        ap (λ (x : Images). any (λ d. chain_stands x (grant to on right d)) depths) after-drop
        ∙ holding_is (dropped grant_bytes s.grants (grant to on right depth)) to on right drop_limits

  pub chain-ends-loans : EndsLoans (answer_of chain_unit) (step_of chain_unit) chain_stands chain_lent s by to on right
  chain-ends-loans = record {
    withdraw =
        λ e l w. ap (λ (x : Images). chain_lent x l) (after-withdraw e) ∙ lent_kept s (read e).0 (read e).1 (left e) (word_of l)
        ∙ ap₂ (λ (x y : Bool). chain_lent s l && not (x && y)) (sym (holding_is s.grants to on right (limits e)))
        (word_from_lem to on right l w);
    drop =
        λ depth e l w. ap (λ (x : Images). chain_lent x l) (after-drop depth e)
        ∙ lent_kept s (drop_read depth e).0 (drop_read depth e).1 _ (word_of l)
        ∙ ap₂ (λ (x y : Bool). chain_lent s l && not (x && y))
        (ap₂ (λ (x y : Bool). x && not y) (sym (holding_is s.grants to on right (drop_limits depth e))) (sym (holding-after depth e)))
        (word_from_lem to on right l w);
    withdraw_clean =
        λ e h. stays_clean to on right (step_of chain_unit s (Withdraw by to on right))
        (ap (λ (x : Images). any (word_from to on right) (used x.loans)) (after-withdraw e)
        ∙ gone (left e) (read e).0 (read e).1
        (λ w f. ap not (both (sym (holding_is s.grants to on right (limits e)) ∙ h) f)));
    drop_clean =
        λ depth e h n. stays_clean to on right (step_of chain_unit s (Drop by to on right depth))
        (ap (λ (x : Images). any (word_from to on right) (used x.loans)) (after-drop depth e)
        ∙ gone _ (drop_read depth e).0 (drop_read depth e).1
        (λ w f. ap not (both (both (sym (holding_is s.grants to on right (drop_limits depth e)) ∙ h)
        (ap not (sym (holding-after depth e) ∙ n))) f)));
  }

-- ---- nobody gains
stands_fewer : (x : List ℕ) (g h : Grant) → standing_in (dropped grant_bytes x g) h ≡ true → standing_in x h ≡ true
stands_fewer x g h t =
    let rh : ranged h ≡ true = fst (ranged h) (grant_bit grant_bytes (dropped grant_bytes x g) (grant_bytes.place h)) t in
    both rh
    (fst (grant_bit grant_bytes x (grant_bytes.place h)) _
    (sym (bits_dropped grant_bytes bytes_laws x g (grant_bytes.place h) (bytes_laws.below h rh))
    ∙ snd (ranged h) (grant_bit grant_bytes (dropped grant_bytes x g) (grant_bytes.place h)) t))

stands_fewer_all : (gs : List Grant) (x : List ℕ) (h : Grant) → standing_in (dropped_all grant_bytes x gs) h ≡ true → standing_in x h ≡ true
stands_fewer_all [] x h t = t
stands_fewer_all (g ∷ gs) x h t = stands_fewer x g h (stands_fewer_all gs (dropped grant_bytes x g) h t)

withdrawn_fewer : (x : List ℕ) (p o r : ℕ) (h : Grant) → standing_in (withdrawn grant_bytes x p o r) h ≡ true → standing_in x h ≡ true
unfolding withdrawn
withdrawn_fewer x p o r h t = stands_fewer_all (of_each_depth p o r) x h t

-- what a command does, or nothing
pub either_way : (C : Images → Type 0) (s : Images) (c : Command) → C s → (answer_of chain_unit s c ≡ 0 → C (step_of chain_unit s c))
    → C (step_of chain_unit s c)
either_way C s c same done =
    effect_either C s (chain_after s (arguments_of c)) (answer_of chain_unit s c) (chain_count s (arguments_of c).verb) same
    (λ e. subst C (stepped s c e) (done e))

-- the chains after a command were chains before
abbrev Fewer : Images → Images → Type 0
Fewer s x = (o r : ℕ) (ps : List ℕ) (p a : ℕ) → ImageChain x o r ps p a → ImageChain s o r ps p a

module _ (s : Images) (by to on right : ℕ) where
  withdraw_fewer : Fewer s (step_of chain_unit s (Withdraw by to on right))
  withdraw_fewer =
      either_way (Fewer s) s (Withdraw by to on right) (λ o r ps p a c. c)
      (λ e o r ps p a c. fewer_chains s (read s by to on right e).0 (read s by to on right e).1
      (withdrawn grant_bytes s.grants to on right) _ (withdrawn_fewer s.grants to on right) o r
      (subst (λ (x : Images). ImageChain x o r ps p a) (after-withdraw s by to on right e) c))

  drop_fewer : (depth : ℕ) → Fewer s (step_of chain_unit s (Drop by to on right depth))
  drop_fewer depth =
      either_way (Fewer s) s (Drop by to on right depth) (λ o r ps p a c. c)
      (λ e o r ps p a c. fewer_chains s (drop_read s by to on right depth e).0 (drop_read s by to on right depth e).1
      (dropped grant_bytes s.grants (grant to on right depth)) _ (stands_fewer s.grants (grant to on right depth)) o r
      (subst (λ (x : Images). ImageChain x o r ps p a) (after-drop s by to on right depth e) c))

pub chain_gains_nobody : (s : Images) → GainsNobody (step_of chain_unit) ImageChain s
chain_gains_nobody s = record {
  withdraw = λ by to on right o r c. withdraw_fewer s by to on right o r _ _ _ c;
  drop = λ by to on right depth o r c. drop_fewer s by to on right depth o r _ _ _ c;
}

-- the same of what a check finds, where the bytes of the images are bytes
found_fewer : (s x : Images) → ((i : ℕ) → get_or s.grants i 0 < 256) → ((i : ℕ) → get_or x.grants i 0 < 256) → Fewer s x
    → (buffer : List ℕ) (p o r : ℕ) → chain_check_number s buffer p o r ≡ 0 → chain_check_number x buffer p o r ≡ 0
    → (chain_found x buffer p o r).yes ≡ true
    → ((chain_found s buffer p o r).yes ≡ true) × ((chain_found x buffer p o r).depth ≤ (chain_found s buffer p o r).depth)
found_fewer s x bs bx fewer buffer p o r es ex y =
    (check_meets s bs buffer p o r es).greatest _ _ (fewer o r _ p _ ((check_meets x bx buffer p o r ex).shown y))

-- a check that finds somebody is not refused
found-free : (x : Images) (buffer : List ℕ) (p o r : ℕ) → (chain_found x buffer p o r).yes ≡ true → chain_check_number x buffer p o r ≡ 0
found-free x buffer p o r y =
    by_cases (eqb (chain_check_number x buffer p o r) 0) (λ e. eqb-true (chain_check_number x buffer p o r) 0 e)
    (λ e. absurd (false≢true (let z = rw e at y in z)))

-- it would not have been refused in images that a command was accepted in
free_before : (s x : Images) (n : ℕ) (buffer : List ℕ) (p o r : ℕ) → chain_guard s n ≡ 0 → chain_check_number x buffer p o r ≡ 0
    → chain_check_number s buffer p o r ≡ 0
free_before s x n buffer p o r e f =
    let a = passed 0 (chain_sized s true) _ e in
    let b = passed 1 (chain_in_order s) n a.1 in
    let c = passed 0 (chain_sized x (eqb (length buffer) 8)) _ f in
    let d = passed 1 (chain_in_order x) (asked p o r) c.1 in
    let z : chain_sized s (eqb (length buffer) 8) ≡ true = let u = a.0 in let v = c.0 in search (fst, snd, both) in
    rw (z, b.0) d.1

byte_dropped : (y : List ℕ) (g : Grant) (i : ℕ) → get_or (dropped grant_bytes y g) i 0 < 256
byte_dropped y g i = unfold grant_bytes in (cells-build grant_bytes bytes_laws (live_in grant_bytes y) _ i)

byte_withdrawn : (y : List ℕ) (p o r i : ℕ) → get_or (withdrawn grant_bytes y p o r) i 0 < 256
byte_withdrawn y p o r i =
    rw (withdrawn-eight grant_bytes bytes_laws y p o r) (unfold grant_bytes in (cells-build grant_bytes bytes_laws (live_in grant_bytes y) _ i))

module _ (s : Images) (bytes : (i : ℕ) → get_or s.grants i 0 < 256) (by to on right : ℕ) where
  pub withdraw_nobody_gains : NobodyGains s (step_of chain_unit s (Withdraw by to on right))
  withdraw_nobody_gains =
      either_way (NobodyGains s) s (Withdraw by to on right) (λ buffer p o r y. (y, le_refl _))
      (λ e buffer p o r y. let x = step_of chain_unit s (Withdraw by to on right) in
      let f = found-free x buffer p o r y in
      found_fewer s x bytes
      (λ i. subst (λ (z : Images). get_or z.grants i 0 < 256) (sym (after-withdraw s by to on right e))
      (byte_withdrawn s.grants to on right i))
      (withdraw_fewer s by to on right) buffer p o r (free_before s x _ buffer p o r e f) f y)

  pub drop_nobody_gains : (depth : ℕ) → NobodyGains s (step_of chain_unit s (Drop by to on right depth))
  drop_nobody_gains depth =
      either_way (NobodyGains s) s (Drop by to on right depth) (λ buffer p o r y. (y, le_refl _))
      (λ e buffer p o r y. let x = step_of chain_unit s (Drop by to on right depth) in
      let f = found-free x buffer p o r y in
      found_fewer s x bytes
      (λ i. subst (λ (z : Images). get_or z.grants i 0 < 256) (sym (after-drop s by to on right depth e))
      (byte_dropped s.grants (grant to on right depth) i))
      (drop_fewer s by to on right depth) buffer p o r (free_before s x _ buffer p o r e f) f y)
