-- What sweep promises, of a chain unit, for every two images, in order or not: the same as of the journal (model/proofs/Sweep). An accepted
-- sweep found the images in order, so the loan words after it are those before that are not past, and the shift is the same. At this shift
-- or a later one every loan that carries is among them, so a check picks the loans that it would have picked before, and finds the same
-- (`sweep_checks`, `sweep_checks_now`).
use mathlib.Core.Path.{◌≡◌, refl, sym, ap, ◌∙◌, subst}
use mathlib.Core.Bool.{Bool, true, not, ◌&&◌}
use mathlib.Core.List.{List}
use mathlib.Core.Logic.{◌↔◌}
use Prim.Native.Nat.{ℕ, ◌+◌, ◌*◌, ◌≤◌}
use native.Mathlib.Omega.{arith}
use native.Mathlib.Nat.{le_refl}
use borrow.Author.Tests.{eqb-true, lt-leb}
use lib.ListN.{length}
use lib.Dec.{eqb}
use Rattle.bits.specs.Sets.{any, keep, count}
use Rattle.model.specs.declared.Command.TheVariants.{Lend, Sweep}
use Rattle.model.specs.Commands.{arguments_of, most_loans}
use Rattle.model.specs.Answers.{answer}
use Rattle.model.specs.Journal.{carries, is_past}
use Rattle.model.specs.Sweep.{Sweeps}
use Rattle.layouts.specs.Machine.{answer_of, counted_of, step_of}
use Rattle.layouts.specs.Layouts.{grant_bytes, grant_cells, live_in, is_in_order}
use Rattle.delegation.specs.Loans.{lender, borrower, loan_depth, last_shift, key_of, word_past, loan_words, count_of, shift_in, used, loans_kept, loans_at, loans_in_order}
use Rattle.delegation.specs.Images.{Images, images, WordCarries, ImageChain}
use Rattle.delegation.specs.Picking.{picks, picked}
use Rattle.delegation.specs.Search.{found_of}
use Rattle.delegation.specs.ChainUnit.{chain_unit, chain_sized, chain_in_order, chain_facts, chain_at, SameAnswers}
use Rattle.bits.proofs.Sets.{by_cases, fst, snd, both, all_true, keep_cong, keep-keep, count_kept, count_gone}
use Rattle.model.proofs.Answers.{effect-refused, effect-counted}
use Rattle.model.proofs.Chain.{chain-map}
use Rattle.model.proofs.Invariant.{passed}
use Rattle.model.proofs.Shifts.{earlier_carries}
use Rattle.model.proofs.Sweep.{ten_alone}
use Rattle.delegation.proofs.Loans.{kept_long, kept_used, kept_shift, kept_order, kept_count, at-used, at_shift_lem, at-present, at_long, at-order, order-image, few_used}
use Rattle.delegation.proofs.Dropped.{loans_in_order_lem}
use Rattle.delegation.proofs.Drop.{stepped, readable}
use Rattle.delegation.proofs.EndsLoans.{lent_kept, either_way}

module _ (s : Images) (by : ℕ) where
  -- the test of what is counted, and what stays
  abbrev past : ℕ → Bool
  past w = word_past (shift_in s.loans) w

  abbrev left : List ℕ
  left = loans_kept (λ w. not (past w)) s.loans

  -- both images after an accepted sweep
  abbrev swept : Images
  swept = images s.grants left

  module _ (e : answer_of chain_unit s (Sweep by) ≡ 0) where
    -- the images were in order
    long : length s.loans ≡ loan_words
    long = (readable s _ e).0

    abbrev live : ℕ → Bool
    live = live_in grant_bytes s.grants

    order : loans_in_order live s.loans ≡ true
    order = loans_in_order_lem s long (readable s _ e).1

    after : step_of chain_unit s (Sweep by) ≡ swept
    after = stepped s (Sweep by) e

    -- and so are those that it leaves
    left-used : used left ≡ keep (λ w. not (past w)) (used s.loans)
    left-used = kept_used live s.loans long order (λ w. not (past w))

    left-shift : shift_in left ≡ shift_in s.loans
    left-shift = kept_shift live s.loans long order (λ w. not (past w))

    left-long : length left ≡ loan_words
    left-long = kept_long live s.loans long order (λ w. not (past w))

    left-order : loans_in_order live left ≡ true
    left-order = kept_order live s.loans long order (λ w. not (past w))

    sized : chain_sized s true ≡ true
    sized = (passed 0 (chain_sized s true) _ e).0

    left-sized : chain_sized swept true ≡ true
    left-sized = ap (λ (n : ℕ). eqb (length s.grants) grant_cells && eqb n loan_words && true) (left-long ∙ sym long) ∙ sized

    sum_of : length (used s.loans) ≡ length (used left) + count past (used s.loans)
    sum_of = count_kept past (used s.loans) ∙ ap (λ (ws : List ℕ). length ws + count past (used s.loans)) (sym left-used)

    -- ---- at this shift or a later one
    module _ (n : ℕ) (later : shift_in s.loans ≤ n) where
      still : (w : ℕ) → carries n (last_shift w) ≡ true → not (past w) ≡ true
      still w h = let c = earlier_carries (shift_in s.loans) n (last_shift w) later h in rw c

      shift_before : shift_in (loans_at n s.loans) ≡ n
      shift_before = at_shift_lem live s.loans long order n

      shift-after : shift_in (loans_at n left) ≡ n
      shift-after = at_shift_lem live left left-long left-order n

      used_before : used (loans_at n s.loans) ≡ used s.loans
      used_before = at-used live s.loans long order n

      used-after : used (loans_at n left) ≡ used left
      used-after = at-used live left left-long left-order n

      word_after : (o r w : ℕ) → WordCarries (loans_at n s.loans) o r w → WordCarries (loans_at n left) o r w
      word_after o r w h =
          let c : carries n (last_shift w) ≡ true = ap (λ (m : ℕ). carries m (last_shift w)) (sym shift_before) ∙ h.3 in (
            ap (any (eqb w)) used-after ∙ lent_kept s long (readable s _ e).1 (λ x. not (past x)) w
                ∙ both (ap (any (eqb w)) (sym used_before) ∙ h.0) (still w c),
            h.1,
            h.2,
            ap (λ (m : ℕ). carries m (last_shift w)) shift-after ∙ c,
          )

      word_before : (o r w : ℕ) → WordCarries (loans_at n left) o r w → WordCarries (loans_at n s.loans) o r w
      word_before o r w h = (
        ap (any (eqb w)) used_before
            ∙ fst (any (eqb w) (used s.loans)) (not (past w))
            (sym (lent_kept s long (readable s _ e).1 (λ x. not (past x)) w) ∙ ap (any (eqb w)) (sym used-after) ∙ h.0),
        h.1,
        h.2,
        ap (λ (m : ℕ). carries m (last_shift w)) (shift_before ∙ sym shift-after) ∙ h.3,
      )

      same-chains : (o r : ℕ) (ps : List ℕ) (p a : ℕ) → ImageChain (chain_at n swept) o r ps p a ↔ ImageChain (chain_at n s) o r ps p a
      same-chains o r ps p a = (
        λ c. chain-map lender borrower loan_depth lender borrower loan_depth _ _ _ _ (λ q d h. h)
            (λ w h. (w, word_before o r w h, refl, refl, refl)) c,
        λ c. chain-map lender borrower loan_depth lender borrower loan_depth _ _ _ _ (λ q d h. h)
            (λ w h. (w, word_after o r w h, refl, refl, refl)) c,
      )

      -- a check picks the same loans
      same-picked : (key : ℕ) → picked (loans_at n left) key ≡ picked (loans_at n s.loans) key
      unfolding picked
      same-picked key =
          rw (shift_before, shift-after, used_before, used-after, left-used)
          (keep-keep (picks n key) (λ w. not (past w)) (used s.loans)
          ∙ keep_cong _ (picks n key) (λ w. true) (used s.loans) (all_true (used s.loans)) (λ w k. both_ways w))
        where
          both_ways : (w : ℕ) → not (past w) && picks n key w ≡ picks n key w
          both_ways w =
              by_cases (picks n key w)
              (λ h. rw (still w (snd (eqb (key_of w) key) (carries n (last_shift w)) h)))
              (λ h. rw h (by_cases (not (past w)) (λ t. rw t) (λ t. rw t)))

      same-found : (key p : ℕ) → found_of s.grants (loans_at n left) key p ≡ found_of s.grants (loans_at n s.loans) key p
      unfolding found_of
      same-found key p = rw (same-picked key)

      same-answers : n ≤ 255 → SameAnswers (chain_at n s) (chain_at n swept)
      same-answers small buffer p o r =
          let l = at_long live s.loans long order n in
          let m = at_long live left left-long left-order n in
          let y = at-order live s.loans long order n small in
          let z = at-order live left left-long left-order n small in
          (rw (l, m, y, z), rw (l, m, y, z, same-found (8 * o + r) p))

  room-again : 1 ≤ counted_of chain_unit s (Sweep by) → (lender to on right depth until : ℕ)
      → answer_of chain_unit s (Lend lender to on right depth until) ≡ 10
      → answer_of chain_unit (step_of chain_unit s (Sweep by)) (Lend lender to on right depth until) ≡ 0
  room-again h lender to on right depth until e =
      let a = effect-counted s swept (answer_of chain_unit s (Sweep by)) (count past (used s.loans)) h in
      let c : counted_of chain_unit s (Sweep by) ≡ count past (used s.loans) = rw a in
      let few : count_of left + 1 ≤ most_loans
      = omega (arith, sum_of a, few_used (live a) s.loans (long a) (order a), c, h, count_left a) in
      let b = arguments_of (Lend lender to on right depth until) in
      let i : chain_in_order s ≡ true = (readable s _ a).1 in
      let k : chain_in_order swept ≡ true = both {a = is_in_order grant_bytes s.grants} (fst _ (loans_in_order (live a) s.loans) i) (left-order a) in
      let d : answer (chain_facts s b) b ≡ 10 = rw (sized a, i) at e in
      rw (after a, left-sized a, k)
      (ten_alone (chain_facts s b) (chain_facts swept b) refl refl refl refl (ap (λ (m : ℕ). is_past m until) (sym (left-shift a)))
      (rw (lt-leb most_loans (count_of left) (omega (arith, few)))) lender to on right depth until d)
    where
      count_left : (a : answer_of chain_unit s (Sweep by) ≡ 0) → count_of left ≡ length (used left)
      count_left a = kept_count (live a) s.loans (long a) (order a) (λ w. not (past w)) ∙ ap length (sym (left-used a))

  pub chain_sweep : Sweeps (answer_of chain_unit) (counted_of chain_unit) (step_of chain_unit) (λ (x : Images). used x.loans) last_shift
      (λ (x : Images). shift_in x.loans) chain_at ImageChain s by
  chain_sweep = record {
    nothing = effect-refused s swept (answer_of chain_unit s (Sweep by)) (count past (used s.loans));
    left = λ e. ap (λ (x : Images). used x.loans) (after e) ∙ left-used e;
    many = λ e. rw e;
    sum =
        by_cases (eqb (answer_of chain_unit s (Sweep by)) 0) (λ q. rw q (sum_of (eqb-true _ _ q))) (λ q. rw q (omega arith));
    present =
        either_way (λ x. shift_in x.loans ≡ shift_in s.loans) s (Sweep by) refl
        (λ e. ap (λ (x : Images). shift_in x.loans) (after e) ∙ left-shift e);
    chains =
        λ n later o r ps p a.
        either_way (λ x. ImageChain (chain_at n x) o r ps p a ↔ ImageChain (chain_at n s) o r ps p a) s (Sweep by) (λ c. c, λ c. c)
        (λ e. subst (λ (x : Images). ImageChain (chain_at n x) o r ps p a ↔ ImageChain (chain_at n s) o r ps p a) (sym (after e))
        (same-chains e n later o r ps p a));
    again =
        λ e other. rw (after e)
        (by_cases (eqb (answer_of chain_unit swept (Sweep other)) 0)
        (λ q. rw (q, left-shift e, left-used e) (count_gone past (λ w. not (past w)) (used s.loans) (λ w h. ap not h))) (λ q. rw q));
    room = room-again;
  }

  -- at every shift number from the present one up, every check has the same yes, no, depth and number of persons before and after
  pub sweep_checks : (n : ℕ) → shift_in s.loans ≤ n → n ≤ 255 → SameAnswers (chain_at n s) (chain_at n (step_of chain_unit s (Sweep by)))
  sweep_checks n later small =
      either_way (λ x. SameAnswers (chain_at n s) (chain_at n x)) s (Sweep by) (λ buffer p o r. (refl, refl))
      (λ e. subst (λ (x : Images). SameAnswers (chain_at n s) (chain_at n x)) (sym (after e)) (same-answers e n later small))

  -- so they have now
  pub sweep_checks_now : SameAnswers s (step_of chain_unit s (Sweep by))
  sweep_checks_now =
      either_way (SameAnswers s) s (Sweep by) (λ buffer p o r. (refl, refl))
      (λ e. subst (SameAnswers s) (sym (after e))
      (along (at-present (live e) s.loans (long e) (order e))
      (ap (λ (n : ℕ). loans_at n left) (sym (left-shift e)) ∙ at-present (live e) left (left-long e) (left-order e))
      (same-answers e (shift_in s.loans) (le_refl _) (order-image (live e) s.loans (long e) (order e)).3)))
    where
      -- of loans images that are these
      along : {t u t' u' : List ℕ} → t ≡ t' → u ≡ u' → SameAnswers (images s.grants t) (images s.grants u)
          → SameAnswers (images s.grants t') (images s.grants u')
      along {t} {u} {t'} {u'} p q h =
          subst (λ (y : List ℕ). SameAnswers (images s.grants t') (images s.grants y)) q
          (subst (λ (y : List ℕ). SameAnswers (images s.grants y) (images s.grants u)) p h)
