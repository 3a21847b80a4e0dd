-- What drop and withdraw promise of a chain unit, for every two images, in order or not: the same as of the journal. A drop clears one place
-- of the grants and may end loans; what several leave does not show their order, and eight of them are withdraw (Dropped). What is left is
-- in order, with the same live set, and so the next drop is asked what withdraw was asked before the first (`still`).
use mathlib.Core.Path.{◌≡◌, refl, sym, ap, ◌∙◌, subst}
use mathlib.Core.Bool.{true, false, not, ◌&&◌, cond}
use mathlib.Core.List.{List, [], ◌∷◌, map}
use Prim.Native.Nat.{ℕ, ◌≤◌}
use borrow.Author.Tests.{eqb-true, ne_eqb, leb-true}
use lib.ListN.{length}
use lib.Dec.{eqb, leb}
use Rattle.bits.specs.Sets.{any, all}
use Rattle.model.specs.declared.Command.{Command}
use Rattle.model.specs.declared.Command.TheVariants.{Withdraw, Drop}
use Rattle.model.specs.Commands.{depths, items, right_depth, arguments_of, fits}
use Rattle.model.specs.Answers.{table}
use Rattle.model.specs.Journal.{Grant, grant, same_grant, of_each_depth}
use Rattle.model.specs.AllowSet.{Accepts, one, finally}
use Rattle.model.specs.Drop.{Dropping, drop_of, SameGrants, grants_in, Drops, Withdraws, DropsCommute}
use Rattle.model.specs.Invariant.{ranged}
use Rattle.layouts.specs.Machine.{answer_of, step_of}
use Rattle.layouts.specs.Layouts.{grant_bytes, live_in, grant_bit, dropped, withdrawn}
use Rattle.delegation.specs.Loans.{loan_words}
use Rattle.delegation.specs.Images.{Images, standing_in}
use Rattle.delegation.specs.ChainUnit.{chain_unit, chain_stands, chain_guard, chain_sized, chain_in_order, chain_facts, chain_dropped, chain_dropped_all, chain_withdrawn, chain_after}
use Rattle.bits.proofs.Sets.{iff, by_cases, fst, snd, both, find, any_same}
use Rattle.model.proofs.Commands.{depth_in, small}
use Rattle.model.proofs.Answers.{table-flat}
use Rattle.model.proofs.AllowSet.{none_named}
use Rattle.model.proofs.Invariant.{eqb_sym, passed, accepted}
use Rattle.model.proofs.OneByOne.{Singles, one_by_one}
use Rattle.model.proofs.Drop.{drop-answer, drop-beyond, not_own, greatest-left, drops_leave, eight-ranged}
use Rattle.layouts.proofs.Layouts.{bytes_laws, build_cong, place_same}
use Rattle.layouts.proofs.Drops.{withdrawn-eight, live-dropped, bits_dropped, held-dropped}
use Rattle.delegation.proofs.Dropped.{with_grants, dropped_is, withdrawn_is, order-free, dropped_readable}

pub stepped : (s : Images) (c : Command) → answer_of chain_unit s c ≡ 0 → step_of chain_unit s c ≡ chain_after s (arguments_of c)
stepped s c e = rw e

-- the images of an accepted command: they have their lengths and are in order
pub readable : (s : Images) (n : ℕ) → chain_guard s n ≡ 0 → (length s.loans ≡ loan_words) × (chain_in_order s ≡ true) × (n ≡ 0)
readable s n e =
    let p = passed 0 (chain_sized s true) _ e in
    let q = passed 1 (chain_in_order s) n p.1 in
    let k : eqb (length s.loans) loan_words ≡ true = let z = p.0 in search (fst, snd) in
    (eqb-true _ _ k, q.0, q.1)

-- the limits of an accepted drop
dropping_ranged : (s : Images) (d : Dropping) → answer_of chain_unit s (drop_of d) ≡ 0 → ranged d.ended ≡ true
dropping_ranged s d e =
    let a = arguments_of (drop_of d) in
    let k = (accepted (chain_facts s a) a (readable s _ e).2).fits in
    search (fst, snd, both)

all-ranged : (ds : List Dropping) (s : Images) → Accepts (answer_of chain_unit) (step_of chain_unit) s (map drop_of ds)
    → all ranged (grants_in ds) ≡ true
unfolding all
all-ranged [] s a = refl
all-ranged (d ∷ ds) s (one e r) = both (dropping_ranged s d e) (all-ranged ds (step_of chain_unit s (drop_of d)) r)

chain_leaves : (ds : List Dropping) (s : Images) → Accepts (answer_of chain_unit) (step_of chain_unit) s (map drop_of ds)
    → finally (answer_of chain_unit) (step_of chain_unit) s (map drop_of ds) ≡ chain_dropped_all s (grants_in ds)
chain_leaves =
    drops_leave (answer_of chain_unit) (step_of chain_unit) chain_dropped chain_dropped_all (λ s. refl) (λ s g gs. refl)
    (λ s d e. stepped s (drop_of d) e)

pub chain_commute : (s : Images) → DropsCommute (answer_of chain_unit) (step_of chain_unit) chain_stands chain_guard s
chain_commute s ds es h a b =
    chain_leaves ds s a ∙ same ds es (all-ranged ds s a) (all-ranged es s b) h a b ∙ sym (chain_leaves es s b)
  where
    -- the first of the drops finds the images in order
    same : (ds es : List Dropping) → all ranged (grants_in ds) ≡ true → all ranged (grants_in es) ≡ true
        → SameGrants (grants_in ds) (grants_in es) → Accepts (answer_of chain_unit) (step_of chain_unit) s (map drop_of ds)
        → Accepts (answer_of chain_unit) (step_of chain_unit) s (map drop_of es)
        → chain_dropped_all s (grants_in ds) ≡ chain_dropped_all s (grants_in es)
    same [] [] rd re h a b = refl
    same (d ∷ ds) es rd re h (one e r) b =
        let k = readable s _ e in order-free s k.0 k.1 (grants_in (d ∷ ds)) (grants_in es) rd re h
    same [] (f ∷ es) rd re h a (one e r) = let k = readable s _ e in order-free s k.0 k.1 [] (grants_in (f ∷ es)) rd re h

-- what stands where a grant is dropped
stands-dropped : (s : List ℕ) (g h : Grant) → ranged g ≡ true → ranged h ≡ true
    → standing_in (dropped grant_bytes s g) h ≡ standing_in s h && not (same_grant g h)
stands-dropped s g h rg rh =
    rw rh (bits_dropped grant_bytes bytes_laws s g (grant_bytes.place h) (bytes_laws.below h rh)
    ∙ ap (λ b. grant_bit grant_bytes s (grant_bytes.place h) && not b)
    (eqb_sym (grant_bytes.place g) (grant_bytes.place h) ∙ place_same g h rg rh))

module _ (by to on right : ℕ) where
  number_of : (s : Images) (depth : ℕ) → depth ≤ 7
      → answer_of chain_unit s (Drop by to on right depth) ≡ answer_of chain_unit s (Withdraw by to on right)
  number_of s depth h =
      ap (chain_guard s)
      (drop-answer (chain_facts s (arguments_of (Drop by to on right depth))) (chain_facts s (arguments_of (Withdraw by to on right))) refl
      refl refl refl refl by to on right depth h)

  -- the limits of an accepted drop
  pub within_of_lem : (s : Images) (depth : ℕ) → answer_of chain_unit s (Drop by to on right depth) ≡ 0 → ranged (grant to on right depth) ≡ true
  within_of_lem s depth e = dropping_ranged s (record { by = by; ended = grant to on right depth }) e

  ends_of : (s : Images) (depth : ℕ) → answer_of chain_unit s (Drop by to on right depth) ≡ 0 → (g : Grant) → ranged g ≡ true
      → chain_stands (step_of chain_unit s (Drop by to on right depth)) g ≡ chain_stands s g && not (same_grant (grant to on right depth) g)
  ends_of s depth e g r =
      ap (λ (x : Images). chain_stands x g) (stepped s (Drop by to on right depth) e)
      ∙ stands-dropped s.grants (grant to on right depth) g (within_of_lem s depth e) r

  -- where it is the only depth, the place of a drop is the one of the eight that has its bit
  only-place : (s : List ℕ) (depth : ℕ) → ranged (grant to on right depth) ≡ true
      → ((e : ℕ) → e ≤ 7 → standing_in s (grant to on right e) ≡ true → e ≡ depth)
      → dropped grant_bytes s (grant to on right depth) ≡ withdrawn grant_bytes s to on right
  only-place s depth w only =
      build_cong grant_bytes bytes_laws _ _ _ _ (λ i u. refl)
      (λ k u. by_cases (grant_bit grant_bytes s k) (λ t. rw t (ap not (same k t))) (λ t. rw t))
      ∙ sym (withdrawn-eight grant_bytes bytes_laws s to on right)
    where
      same : (k : ℕ) → grant_bit grant_bytes s k ≡ true
          → eqb (grant_bytes.place (grant to on right depth)) k ≡ any (λ d. eqb (grant_bytes.place (grant to on right d)) k) depths
      same k t =
          iff _ _
          (λ e. any_same (λ d. eqb (grant_bytes.place (grant to on right d)) k) eqb eqb-true depth depths
          (depth_in depth (search (fst, snd))) e)
          (λ e. let f = find (λ d. eqb (grant_bytes.place (grant to on right d)) k) (λ d. leb d 7) depths small e in
          let q : grant_bytes.place (grant to on right f.0) ≡ k = eqb-true _ _ f.2 in
          let r : ranged (grant to on right f.0) ≡ true = let x = f.1 in search (fst, snd, both) in
          let z : f.0 ≡ depth = only f.0 (leb-true _ _ f.1) (both r (ap (grant_bit grant_bytes s) q ∙ t)) in
          subst (λ (d : ℕ). eqb (grant_bytes.place (grant to on right d)) k ≡ true) z f.2)

  pub chain-drop : (s : Images) (depth : ℕ) → Drops (answer_of chain_unit) (step_of chain_unit) chain_stands chain_guard s by to on right depth
  chain-drop s depth = record {
    number = number_of s depth;
    beyond = λ n. ap (chain_guard s) (drop-beyond (chain_facts s (arguments_of (Drop by to on right depth))) by to on right depth n);
    nothing = λ n. rw (ne_eqb _ 0 n);
    ends = ends_of s depth;
    greatest =
        λ e. let w = within_of_lem s depth e in
        greatest-left (chain_stands s) _ to on right depth (search (fst, snd, both)) (ends_of s depth e);
    closes =
        λ e only. let w = within_of_lem s depth e in
        let k = readable s _ e in
        let v : items to on && right_depth right 0 ≡ true = search (fst, snd, both) in
        stepped s (Drop by to on right depth) e
        ∙ dropped_is s k.0 k.1 (grant to on right depth ∷ []) (unfold all in (both w refl))
        ∙ ap (with_grants s) (only-place s.grants depth w only)
        ∙ sym (withdrawn_is s k.0 k.1 to on right v)
        ∙ sym (stepped s (Withdraw by to on right) (sym (number_of s depth (depth_below s depth e)) ∙ e));
  }
    where
      depth_below : (s : Images) (depth : ℕ) → answer_of chain_unit s (Drop by to on right depth) ≡ 0 → depth ≤ 7
      depth_below s depth e = let w = within_of_lem s depth e in search (fst, snd, leb-true)

  -- after a drop that leaves by's edit grants, withdraw is accepted as it was before
  still : (s : Images) (d : ℕ) → eqb by to && eqb right 0 ≡ false → leb d 7 ≡ true → answer_of chain_unit s (Withdraw by to on right) ≡ 0
      → answer_of chain_unit (chain_dropped s (grant to on right d)) (Withdraw by to on right) ≡ 0
  still s d n h e =
      let a = arguments_of (Withdraw by to on right) in
      let g = grant to on right d in
      let x : Images = chain_dropped s g in
      let p = readable s _ e in
      let k = (accepted (chain_facts s a) a p.2).fits in
      let w : ranged g ≡ true = search (fst, snd, both) in
      let i : leb by 63 ≡ true = search (fst, snd) in
      let y : leb on 63 ≡ true = search (fst, snd) in
      let z : leb to 63 ≡ true = search (fst, snd) in
      let l = live-dropped grant_bytes bytes_laws s.grants g in
      let t : table (chain_facts x a) a ≡ table (chain_facts s a) a
      = table-flat (chain_facts x a) (chain_facts s a) (l by i) (l on y) (l to z)
      (none_named (live_in grant_bytes x.grants) ∙ sym (none_named (live_in grant_bytes s.grants)))
      (held-dropped grant_bytes bytes_laws s.grants g w by on 0 (both (both i y) refl) (not_own by to on right d n)) a
      (record { back = refl; past = refl; full = refl }) in
      let q = dropped_readable s p.0 p.1 g in
      rw (q.0, q.1) (ap (λ (m : ℕ). cond (not (fits a)) 3 m) t ∙ p.2)

  chain-singles : eqb by to && eqb right 0 ≡ false
      → Singles (answer_of chain_unit) (step_of chain_unit) (λ d. Drop by to on right d) (λ s. answer_of chain_unit s (Withdraw by to on right) ≡ 0)
      (λ s d. leb d 7) (λ s d. chain_dropped s (grant to on right d)) (λ s ds. chain_dropped_all s (map (λ d. grant to on right d) ds))
  chain-singles n = record {
    done = λ s d e h. number_of s d (leb-true d 7 h) ∙ e;
    leaves = λ s d e. stepped s (Drop by to on right d) e;
    still = λ s d e h. still s d n h e;
    others = λ s d e h k q. q;
    nobody = λ s. refl;
    more = λ s d ds. refl;
  }

  -- the limits of an accepted withdraw
  pub withdraw-within : (s : Images) → answer_of chain_unit s (Withdraw by to on right) ≡ 0 → items to on && right_depth right 0 ≡ true
  withdraw-within s e =
      let a = arguments_of (Withdraw by to on right) in
      let k = (accepted (chain_facts s a) a (readable s _ e).2).fits in
      search (fst, snd, both)

  pub chain-withdraw : (s : Images) → Withdraws (answer_of chain_unit) (step_of chain_unit) chain_stands chain_guard s by to on right
  chain-withdraw s = record {
    eight = unfold chain_withdrawn in (λ e ds h a. let k = readable s _ e in
        chain_leaves ds s a
        ∙ order-free s k.0 k.1 (grants_in ds) (of_each_depth to on right) (all-ranged ds s a)
        (eight-ranged to on right (withdraw-within s e)) h
        ∙ sym (stepped s (Withdraw by to on right) e));
    each = λ e n ds h. (one_by_one (chain-singles n) ds s e h).0;
  }
