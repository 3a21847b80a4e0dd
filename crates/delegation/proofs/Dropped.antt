-- What drops leave of both images, one after another: the grants without theirs, and the loans whose lender still has a grant of their item
-- and right, or had none (`dropped_is`). It is told by the grants image before and after, so the order of the drops does not show
-- (`order-free`), and withdraw, which is eight of them, ends the loans that its person made there where that person has a grant
-- (`withdrawn-chain`).
use mathlib.Core.Path.{◌≡◌, refl, sym, ap, ◌∙◌}
use mathlib.Core.Bool.{Bool, true, false, not, ◌&&◌, and-true, and-false}
use mathlib.Core.List.{List, [], ◌∷◌}
use Prim.Native.Nat.{ℕ, ◌≤◌}
use native.Mathlib.Omega.{arith}
use borrow.Author.Tests.{eq-eqb, le-leb}
use lib.ListN.{length}
use lib.Dec.{eqb}
use Rattle.bits.specs.Sets.{all, keep}
use Rattle.model.specs.Commands.{items, right_depth, most_loans}
use Rattle.model.specs.Journal.{Grant, of_each_depth}
use Rattle.model.specs.Drop.{SameGrants}
use Rattle.model.specs.Invariant.{ranged}
use Rattle.layouts.specs.Layouts.{grant_bytes, grant_cells, live_in, held, is_in_order, dropped, dropped_all, withdrawn}
use Rattle.delegation.specs.declared.loan.Header.{Header}
use Rattle.delegation.specs.Loans.{lender, loan_item, loan_right, word_from, loan_words, header_in, used, loans_image, loans_kept, loans_in_order}
use Rattle.delegation.specs.Images.{Images, images}
use Rattle.delegation.specs.ChainUnit.{chain_sized, chain_in_order, last_ends_in, chain_dropped, chain_dropped_all, chain_withdrawn}
use Rattle.bits.proofs.Sets.{fst, snd, both, all_true, keep_cong, length-keep, eqb_self}
use Rattle.model.proofs.Invariant.{eqb_sym}
use Rattle.model.proofs.Ending as ending
use Rattle.model.proofs.Drop.{eight-ranged}
use Rattle.layouts.proofs.Layouts.{bytes_laws}
use Rattle.layouts.proofs.Subjects.{bytes_whole}
use Rattle.layouts.proofs.Drops as grants
use Rattle.layouts.proofs.KeepsOrder.{dropped_fit}
use Rattle.delegation.proofs.Loans.{kept_of, order-image, few_used, kept_long, kept_order, loans_grow}

-- ---- the loans that drops end, of loan words (model/proofs/Ending)
-- the fields of a word are within their limits
within : (w : ℕ) → items (lender w) (loan_item w) && right_depth (loan_right w) 0 ≡ true
within w =
    both (both (le-leb (lender w) 63 (omega arith)) (le-leb (loan_item w) 63 (omega arith))) (both (le-leb (loan_right w) 7 (omega arith)) refl)

others : (x : List ℕ) (g : Grant) → ranged g ≡ true → (w : ℕ) → word_from g.person g.item g.right w ≡ false
    → held grant_bytes (dropped grant_bytes x g) (lender w) (loan_item w) (loan_right w)
    ≡ held grant_bytes x (lender w) (loan_item w) (loan_right w)
others x g rg w n =
    grants.held-dropped grant_bytes bytes_laws x g rg (lender w) (loan_item w) (loan_right w) (within w)
    (rw (eqb_sym g.person (lender w), eqb_sym g.item (loan_item w), eqb_sym g.right (loan_right w)) n)

fewer : (x : List ℕ) (g : Grant) → ranged g ≡ true → (w : ℕ)
    → held grant_bytes (dropped grant_bytes x g) (lender w) (loan_item w) (loan_right w) ≡ true
    → held grant_bytes x (lender w) (loan_item w) (loan_right w) ≡ true
fewer x g rg w h = grants.held_fewer grant_bytes bytes_laws x g (lender w) (loan_item w) (loan_right w) (within w) h

abbrev words_left : List ℕ → List Grant → List ℕ → List ℕ
words_left = ending.left (held grant_bytes) lender loan_item loan_right (dropped grant_bytes) ranged fewer others

abbrev less_all : List ℕ → List Grant → List ℕ
less_all = ending.less_all (held grant_bytes) lender loan_item loan_right (dropped grant_bytes) ranged fewer others

all_less : (gs : List Grant) (x : List ℕ) → less_all x gs ≡ dropped_all grant_bytes x gs
all_less [] x = refl
all_less (g ∷ gs) x = all_less gs (dropped grant_bytes x g)

-- the grants and the loans, each by their own drops
each-dropped : (gs : List Grant) (x : List ℕ) (h : Header) (ws : List ℕ) → length ws ≤ most_loans
    → chain_dropped_all (images x (loans_image h ws)) gs ≡ images (dropped_all grant_bytes x gs) (loans_image h (words_left x gs ws))
each-dropped [] x h ws few = refl
each-dropped (g ∷ gs) x h ws few =
    let q : ℕ → Bool
    = λ w. not (last_ends_in x (dropped grant_bytes x g) g.person g.item g.right && word_from g.person g.item g.right w) in
    ap (λ (t : List ℕ). chain_dropped_all (images (dropped grant_bytes x g) t) gs) (kept_of h ws few q)
    ∙ each-dropped gs (dropped grant_bytes x g) h (keep q ws) (omega (arith, length-keep q ws, few))

pub cells-dropped : (x : List ℕ) (g : Grant) → length (dropped grant_bytes x g) ≡ grant_cells
unfolding grant_bytes
cells-dropped x g = grants.length-dropped grant_bytes bytes_laws x g

-- both images with these of the grants: the loans whose lender had one of their item and right and has none now have ended
abbrev pub with_grants : Images → List ℕ → Images
with_grants s y = images y (loans_kept (λ w. not (last_ends_in s.grants y (lender w) (loan_item w) (loan_right w))) s.loans)

-- what is held after a withdraw
after-withdraw : (s : Images) (p o r : ℕ) → items p o && right_depth r 0 ≡ true → (q i k : ℕ) → items q i && right_depth k 0 ≡ true
    → held grant_bytes (withdrawn grant_bytes s.grants p o r) q i k
    ≡ held grant_bytes s.grants q i k && not (eqb q p && eqb i o && eqb k r)
after-withdraw s p o r v = grants.held-withdrawn grant_bytes bytes_whole s.grants p o r v

-- ---- images in order
module _ (s : Images) (long : length s.loans ≡ loan_words) (order : chain_in_order s ≡ true) where
  pub loans_in_order_lem : loans_in_order (live_in grant_bytes s.grants) s.loans ≡ true
  loans_in_order_lem = snd (is_in_order grant_bytes s.grants) (loans_in_order (live_in grant_bytes s.grants) s.loans) order

  -- what is left is told by the grants that are
  pub dropped_is : (gs : List Grant) → all ranged gs ≡ true → chain_dropped_all s gs ≡ with_grants s (dropped_all grant_bytes s.grants gs)
  dropped_is gs h =
      let t : List ℕ = s.loans in
      let x : List ℕ = s.grants in
      ap (λ (y : List ℕ). chain_dropped_all (images x y) gs) (order-image _ t long loans_in_order_lem).2
      ∙ each-dropped gs x (header_in t) (used t) (few_used _ t long loans_in_order_lem)
      ∙ ap (λ (ws : List ℕ). images (dropped_all grant_bytes x gs) (loans_image (header_in t) ws))
      (ending.left_is (held grant_bytes) lender loan_item loan_right (dropped grant_bytes) ranged fewer others gs x (used t) h
      ∙ ap (λ (y : List ℕ). keep (λ w. not (last_ends_in x y (lender w) (loan_item w) (loan_right w))) (used t)) (all_less gs x))

  pub order-free : (gs hs : List Grant) → all ranged gs ≡ true → all ranged hs ≡ true → SameGrants gs hs
      → chain_dropped_all s gs ≡ chain_dropped_all s hs
  order-free gs hs h k e =
      dropped_is gs h ∙ ap (with_grants s) (grants.order-free grant_bytes bytes_laws gs hs e s.grants) ∙ sym (dropped_is hs k)

  pub withdrawn_is : (p o r : ℕ) → items p o && right_depth r 0 ≡ true
      → chain_withdrawn s p o r ≡ with_grants s (withdrawn grant_bytes s.grants p o r)
  unfolding chain_withdrawn withdrawn
  withdrawn_is p o r v = dropped_is (of_each_depth p o r) (eight-ranged p o r v)

  -- after a drop both images have their lengths and are in order
  pub dropped_readable : (g : Grant) → (chain_sized (chain_dropped s g) true ≡ true) × (chain_in_order (chain_dropped s g) ≡ true)
  dropped_readable g =
      let x : List ℕ = s.grants in
      let y : List ℕ = dropped grant_bytes x g in
      let t : List ℕ = (chain_dropped s g).loans in (
        both (both (eq-eqb (length y) grant_cells (cells-dropped x g))
            (eq-eqb (length t) loan_words (kept_long _ s.loans long loans_in_order_lem _))) refl,
        both (dropped_fit grant_bytes bytes_whole x (fst (is_in_order grant_bytes x) _ order) g).1
            (loans_grow (live_in grant_bytes x) (live_in grant_bytes y) t (λ i b f. grants.live-dropped grant_bytes bytes_laws x g i b ∙ f)
            (kept_order _ s.loans long loans_in_order_lem _)),
      )

  -- withdraw, done as one: both images as after a drop, but for the grants
  pub withdrawn-once : (p o r : ℕ) → items p o && right_depth r 0 ≡ true
      → chain_withdrawn s p o r
      ≡ images (withdrawn grant_bytes s.grants p o r)
      (loans_kept (λ w. not (last_ends_in s.grants (withdrawn grant_bytes s.grants p o r) p o r && word_from p o r w)) s.loans)
  withdrawn-once p o r v =
      withdrawn_is p o r v
      ∙ ap (λ (ws : List ℕ). images (withdrawn grant_bytes s.grants p o r) (loans_image (header_in s.loans) ws))
      (keep_cong _ _ (λ w. true) (used s.loans) (all_true (used s.loans))
      (λ w k. ap not
      (sym (ending.lost_there (held grant_bytes) lender loan_item loan_right s.grants (withdrawn grant_bytes s.grants p o r) p o r
      (λ u n. after-withdraw s p o r v (lender u) (loan_item u) (loan_right u) (within u)
      ∙ ap (λ b. held grant_bytes s.grants (lender u) (loan_item u) (loan_right u) && not b) n ∙ and-true _) w))))

  -- and it leaves the person nothing
  pub withdrawn-chain : (p o r : ℕ) → items p o && right_depth r 0 ≡ true
      → chain_withdrawn s p o r
      ≡ images (withdrawn grant_bytes s.grants p o r) (loans_kept (λ w. not (held grant_bytes s.grants p o r && word_from p o r w)) s.loans)
  withdrawn-chain p o r v =
      let e : eqb p p && eqb o o && eqb r r ≡ true = both (both (eqb_self p) (eqb_self o)) (eqb_self r) in
      let had : Bool = held grant_bytes s.grants p o r in
      let nothing : held grant_bytes (withdrawn grant_bytes s.grants p o r) p o r ≡ false
      = after-withdraw s p o r v p o r v ∙ ap (λ b. had && not b) e ∙ and-false had in
      withdrawn-once p o r v
      ∙ ap (λ (b : Bool). images (withdrawn grant_bytes s.grants p o r) (loans_kept (λ w. not (b && word_from p o r w)) s.loans))
      (ap (λ b. had && not b) nothing ∙ and-true had)
