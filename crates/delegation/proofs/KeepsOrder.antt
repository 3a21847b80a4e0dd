-- No command takes a chain unit out of order, whatever images it was lent: loans in order are so by a live set with more items
-- (`loans_grow`), and delete, which takes an item away, ends the loans that name it (`kept_without`).
use mathlib.Core.Path.{◌≡◌, refl, sym, ap, ◌∙◌}
use mathlib.Core.Bool.{Bool, true, false, not, cond}
use mathlib.Core.List.{List}
use Prim.Native.Nat.{ℕ}
use borrow.Author.Tests.{eqb-true, eq-eqb, leb-true}
use lib.ListN.{length}
use lib.Dec.{eqb, leb}
use Rattle.bits.proofs.Sets.{fst, snd, both, or_right}
use Rattle.model.specs.declared.Command.{Command}
use Rattle.model.specs.declared.Command.TheVariants.{Create, Delete, Allow, Withdraw, Lend, Recall, Shift, AllowSet, Drop, Sweep}
use Rattle.model.specs.Commands.{arguments_of}
use Rattle.model.specs.Answers.{answer}
use Rattle.model.specs.Journal.{grant, loan}
use Rattle.model.proofs.Invariant.{accepted, named_live}
use Rattle.layouts.specs.Machine.{answer_of, KeepsOrder}
use Rattle.layouts.specs.Layouts.{grant_bytes, grant_cells, live_in, is_in_order, created, deleted, allowed, allowed_set, withdrawn, dropped}
use Rattle.layouts.proofs.Layouts.{bytes_laws, live-build}
use Rattle.layouts.proofs.Subjects.{bytes_whole}
use Rattle.layouts.proofs.Drops.{withdrawn-eight}
use Rattle.layouts.proofs.Guarding.{guard_on}
use Rattle.delegation.specs.Loans.{word_of, loan_words, loans_kept, loans_in_order}
use Rattle.delegation.specs.Images.{Images, images}
use Rattle.delegation.specs.ChainUnit.{chain_unit, chain_sized, chain_in_order, chain_guard, chain_facts, chain_after}
use Rattle.delegation.proofs.Loans.{word_fields, loans_grow, kept_long, kept_order, kept_without, with_long, with_order, at_long, at-order}
use Rattle.delegation.proofs.Dropped.{withdrawn-once}
use Rattle.delegation.proofs.ChainEnds.{chain_readable}
use Rattle.layouts.proofs.KeepsOrder.{Fit, created_fit, deleted_fit, allowed_fit, allowed_set_fit, withdrawn_fit, dropped_fit}

-- both images have their lengths and are in order
abbrev ChainFit : Images → Type 0
ChainFit s =
    (length s.grants ≡ grant_cells) × (length s.loans ≡ loan_words) × (is_in_order grant_bytes s.grants ≡ true)
    × (loans_in_order (live_in grant_bytes s.grants) s.loans ≡ true)

-- grants in order beside loans that are so by them
fits : (x t : List ℕ) → Fit grant_bytes bytes_whole x → length t ≡ loan_words → loans_in_order (live_in grant_bytes x) t ≡ true → ChainFit (images x t)
unfolding grant_bytes
fits x t h l o = (h.0, l, h.1, o)

module _ (s : Images) (h : ChainFit s) where
  live : ℕ → Bool
  live = live_in grant_bytes s.grants

  -- the same live set, and some of the loans
  same_live : (x : List ℕ) (p : ℕ → Bool) → Fit grant_bytes bytes_whole x → ((i : ℕ) → leb i 63 ≡ true → live_in grant_bytes x i ≡ live i)
      → ChainFit (images x (loans_kept p s.loans))
  unfolding live
  same_live x p k e =
      let l = kept_long live s.loans h.1 h.3 p in
      fits x (loans_kept p s.loans) k l (loans_grow live (live_in grant_bytes x) (loans_kept p s.loans) (λ i b f. e i b ∙ f) (kept_order live s.loans h.1 h.3 p))

  -- the same grants, and some of the loans
  kept : (p : ℕ → Bool) → ChainFit (images s.grants (loans_kept p s.loans))
  unfolding live
  kept p = (h.0, kept_long live s.loans h.1 h.3 p, h.2, kept_order live s.loans h.1 h.3 p)

  after_fit : (c : Command) → answer (chain_facts s (arguments_of c)) (arguments_of c) ≡ 0 → ChainFit (chain_after s (arguments_of c))
  unfolding live
  after_fit (Create by on) e =
      let k = accepted (chain_facts s (arguments_of (Create by on))) (arguments_of (Create by on)) e in
      fits (created grant_bytes s.grants by on) s.loans
      (created_fit grant_bytes bytes_whole s.grants h.2 by on (let w = k.fits in search (fst, snd, both)) k.by) h.1
      (loans_grow live _ s.loans (λ i b f. live-build grant_bytes bytes_laws _ _ i b ∙ or_right (eqb i on) (live i) f) h.3)
  after_fit (Delete by on) e =
      let k = accepted (chain_facts s (arguments_of (Delete by on))) (arguments_of (Delete by on)) e in
      fits (deleted grant_bytes s.grants on) _ (deleted_fit grant_bytes bytes_whole s.grants h.2 on k.root)
      (kept_long live s.loans h.1 h.3 _)
      (kept_without live s.loans h.1 h.3 on _ (λ i b n f. live-build grant_bytes bytes_laws _ _ i b ∙ both f (ap not n)))
  after_fit (Allow by to on right depth) e =
      let k = accepted (chain_facts s (arguments_of (Allow by to on right depth))) (arguments_of (Allow by to on right depth)) e in
      let l = named_live (live on) (live to) _ k.named in
      fits (allowed grant_bytes s.grants (grant to on right depth)) s.loans
      (allowed_fit grant_bytes bytes_whole s.grants h.2 (grant to on right depth) (let w = k.fits in search (fst, snd, both)) l.1 l.0)
      h.1 (loans_grow live _ s.loans (λ i b f. live-build grant_bytes bytes_laws live _ i b ∙ f) h.3)
  after_fit (AllowSet by set on right depth) e =
      let k = accepted (chain_facts s (arguments_of (AllowSet by set on right depth))) (arguments_of (AllowSet by set on right depth)) e in
      let l = named_live (live on) (live on) _ k.named in
      fits (allowed_set grant_bytes s.grants set on right depth) s.loans
      (allowed_set_fit grant_bytes bytes_whole s.grants h.2 set on right depth (let w = k.fits in search (fst, snd, both)) l.0 l.2)
      h.1 (loans_grow live _ s.loans (λ i b f. live-build grant_bytes bytes_laws live _ i b ∙ f) h.3)
  after_fit (Withdraw by to on right) e =
      let k = accepted (chain_facts s (arguments_of (Withdraw by to on right))) (arguments_of (Withdraw by to on right)) e in
      rw (withdrawn-once s h.1 (both h.2 h.3) to on right (let w = k.fits in search (fst, snd, both)))
      (same_live (withdrawn grant_bytes s.grants to on right) _ (withdrawn_fit grant_bytes bytes_whole s.grants h.2 to on right)
      (λ i b. ap (λ (x : List ℕ). live_in grant_bytes x i) (withdrawn-eight grant_bytes bytes_laws s.grants to on right)
      ∙ live-build grant_bytes bytes_laws live _ i b))
  after_fit (Drop by to on right depth) e =
      same_live (dropped grant_bytes s.grants (grant to on right depth)) _
      (dropped_fit grant_bytes bytes_whole s.grants h.2 (grant to on right depth))
      (λ i b. live-build grant_bytes bytes_laws live _ i b)
  after_fit (Lend by to on right depth last) e =
      let a = arguments_of (Lend by to on right depth last) in
      let k = accepted (chain_facts s a) a e in
      let l = named_live (live on) (live to) _ k.named in
      let w = word_fields (loan by on right to depth last) k.fits in (
        h.0,
        with_long live s.loans h.1 h.3 (word_of (loan by on right to depth last)) k.full,
        h.2,
        with_order live s.loans h.1 h.3 (word_of (loan by on right to depth last)) k.full
            (rw (w.0, w.1, w.2, w.3) (both (both (both (ap not k.right) k.by) l.0) l.1)),
      )
  after_fit (Recall by to on right depth last) e = kept _
  after_fit (Sweep by) e = kept _
  after_fit (Shift by now) e =
      let k = accepted (chain_facts s (arguments_of (Shift by now))) (arguments_of (Shift by now)) e in
      (h.0, at_long live s.loans h.1 h.3 now, h.2, at-order live s.loans h.1 h.3 now (leb-true now 255 (let w = k.fits in search (fst, snd))))

pub chain_keeps_order : KeepsOrder chain_unit
chain_keeps_order s c g = go (eqb (answer_of chain_unit s c) 0) refl
  where
    fit : ChainFit s
    fit =
        let p = chain_readable s true (sym g) in
        (p.0, p.1, fst (is_in_order grant_bytes s.grants) _ p.3, snd (is_in_order grant_bytes s.grants) _ p.3)

    guarded : (x : Images) → ChainFit x → 0 ≡ chain_guard x 0
    guarded x k = rw (eq-eqb _ _ k.0, eq-eqb _ _ k.1, k.2, k.3)

    go : (b : Bool) → eqb (answer_of chain_unit s c) 0 ≡ b → 0 ≡ chain_guard (cond b (chain_after s (arguments_of c)) s) 0
    go true e =
        guarded (chain_after s (arguments_of c))
        (after_fit s fit c (sym (guard_on (chain_sized s true) (chain_in_order s) _ (sym g)) ∙ eqb-true _ _ e))
    go false e = g
