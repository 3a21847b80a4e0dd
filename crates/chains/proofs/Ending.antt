-- Where a person's grants on an item and right end: from what the parts leave to both images. Where no last grant ended, or
-- the person had lent nothing there, all loans stay, and an image in order is that of its loans; else the pass ended those that the person
-- made there. And where a sweep ends loans: each that is in use was kept or is counted (`count_kept`).
use mathlib.Core.Path.{◌≡◌, refl, sym, ap, ap₂, ◌∙◌, subst}
use mathlib.Core.Bool.{Bool, true, false, not, ◌&&◌, cond}
use mathlib.Core.List.{List}
use Prim.Native.Nat.{ℕ, ◌%◌, ◌≤◌}
use native.Mathlib.Omega.{arith}
use borrow.Author.Tests.{le-leb, eq-eqb}
use lib.ListN.{length}
use lib.Dec.{eqb}
use Rattle.bits.specs.Sets.{all, count}
use Rattle.model.specs.declared.Arguments.{Arguments}
use Rattle.model.specs.declared.Item.{Item}
use Rattle.model.specs.declared.Right.{Right}
use Rattle.model.specs.declared.Shift.{Shift}
use Rattle.model.specs.Commands.{items, right_depth}
use Rattle.layouts.specs.Layouts.{grant_bytes, held}
use Rattle.delegation.specs.Loans.{word_from, word_past, loan_words, header_in, shift_in, used, loans_image, loans_kept}
use Rattle.delegation.specs.Images.{Images, images}
use Rattle.delegation.specs.ChainUnit.{last_ends_in}
use Rattle.bits.proofs.Sets.{both, all_true, keep_all, count_kept}
use Rattle.loans.specs.declared.Rule.TheVariants as rule
use Rattle.loans.specs.Words.{keeps_of, ended_by, Ordered}
use Rattle.chains.specs.Ready.{Accepted, Ending, without_loans}
use Rattle.chains.proofs.Arms.{loans-ordered, stepped, kept_loans}

-- the limits, as tests
pub within : {t : List ℕ} {p o r : ℕ} → Ending t p o r → items p o && right_depth r 0 ≡ true
within {t} {p} {o} {r} k =
    both (both (le-leb p 63 (omega (arith, k.person))) (le-leb o 63 (omega (arith, k.item)))) (both (le-leb r 7 (omega (arith, k.right))) refl)

-- what an accepted command finds there
pub ending : (g t : List ℕ) (a : Arguments) → length t ≡ loan_words → Accepted (images g t) a → Ending t a.to a.on a.right
ending g t a l k = record {
  loans = loans-ordered g t a l k;
  person = omega (arith, k.ready.ranged.to);
  item = omega (arith, k.ready.ranged.on);
  right = omega (arith, k.ready.ranged.right);
}

-- no last grant ended
pub all_stay : (t : List ℕ) → Ordered t → (b : Bool) (p o r : ℕ) → b ≡ false → t ≡ without_loans b p o r t
all_stay t k b p o r e =
    subst (λ (x : Bool). t ≡ without_loans x p o r t) (sym e)
    (k.whole ∙ ap (loans_image (header_in t)) (sym (keep_all (λ w. true) (used t) (all_true (used t)))))

-- one did, and the person had lent nothing there
pub none_theirs : (t : List ℕ) → Ordered t → (b : Bool) (p o : Item) (r : Right) → b ≡ true → all (keeps_of (rule.From p o r)) (used t) ≡ true
    → t ≡ without_loans b p.0 o.0 r.0 t
none_theirs t k b p o r e h =
    subst (λ (x : Bool). t ≡ without_loans x p.0 o.0 r.0 t) (sym e)
    (k.whole ∙ ap (loans_image (header_in t)) (sym (keep_all (keeps_of (rule.From p o r)) (used t) h)))

-- one did, and the pass was made
pub theirs_end : (t y : List ℕ) → length t ≡ loan_words → (b : Bool) (p o : Item) (r : Right) → b ≡ true
    → y ≡ cond (eqb (length t) loan_words) (loans_kept (keeps_of (rule.From p o r)) t) t → y ≡ without_loans b p.0 o.0 r.0 t
theirs_end t y long b p o r e h =
    subst (λ (x : Bool). y ≡ without_loans x p.0 o.0 r.0 t) (sym e) (kept_loans t y _ long h)

-- both images, where p's grants on o, right r, were those of s and are those of hs
pub both_end : (s : Images) (p o r : ℕ) (had : Bool) (x hs y : List ℕ) → had ≡ held grant_bytes s.grants p o r → x ≡ hs
    → y ≡ without_loans (had && not (held grant_bytes x p o r)) p o r s.loans
    → images x y ≡ images hs (loans_kept (λ w. not (last_ends_in s.grants hs p o r && word_from p o r w)) s.loans)
both_end s p o r had x hs y h e f =
    stepped (images hs (loans_kept (λ w. not (last_ends_in s.grants hs p o r && word_from p o r w)) s.loans)) e
    (f ∙ ap₂ (λ (b : Bool) (z : List ℕ). without_loans (b && not (held grant_bytes z p o r)) p o r s.loans) h e)

-- where the loans past their last shift end: a pass at shift `now`, which is the image's own where that is within its limit
module _ (t : List ℕ) (now : Shift) (long : length t ≡ loan_words) (low : shift_in t ≤ 255) (e : now.0 ≡ shift_in t % 256) where
  present : now.0 ≡ shift_in t
  present = omega arith

  pub past_end : (y : List ℕ) → y ≡ cond (eqb (length t) loan_words) (loans_kept (keeps_of (rule.Past now)) t) t
      → y ≡ loans_kept (λ w. not (word_past (shift_in t) w)) t
  past_end y h = kept_loans t y _ long h ∙ ap (λ (n : ℕ). loans_kept (λ w. not (word_past n w)) t) present

  -- it ended as many as were past it
  pub past-counted : (k : ℕ) → k ≡ ended_by (rule.Past now) t → k ≡ count (word_past (shift_in t)) (used t)
  past-counted k h =
      h ∙ rw (eq-eqb (length t) loan_words long, present) (omega (arith, count_kept (word_past (shift_in t)) (used t)))
