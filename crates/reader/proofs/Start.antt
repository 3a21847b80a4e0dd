-- Three units made fresh.
use mathlib.Core.Path.{◌≡◌, refl}
use mathlib.Core.List.{List}
use Prim.Native.Nat.{ℕ}
use borrow.Author.Tests.{eq-eqb, eqb-true}
use lib.ListN.{length}
use lib.Dec.{eqb}
use Rattle.std.specs.Prelude.{Result, Err, ⊤}
use Rattle.model.specs.declared.Refusal.{Refusal}
use Rattle.model.specs.declared.Refusal.TheVariants as is
use Rattle.layouts.specs.Layouts.{list_words, row_bytes, grant_cells, Layout, lists, rows, Freshens}
use Rattle.delegation.specs.Loans.{loan_words}
use Rattle.delegation.specs.Images.{images}
use Rattle.delegation.specs.ChainUnit.{ChainFreshens}
use Rattle.agreement.specs.Agreement.{Units, fresh_units}
use Rattle.bits.proofs.Sets.{by_cases, fst, snd}
use Rattle.model.proofs.Answers.{numbered, refuses}
use Rattle.reader.specs.Replies.{units_in, sized, start_number, start_of, Starts}

-- every buffer has its length
abbrev pub Sized : Units → Type 0
Sized u =
    (length u.lists ≡ list_words) × (length u.rows ≡ row_bytes) × (length u.chains.grants ≡ grant_cells)
    × (length u.chains.loans ≡ loan_words)

pub start-refused : (u : Units) → (Sized u → ⊥) → Starts u (Err is.WrongLength) u
unfolding start_number start_of
start-refused u h =
    by_cases (sized u)
    (λ q.
    let a = fst (eqb (length u.lists) list_words) _ q in
    let q2 = snd (eqb (length u.lists) list_words) _ q in
    let b = fst (eqb (length u.rows) row_bytes) _ q2 in
    let q3 = snd (eqb (length u.rows) row_bytes) _ q2 in
    let c = fst (eqb (length u.chains.grants) grant_cells) (eqb (length u.chains.loans) loan_words) q3 in
    let d = snd (eqb (length u.chains.grants) grant_cells) (eqb (length u.chains.loans) loan_words) q3 in
    absurd (h (eqb-true _ list_words a, eqb-true _ row_bytes b, eqb-true _ grant_cells c, eqb-true _ loan_words d)))
    (λ q. rw q (numbered (Err is.WrongLength) 1 refl, refl))

pub start_done : (u : Units) → Sized u → (l r a : Result ⊤ Refusal) (x y g t : List ℕ) → Freshens lists u.lists l x → Freshens rows u.rows r y
    → ChainFreshens u.chains a (images g t) → Starts u a (units_in x y g t)
unfolding start_number start_of fresh_units lists rows
start_done u h l r a x y g t hx hy hz =
    let d1 = eq-eqb (length u.lists) list_words h.0 in
    let d2 = eq-eqb (length u.rows) row_bytes h.1 in
    let d3 = eq-eqb (length u.chains.grants) grant_cells h.2 in
    let d4 = eq-eqb (length u.chains.loans) loan_words h.3 in
    let x' = rw d1 at hx.1 in
    let y' = rw d2 at hy.1 in
    let n' = rw (d3, d4) at hz.0 in
    let z' = rw (d3, d4) at hz.1 in
    rw (d1, d2, d3, d4) (n', λ i. record { lists = x' i; rows = y' i; chains = z' i })

-- a buffer of its length is not refused
pub never : (L : Layout) (s x : List ℕ) (r : Refusal) → length s ≡ L.cells → Freshens L s (Err r) x → ⊥
never L s x r l h = refuses r (rw (eq-eqb (length s) L.cells l) at h.0.0)

-- buffers of their lengths are made fresh
pub started : (u x : Units) (r : Result ⊤ Refusal) → Sized u → Starts u r x → x ≡ fresh_units
unfolding start_of
started u x r h s =
    let d1 = eq-eqb (length u.lists) list_words h.0 in
    let d2 = eq-eqb (length u.rows) row_bytes h.1 in
    let d3 = eq-eqb (length u.chains.grants) grant_cells h.2 in
    let d4 = eq-eqb (length u.chains.loans) loan_words h.3 in
    rw (d1, d2, d3, d4) at s.1
