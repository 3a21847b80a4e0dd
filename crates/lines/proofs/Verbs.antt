-- What holds of every verb, computed over the list of forms: a form more adds no line here. Two bytes of a line tell its verb, so that the
-- reader tries one form only.
use Prim.Native.Nat.{ℕ, zero, suc, ◌+◌, ◌%◌, ◌≤◌, ◌<◌}
use native.Mathlib.Omega.{arith}
use mathlib.Core.Path.{◌≡◌, refl, sym, ap, ◌∙◌}
use mathlib.Core.Bool.{Bool, true, ◌&&◌, cond}
use mathlib.Core.List.{List, [], ◌∷◌}
use lib.Arith.{lt_of_le-ne}
use borrow.Author.Tests.{leb-true, ltb-true, eqb-true, eqb-false}
use lib.ListN.{length, get_or}
use lib.Dec.{eqb, leb, ltb}
use Rattle.std.specs.Prelude.{Option, Some, None}
use Rattle.bits.specs.Sets.{all, all_below}
use Rattle.bits.proofs.Sets.{by_cases, fst, snd}
use Rattle.lines.specs.declared.Request.{Request}
use Rattle.lines.specs.Bytes.{bytes}
use Rattle.lines.specs.Grammar.{Part, Form, no_form, forms, form_of, written, meaning}
use Rattle.lines.specs.Line.{starts_with, values_by, or_else, parse_by, parse_line}
use Rattle.lines.specs.Reader.{Only}
use Rattle.lines.proofs.Patterns.{seen, sound, prefix, prefix_at, starts_written, widest}

-- a fact of every element of a list is one of the element at a place
at_place : {A : Type 0} (p : A → Bool) (l : List A) (d : A) → all p l ≡ true → p d ≡ true → (i : ℕ) → p (get_or l i d) ≡ true
unfolding all
at_place p [] d h e i = e
at_place p (x ∷ l) d h e zero = fst (p x) (all p l) h
at_place p (x ∷ l) d h e (suc i) = at_place p l d (snd (p x) (all p l) h) e i

-- one of every number below n is one of a number below n
below : (n : ℕ) (f : ℕ → Bool) → all_below n f ≡ true → (v : ℕ) → v < n → f v ≡ true
unfolding all_below
below zero f h v k = absurd (omega arith)
below (suc n) f h v k =
    by_cases (eqb v n) (λ q. rw (eqb-true v n q) (fst (f n) (all_below n f) h))
    (λ q. below n f (snd (f n) (all_below n f) h) v (lt_of_le-ne (omega arith) (eqb-false v n q)))

-- ---- no digit comes after a value, and a line has at most 128 bytes
pub verb-sound : (v : ℕ) → sound (form_of v).pattern ≡ true
unfolding all
verb-sound v = at_place (λ (f : Form). sound f.pattern) forms no_form refl refl v

pub verb-width : (v : ℕ) → widest (form_of v).pattern ≤ 128
unfolding all
verb-width v = leb-true _ 128 (at_place (λ (f : Form). leb (widest f.pattern) 128) forms no_form refl refl v)

-- ---- every line of a verb begins with do=
begins : ℕ → Bool
begins v = starts_with (bytes "do=") (prefix (form_of v).pattern)

all_begin : all_below (length forms) begins ≡ true
unfolding begins all_below
all_begin = refl

pub verb_begins : (v : ℕ) (ws : List ℕ) → v < length forms → starts_with (bytes "do=") (written (form_of v).pattern ws) ≡ true
unfolding begins
verb_begins v ws h = starts_written (bytes "do=") (form_of v).pattern ws (below (length forms) begins all_begin v h)

-- ---- bytes 5 and 9 of a line tell its verb
-- the verb by the rest of their sum by 64, as the code has it
abbrev pub verb_by : ℕ → ℕ
verb_by k =
    cond (eqb k 12) 1 (cond (eqb k 14) 2 (cond (eqb k 17) 3 (cond (eqb k 21) 4 (cond (eqb k 40) 5 (
    cond (eqb k 39) 6 (cond (eqb k 3) 7 (cond (eqb k 11) 8 (cond (eqb k 7) 9 (cond (eqb k 28) 10 0)))))))))

abbrev pub verb_at : List ℕ → ℕ
verb_at s = verb_by ((get_or s 5 0 + get_or s 9 0) % 64)

verb-small : ℕ → Bool
verb-small k = ltb (verb_by k) (length forms)

all_small : all_below 64 verb-small ≡ true
unfolding verb-small all_below
all_small = refl

pub verb-fits : (k : ℕ) → verb_by (k % 64) < length forms
unfolding verb-small
verb-fits k = ltb-true _ (length forms) (below 64 verb-small all_small (k % 64) (omega arith))

tells : ℕ → Bool
tells v = leb 10 (length (prefix (form_of v).pattern)) && eqb (verb_at (prefix (form_of v).pattern)) v

all_told : all_below (length forms) tells ≡ true
unfolding tells all_below
all_told = refl

pub verb-told : (v : ℕ) (ws : List ℕ) → v < length forms → verb_at (written (form_of v).pattern ws) ≡ v
unfolding tells
verb-told v ws h =
    let t : List Part = (form_of v).pattern in
    let q = below (length forms) tells all_told v h in
    let n = leb-true 10 (length (prefix t)) (fst (leb 10 (length (prefix t))) (eqb (verb_at (prefix t)) v) q) in
    rw (prefix_at t ws 5 (omega arith), prefix_at t ws 9 (omega arith))
    (eqb-true (verb_at (prefix t)) v (snd (leb 10 (length (prefix t))) (eqb (verb_at (prefix t)) v) q))

pub only-told : (s : List ℕ) → Only s (verb_at s)
unfolding Only
only-told s u vs h e =
    let i = seen (form_of u).pattern s 0 [] vs e in
    sym (ap verb_at i.text ∙ verb-told u i.ws h)

-- the same of two bytes that are read for the sum
pub only_by : (s : List ℕ) {x y k : ℕ} (v : ℕ) → x ≡ get_or s 5 0 → y ≡ get_or s 9 0 → (x + y) % 64 ≡ k → verb_by k ≡ v → Only s v
only_by s v a b e h =
    let t : verb_at s ≡ v = ap verb_by (rw (a, b) at e) ∙ h in
    rw t at (only-told s)

-- ---- so one form decides what the line asks for
-- no form of fs but the one at v reads s
OnlyOf : List Form → List ℕ → ℕ → Type 0
OnlyOf fs s v = (u : ℕ) (vs : List ℕ) → u < length fs → values_by (get_or fs u no_form).pattern s ≡ Some vs → u ≡ v

none_reads : (fs : List Form) (s : List ℕ)
    → ((u : ℕ) (vs : List ℕ) → u < length fs → values_by (get_or fs u no_form).pattern s ≡ Some vs → ⊥)
    → parse_by fs s ≡ None
unfolding or_else
none_reads [] s h = refl
none_reads (f ∷ fs) s h = from (none_reads fs s (λ u vs k e. h (suc u) vs (omega arith) e)) (values_by f.pattern s) refl
  where
    from : parse_by fs s ≡ None → (x : Option (List ℕ)) → values_by f.pattern s ≡ x → or_else f x (parse_by fs s) ≡ None
    from i (Some vs) e = absurd (h 0 vs (omega arith) e)
    from i None e = i

one_reads : (fs : List Form) (s : List ℕ) (v : ℕ) → OnlyOf fs s v
    → parse_by fs s ≡ or_else (get_or fs v no_form) (values_by (get_or fs v no_form).pattern s) None
unfolding OnlyOf or_else meaning
one_reads [] s v h = none (values_by [] s)
  where
    none : (x : Option (List ℕ)) → None ≡ or_else no_form x None
    none (Some vs) = refl
    none None = refl
one_reads (f ∷ fs) s zero h =
    ap (or_else f (values_by f.pattern s)) (none_reads fs s (λ u vs k e. let z = h (suc u) vs (omega arith) e in absurd (omega arith)))
one_reads (f ∷ fs) s (suc v) h =
    from (one_reads fs s v (λ u vs k e. let z = h (suc u) vs (omega arith) e in omega arith)) (values_by f.pattern s) refl
  where
    from : {y : Option Request} → parse_by fs s ≡ y → (x : Option (List ℕ)) → values_by f.pattern s ≡ x → or_else f x (parse_by fs s) ≡ y
    from i (Some vs) e = let z = h 0 vs (omega arith) e in absurd (omega arith)
    from i None e = i

pub only_reads : (s : List ℕ) (v : ℕ) → Only s v → parse_line s ≡ or_else (form_of v) (values_by (form_of v).pattern s) None
unfolding parse_line Only OnlyOf
only_reads s v h = one_reads forms s v h
