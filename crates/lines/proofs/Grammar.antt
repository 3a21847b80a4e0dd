-- The parser reads exactly the lines of the grammar, each as what it asks for; and none above 128 bytes.
use Prim.Native.Nat.{ℕ, ◌+◌, ◌<◌}
use native.Mathlib.Omega.{arith}
use mathlib.Core.Path.{◌≡◌, refl, sym, ap, ◌∙◌}
use mathlib.Core.Bool.{false, false≢true}
use mathlib.Core.List.{List, []}
use mathlib.Core.Logic.{◌⊎◌, inl, inr, ⊎_elim}
use lib.ListN.{length, get_or}
use Rattle.std.specs.Prelude.{Option, Some, None}
use Rattle.lines.specs.declared.Request.{Request}
use Rattle.lines.specs.Bytes.{bytes}
use Rattle.lines.specs.Grammar.{form_of, written, Written}
use Rattle.lines.specs.Line.{starts_with, values_by, or_else, parse_line}
use Rattle.lines.proofs.Patterns.{seen, read, written-width}
use Rattle.lines.proofs.Verbs.{verb-sound, verb-width, verb_begins, verb_at, verb-fits, verb-told, only-told, only_reads}

-- every line of the grammar is read as what it asks for
pub reads : {s : List ℕ} {x : Option Request} → Written s x → parse_line s ≡ x
unfolding or_else
reads {s} {x} w =
    let u : verb_at s ≡ w.verb = ap verb_at w.line ∙ verb-told w.verb w.values w.known in
    let r = read (form_of w.verb).pattern s 0 [] w.values (verb-sound w.verb) w.line w.many w.small (omega arith) in
    only_reads s (verb_at s) (only-told s) ∙ rw (u, r) (sym w.means)

-- and every line that is read is one of the grammar
pub reads_only : (s : List ℕ) → (parse_line s ≡ None) ⊎ Written s (parse_line s)
unfolding or_else
reads_only s = rw (only_reads s (verb_at s) (only-told s)) (from (values_by (form_of (verb_at s)).pattern s) refl)
  where
    from : (x : Option (List ℕ)) → values_by (form_of (verb_at s)).pattern s ≡ x
        → (or_else (form_of (verb_at s)) x None ≡ None) ⊎ Written s (or_else (form_of (verb_at s)) x None)
    from (Some vs) e =
        let i = seen (form_of (verb_at s)).pattern s 0 [] vs e in
        inr record {
          verb = verb_at s;
          known = verb-fits (get_or s 5 0 + get_or s 9 0);
          values = vs;
          line = i.text ∙ ap (written (form_of (verb_at s)).pattern) (sym i.whole);
          many = ap length i.whole ∙ i.many;
          small = rw i.whole i.fits;
          means = refl;
        }
    from None e = inl refl

-- a line of more than 128 bytes is malformed, so a line buffer of 128 bytes loses nothing
pub long_malformed : (s : List ℕ) → 128 < length s → parse_line s ≡ None
long_malformed s h =
    ⊎_elim (λ e. e)
    (λ (w : Written s (parse_line s)).
    absurd (omega (arith, ap length w.line, written-width (form_of w.verb).pattern w.values w.small, verb-width w.verb)))
    (reads_only s)

-- and so is one that does not begin with do=
pub other_malformed : (s : List ℕ) → starts_with (bytes "do=") s ≡ false → parse_line s ≡ None
other_malformed s e =
    ⊎_elim (λ m. m)
    (λ (w : Written s (parse_line s)).
    absurd (false≢true (sym e ∙ ap (starts_with (bytes "do=")) w.line ∙ verb_begins w.verb w.values w.known)))
    (reads_only s)
