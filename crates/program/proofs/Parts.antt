-- A chunk taken part after part is taken as one, since each part ends between two pieces; and a run's parts come one after another.
use mathlib.Core.Path.{◌≡◌, refl, sym, ap, ap₂, ◌∙◌, subst}
use mathlib.Core.List.{List, [], ◌∷◌, ◌++◌, append_assoc, append-nil}
use Prim.Native.Nat.{ℕ, ◌+◌}
use native.Mathlib.Omega.{arith}
use lib.ListN.{length, take, drop, length-drop}
use Rattle.agreement.specs.Agreement.{Units, fresh_units}
use Rattle.lines.specs.declared.collect.Partial.{Partial}
use Rattle.lines.specs.Collect.{Line, lines_from, lines_of, nothing_held}
use Rattle.lines.specs.Chunks.{pieces}
use Rattle.stream.specs.declared.Progress.{Progress}
use Rattle.stream.specs.Session.{Session, session, fresh_session, session_after_all, taken_of, bytes_of, Consumes}
use Rattle.stream.proofs.Session.{nothing, after-append, bytes-append, cut, consumes_part, consumes_lines}
use Rattle.program.specs.declared.Failed.{Failed}
use Rattle.std.specs.Prelude.{Some, None, Result, Ok, Err, IsErr}
use mathlib.Core.Bool.{false≢true}
use Rattle.program.specs.Loop.{StoppedIn, Answered, Came, ReadOnce, Ran}

-- ---- a chunk
-- how far the loop over a chunk is: the pieces done, which are its first bytes, before the rest
pub record Through (s₀ s : Session) (chunk rest : List ℕ) : Type 0 where
  pub done : List Line
  pub part : bytes_of done + length rest ≡ length chunk
  pub lines : lines_of chunk ≡ done ++ lines_of rest
  pub session : s ≡ session_after_all s₀ done

pub through_start : (s : Session) (chunk : List ℕ) → Through s s chunk chunk
unfolding bytes_of session_after_all
through_start s chunk = record { done = []; part = omega arith; lines = refl; session = refl }

module _ {s₀ s : Session} {chunk rest : List ℕ} (t : Through s₀ s chunk rest) where
  pub through_next : {s' : Session} {out out' : List ℕ} {used written : ℕ} → Consumes s rest out used written s' out'
      → Through s₀ s' chunk (drop used rest)
  through_next {s'} {out} {out'} {used} {written} c =
      let xs : List Line = taken_of (length out) s rest in record {
        done = t.done ++ xs;
        part = omega (arith, t.part, c.part, consumes_part c, bytes-append t.done xs, length-drop used rest);
        lines = t.lines ∙ ap (λ (ys : List Line). t.done ++ ys) (consumes_lines c)
            ∙ sym (append_assoc t.done xs (lines_of (drop used rest)));
        session = c.session ∙ ap (λ (q : Session). session_after_all q xs) t.session ∙ sym (after-append s₀ t.done xs);
      }

  -- all of it
  pub through_end : length rest ≡ 0 → s ≡ session_after_all s₀ (lines_of chunk)
  unfolding lines_from
  through_end h =
      t.session ∙ ap (session_after_all s₀) (sym (t.lines
      ∙ ap (λ (l : List ℕ). t.done ++ lines_of l) (nothing rest h) ∙ append-nil t.done))

-- the first part of it
pub through_stop : {s₀ : Session} {chunk rest : List ℕ} {n : ℕ} {u : Units} {buf : List ℕ} {p : Partial}
    → Through s₀ (session n u buf p) chunk rest → StoppedIn s₀ chunk u buf
through_stop {s₀} {chunk} {rest} {n} {u} {buf} {p} t =
    let i : ℕ = bytes_of t.done in
    let k = cut chunk t.done (lines_of rest) t.lines in
    let q : session n u buf p ≡ session_after_all s₀ (lines_of (take i chunk)) = t.session ∙ ap (session_after_all s₀) (sym k.before) in record {
      used = i;
      part = omega (arith, t.part);
      left = record { units = ap (λ (z : Session). z.units) q; line = ap (λ (z : Session). z.collector.buffer) q };
    }

-- where a write failed
pub stopped : {s : Session} {chunk : List ℕ} {u : Units} {buf : List ℕ} (r : Result Progress Failed) → IsErr r → StoppedIn s chunk u buf
    → Answered s chunk u buf r
stopped (Ok p) h t = absurd (false≢true h)
stopped (Err e) h t = t

pub none_came : (n : ℕ) (u : Units) (buf : List ℕ) (p : Partial) {e : Failed} → Came (session n u buf p) u buf (Err e)
none_came n u buf p = record { chunk = []; answered = through_stop (through_start (session n u buf p) []) }

-- ---- a run
-- how far a run is: the parts that were taken
pub record Reached (s₀ s : Session) : Type 0 where
  pub parts : List (List ℕ)
  pub session : s ≡ session_after_all s₀ (pieces parts)

pub reached_start : {n : ℕ} {u : Units} {buf : List ℕ} {p : Partial} → n ≡ 0 → p ≡ nothing_held
    → Reached (session 0 u buf nothing_held) (session n u buf p)
unfolding pieces session_after_all
reached_start {n} {u} {buf} {p} e h = record { parts = []; session = ap₂ (λ (m : ℕ) (q : Partial). session m u buf q) e h }

pieces_snoc : (cs : List (List ℕ)) (c : List ℕ) → pieces (cs ++ (c ∷ [])) ≡ pieces cs ++ lines_of c
unfolding pieces
pieces_snoc [] c = append-nil (lines_of c)
pieces_snoc (b ∷ cs) c =
    ap (λ (xs : List Line). lines_of b ++ xs) (pieces_snoc cs c) ∙ sym (append_assoc (lines_of b) (pieces cs) (lines_of c))

module _ {s₀ s : Session} (t : Reached s₀ s) where
  after-part : (c : List ℕ) → session_after_all s (lines_of c) ≡ session_after_all s₀ (pieces (t.parts ++ (c ∷ [])))
  after-part c =
      ap (λ (q : Session). session_after_all q (lines_of c)) t.session ∙ sym (after-append s₀ (pieces t.parts) (lines_of c))
      ∙ ap (session_after_all s₀) (sym (pieces_snoc t.parts c))

  -- one part more, the end of input, and a failure
  pub reached_next : {u : Units} {buf : List ℕ} (p : Progress) → ReadOnce s u buf (Ok (Some p))
      → Reached s₀ (session p.lines u buf p.held)
  reached_next p c = record { parts = t.parts ++ (c.chunk ∷ []); session = c.answered ∙ after-part c.chunk }

  pub reached_ended : {u : Units} {buf : List ℕ} → ReadOnce s u buf (Ok None) → Ran s₀ u buf
  reached_ended k = record { parts = t.parts; left = rw t.session at k }

  pub reached_failed : {u : Units} {buf : List ℕ} {e : Failed} → ReadOnce s u buf (Err e) → Ran s₀ u buf
  reached_failed c =
      let part : List ℕ = take c.answered.used c.chunk in
      record { parts = t.parts ++ (part ∷ []); left = rw (after-part part) at c.answered.left }

-- or just here
pub reached_here : {s₀ : Session} {n : ℕ} {u : Units} {buf : List ℕ} {p : Partial} → Reached s₀ (session n u buf p) → Ran s₀ u buf
reached_here t = record {
  parts = t.parts;
  left = record { units = ap (λ (q : Session). q.units) t.session; line = ap (λ (q : Session). q.collector.buffer) t.session };
}

-- a run of units that are fresh
pub ran_fresh : {x u : Units} {buf buf' : List ℕ} → x ≡ fresh_units → Ran (session 0 x buf nothing_held) u buf'
    → Ran (fresh_session buf) u buf'
ran_fresh {x} {u} {buf} {buf'} e r = subst (λ y. Ran (session 0 y buf nothing_held) u buf') e r
