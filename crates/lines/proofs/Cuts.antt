-- Cutting the input anywhere changes nothing: over any list of chunks the collector gives what the lines of all input ask for.
use mathlib.Core.Path.{◌≡◌, refl, sym, ap, ap₂, ◌∙◌}
use mathlib.Core.Bool.{true, false, cond}
use mathlib.Core.List.{List, [], ◌∷◌, ◌++◌, map, append_assoc, append-nil}
use Prim.Native.Nat.{ℕ, suc, ◌≤◌, ◌<◌}
use native.Mathlib.Omega.{arith}
use borrow.Author.Tests.{lt-ltb, le-ltb, ltb-false}
use lib.ListN.{length, take}
use lib.Seq.{length-take-le, length-sets}
use lib.Dec.{eqb, ltb}
use Rattle.std.specs.Prelude.{Option, None}
use Rattle.bits.proofs.Sets.{by_cases}
use Rattle.lines.specs.declared.collect.Partial.{Partial}
use Rattle.lines.specs.declared.Request.{Request}
use Rattle.lines.specs.Collect.{Line, line, last_line, lines_from, lines_of, parsed_of, before_newline, begun, past, buffer_after, ends_in}
use Rattle.lines.specs.Chunks.{whole, pieces, Collector, empty_with, takes, collected}
use Rattle.lines.proofs.Chunks.{Holds, holds-none, holds-fed, holds-line}

-- ---- what `feed` takes at a time are the lines of what is left of a chunk
-- where no line ends in s, which t follows
pub open_all : (s : List ℕ) → ends_in s ≡ false → before_newline s ≡ s
unfolding before_newline
open_all [] e = refl
open_all (b ∷ s) e =
    by_cases (eqb b 10) (λ q. absurd (omega (arith, ltb-false 0 (suc (length s)) (rw q at e))))
    (λ q. let k = ltb-false (suc (length (before_newline s))) (suc (length s)) (rw q at e) in
    rw q (ap (λ (m : List ℕ). b ∷ m) (open_all s (le-ltb (length (before_newline s)) (length s) (omega arith)))))

pub lines_open : (l s t : List ℕ) → ends_in s ≡ false → lines_from l (s ++ t) ≡ lines_from (l ++ s) t
unfolding lines_from before_newline
lines_open l [] t e = ap (λ (m : List ℕ). lines_from m t) (sym (append-nil l))
lines_open l (b ∷ s) t e =
    by_cases (eqb b 10) (λ q. absurd (omega (arith, ltb-false 0 (suc (length s)) (rw q at e))))
    (λ q. let k = ltb-false (suc (length (before_newline s))) (suc (length s)) (rw q at e) in
    rw q (lines_open (l ++ (b ∷ [])) s t (le-ltb (length (before_newline s)) (length s) (omega arith))
    ∙ ap (λ (m : List ℕ). lines_from m t) (append_assoc l (b ∷ []) s)))

-- ---- pieces put together again, where the first line has begun with l
rejoined : List ℕ → List Line → List Line
rejoined l [] = last_line l
rejoined l (x ∷ xs) = cond x.ended (line (l ++ x.text) true ∷ rejoined [] xs) (rejoined (l ++ x.text) xs)

rejoin_chunk : (cs : List (List ℕ)) → ((l : List ℕ) → rejoined l (pieces cs) ≡ lines_from l (whole cs)) → (l m s : List ℕ)
    → rejoined l (lines_from m s ++ pieces cs) ≡ lines_from (l ++ m) (s ++ whole cs)
unfolding lines_from rejoined
rejoin_chunk cs h l [] [] = h l ∙ ap (λ (k : List ℕ). lines_from k (whole cs)) (sym (append-nil l))
rejoin_chunk cs h l (b ∷ m) [] = h (l ++ (b ∷ m))
rejoin_chunk cs h l m (b ∷ s) =
    by_cases (eqb b 10) (λ q. rw q (ap (λ (xs : List Line). line (l ++ m) true ∷ xs) (rejoin_chunk cs h [] [] s)))
    (λ q. rw q (rejoin_chunk cs h l (m ++ (b ∷ [])) s ∙ ap (λ (k : List ℕ). lines_from k (s ++ whole cs)) (sym (append_assoc l m (b ∷ [])))))

rejoin : (cs : List (List ℕ)) (l : List ℕ) → rejoined l (pieces cs) ≡ lines_from l (whole cs)
unfolding pieces whole lines_from rejoined
rejoin [] l = refl
rejoin (c ∷ cs) l = rejoin_chunk cs (rejoin cs) l [] c ∙ ap (λ (k : List ℕ). lines_from k (c ++ whole cs)) (append-nil l)

-- ---- the collector
-- some byte came where the line that is held has one
begun-last : (buf : List ℕ) (p : Partial) (l : List ℕ) → Holds buf p l → cond (begun p) (None ∷ []) [] ≡ map parsed_of (last_line l)
begun-last buf p l H = by_cases p.over (λ q. rw q (over l (H.long q))) (λ q. rw q (fits l (H.short q)))
  where
    over : (l : List ℕ) → length buf < length l → None ∷ [] ≡ map parsed_of (last_line l)
    over [] h = absurd (omega arith)
    over (b ∷ l) h = refl

    fits : (l : List ℕ) → (take p.len buf ≡ l) × (p.len ≤ length buf)
        → cond (ltb 0 p.len) (None ∷ []) [] ≡ map parsed_of (last_line l)
    fits [] h =
        let n : p.len ≡ 0 = sym (length-take-le p.len buf h.1) ∙ ap length h.0 in
        rw n
    fits (b ∷ l) h =
        let n : p.len ≡ suc (length l) = sym (length-take-le p.len buf h.1) ∙ ap length h.0 in
        rw (lt-ltb 0 p.len (omega arith))

buffer_stays : (buf : List ℕ) (p : Partial) (seg : List ℕ) → length (buffer_after buf p seg) ≡ length buf
unfolding buffer_after
buffer_stays buf p seg = by_cases (past (length buf) p (length seg)) (λ q. rw q) (λ q. rw q (length-sets buf p.len seg))

collects : (k : Collector) (l : List ℕ) (xs : List Line) → 128 ≤ length k.buffer → Holds k.buffer k.held l
    → collected k xs ≡ map parsed_of (rejoined l xs)
unfolding collected rejoined
collects k l [] big H = begun-last k.buffer k.held l H
collects k l (x ∷ xs) big H =
    let F = holds-fed k.buffer k.held l x.text H in
    let n = buffer_stays k.buffer k.held x.text in
    by_cases x.ended
    (λ q. rw q (ap₂ (λ (y : Option Request) (ys : List (Option Request)). y ∷ ys) (holds-line _ _ (l ++ x.text) (omega arith) F)
    (collects (empty_with (takes k x.text).buffer) [] xs (omega arith) (holds-none _))))
    (λ q. rw q (collects (takes k x.text) (l ++ x.text) xs (omega arith) F))

-- for every way to cut the input, and every line buffer of at least 128 bytes
pub cut_anywhere : (buf : List ℕ) → 128 ≤ length buf → (chunks : List (List ℕ))
    → collected (empty_with buf) (pieces chunks) ≡ map parsed_of (lines_of (whole chunks))
cut_anywhere buf big chunks = collects (empty_with buf) [] (pieces chunks) big (holds-none buf) ∙ ap (map parsed_of) (rejoin chunks [])
