-- Laws of lines put together from chunks: cutting the input anywhere changes nothing.
use mathlib.Core.Path.{◌≡◌, refl, sym, ap, ◌∙◌}
use mathlib.Core.Bool.{true, false, not, true≢false, false≢true}
use Rattle.std.specs.Prelude.{nat_eq, unwrap_or}
use Rattle.std.specs.List.{position, prefix_len}
use mathlib.Core.List.{List, [], ◌∷◌, ◌++◌, append_assoc}
use Prim.Native.Nat.{ℕ, ◌+◌, ◌≤◌, ◌<◌}
use native.Mathlib.Omega.{arith}
use borrow.Author.Tests.{le-ltb, ltb-true, ltb-false}
use lib.ListN.{length, take, drop, length-append}
use lib.Seq.{sets, length-take-le, length-sets, sets-eq, take_at, drop-drop}
use lib.Dec.{ltb, eqb}
use Rattle.bits.proofs.Sets.{by_cases}
use Rattle.lines.specs.declared.collect.Partial.{Partial}
use Rattle.lines.specs.declared.collect.Fed.{Fed}
use Rattle.lines.specs.Line.{parse_line}
use Rattle.lines.specs.Collect.{before_newline, nothing_held, past, after_line, fed_of, held_after, buffer_after, held_line}
use Rattle.lines.proofs.Grammar.{long_malformed}

-- bytes copied into the buffer from a place on
pub put_sets : (b part : List ℕ) (at : ℕ) → at + length part ≤ length b
    → take at b ++ (part ++ drop (length part) (drop at b)) ≡ sets b at part
put_sets b part at h =
    rw (drop-drop (length part) at b)
    (sym (sets-eq part b at h ∙ append_assoc (take at b) part (drop (at + length part) b)))

pub before_length : (s : List ℕ) → length (before_newline s) ≤ length s
unfolding before_newline
before_length [] = omega arith
before_length (b ∷ s) = by_cases (eqb b 10) (λ q. rw q (omega arith)) (λ q. rw q (omega (arith, before_length s)))

prefix-before : (s : List ℕ) → prefix_len (λ b. not (nat_eq b 10)) s ≡ length (before_newline s)
unfolding before_newline
prefix-before [] = refl
prefix-before (b ∷ s) = by_cases (eqb b 10) (λ q. rw q) (λ q. rw q (omega (arith, prefix-before s)))

-- the place of the first byte 10, or the end
pub newline-place : (s : List ℕ) → unwrap_or (position (λ b. nat_eq b 10) s) (length s) ≡ length (before_newline s)
newline-place s =
    let e = prefix-before s in
    let n = before_length s in
    by_cases (ltb (prefix_len (λ b. not (nat_eq b 10)) s) (length s)) (λ q. rw q e)
    (λ q. let l = ltb-false (prefix_len (λ b. not (nat_eq b 10)) s) (length s) q in rw q (omega arith))

pub take_before : (l : List ℕ) → take (length (before_newline l)) l ≡ before_newline l
unfolding before_newline
take_before [] = refl
take_before (b ∷ l) = by_cases (eqb b 10) (λ q. rw q refl) (λ q. rw q (ap (λ (m : List ℕ). b ∷ m) (take_before l)))

pub past_room : (cap : ℕ) (p : Partial) (n : ℕ) → past cap p n ≡ false → p.len + n ≤ cap
past_room cap p n e =
    by_cases p.over (λ q. absurd (true≢false (rw q at e))) (λ q. ltb-false cap (p.len + n) (rw q at e))

not_over : (cap : ℕ) (p : Partial) (n : ℕ) → past cap p n ≡ false → p.over ≡ false
not_over cap p n e = by_cases p.over (λ q. absurd (true≢false (rw q at e))) (λ q. q)

-- the answers of feed and line
module _ (buf : List ℕ) (p : Partial) (chunk : List ℕ) (n used : ℕ) (e : n ≡ length (before_newline chunk))
    (u : used ≡ after_line n (length chunk)) where
  pub fed-past : past (length buf) p n ≡ true
      → ◌≡◌ {A = Fed} (record { ended = ltb n (length chunk); used = used; held = record { len = p.len; over = true } })
      (fed_of (length buf) p chunk)
      × (buf ≡ buffer_after buf p (before_newline chunk))
  unfolding held_after buffer_after
  fed-past h = (rw (u, sym e, h), rw (sym e, h))

  pub fed_more : past (length buf) p n ≡ false → (next : ℕ) (last : List ℕ) → next ≡ p.len + length (take n chunk)
      → last ≡ sets buf p.len (take n chunk)
      → ◌≡◌ {A = Fed} (record { ended = ltb n (length chunk); used = used; held = record { len = next; over = false } })
      (fed_of (length buf) p chunk)
      × (last ≡ buffer_after buf p (before_newline chunk))
  unfolding held_after buffer_after
  fed_more h next last q r =
      let t : take n chunk ≡ before_newline chunk = rw e (take_before chunk) in
      (rw (u, sym e, h, q, t, e), rw (sym e, h, r, t))

-- ---- what a partial line and its buffer stand for: the bytes l of the line so far
pub record Holds (buf : List ℕ) (p : Partial) (l : List ℕ) : Type 0 where
  pub short : p.over ≡ false → (take p.len buf ≡ l) × (p.len ≤ length buf)
  pub long : p.over ≡ true → length buf < length l

-- nothing held stands for the empty line
pub holds-none : (buf : List ℕ) → Holds buf nothing_held []
holds-none buf = record { short = λ e. (refl, omega arith); long = λ e. absurd (false≢true e) }

-- the bytes fed are added to the line
pub holds-fed : (buf : List ℕ) (p : Partial) (l seg : List ℕ) → Holds buf p l
    → Holds (buffer_after buf p seg) (held_after (length buf) p seg) (l ++ seg)
unfolding buffer_after held_after
holds-fed buf p l seg H =
    by_cases (past (length buf) p (length seg))
    (λ q. rw q (record { short = λ e. absurd (true≢false e); long = λ e. over_long q }))
    (λ q.
    let room = past_room (length buf) p (length seg) q in
    let s = H.short (not_over (length buf) p (length seg) q) in
    rw q (record {
      short = λ e. (taken room s.0, rw (length-sets buf p.len seg) room);
      long = λ e. absurd (false≢true e);
    }))
  where
    over_long : past (length buf) p (length seg) ≡ true → length buf < length (l ++ seg)
    over_long q =
        by_cases p.over (λ r. omega (arith, H.long r, length-append l seg))
        (λ r.
        let s = H.short r in
        let lt = ltb-true (length buf) (p.len + length seg) (rw r at q) in
        let n : length l ≡ p.len = sym (ap length s.0) ∙ length-take-le p.len buf s.1 in
        omega (arith, length-append l seg))

    taken : p.len + length seg ≤ length buf → take p.len buf ≡ l → take (p.len + length seg) (sets buf p.len seg) ≡ l ++ seg
    taken room e =
        let n : length (take p.len buf ++ seg) ≡ p.len + length seg = length-append (take p.len buf) seg
        ∙ ap (λ (k : ℕ). k + length seg) (length-take-le p.len buf (omega arith)) in
        rw (sets-eq seg buf p.len room)
        (take_at (take p.len buf ++ seg) (drop (p.len + length seg) buf) (p.len + length seg) n ∙ ap (λ (m : List ℕ). m ++ seg) e)

-- with a buffer of 128 bytes the held line is read as the whole line is
pub holds-line : (buf : List ℕ) (p : Partial) (l : List ℕ) → 128 ≤ length buf → Holds buf p l → held_line buf p ≡ parse_line l
holds-line buf p l big H =
    by_cases p.over (λ q. rw q (sym (long_malformed l (omega (arith, H.long q)))))
    (λ q. let s = H.short q in let k : p.len + 0 ≤ length buf = omega (arith, s.1) in
    rw (q, le-ltb (length buf) (p.len + 0) k, s.0) refl)
