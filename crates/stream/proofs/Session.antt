-- A run of the program: each turn of the reader, and that the parts in which the input is taken don't matter.
use mathlib.Core.Path.{◌≡◌, refl, sym, ap, ap₂, ◌∙◌, subst}
use lib.Arith.{lt_of_le-ne}
use mathlib.Core.Bool.{Bool, true, false, cond, and-false}
use mathlib.Core.List.{List, [], ◌∷◌, ◌++◌, append_assoc, append-nil}
use Prim.Native.Nat.{ℕ, suc, ◌+◌, ◌-◌, ◌≤◌, ◌<◌}
use native.Mathlib.Omega.{arith}
use native.Mathlib.Numerals.{add-one}
use native.Mathlib.Nat.{add-zero}
use borrow.Author.Tests.{eqb-true, eqb-false, lt-ltb, le-ltb, ltb-true, leb-true, le-leb, lt-leb}
use lib.ListN.{length, take, drop, length-append, length-drop, take-append-drop}
use lib.Seq.{take_all, take-add, drop-drop, drop-length}
use lib.Dec.{eqb, leb}
use Rattle.std.specs.Prelude.{Option}
use Rattle.agreement.specs.Agreement.{Units}
use Rattle.bits.proofs.Sets.{by_cases, both}
use Rattle.lines.specs.declared.Request.{Request}
use Rattle.lines.specs.declared.collect.Partial.{Partial}
use Rattle.lines.specs.declared.collect.Fed.{Fed}
use Rattle.lines.specs.Show.{Wrote}
use Rattle.lines.specs.Collect.{Line, line, lines_from, lines_of, before_newline, nothing_held, begun, ends_in, used_in, fed_of, buffer_after, held_line}
use Rattle.lines.specs.Chunks.{Collector, whole, pieces, empty_with, takes, collected}
use Rattle.lines.proofs.Cuts.{lines_open, open_all}
use Rattle.output.specs.declared.reply.Reply.{Reply}
use Rattle.output.specs.Output.{output_line, last_output, room, Puts, malformed_reply, lent_buffer}
use Rattle.transcript.specs.Program.{reply_of, via_of, units_after, output_from, output_of}
use Rattle.reader.specs.Replies.{Replies}
use Rattle.stream.specs.Session.{Session, session, fresh_session, asks_in, session_after, piece_output, session_after_all, pieces_output, closing, parts_output, piece_of, Runs, Takes, last_lines, Consumes, closable, Closes, goes_on, taken_from, taken_of, piece_bytes, bytes_of}
use Rattle.output.proofs.Written.{wrote_then, wrote_none, wrote_is}
use Rattle.transcript.proofs.Program.{chunks_same}

-- ---- the whole run
-- pieces by pieces, a run writes what the lines that it collects ask for
pub collected-output : (n : ℕ) (u : Units) (k : Collector) (xs : List Line)
    → let s : Session = record { lines = n; units = u; collector = k } in
    output_from n u (collected k xs) ≡ pieces_output s xs ++ closing (session_after_all s xs).lines (session_after_all s xs).collector.held
unfolding output_from collected pieces_output piece_output session_after_all session_after closing reply_of via_of units_after
collected-output n u k [] = by_cases (begun k.held) (λ q. rw q) (λ q. rw q)
collected-output n u k (x ∷ xs) =
    by_cases x.ended
    (λ q.
    let x' = asks_in s x in
    rw q (ap (λ (l : List ℕ). output_line (n + 1) (reply_of u x') (via_of u x') ++ l)
    (collected-output (n + 1) (units_after u x') (empty_with (takes k x.text).buffer) xs)
    ∙ sym (append_assoc (output_line (n + 1) (reply_of u x') (via_of u x')) _ _)))
    (λ q. rw q (collected-output n u (takes k x.text) xs))
  where
    s : Session
    s = record { lines = n; units = u; collector = k }

-- one list of pieces after another
pub after-append : (s : Session) (xs ys : List Line) → session_after_all s (xs ++ ys) ≡ session_after_all (session_after_all s xs) ys
unfolding session_after_all
after-append s [] ys = refl
after-append s (x ∷ xs) ys = after-append (session_after s x) xs ys

pub output-append : (s : Session) (xs ys : List Line)
    → pieces_output s (xs ++ ys) ≡ pieces_output s xs ++ pieces_output (session_after_all s xs) ys
unfolding session_after_all pieces_output
output-append s [] ys = refl
output-append s (x ∷ xs) ys =
    ap (λ (l : List ℕ). piece_output s x ++ l) (output-append (session_after s x) xs ys)
    ∙ sym (append_assoc (piece_output s x) (pieces_output (session_after s x) xs) (pieces_output (session_after_all (session_after s x) xs) ys))

parts-pieces : (s : Session) (cs : List (List ℕ))
    → parts_output s cs ≡ pieces_output s (pieces cs) ++ closing (session_after_all s (pieces cs)).lines
    (session_after_all s (pieces cs)).collector.held
unfolding parts_output pieces pieces_output session_after_all
parts-pieces s [] = refl
parts-pieces s (c ∷ cs) =
    rw (after-append s (lines_of c) (pieces cs), output-append s (lines_of c) (pieces cs))
    (ap (λ (l : List ℕ). pieces_output s (lines_of c) ++ l) (parts-pieces (session_after_all s (lines_of c)) cs)
    ∙ sym (append_assoc (pieces_output s (lines_of c)) _ _))

-- a run from fresh units writes the program's output, whatever the parts in which it takes its input
pub parts_same : (buffer : List ℕ) → 128 ≤ length buffer → (parts : List (List ℕ))
    → parts_output (fresh_session buffer) parts ≡ output_of (whole parts)
parts_same buffer big parts =
    parts-pieces (fresh_session buffer) parts ∙ sym (collected-output 0 _ _ (pieces parts)) ∙ chunks_same buffer big parts

-- ---- a line that ended
pub line_runs : (u u' : Units) (x : Option Request) (n : ℕ) (out out' : List ℕ) (at r : ℕ) (s : Reply) (via : List ℕ)
    → room (length out) at ≡ true → Replies u x s via u' → Puts out at (output_line n s via) r out' → Runs u x n out at r u' out'
line_runs u u' x n out out' at r s via e h p = record {
  units = h.units;
  output = wrote_is (ap₂ (output_line n) h.reply h.buffer) (record { place = rw e at p.place; buffer = rw e at p.buffer });
  short = p.short;
}

-- ---- one piece of a chunk
module _ (n : ℕ) (u : Units) (buf buf' : List ℕ) (p : Partial) (chunk out : List ℕ) (at : ℕ) (fed : Fed)
    (e : fed ≡ fed_of (length buf) p chunk)
    (b : buf' ≡ buffer_after buf p (before_newline chunk)) where
  pub takes_open : fed.ended ≡ false → Takes (session n u buf p) chunk out at fed.used at (session n u buf' fed.held) out
  unfolding session_after piece_output
  takes_open h =
      let q : ends_in chunk ≡ false = sym (ap (λ (f : Fed). f.ended) e) ∙ h in record {
        part = ap (λ (f : Fed). f.used) e;
        session = rw q (ap₂ (session n u) b (ap (λ (f : Fed). f.held) e));
        output = wrote_is (rw q refl) (wrote_none out at);
        short = omega arith;
      }

  pub takes-ended : fed.ended ≡ true → (u' : Units) (out' : List ℕ) (r : ℕ) (none : Partial) → none ≡ nothing_held
      → Runs u (held_line buf' fed.held) (n + 1) out at r u' out'
      → Takes (session n u buf p) chunk out at fed.used r (session (n + 1) u' buf' none) out'
  unfolding session_after piece_output
  takes-ended h u' out' r none z w =
      let q : ends_in chunk ≡ true = sym (ap (λ (f : Fed). f.ended) e) ∙ h in
      let x : held_line buf' fed.held ≡ held_line (buffer_after buf p (before_newline chunk)) (fed_of (length buf) p chunk).held =
      ap₂ held_line b (ap (λ (f : Fed). f.held) e) in record {
        part = ap (λ (f : Fed). f.used) e;
        session = rw (q, sym x, w.units, z, b) refl;
        output = wrote_is (rw (q, sym x) refl) w.output;
        short = w.short;
      }

-- ---- the pieces of a chunk
-- the first piece of a chunk is what `feed` takes of it
first-line : (l s t : List ℕ) → length (before_newline s) < length s
    → lines_from l (take (suc (length (before_newline s))) s ++ t) ≡ line (l ++ before_newline s) true ∷ lines_of t
unfolding lines_from before_newline
first-line l [] t h = absurd (omega arith)
first-line l (b ∷ s) t h =
    by_cases (eqb b 10) (λ q. rw q (ap (λ (m : List ℕ). line m true ∷ lines_of t) (sym (append-nil l))))
    (λ q.
    let k : suc (length (before_newline s)) < suc (length s) = rw q at h in
    rw q (first-line (l ++ (b ∷ [])) s t (omega arith)
    ∙ ap (λ (m : List ℕ). line m true ∷ lines_of t) (append_assoc l (b ∷ []) (before_newline s))))

piece_ended : (s : List ℕ) → ends_in s ≡ true → (t : List ℕ) → lines_of (take (used_in s) s ++ t) ≡ piece_of s ∷ lines_of t
piece_ended s e t = rw (e, add-one (length (before_newline s))) (first-line [] s t (ltb-true _ _ e))

open_used : (s : List ℕ) → ends_in s ≡ false → used_in s ≡ length s
open_used s q = rw q (ap length (open_all s q))

pub used_some : (s : List ℕ) → 0 < length s → (0 < used_in s) × (used_in s ≤ length s)
used_some s h =
    by_cases (ends_in s) (λ q. let k = ltb-true (length (before_newline s)) (length s) q in rw q (omega arith, omega (arith, k)))
    (λ q. let a = open_used s q in (omega arith, omega arith))

-- and the other pieces are those of what it leaves
pub lines_next : (s : List ℕ) → 0 < length s → lines_of s ≡ piece_of s ∷ lines_of (drop (used_in s) s)
unfolding lines_from
lines_next [] h = absurd (omega arith)
lines_next (b ∷ s) h =
    by_cases (ends_in (b ∷ s))
    (λ q. ap lines_of (sym (take-append-drop (used_in (b ∷ s)) (b ∷ s))) ∙ piece_ended (b ∷ s) q (drop (used_in (b ∷ s)) (b ∷ s)))
    (λ q.
    ap lines_of (sym (append-nil (b ∷ s))) ∙ lines_open [] (b ∷ s) [] q
    ∙ ap₂ (λ (x : Line) (l : List ℕ). x ∷ lines_of l) (ap₂ line (sym (open_all (b ∷ s) q)) (sym q))
    (sym (ap (λ (k : ℕ). drop k (b ∷ s)) (open_used (b ∷ s) q) ∙ drop-length (b ∷ s))))

pub bytes-append : (xs ys : List Line) → bytes_of (xs ++ ys) ≡ bytes_of xs + bytes_of ys
unfolding bytes_of
bytes-append [] ys = omega arith
bytes-append (x ∷ xs) ys = omega (arith, bytes-append xs ys)

-- a chunk cut between two of its pieces: those before and those after are the pieces of the two parts
pub record Cut (chunk : List ℕ) (n : ℕ) (xs ys : List Line) : Type 0 where
  pub within : n ≤ length chunk
  pub before : lines_of (take n chunk) ≡ xs
  pub after : lines_of (drop n chunk) ≡ ys

pub cut : (chunk : List ℕ) (xs ys : List Line) → lines_of chunk ≡ xs ++ ys → Cut chunk (bytes_of xs) xs ys
unfolding lines_from bytes_of
cut chunk [] ys e = record { within = omega arith; before = refl; after = e }
cut [] (x ∷ xs) ys e = let z : ◌≡◌ {A = ℕ} 0 1 = cc in absurd (omega arith)
cut (b ∷ c) (x ∷ xs) ys e =
    let chunk : List ℕ = b ∷ c in
    let used : ℕ = used_in chunk in
    let next = lines_next chunk (omega arith) in
    let px : piece_of chunk ≡ x = cc in
    let rest : lines_of (drop used chunk) ≡ xs ++ ys = cc in
    let k = cut (drop used chunk) xs ys rest in
    let some = used_some chunk (omega arith) in
    let left = length-drop used chunk in
    subst (λ (y : Line). Cut chunk (piece_bytes y + bytes_of xs) (y ∷ xs) ys) px (record {
      within = omega (arith, k.within);
      before = by_cases (ends_in chunk)
          (λ q. ap lines_of (take-add used (bytes_of xs) chunk) ∙ piece_ended chunk q (take (bytes_of xs) (drop used chunk))
          ∙ ap (λ (zs : List Line). piece_of chunk ∷ zs) k.before)
          (λ q.
          let o = open_used chunk q in
          ap lines_of (take_all (used + bytes_of xs) chunk (omega arith)) ∙ next
          ∙ ap (λ (zs : List Line). piece_of chunk ∷ zs)
          (ap lines_of (sym (take_all (bytes_of xs) (drop used chunk) (omega arith))) ∙ k.before));
      after = ap lines_of (sym (drop-drop (bytes_of xs) used chunk)) ∙ k.after;
    })

-- ---- the pieces that are taken
-- those that are left
untaken : ℕ → ℕ → Session → List Line → List Line
untaken size at s [] = []
untaken size at s (x ∷ xs) = cond (goes_on size at s) (untaken size (at + length (piece_output s x)) (session_after s x) xs) (x ∷ xs)

taken_split : (size at : ℕ) (s : Session) (xs : List Line) → xs ≡ taken_from size at s xs ++ untaken size at s xs
unfolding taken_from untaken
taken_split size at s [] = refl
taken_split size at s (x ∷ xs) =
    by_cases (goes_on size at s)
    (λ q. rw q (ap (λ (ys : List Line). x ∷ ys) (taken_split size (at + length (piece_output s x)) (session_after s x) xs))) (λ q. rw q)

-- a piece is left only where it doesn't go on
taken_stops : (size at : ℕ) (s : Session) (xs : List Line) → 0 < length (untaken size at s xs)
    → goes_on size (at + length (pieces_output s (taken_from size at s xs))) (session_after_all s (taken_from size at s xs)) ≡ false
unfolding taken_from untaken pieces_output session_after_all
taken_stops size at s [] h = absurd (omega arith)
taken_stops size at s (x ∷ xs) h =
    by_cases (goes_on size at s)
    (λ q.
    let o : List ℕ = piece_output s x in
    let s' : Session = session_after s x in
    let ts : List Line = taken_from size (at + length o) s' xs in
    let r = taken_stops size (at + length o) s' xs (rw q at h) in
    let n = length-append o (pieces_output s' ts) in
    let e : at + length (o ++ pieces_output s' ts) ≡ at + length o + length (pieces_output s' ts) = omega arith in
    rw q (ap (λ (k : ℕ). goes_on size k (session_after_all s' ts)) e ∙ r))
    (λ q. rw q (ap (λ (k : ℕ). goes_on size k s) (add-zero at) ∙ q))

-- what `consume` takes, as if it had been the chunk
module _ {s s' : Session} {chunk out out' : List ℕ} {used written : ℕ} (c : Consumes s chunk out used written s' out') where
  cut-there : Cut chunk used (taken_of (length out) s chunk) (untaken (length out) 0 s (lines_of chunk))
  cut-there = rw c.part (cut chunk _ _ (taken_split (length out) 0 s (lines_of chunk)))

  pub consumes_part : used ≤ length chunk
  consumes_part = cut-there.within

  pub consumes_session : s' ≡ session_after_all s (lines_of (take used chunk))
  consumes_session = c.session ∙ ap (session_after_all s) (sym cut-there.before)

  pub consumes_output : Wrote out 0 (pieces_output s (lines_of (take used chunk))) written out'
  consumes_output = wrote_is (ap (pieces_output s) (sym cut-there.before)) c.output

  -- the part taken ends between two pieces
  pub consumes_lines : lines_of chunk ≡ taken_of (length out) s chunk ++ lines_of (drop used chunk)
  consumes_lines =
      taken_split (length out) 0 s (lines_of chunk) ∙ ap (λ (ys : List Line). taken_of (length out) s chunk ++ ys) (sym cut-there.after)

  -- and some is left only where the output has no room for a line, or a run's last line was counted
  pub consumes_rest : used < length chunk → goes_on (length out) written s' ≡ false
  consumes_rest h =
      let l = length-drop used chunk in
      let n = ap length (lines_next (drop used chunk) (omega arith)) in
      let m = ap length cut-there.after in
      ap₂ (goes_on (length out)) c.output.place c.session ∙ taken_stops (length out) 0 s (lines_of chunk) (omega arith)

-- ---- the loop over a chunk
-- how far the loop is: these pieces are done, and what is taken of the chunk are these and what is taken of the rest
pub record Going (s₀ s : Session) (chunk out₀ out rest : List ℕ) (at : ℕ) : Type 0 where
  pub done : List Line
  pub part : bytes_of done + length rest ≡ length chunk
  pub left : rest ≡ drop (bytes_of done) chunk
  pub taken : taken_of (length out₀) s₀ chunk ≡ done ++ taken_from (length out₀) at s (lines_of rest)
  pub session : s ≡ session_after_all s₀ done
  pub output : Wrote out₀ 0 (pieces_output s₀ done) at out
  pub within : at ≤ length out₀

pub going_start : (s : Session) (chunk out : List ℕ) → Going s s chunk out out chunk 0
unfolding bytes_of session_after_all pieces_output
going_start s chunk out = record {
  done = [];
  part = omega arith;
  left = refl;
  taken = refl;
  session = refl;
  output = wrote_none out 0;
  within = omega arith;
}

-- what a test for emptiness tells
pub some_left : (l : List ℕ) {b : Bool} → b ≡ eqb (length l) 0 → b ≡ false → 0 < length l
some_left l e q = lt_of_le-ne (omega arith) (λ z. eqb-false (length l) 0 (sym e ∙ q) (sym z))

pub none_left : (l : List ℕ) {b : Bool} → b ≡ eqb (length l) 0 → b ≡ true → length l ≡ 0
none_left l e q = eqb-true (length l) 0 (sym e ∙ q)

pub nothing : (l : List ℕ) → length l ≡ 0 → l ≡ []
nothing [] e = refl
nothing (b ∷ l) e = absurd (omega arith)

module _ {s₀ s : Session} {chunk out₀ out rest : List ℕ} {at : ℕ} (g : Going s₀ s chunk out₀ out rest at) (n : length out ≡ length out₀) where
  module _ {used r : ℕ} {s' : Session} {out' : List ℕ} (t : Takes s rest out at used r s' out') (h : 0 < length rest) where
    -- a piece is some of the rest
    pub going_used : (0 < used) × (used ≤ length rest)
    going_used = rw t.part (used_some rest h)

    pub going_next : room (length out) at ≡ true → s.lines < last_lines → Going s₀ s' chunk out₀ out' (drop used rest) r
    unfolding taken_from bytes_of session_after_all pieces_output
    going_next e k =
        let b = going_used in
        let x : Line = piece_of rest in
        let room_for = leb-true (at + 128) (length out) e in
        let e₀ : room (length out₀) at ≡ true = rw n at e in
        let goes : goes_on (length out₀) at s ≡ true = both e₀ (lt-ltb s.lines last_lines k) in
        let xs : List Line = g.done in
        let more : taken_from (length out₀) at s (lines_of rest) ≡ x ∷ taken_from (length out₀) r s' (lines_of (drop used rest)) =
        ap (taken_from (length out₀) at s) (lines_next rest h) ∙ rw goes (ap (λ (ys : List Line). x ∷ ys)
        (ap (λ (m : ℕ). taken_from (length out₀) m (session_after s x) (lines_of (drop (used_in rest) rest))) (sym t.output.place)
        ∙ ap₂ (taken_from (length out₀) r) (sym t.session) (ap (λ (m : ℕ). lines_of (drop m rest)) (sym t.part)))) in
        let bytes : bytes_of (xs ++ (x ∷ [])) ≡ bytes_of xs + used = omega (arith, bytes-append xs (x ∷ []), t.part) in
        record {
          done = xs ++ (x ∷ []);
          part = omega (arith, bytes, g.part, length-drop used rest);
          left = ap (drop used) g.left ∙ drop-drop used (bytes_of xs) chunk ∙ ap (λ (m : ℕ). drop m chunk) (sym bytes);
          taken = g.taken ∙ ap (λ (ys : List Line). xs ++ ys) more ∙ sym (append_assoc xs (x ∷ []) _);
          session = t.session ∙ ap (λ (q : Session). session_after q x) g.session ∙ sym (after-append s₀ xs (x ∷ []));
          output = wrote_is (ap (λ (q : Session). pieces_output s₀ xs ++ piece_output q x) g.session
              ∙ ap (λ (l : List ℕ). pieces_output s₀ xs ++ l) (sym (append-nil (piece_output (session_after_all s₀ xs) x)))
              ∙ sym (output-append s₀ xs (x ∷ []))) (wrote_then g.output t.output);
          within = omega (arith, t.short);
        }

  -- the chunk is used up, there is no room left, or a run's last line was counted
  stop : taken_from (length out₀) at s (lines_of rest) ≡ [] → Consumes s₀ chunk out₀ (length chunk - length rest) at s out
  stop none =
      let all : taken_of (length out₀) s₀ chunk ≡ g.done =
      g.taken ∙ ap (λ (ys : List Line). g.done ++ ys) none ∙ append-nil g.done in
      let used : length chunk - length rest ≡ bytes_of g.done = omega (arith, g.part) in record {
        part = used ∙ ap bytes_of (sym all);
        session = g.session ∙ ap (session_after_all s₀) (sym all);
        output = wrote_is (ap (pieces_output s₀) (sym all)) g.output;
        within = g.within;
      }

  none_taken : (xs : List Line) → goes_on (length out₀) at s ≡ false → taken_from (length out₀) at s xs ≡ []
  unfolding taken_from
  none_taken [] e = refl
  none_taken (x ∷ xs) e = rw e

  pub going_end : length rest ≡ 0 → Consumes s₀ chunk out₀ (length chunk - length rest) at s out
  unfolding taken_from lines_from
  going_end h = stop (ap (λ (l : List ℕ). taken_from (length out₀) at s (lines_of l)) (nothing rest h))

  pub going_full : room (length out) at ≡ false → Consumes s₀ chunk out₀ (length chunk - length rest) at s out
  going_full e = let e₀ : room (length out₀) at ≡ false = rw n at e in stop (none_taken _ (rw e₀))

  pub going_last : last_lines ≤ s.lines → Consumes s₀ chunk out₀ (length chunk - length rest) at s out
  going_last h = stop (none_taken _ (rw (le-ltb s.lines last_lines h) (and-false (room (length out₀) at))))

-- ---- the end of input
module _ (out : List ℕ) (n : ℕ) (p : Partial) where
  pub closes-none : closable (length out) n ≡ false → Closes out n p 0 out
  closes-none e = record { output = rw e (wrote_none out 0); within = omega arith }

  module _ (big : 256 ≤ length out) where
    pub closes-last : begun p ≡ false → (r : ℕ) (out' : List ℕ) → Puts out 0 (last_output n) r out' → n ≤ last_lines → Closes out n p r out'
    unfolding closing
    closes-last e r out' w h =
        let k = le-leb (0 + 128) (length out) (omega arith) in
        let c : closable (length out) n ≡ true = both (le-leb 256 (length out) big) (le-leb n last_lines h) in record {
          output = rw (c, e) (record { place = rw k at w.place; buffer = rw k at w.buffer });
          within = omega (arith, w.short);
        }

    pub closes-begun : begun p ≡ true → (at r : ℕ) (out' out'' : List ℕ) (s : Reply) → s ≡ malformed_reply
        → Puts out 0 (output_line (n + 1) s lent_buffer) at out'
        → length out' ≡ length out → Puts out' at (last_output (n + 1)) r out'' → n ≤ last_lines → Closes out n p r out''
    unfolding closing
    closes-begun e at r out' out'' s z v l w h =
        let k = le-leb (0 + 128) (length out) (omega arith) in
        let m : room (length out') at ≡ true = le-leb (at + 128) (length out') (omega (arith, v.short)) in
        let c : closable (length out) n ≡ true = both (le-leb 256 (length out) big) (le-leb n last_lines h) in
        let first : Wrote out 0 (output_line (n + 1) malformed_reply lent_buffer) at out' =
        wrote_is (ap (λ (t : Reply). output_line (n + 1) t lent_buffer) z)
        (record { place = rw k at v.place; buffer = rw k at v.buffer }) in record {
          output = rw (c, e) (wrote_then first (record { place = rw m at w.place; buffer = rw m at w.buffer }));
          within = omega (arith, v.short, w.short);
        }

pub small : (size n : ℕ) → size < 256 → closable size n ≡ false
small size n h = rw (lt-leb 256 size h)

pub many : (size n : ℕ) → last_lines < n → closable size n ≡ false
many size n h = rw (lt-leb n last_lines h) (and-false (leb 256 size))
