-- Lines by a pattern: the reader gets values exactly where the pattern with these values is written.
use Prim.Native.Nat.{ℕ, zero, suc, ◌+◌, ◌^◌, ◌≤◌, ◌<◌}
use native.Mathlib.Omega.{arith}
use mathlib.Core.Path.{◌≡◌, refl, sym, ap, ◌∙◌}
use mathlib.Core.Bool.{Bool, true, false, not, ◌&&◌, false≢true}
use mathlib.Core.List.{List, [], ◌∷◌, ◌++◌, append-nil, append_assoc}
use borrow.Author.Tests.{leb-true, le-leb, ltb-true, lt-ltb, eqb-true, eq-eqb}
use lib.ListN.{length, drop, get_or, length-append, length-drop}
use lib.Seq.{drop-drop}
use lib.Dec.{eqb}
use Rattle.bits.proofs.Sets.{by_cases, fst, snd, both}
use Rattle.std.specs.Prelude.{Option, Some, None}
use Rattle.std.specs.Option.{option_and_then}
use Rattle.lines.specs.Grammar.{Kind, number, set, Part, literal, value, count, shown_as, fits_as, written, within}
use Rattle.lines.specs.Line.{starts_with, digit, digits, value_at, read_by}
use Rattle.lines.proofs.Line.{drop-end}
use Rattle.lines.proofs.Decimal.{shown_32}
use Rattle.lines.proofs.Values.{number_seen, number_read, starts_split, starts_self, drop_past}
use Rattle.lines.proofs.Hexadecimal.{set_reads, set_seen, printed_length}

-- ---- a value of either kind
value_seen : (k : Kind) (s : List ℕ) (p v n : ℕ) → value_at k s p ≡ Some (v, n)
    → (drop p s ≡ shown_as k v ++ drop n s) × (fits_as k v ≡ true)
value_seen number s p v n e = let h = number_seen s p v n e in (h.0, le-leb v 4294967295 h.1)
value_seen set s p v n e = let h = set_seen s p v n e in (h.0, lt-ltb v (2 ^ 64) h.1)

value_read : (k : Kind) (s : List ℕ) (p v : ℕ) (rest : List ℕ) → drop p s ≡ shown_as k v ++ rest → fits_as k v ≡ true → digits rest ≡ []
    → value_at k s p ≡ Some (v, p + length (shown_as k v))
value_read number s p v rest e h stop = number_read s p v rest e (leb-true v 4294967295 h) stop
value_read set s p v rest e h stop = rw (printed_length v) (set_reads s p v rest e (ltb-true v (2 ^ 64) h))

-- the most bytes that one has
abbrev pub widest_as : Kind → ℕ
widest_as number = 10
widest_as set = 16

value-width : (k : Kind) (v : ℕ) → fits_as k v ≡ true → length (shown_as k v) ≤ widest_as k
value-width number v h = let b = leb-true v 4294967295 h in shown_32 v (omega arith)
value-width set v h = omega (arith, printed_length v)

-- ---- what is read is written there
pub record Seen (t : List Part) (s : List ℕ) (p : ℕ) (vs out : List ℕ) : Type 0 where
  pub ws : List ℕ
  pub whole : out ≡ vs ++ ws
  pub text : drop p s ≡ written t ws
  pub many : length ws ≡ count t
  pub fits : within t ws ≡ true

pub seen : (t : List Part) (s : List ℕ) (p : ℕ) (vs out : List ℕ) → read_by t s p vs ≡ Some out → Seen t s p vs out
unfolding read_by
seen [] s p vs out e =
    by_cases (eqb p (length s))
    (λ q.
    let f : Some vs ≡ Some out = rw q at e in
    let g : vs ≡ out = cc in
    record {
      ws = [];
      whole = sym g ∙ sym (append-nil vs);
      text = drop-end s p (omega (arith, eqb-true p (length s) q));
      many = refl;
      fits = refl;
    })
    (λ q. let f : None ≡ Some out = rw q at e in let z : ◌≡◌ {A = ℕ} 0 1 = cc in absurd (omega arith))
seen (literal c ∷ t) s p vs out e =
    by_cases (starts_with (c ∷ []) (drop p s))
    (λ q.
    let i = seen t s (p + 1) vs out (rw q at e) in
    record {
      ws = i.ws;
      whole = i.whole;
      text = starts_split (c ∷ []) (drop p s) q ∙ ap (λ (l : List ℕ). c ∷ l) (drop-drop 1 p s ∙ i.text);
      many = i.many;
      fits = i.fits;
    })
    (λ q. let f : None ≡ Some out = rw q at e in let z : ◌≡◌ {A = ℕ} 0 1 = cc in absurd (omega arith))
seen (value k ∷ t) s p vs out e = by_value (λ v n f. seen t s n (vs ++ (v ∷ [])) out f) (value_at k s p) refl e
  where
    by_value : ((v n : ℕ) → read_by t s n (vs ++ (v ∷ [])) ≡ Some out → Seen t s n (vs ++ (v ∷ [])) out)
        → (r : Option (ℕ × ℕ)) → value_at k s p ≡ r
        → option_and_then (λ x. read_by t s x.1 (vs ++ (x.0 ∷ []))) r ≡ Some out → Seen (value k ∷ t) s p vs out
    by_value go (Some (v, n)) q f =
        let i = go v n f in
        let h = value_seen k s p v n q in
        record {
          ws = v ∷ i.ws;
          whole = i.whole ∙ append_assoc vs (v ∷ []) i.ws;
          text = h.0 ∙ ap (λ (l : List ℕ). shown_as k v ++ l) i.text;
          many = ap suc i.many;
          fits = both h.1 i.fits;
        }
    by_value go None q f = let z : ◌≡◌ {A = ℕ} 0 1 = cc in absurd (omega arith)

-- ---- what is written is read, where no digit comes after a value
-- no digit comes next
abbrev pub stop : List Part → Bool
stop [] = true
stop (literal c ∷ t) = not (digit c)
stop (value k ∷ t) = false

abbrev pub sound : List Part → Bool
sound [] = true
sound (literal c ∷ t) = sound t
sound (value k ∷ t) = stop t && sound t

stop_written : (t : List Part) (ws : List ℕ) → stop t ≡ true → digits (written t ws) ≡ []
stop_written [] ws h = refl
stop_written (literal c ∷ t) ws h = by_cases (digit c) (λ q. absurd (false≢true (rw q at h))) (λ q. rw q)
stop_written (value k ∷ t) ws h = absurd (false≢true h)

pub read : (t : List Part) (s : List ℕ) (p : ℕ) (vs ws : List ℕ) → sound t ≡ true → drop p s ≡ written t ws → length ws ≡ count t
    → within t ws ≡ true → p ≤ length s → read_by t s p vs ≡ Some (vs ++ ws)
unfolding read_by
read [] s p vs [] o e m f h =
    let g : p ≡ length s = omega (arith, length-drop p s, ap length e) in
    rw (eq-eqb p (length s) g, append-nil vs)
read [] s p vs (w ∷ ws) o e m f h = absurd (omega (arith, m))
read (literal c ∷ t) s p vs ws o e m f h =
    rw (ap (starts_with (c ∷ [])) e ∙ starts_self (c ∷ []) (written t ws))
    (read t s (p + 1) vs ws o (drop_past s p (c ∷ []) (written t ws) e) m f (omega (arith, length-drop p s, ap length e)))
read (value k ∷ t) s p vs [] o e m f h = absurd (omega (arith, m))
read (value k ∷ t) s p vs (w ∷ ws) o e m f h =
    let z = stop_written t ws (fst (stop t) (sound t) o) in
    let b = fst (fits_as k w) (within t ws) f in
    let l = length-append (shown_as k w) (written t ws) in
    let i = read t s (p + length (shown_as k w)) (vs ++ (w ∷ [])) ws (snd (stop t) (sound t) o)
    (drop_past s p (shown_as k w) (written t ws) e) (omega (arith, m)) (snd (fits_as k w) (within t ws) f)
    (omega (arith, length-drop p s, ap length e)) in
    rw (value_read k s p w (written t ws) e b z) (i ∙ ap Some (append_assoc vs (w ∷ []) ws))

-- ---- the bytes before the first value
abbrev pub prefix : List Part → List ℕ
prefix [] = []
prefix (literal c ∷ t) = c ∷ prefix t
prefix (value k ∷ t) = []

pub prefix_at : (t : List Part) (ws : List ℕ) (i : ℕ) → i < length (prefix t) → get_or (written t ws) i 0 ≡ get_or (prefix t) i 0
prefix_at [] ws i h = absurd (omega arith)
prefix_at (literal c ∷ t) ws zero h = refl
prefix_at (literal c ∷ t) ws (suc i) h = prefix_at t ws i (omega arith)
prefix_at (value k ∷ t) ws i h = absurd (omega arith)

pub starts_written : (w : List ℕ) (t : List Part) (ws : List ℕ) → starts_with w (prefix t) ≡ true → starts_with w (written t ws) ≡ true
starts_written [] t ws e = refl
starts_written (a ∷ w) [] ws e = absurd (false≢true e)
starts_written (a ∷ w) (literal c ∷ t) ws e =
    by_cases (eqb c a) (λ q. rw q (starts_written w t ws (rw q at e))) (λ q. absurd (false≢true (rw q at e)))
starts_written (a ∷ w) (value k ∷ t) ws e = absurd (false≢true e)

-- ---- the most bytes that a line of a pattern has
abbrev pub widest : List Part → ℕ
widest [] = 0
widest (literal c ∷ t) = 1 + widest t
widest (value k ∷ t) = widest_as k + widest t

pub written-width : (t : List Part) (ws : List ℕ) → within t ws ≡ true → length (written t ws) ≤ widest t
written-width [] ws f = omega arith
written-width (literal c ∷ t) ws f = omega (arith, written-width t ws f)
written-width (value k ∷ t) [] f = omega arith
written-width (value k ∷ t) (w ∷ ws) f =
    let b = value-width k w (fst (fits_as k w) (within t ws) f) in
    omega (arith, length-append (shown_as k w) (written t ws), written-width t ws (snd (fits_as k w) (within t ws) f))
