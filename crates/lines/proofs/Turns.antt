-- The loop that reads the values of a line by a word and keys, and what `parse` makes of them: each is within its limit, so that none
-- loses anything where the code narrows it (`narrow_meaning`).
use Prim.Native.Nat.{ℕ, zero, suc, ◌+◌, ◌%◌, ◌≤◌, ◌<◌}
use native.Mathlib.Omega.{arith}
use native.Mathlib.Nat.{add-zero}
use native.Mathlib.Numerals.{add-one}
use mathlib.Core.Path.{◌≡◌, refl, sym, ap, ◌∙◌}
use mathlib.Core.Bool.{true, false, cond}
use mathlib.Core.List.{List, [], ◌∷◌, ◌++◌, map}
use borrow.Author.Tests.{leb-true, ltb-true, ltb-false}
use lib.ListN.{length, drop, take, get_or, set as store, replicate, length-set, drop_of_length-le, get_or-map}
use lib.Seq.{take-suc-set, get_or-set_other, drop-cons}
use lib.Dec.{eqb, ltb}
use Rattle.bits.proofs.Sets.{by_cases, fst, snd, both}
use Rattle.std.specs.Prelude.{Option, Some, None}
use Rattle.std.specs.Option.{option_and_then}
use Rattle.std.specs.Bool.{then_some}
use Rattle.lines.specs.declared.Request.{Request}
use Rattle.lines.specs.Bytes.{bytes}
use Rattle.lines.specs.Grammar.{Kind, number, set, Part, literal, value, count, fits_as, within}
use Rattle.lines.specs.Grammar.{Asks, applied, form_of, meaning}
use Rattle.lines.specs.Line.{starts_with, value_at, number_at, set_at, read_by, values_by, or_else, parse_line}
use Rattle.lines.specs.declared.Key.{Key}
use Rattle.lines.specs.declared.Key.TheVariants.{By, Who, To, Set, On, Right, Last, Now, Depth}
use Rattle.lines.specs.declared.Action.{Action}
use Rattle.lines.specs.declared.Action.TheVariants.{Create, Delete, Allow, AllowSet, Withdraw, Drop, Lend, Recall, Shift, Sweep, Check}
use Rattle.lines.specs.Reader.{after_at, field_at, key_text, key_kind, key_at, literals, keys_parts, parts_of, place, word_of, keys_of, most, ReadAs, Only}
use Rattle.lines.proofs.Line.{drop-next, drop-end}
use Rattle.lines.proofs.Patterns.{seen}
use Rattle.lines.proofs.Verbs.{only_reads}

-- a run of literal bytes
literals_read : (w : List ℕ) (t : List Part) (s : List ℕ) (p : ℕ) (vs : List ℕ)
    → read_by (literals w t) s p vs ≡ cond (starts_with w (drop p s)) (read_by t s (p + length w) vs) None
unfolding read_by
literals_read [] t s p vs = rw (add-zero p)
literals_read (c ∷ w) t s p vs =
    by_cases (ltb p (length s))
    (λ q.
    let l : p + 1 + length w ≡ p + suc (length w) = omega arith in
    rw (drop-next s p (ltb-true p (length s) q))
    (by_cases (eqb (get_or s p 0) c) (λ q. rw (q, literals_read w t s (p + 1) vs, l)) (λ q. rw q)))
    (λ q. rw (drop-end s p (ltb-false p (length s) q)))

-- ---- the loop
-- after the first k keys of ks, at p in the line, with their values in vs
pub record At (w : List ℕ) (ks : List Key) (s vs : List ℕ) (p k : ℕ) : Type 0 where
  pub inside : k ≤ length ks
  pub room : length ks ≤ length vs
  pub left : values_by (parts_of w ks) s ≡ read_by (keys_parts (drop k ks)) s p (take k vs)
  pub blank : (j : ℕ) → k ≤ j → get_or vs j 0 ≡ 0

-- what stands at a place, and the place after it
after_yes : (w s : List ℕ) (at n : ℕ) → after_at w s at ≡ Some n → (starts_with w (drop at s) ≡ true) × (at + length w ≡ n)
unfolding after_at
after_yes w s at n e =
    by_cases (starts_with w (drop at s)) (λ q. (q, let f : Some (at + length w) ≡ Some n = rw q at e in cc))
    (λ q. let f : ◌≡◌ {A = Option ℕ} None (Some n) = rw q at e in cc)

after_no : (w s : List ℕ) (at : ℕ) → after_at w s at ≡ None → starts_with w (drop at s) ≡ false
unfolding after_at
after_no w s at e =
    by_cases (starts_with w (drop at s)) (λ q. let f : ◌≡◌ {A = Option ℕ} (Some (at + length w)) None = rw q at e in cc) (λ q. q)

-- ---- a key
kind : (k : Key) → (k ≡ Set → ⊥) → key_kind k ≡ number
kind By h = refl
kind Who h = refl
kind To h = refl
kind Set h = absurd (h refl)
kind On h = refl
kind Right h = refl
kind Last h = refl
kind Now h = refl
kind Depth h = refl

module _ (k : Key) (s : List ℕ) (at : ℕ) {w : List ℕ} (t : w ≡ key_text k) where
  pub key_none : None ≡ after_at w s at → None ≡ key_at k s at
  unfolding key_at field_at
  key_none e = let f = after_no w s at (sym e) in rw (rw t at f)

  key_some : (v : ℕ) → Some v ≡ after_at w s at → value_at (key_kind k) s v ≡ key_at k s at
  unfolding key_at field_at
  key_some v e =
      let f = after_yes w s at v (sym e) in
      let p : at + length (key_text k) ≡ v = rw t at f.1 in
      let q : starts_with (key_text k) (drop at s) ≡ true = rw t at f.0 in
      rw (q, p)

  pub key_set : {v : ℕ} → Some v ≡ after_at w s at → k ≡ Set → set_at s v ≡ key_at k s at
  key_set {v} e q = rw (ap key_kind q) at (key_some v e)

  pub key_number : {v : ℕ} → Some v ≡ after_at w s at → (k ≡ Set → ⊥) → number_at s v ≡ key_at k s at
  key_number {v} e n = rw (kind k n) at (key_some v e)

zeros : (n i : ℕ) → get_or {A = ℕ} (replicate n 0) i 0 ≡ 0
zeros zero i = refl
zeros (suc n) zero = refl
zeros (suc n) (suc i) = zeros n i

module _ (w : List ℕ) (ks : List Key) (s : List ℕ) where
  -- do= and the word
  head_read : values_by (parts_of w ks) s
      ≡ cond (starts_with (bytes "do=") s) (cond (starts_with w (drop 3 s)) (read_by (keys_parts ks) s (3 + length w) []) None) None
  head_read =
      literals_read (bytes "do=") (literals w (keys_parts ks)) s 0 []
      ∙ by_cases (starts_with (bytes "do=") s) (λ q. rw q (literals_read w (keys_parts ks) s 3 [])) (λ q. rw q)

  pub do_other : after_at (bytes "do=") s 0 ≡ None → values_by (parts_of w ks) s ≡ None
  do_other e = head_read ∙ rw (after_no (bytes "do=") s 0 e)

  module _ (p : ℕ) (d : after_at (bytes "do=") s 0 ≡ Some p) where
    pub word_other : after_at w s p ≡ None → values_by (parts_of w ks) s ≡ None
    word_other e =
        let h = after_yes (bytes "do=") s 0 p d in
        let f : starts_with w (drop 3 s) ≡ false = rw (sym h.1) at (after_no w s p e) in
        head_read ∙ rw (h.0, f)

    pub word_same : (n : ℕ) → length ks ≤ most → after_at w s p ≡ Some n → At w ks s (replicate most 0) n 0
    word_same n h e =
        let b = after_yes (bytes "do=") s 0 p d in
        let f = after_yes w s p n e in
        let g : starts_with w (drop 3 s) ≡ true = rw (sym b.1) at f.0 in
        let m : 3 + length w ≡ n = omega (arith, b.1, f.1) in
        record {
          inside = omega arith;
          room = h;
          left = head_read ∙ rw (b.0, g, m);
          blank = λ j k. zeros most j;
        }

taken_blank : (vs : List ℕ) (k : ℕ) → ((j : ℕ) → k ≤ j → get_or vs j 0 ≡ 0) → (j : ℕ) → get_or vs j 0 ≡ get_or (take k vs) j 0
taken_blank vs zero b j = b j (omega arith)
taken_blank [] (suc k) b j = refl
taken_blank (v ∷ vs) (suc k) b zero = refl
taken_blank (v ∷ vs) (suc k) b (suc j) = taken_blank vs k (λ i m. b (suc i) (omega arith)) j

-- a line that is not read
pub read_not : {x : Option (List ℕ)} → x ≡ None → ReadAs x None
unfolding ReadAs
read_not e = rw e tt

module _ {w : List ℕ} {ks : List Key} {s vs : List ℕ} {p k : ℕ} (a : At w ks s vs p k) where
  -- the keys have ended
  pub filled : length ks ≤ k → ReadAs (values_by (parts_of w ks) s) (then_some (eqb p (length s)) vs)
  unfolding ReadAs read_by
  filled h =
      by_cases (eqb p (length s))
      (λ q. rw (a.left, drop_of_length-le ks h, q) (taken_blank vs k a.blank))
      (λ q. rw (a.left, drop_of_length-le ks h, q) tt)

  module _ (h : k < length ks) (x : Key) (e : get_or ks k By ≡ x) where
    at : drop k ks ≡ x ∷ drop (k + 1) ks
    at = rw (add-one k, ← e) (drop-cons ks k By h)

    -- the next key
    next : values_by (parts_of w ks) s
        ≡ option_and_then (λ r. read_by (keys_parts (drop (k + 1) ks)) s r.1 (take k vs ++ (r.0 ∷ []))) (key_at x s p)
    unfolding read_by key_at field_at
    next =
        let t : List ℕ = key_text x in
        a.left ∙ rw (at, literals_read t (value (key_kind x) ∷ keys_parts (drop (k + 1) ks)) s p (take k vs))
        (by_cases (starts_with t (drop p s)) (λ q. rw q) (λ q. rw q))

    pub key_stop : key_at x s p ≡ None → values_by (parts_of w ks) s ≡ None
    key_stop q = next ∙ rw q

    pub key_turn : (v n : ℕ) → key_at x s p ≡ Some (v, n) → At w ks s (store vs k v) n (k + 1)
    key_turn v n q =
        record {
          inside = omega arith;
          room = omega (arith, a.room, length-set vs k v);
          left = next ∙ rw (q, add-one k, take-suc-set vs k v (omega (arith, a.room)));
          blank = λ j m. get_or-set_other vs k j v 0 (λ z. omega arith) ∙ a.blank j (omega arith);
        }

-- ---- the whole line
-- the pattern of an action's word and keys is the one that the grammar shows, and has room
pub action_parts : (v : Action) → (parts_of (word_of v) (keys_of v) ≡ (form_of (place v)).pattern) × (length (keys_of v) ≤ most)
action_parts Create = (refl, omega arith)
action_parts Delete = (refl, omega arith)
action_parts Allow = (refl, omega arith)
action_parts AllowSet = (refl, omega arith)
action_parts Withdraw = (refl, omega arith)
action_parts Drop = (refl, omega arith)
action_parts Lend = (refl, omega arith)
action_parts Recall = (refl, omega arith)
action_parts Shift = (refl, omega arith)
action_parts Sweep = (refl, omega arith)
action_parts Check = (refl, omega arith)

-- a form asks for the same by values that are the same
same-applied : (n : ℕ) (f : Asks n) (k : ℕ) (out vs : List ℕ) → ((i : ℕ) → get_or out i 0 ≡ get_or vs i 0)
    → applied n f k out ≡ applied n f k vs
same-applied zero x k out vs h = refl
same-applied (suc n) f k out vs h = rw (h k) (same-applied n (f (get_or vs k 0)) (suc k) out vs h)

-- ---- limits
-- no value, and 0, are within any limits
within_none : (t : List Part) → within t [] ≡ true
within_none [] = refl
within_none (literal c ∷ t) = within_none t
within_none (value k ∷ t) = refl

fits-zero : (k : Kind) → fits_as k 0 ≡ true
fits-zero number = refl
fits-zero set = refl

-- an array that holds the values is within the limits that they are within
same-within : (t : List Part) (out vs : List ℕ) → ((i : ℕ) → get_or out i 0 ≡ get_or vs i 0) → within t vs ≡ true → within t out ≡ true
same-within [] out vs h f = refl
same-within (literal c ∷ t) out vs h f = same-within t out vs h f
same-within (value k ∷ t) [] vs h f = refl
same-within (value k ∷ t) (o ∷ out) [] h f =
    let b : fits_as k o ≡ true = rw (h 0) (fits-zero k) in
    both b (same-within t out [] (λ i. h (suc i)) (within_none t))
same-within (value k ∷ t) (o ∷ out) (v ∷ vs) h f =
    let b : fits_as k o ≡ true = rw (h 0) (fst (fits_as k v) (within t vs) f) in
    both b (same-within t out vs (λ i. h (suc i)) (snd (fits_as k v) (within t vs) f))

-- the next value, at place i, and those after it
within-next : (k : Kind) (t : List Part) (vs : List ℕ) (i : ℕ) → within (value k ∷ t) (drop i vs) ≡ true
    → (fits_as k (get_or vs i 0) ≡ true) × (within t (drop (suc i) vs) ≡ true)
within-next k t [] i h = (fits-zero k, within_none t)
within-next k t (v ∷ vs) zero h = (fst (fits_as k v) (within t vs) h, snd (fits_as k v) (within t vs) h)
within-next k t (v ∷ vs) (suc i) h = within-next k t vs i h

-- what a form asks for by the values vs, where the code hands on ns for its numbers
abbrev pub narrowed : (t : List Part) → Asks (count t) → ℕ → List ℕ → List ℕ → Option Request
narrowed [] x i ns vs = x
narrowed (literal c ∷ t) f i ns vs = narrowed t f i ns vs
narrowed (value number ∷ t) f i ns vs = narrowed t (f (get_or ns i 0)) (suc i) ns vs
narrowed (value set ∷ t) f i ns vs = narrowed t (f (get_or vs i 0)) (suc i) ns vs

-- numbers lose nothing in their lowest 32 bits where they are within their limit
narrow_applied : (t : List Part) (f : Asks (count t)) (i : ℕ) (vs : List ℕ) → within t (drop i vs) ≡ true
    → narrowed t f i (map (λ v. v % 4294967296) vs) vs ≡ applied (count t) f i vs
narrow_applied [] x i vs h = refl
narrow_applied (literal c ∷ t) f i vs h = narrow_applied t f i vs h
narrow_applied (value number ∷ t) f i vs h =
    let b = within-next number t vs i h in
    let l = leb-true (get_or vs i 0) 4294967295 b.0 in
    let e : get_or (map (λ v. v % 4294967296) vs) i 0 ≡ get_or vs i 0 =
    get_or-map (λ (v : ℕ). v % 4294967296) vs i 0 ∙ omega arith in
    rw e (narrow_applied t (f (get_or vs i 0)) (suc i) vs b.1)
narrow_applied (value set ∷ t) f i vs h =
    let b = within-next set t vs i h in
    narrow_applied t (f (get_or vs i 0)) (suc i) vs b.1

pub narrow_meaning : (w : Action) (ns vs : List ℕ) {v : Action} → v ≡ w → ns ≡ map (λ v. v % 4294967296) vs
    → within (form_of (place v)).pattern vs ≡ true
    → narrowed (form_of (place w)).pattern (form_of (place w)).asks 0 ns vs ≡ meaning (form_of (place v)) vs
unfolding meaning
narrow_meaning w ns vs e m h =
    rw (e, m) (narrow_applied (form_of (place w)).pattern (form_of (place w)).asks 0 vs (rw e at h))

-- ---- what parse makes of the values
module _ (s : List ℕ) (v : ℕ) where
  -- the values that were read are within their limits
  pub parse_within : (out : List ℕ) → ReadAs (values_by (form_of v).pattern s) (Some out) → within (form_of v).pattern out ≡ true
  unfolding ReadAs
  parse_within out h = from (values_by (form_of v).pattern s) refl h
    where
      from : (x : Option (List ℕ)) → values_by (form_of v).pattern s ≡ x → ReadAs x (Some out) → within (form_of v).pattern out ≡ true
      from (Some vs) q h = let i = seen (form_of v).pattern s 0 [] vs q in same-within (form_of v).pattern out vs h (rw i.whole i.fits)
      from None q h = absurd h

  module _ (o : Only s v) where
    pub parse_got : (out : List ℕ) → ReadAs (values_by (form_of v).pattern s) (Some out) → meaning (form_of v) out ≡ parse_line s
    unfolding ReadAs or_else meaning
    parse_got out h = from (values_by (form_of v).pattern s) refl h ∙ sym (only_reads s v o)
      where
        from : (x : Option (List ℕ)) → values_by (form_of v).pattern s ≡ x → ReadAs x (Some out)
            → meaning (form_of v) out ≡ or_else (form_of v) x None
        from (Some vs) q h = same-applied (count (form_of v).pattern) (form_of v).asks 0 out vs h
        from None q h = absurd h

    pub parse_not : ReadAs (values_by (form_of v).pattern s) None → None ≡ parse_line s
    unfolding ReadAs or_else
    parse_not h = from (values_by (form_of v).pattern s) h ∙ sym (only_reads s v o)
      where
        from : (x : Option (List ℕ)) → ReadAs x None → None ≡ or_else (form_of v) x None
        from (Some vs) h = absurd h
        from None h = refl
