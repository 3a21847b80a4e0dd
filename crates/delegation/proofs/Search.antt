-- Rounds and chains: an entry of round k is 1 + the greatest allowance of the chains with k loans, and what is read off the rounds is
-- such a chain. The round it is read off is the first with the greatest entry, so no best chain has fewer loans (`no_shorter`).
-- So what the search finds is what the chains of its 64 grant bytes and its loans say (`best-meets`); these are the chains of the images
-- on the item and right (`given-chain`, `image-chain`), so the check's answer and chain buffer are what those say (`meets`).
use mathlib.Core.Path.{◌≡◌, refl, sym, ap, ◌∙◌, subst}
use mathlib.Core.Bool.{Bool, true, false≢true}
use mathlib.Core.List.{List, [], ◌∷◌, ◌++◌}
use mathlib.Core.Logic.{by_cases, ⊎_elim}
use Prim.Native.Nat.{ℕ, zero, suc, ◌+◌, ◌-◌, ◌*◌, ◌/◌, ◌%◌, ◌≤◌, ◌<◌, min}
use native.Mathlib.Omega.{arith}
use native.Mathlib.Nat.{zero-lt-suc}
use native.Mathlib.Decide.{dec_lt, ℕ_discrete}
use lib.Dec.{eqb}
use lib.Count.{leading_length, leading_top, leading_of_zero}
use borrow.Author.Tests.{eqb-true, eq-eqb, ne_eqb, le-leb, leb-true}
use lib.ListN.{length, get_or, drop, replicate, length-append, length-replicate}
use lib.Seq.{take_at, drop_at, get_or-take, get_or-drop}
use Rattle.bits.specs.Sets.{most, first_at, tabulate}
use Rattle.bits.specs.Bits.{bit}
use Rattle.model.specs.Answers.{Found, nothing}
use Rattle.model.specs.Journal.{grant}
use Rattle.bits.specs.Cells.{at}
use Rattle.layouts.specs.Layouts.{grant_bytes, live_in, is_in_order}
use Rattle.model.specs.Chain.{granted, lent, Meets, Shortest, FewestPersons}
use Rattle.delegation.specs.Loans.{lender, borrower, loan_depth, used, word_good, loans_in_order}
use Rattle.delegation.specs.Images.{Images, standing_in, ImageChain}
use Rattle.delegation.specs.Picking.{picked}
use Rattle.delegation.specs.Search.{grants_of, GivenChain, height, grant_round, gain, arrive, arriving, next_round, round_at, column, lender_to, traced, rounds_of, height_of, length_of, fewest_persons, best_of, best_chain, found_of, chain_of}
use Rattle.bits.proofs.Sets.{fst, snd, both, find, eqb_self}
use Rattle.bits.proofs.Indexed.{get_d_tabulate, most_above, first-most, first_before, first_le, split, any_at, find_at}
use Rattle.bits.proofs.Bits.{bit_high, bit_top}
use Rattle.layouts.proofs.Layouts.{order-live, bytes_laws}
use Rattle.model.proofs.Chain.{chain-map, meets-map, meets-persons}
use Rattle.delegation.proofs.Picking.{lent-picked}

-- ---- a grant byte
pub below-height : (b e : ℕ) → b < 256 → bit b e ≡ true → e < height b
below-height b e h t =
    let s = leading_length 8 b h in
    by_cases (dec_lt e s.0) (λ l. omega arith) (λ l. absurd (false≢true (sym (bit_high s.0 b e s.2 (omega arith)) ∙ t)))

pub height-bit : (b a : ℕ) → b < 256 → height b ≡ suc a → bit b a ≡ true
height-bit zero a h e = absurd (omega (arith, leading_of_zero 8))
height-bit (suc b) a h e =
    let t = leading_top 8 (suc b) (zero-lt-suc b) h in
    ap (bit (suc b)) (let j : a ≡ t.0 = omega arith in j) ∙ bit_top (suc b) t.0 t.2 t.3

-- ---- one loan
pub arrive_here : (v w q : ℕ) → borrower w ≡ q → arrive v w q ≡ gain v w
unfolding arrive
arrive_here v w q e = rw (eq-eqb _ _ e)

pub arrive_else : (v w q : ℕ) → (borrower w ≡ q → ⊥) → arrive v w q ≡ 0
unfolding arrive
arrive_else v w q e = rw (ne_eqb _ _ e)

arrive-inv : (v w q a : ℕ) → arrive v w q ≡ suc a → (borrower w ≡ q) × (gain v w ≡ suc a)
arrive-inv v w q a e =
    by_cases (ℕ_discrete (borrower w) q) (λ b. (b, sym (arrive_here v w q b) ∙ e)) (λ b. absurd (omega (arith, arrive_else v w q b)))

-- where some loan passes v on to q, the lender taken is the lender of one
lender-found : (ls round : List ℕ) (q v n i : ℕ) → i < n → arriving ls round q i ≡ v
    → (j : ℕ) × (j < n) × (arriving ls round q j ≡ v) × (lender (get_or ls j 0) ≡ lender_to ls round q v n)
unfolding lender_to
lender-found ls round q v zero i h e = absurd (omega arith)
lender-found ls round q v (suc n) i h e =
    by_cases (ℕ_discrete (arriving ls round q n) v)
    (λ d. (n, omega arith, d, rw (eq-eqb _ _ d)))
    (λ d. let s = lender-found ls round q v n i
    (⊎_elim (λ (x : i ≡ n). absurd (d (ap (arriving ls round q) (sym x) ∙ e))) (λ l. l) (split h)) e in
    (s.0, omega arith, s.2, rw (ne_eqb _ _ d) s.3))

-- ---- rounds
at_next : (ls round : List ℕ) (q : ℕ) → q < 64 → get_or (next_round ls round) q 0 ≡ most (arriving ls round q) (length ls)
unfolding next_round
at_next ls round q h = get_d_tabulate 64 (λ (q : ℕ). most (arriving ls round q) (length ls)) q 0 h

at-grant : (bytes : List ℕ) (q : ℕ) → q < 64 → get_or (grant_round bytes) q 0 ≡ height (get_or bytes q 0)
unfolding grant_round
at-grant bytes q h = get_d_tabulate 64 (λ (p : ℕ). height (get_or bytes p 0)) q 0 h

-- every loan costs one
pub bounded : (bytes ls : List ℕ) (k q : ℕ) → q < 64 → get_or (round_at (grant_round bytes) ls k) q 0 ≤ 8 - k
unfolding round_at
bounded bytes ls zero q h = omega (arith, at-grant bytes q h)
bounded bytes ls (suc k) q h =
    let round : List ℕ = round_at (grant_round bytes) ls k in
    let f : ℕ → ℕ = arriving ls round q in
    by_cases (dec_lt 0 (most f (length ls)))
    (λ l. let s = first-most f (length ls) l in
    let w : ℕ = get_or ls (first_at f (length ls)) 0 in
    let a = arrive-inv (get_or round (lender w) 0) w q (most f (length ls) - 1) (s.1 ∙ omega arith) in
    let ih = bounded bytes ls k (lender w) (omega arith) in
    omega (arith, at_next ls round q h))
    (λ l. omega (arith, at_next ls round q h))

-- ---- the rounds of what the search is given, and their chains
module _ (bytes : List ℕ) (small : (i : ℕ) → i < 64 → get_or bytes i 0 < 256) (ls : List ℕ) where
  abbrev round : ℕ → List ℕ
  round k = round_at (grant_round bytes) ls k

  abbrev rounds : List (List ℕ)
  rounds = rounds_of bytes ls

  -- no chain has more than its round says
  pub complete : {ps : List ℕ} {q a : ℕ} → GivenChain bytes ls ps q a → (k : ℕ) × (q ≤ 63) × (length ps ≡ suc k)
      × (a < get_or (round_at (grant_round bytes) ls k) q 0)
  unfolding round_at
  complete (granted {p} {e} g) =
      (0, g.0, refl, rw (at-grant bytes p (omega (arith, g.0))) (below-height (get_or bytes p 0) e (small p (omega (arith, g.0))) g.1))
  complete (lent {ps} {a} w l c) =
      let n = complete c in
      let v : ℕ = get_or (round n.0) (lender w) 0 in
      let i = find_at (eqb w) 0 ls l in
      let e : w ≡ get_or ls i.0 0 = eqb-true _ _ i.2 in
      let at : arriving ls (round n.0) (borrower w) i.0 ≡ arrive v w (borrower w) =
      λ j. arrive (get_or (round n.0) (lender (sym e j)) 0) (sym e j) (borrower w) in
      let g = arrive_here v w (borrower w) refl in
      let m = most_above (arriving ls (round n.0) (borrower w)) (length ls) i.0 i.1 in
      (suc n.0, omega arith, simp length-append (omega arith), omega (arith, at_next ls (round n.0) (borrower w) (omega arith)))

  rounds_at : (k : ℕ) → k < 8 → get_or rounds k [] ≡ round k
  unfolding rounds_of
  rounds_at k h = get_d_tabulate 8 (round_at (grant_round bytes) ls) k [] h

  -- what is read off the rounds is a chain with the allowance that its round says
  pub traced-chain : (k q a : ℕ) → k < 8 → q ≤ 63 → get_or (round_at (grant_round bytes) ls k) q 0 ≡ suc a
      → GivenChain bytes ls (traced (rounds_of bytes ls) ls k q) q a
  unfolding traced round_at
  traced-chain zero q a hk h e =
      let t : height (get_or bytes q 0) ≡ suc a = sym (at-grant bytes q (omega arith)) ∙ e in
      granted (h, height-bit (get_or bytes q 0) a (small q (omega arith)) t)
  traced-chain (suc k) q a hk h e =
      let f : ℕ → ℕ = arriving ls (round k) q in
      let m : most f (length ls) ≡ suc a = sym (at_next ls (round k) q (omega arith)) ∙ e in
      let t = first-most f (length ls) (omega arith) in
      let n = lender-found ls (round k) q (suc a) (length ls) (first_at f (length ls)) t.0 (t.1 ∙ m) in
      let w : ℕ = get_or ls n.0 0 in
      let i = arrive-inv (get_or (round k) (lender w) 0) w q a n.2 in
      let here : column rounds q (suc k) ≡ suc a = ap (λ (x : List ℕ). get_or x q 0) (rounds_at (suc k) hk) ∙ e in
      let same : lender w ≡ lender_to ls (get_or rounds k []) q (column rounds q (suc k)) (length ls) =
      n.3 ∙ (λ j. lender_to ls (sym (rounds_at k (omega arith)) j) q (sym here j) (length ls)) in
      let b : ℕ = get_or (round k) (lender w) 0 - 2 in
      let c = traced-chain k (lender w) (suc b) (omega arith) (omega arith) (omega arith) in
      let less : min b (loan_depth w) ≡ a = omega arith in
      let l = any_at (eqb w) 0 ls n.0 n.1 (eqb_self w) in
      subst (λ (p : ℕ). GivenChain bytes ls (traced rounds ls k p ++ (q ∷ [])) q a) same
      (subst (λ (u : ℕ). GivenChain bytes ls (traced rounds ls k (lender w) ++ (u ∷ [])) u a) i.0
      (subst (λ (y : ℕ). GivenChain bytes ls (traced rounds ls k (lender w) ++ (borrower w ∷ [])) (borrower w) y) less (lent w l c)))

  -- a chain's allowance is below the greatest entry of its last person
  above : (p : ℕ) (ps : List ℕ) (a : ℕ) → GivenChain bytes ls ps p a → a < height_of bytes ls p
  unfolding height_of
  above p ps a c =
      let n = complete c in
      let b = bounded bytes ls n.0 p (omega (arith, n.1)) in
      let k : n.0 < 8 = omega (arith, n.3) in
      let e = ap (λ (x : List ℕ). get_or x p 0) (rounds_at n.0 k) in
      omega (arith, n.3, most_above (column rounds p) 8 n.0 k)

  -- a best chain has no fewer loans than the one that is written
  no_shorter : (p : ℕ) (ps : List ℕ) (a : ℕ) → suc a ≡ height_of bytes ls p → GivenChain bytes ls ps p a
      → fewest_persons bytes ls p ≤ length ps
  unfolding height_of length_of
  no_shorter p ps a top c =
      let n = complete c in
      let f : ℕ → ℕ = column rounds p in
      by_cases (dec_lt n.0 (first_at f 8))
      (λ l. let e = ap (λ (x : List ℕ). get_or x p 0) (rounds_at n.0 (omega (arith, first_le f 7))) in
      absurd (omega (arith, first_before f 8 n.0 l, e, n.3, top)))
      (λ l. omega (arith, n.2))

-- ---- the search
-- the answer of height v and n loans
abbrev pub yes_found : ℕ → ℕ → Found
yes_found v n = record { yes = true; depth = v - 1; persons = n + 1 }

module _ (bytes ls : List ℕ) (who : ℕ) where
  pub best-no : height_of bytes ls who ≡ 0 → (best_of bytes ls who ≡ nothing) × (best_chain bytes ls who ≡ replicate 8 255)
  unfolding best_of best_chain
  best-no e = (rw (eq-eqb _ _ e), rw (eq-eqb _ _ e))

  pub best-yes : (height_of bytes ls who ≡ 0 → ⊥)
      → (best_of bytes ls who ≡ yes_found (height_of bytes ls who) (length_of bytes ls who))
      × (best_chain bytes ls who ≡ traced (rounds_of bytes ls) ls (length_of bytes ls who) who ++ replicate (7 - length_of bytes ls who) 255)
  unfolding best_of best_chain
  best-yes ne = (rw (ne_eqb _ _ ne), rw (ne_eqb _ _ ne))

-- no allowance is above 7
pub height_le : (bytes ls : List ℕ) (who : ℕ) → who ≤ 63 → height_of bytes ls who ≤ 8
unfolding height_of rounds_of
height_le bytes ls who h =
    let row : ℕ → List ℕ = round_at (grant_round bytes) ls in
    let f : ℕ → ℕ = column (tabulate 8 row) who in
    by_cases (dec_lt 0 (most f 8))
    (λ l. let n = first-most f 8 l in
    let e = ap (λ (x : List ℕ). get_or x who 0) (get_d_tabulate 8 row (first_at f 8) [] n.0) in
    omega (arith, n.1, e, bounded bytes ls (first_at f 8) who (omega arith)))
    (λ l. omega arith)

length-traced : (rounds : List (List ℕ)) (ls : List ℕ) (k q : ℕ) → length (traced rounds ls k q) ≡ k + 1
unfolding traced
length-traced rounds ls zero q = refl
length-traced rounds ls (suc k) q = simp (length-append, length-traced rounds ls k) (omega arith)

-- the search says what the chains of its 64 bytes and its loans say
pub best-meets : (bytes : List ℕ) → ((i : ℕ) → i < 64 → get_or bytes i 0 < 256) → (ls : List ℕ) (p : ℕ) → p ≤ 63
    → Meets (λ ps a. GivenChain bytes ls ps p a) (best_of bytes ls p) (best_chain bytes ls p)
unfolding height_of length_of
best-meets bytes small ls p hp =
    let rounds : List (List ℕ) = rounds_of bytes ls in
    let f : ℕ → ℕ = column rounds p in
    let at : ℕ = first_at f 8 in
    let us : List ℕ = traced rounds ls at p in
    let pad : List ℕ = replicate (7 - at) 255 in
    let len = length-traced rounds ls at p in
    by_cases (ℕ_discrete (most f 8) 0)
    (λ e. let a = best-no bytes ls p e in
    rw (a.0, a.1) (record {
      eight = refl;
      shown = λ t. absurd (false≢true t);
      padded = λ t. absurd (false≢true t);
      greatest = λ ps a c. absurd (omega (arith, above bytes small ls p ps a c));
      fewest = λ ps c. absurd (omega (arith, above bytes small ls p ps 0 c));
      none = λ t. (refl, refl, refl);
    }))
    (λ ne. let a = best-yes bytes ls p ne in
    let n = first-most f 8 (omega arith) in
    let e : get_or (round_at (grant_round bytes) ls at) p 0 ≡ suc (most f 8 - 1) = ap (λ (x : List ℕ). get_or x p 0)
    (sym (rounds_at bytes small ls at n.0)) ∙ n.1 ∙ omega arith in
    rw (a.0, a.1) (record {
      eight = simp (length-append, length-replicate) (omega (arith, len, n.0));
      shown = λ t. rw (take_at us pad (at + 1) len) (traced-chain bytes small ls at p (most f 8 - 1) n.0 hp e);
      padded =
          λ t. (
            omega arith,
            omega arith,
            drop_at us pad (at + 1) len
                ∙ (let z : 7 - at ≡ 8 - (at + 1) = omega arith in λ j. replicate (z j) 255),
          );
      greatest = λ ps a c. (refl, omega (arith, above bytes small ls p ps a c));
      fewest = λ ps c. no_shorter bytes small ls p ps (most f 8 - 1) (omega arith) c;
      none = λ t. absurd (false≢true (sym t));
    }))

-- so the number it counts is the fewest persons of a best chain
pub fewest-counted : (bytes : List ℕ) → ((i : ℕ) → i < 64 → get_or bytes i 0 < 256) → (ls : List ℕ) (p : ℕ) → p ≤ 63 → (n : ℕ)
    → FewestPersons (λ ps a. GivenChain bytes ls ps p a) n → n ≡ fewest_persons bytes ls p
fewest-counted bytes small ls p hp n t =
    let g : Shortest (λ ps a. GivenChain bytes ls ps p a) = t.0 in
    let a = above bytes small ls p g.persons g.depth g.chain in
    sym ((meets-persons (best-meets bytes small ls p hp) n).0 t).1
    ∙ ap (λ (f : Found). f.persons) (best-yes bytes ls p (λ z. absurd (omega arith))).0

-- ---- the check: the search is given the grant bytes of the item and right, and the loans picked for them
-- a grant within the limits stands where its byte has the bit of its depth
standing-bit : (s : List ℕ) (p o r d : ℕ) → p ≤ 63 → o ≤ 63 → r ≤ 7 → d ≤ 7
    → standing_in s (grant p o r d) ≡ bit (get_or s (8 + 64 * (8 * o + r) + p) 0) d
unfolding grant_bytes at
standing-bit s p o r d hp ho hr hd =
    let k : ℕ = 64 + ((512 * o + 64 * r + p) * 8 + d) in
    let q : k / 8 ≡ 8 + 64 * (8 * o + r) + p = omega arith in
    let m : k % 8 ≡ d = omega arith in
    rw (le-leb p 63 hp, le-leb o 63 ho, le-leb r 7 hr, le-leb d 7 hd) (λ j. bit (get_or s (q j) 0) (m j))

module _ (s : Images) (bytes : (i : ℕ) → get_or s.grants i 0 < 256) (o r : ℕ) (ho : o ≤ 63) (hr : r ≤ 7) where
  abbrev own : List ℕ
  own = grants_of s.grants (8 * o + r)

  own_at : (p : ℕ) → p < 64 → get_or own p 0 ≡ get_or s.grants (8 + 64 * (8 * o + r) + p) 0
  unfolding grants_of
  own_at p h =
      get_or-take 64 (drop (8 + 64 * (8 * o + r)) s.grants) p 0 h ∙ get_or-drop (8 + 64 * (8 * o + r)) s.grants p 0

  own_small : (p : ℕ) → p < 64 → get_or own p 0 < 256
  own_small p h = rw (own_at p h) (bytes (8 + 64 * (8 * o + r) + p))

  given-grant : (p e : ℕ) → standing_in s.grants (grant p o r e) ≡ true → (p ≤ 63) × (bit (get_or own p 0) e ≡ true)
  given-grant p e g =
      let hp : p ≤ 63 = search (fst, snd, leb-true) in
      let he : e ≤ 7 = search (fst, snd, leb-true) in
      (hp, ap (λ (b : ℕ). bit b e) (own_at p (omega arith)) ∙ sym (standing-bit s.grants p o r e hp ho hr he) ∙ g)

  image-grant : (p e : ℕ) → (p ≤ 63) × (bit (get_or own p 0) e ≡ true) → standing_in s.grants (grant p o r e) ≡ true
  image-grant p e g =
      let he = below-height (get_or own p 0) e (own_small p (omega (arith, g.0))) g.1 in
      standing-bit s.grants p o r e g.0 ho hr (omega arith) ∙ ap (λ (b : ℕ). bit b e) (sym (own_at p (omega (arith, g.0)))) ∙ g.1

  -- the chains of the images on an item and right are those of what the search is given
  pub given-chain : {ps : List ℕ} {q a : ℕ} → ImageChain s o r ps q a
      → GivenChain (grants_of s.grants (8 * o + r)) (picked s.loans (8 * o + r)) ps q a
  given-chain =
      chain-map lender borrower loan_depth lender borrower loan_depth _ _ _ _ given-grant
      (λ w l. (w, (lent-picked s.loans o r w hr).1 l, refl, refl, refl))

  pub image-chain : {ps : List ℕ} {q a : ℕ} → GivenChain (grants_of s.grants (8 * o + r)) (picked s.loans (8 * o + r)) ps q a
      → ImageChain s o r ps q a
  image-chain =
      chain-map lender borrower loan_depth lender borrower loan_depth _ _ _ _ image-grant
      (λ w l. (w, (lent-picked s.loans o r w hr).0 l, refl, refl, refl))

  -- so the check says what the chains of the images say
  pub meets : (p : ℕ) → p ≤ 63 → Meets (λ ps a. ImageChain s o r ps p a) (found_of s.grants s.loans (8 * o + r) p)
      (chain_of s.grants s.loans (8 * o + r) p)
  unfolding found_of chain_of
  meets p hp = meets-map (best-meets own own_small (picked s.loans (8 * o + r)) p hp) (λ ps a. image-chain) (λ ps a. given-chain)

-- the chains of images in order end at living persons and are on living items: so by `meets` a question about a dead item is answered no
pub dead_no : (s : Images) → is_in_order grant_bytes s.grants ≡ true → loans_in_order (live_in grant_bytes s.grants) s.loans ≡ true
    → {o r : ℕ} {ps : List ℕ} {p a : ℕ} → ImageChain s o r ps p a → (live_in grant_bytes s.grants p ≡ true)
    × (live_in grant_bytes s.grants o ≡ true)
unfolding loans_in_order
dead_no s hg hl {o} {r} (granted {p} {e} g) =
    order-live grant_bytes bytes_laws s.grants hg (grant p o r e) (search (fst, snd, both)) (search (fst, snd))
dead_no s hg hl (lent w l c) =
    let good : ℕ → Bool = word_good (live_in grant_bytes s.grants) in
    let f = find (eqb w) good (used s.loans) (search (fst, snd)) l.0 in
    let g : good w ≡ true = ap good (eqb-true w f.0 f.2) ∙ f.1 in
    (search (fst, snd), ap (live_in grant_bytes s.grants) (sym l.1) ∙ search (fst, snd))
