-- Laws of a loans image and its parts: the loans in use, and the words after them.
use mathlib.Core.Path.{◌≡◌, sym, ap, ◌∙◌, subst}
use mathlib.Core.Bool.{Bool, true, false, not, ◌&&◌, and_assoc, and-true}
use mathlib.Core.List.{List, [], ◌∷◌, ◌++◌, append-nil, append_assoc}
use Prim.Native.Nat.{ℕ, suc, ◌+◌, ◌-◌, ◌≤◌, ◌<◌, min}
use native.Mathlib.Omega.{arith}
use native.Mathlib.Numerals.{add-one}
use lib.ListN.{length, length-append, take, drop, set, replicate, length-take, length-drop}
use lib.Seq.{append_snoc, take_all, take-length, drop-length, length-take-le, take-append-le, drop-append-le, take_at, drop_at, set_at, drop-cons}
use borrow.Rule.Slice.PartMut.{put_mid}
use lib.Dec.{eqb, leb}
use borrow.Author.Tests.{leb-true, leb-false, eq-eqb}
use Rattle.bits.specs.Sets.{any, all}
use Rattle.model.specs.Commands.{shifts, most_loans}
use Rattle.delegation.specs.Loans.{lender, loan_item, borrower, rising, insert, loan_words, header_word, recounted, moved_to, header_in, count_of, shift_in, used, loans_image, loans_with, loans_kept, loans_at, word_good, loans_in_order}
use Rattle.delegation.specs.declared.loan.Header.{Header}
use Rattle.bits.proofs.Sets.{by_cases, snd, all-and}
use Rattle.delegation.proofs.Rising.{insert-present}
use Rattle.delegation.specs.Below.{Below}
use Rattle.std.specs.Prelude.{Result, MatchResult}
use Rattle.std.specs.Ordering.{nat_cmp}
use Rattle.std.specs.List.Sorted.{IsBinarySearchResult}
use Rattle.loans.proofs.Place.{searched-place, in_place, insert-at, keep-others, keep_at}
use Rattle.loans.specs.Words.{shaped, names_live, Ordered}

pub length-used : (t : List ℕ) → length (used t) ≡ min (count_of t) (length t - 1)
unfolding used
length-used t = length-take (count_of t) (drop 1 t) ∙ rw (length-drop 1 t)

module _ (t : List ℕ) (n : ℕ) (e : n ≡ min (count_of t) (length t - 1)) where
  -- the part that holds the loans in use
  pub part-used : take (n + 1 - 1) (drop 1 t) ≡ used t
  unfolding used
  part-used =
      by_cases (leb (count_of t) (length t - 1))
      (λ h. let q : n + 1 - 1 ≡ count_of t = omega (arith, leb-true (count_of t) (length t - 1) h) in rw q)
      (λ h. let z = leb-false (count_of t) (length t - 1) h in
      take_all (n + 1 - 1) (drop 1 t) (simp length-drop (omega arith))
      ∙ sym (take_all (count_of t) (drop 1 t) (simp length-drop (omega arith))))

  pub used-none : n ≡ 0 → used t ≡ []
  used-none z = sym part-used ∙ rw z

-- the words after the first m zeroed, and the header put
pub cut_off : (h : Header) (t last : List ℕ) (m v : ℕ) → length t ≡ loan_words → m ≤ most_loans
    → last ≡ replicate (length (take (length t - (m + 1)) (drop (m + 1) t))) 0 → v ≡ header_word (recounted h m)
    → set (put_mid (m + 1) (length t - (m + 1)) t last) 0 v ≡ loans_image h (take m (drop 1 t))
unfolding loans_image
cut_off h [] last m v n l e q = absurd (omega arith)
cut_off h (x ∷ s) last m v n l e q =
    let d : length (drop m s) ≡ most_loans - m = simp length-drop (omega arith) in
    let k : suc (length s) - suc m ≡ length (drop m s) = omega arith in
    let z : last ≡ replicate (most_loans - m) 0 = (rw (add-one m) at e) ∙ rw (k, take-length (drop m s), d) in
    let a : length (take m s) ≡ m = length-take-le m s (omega arith) in
    rw (q, a, add-one m, k, drop-length (drop m s), z)
    (ap (λ (r : List ℕ). header_word (recounted h m) ∷ (take m s ++ r)) (append-nil (replicate (most_loans - m) 0)))

-- word 0 written for another shift
pub shift-set : (t : List ℕ) (n : ℕ) (h k : Header) (v : ℕ) → length t ≡ loan_words → h ≡ header_in t → k ≡ moved_to h n → v ≡ header_word k
    → set t 0 v ≡ loans_at n t
unfolding loans_at
shift-set [] n h k v l e m w = absurd (omega arith)
shift-set (x ∷ s) n h k v l e m w = ap (λ (y : ℕ). y ∷ s) (w ∙ ap header_word (m ∙ ap (λ (g : Header). moved_to g n) e))

-- the words that stay, in the image from whose part they were taken
pub packed_part : (t part : List ℕ) (k m : ℕ) → 0 < length t → m ≤ length part → take m (drop 1 (put_mid 1 k t part)) ≡ take m part
packed_part [] part k m h l = absurd (omega arith)
packed_part (n ∷ s) part k m h l = take-append-le m part (drop k s) l

-- the loans in use from a place on, and the image with other words there
module _ (t ls z : List ℕ) (h n place : ℕ) (e : t ≡ h ∷ (ls ++ z)) (l : length ls ≡ n) (p : place ≤ n) where
  long : length (drop place ls) ≡ n + 1 - suc place
  long = simp length-drop (omega arith)

  part-after : take (n + 1 - (place + 1)) (drop (place + 1) t) ≡ drop place ls
  part-after =
      rw (e, add-one place, drop-append-le place ls z (omega arith)) (take_at (drop place ls) z (n + 1 - suc place) long)

  put-after : (part : List ℕ) → put_mid (place + 1) (n + 1 - (place + 1)) t part ≡ h ∷ ((take place ls ++ part) ++ z)
  put-after part =
      rw (e, add-one place, take-append-le place ls z (omega arith), drop-append-le place ls z (omega arith))
      (ap (λ (r : List ℕ). h ∷ (take place ls ++ (part ++ r))) (drop_at (drop place ls) z (n + 1 - suc place) long)
      ∙ ap (λ (r : List ℕ). h ∷ r) (sym (append_assoc (take place ls) part z)))

image-parts : (h : Header) (ws : List ℕ) (n : ℕ) → length ws ≡ n
    → loans_image h ws ≡ header_word (recounted h n) ∷ (ws ++ replicate (most_loans - n) 0)
unfolding loans_image
image-parts h ws n l = rw l

image-room : (h : Header) (ws : List ℕ) (n : ℕ) → length ws ≡ n → n < most_loans
    → loans_image h ws ≡ header_word (recounted h n) ∷ (ws ++ (0 ∷ replicate (most_loans - suc n) 0))
image-room h ws n l few = let q : most_loans - n ≡ suc (most_loans - suc n) = omega arith in image-parts h ws n l ∙ rw q

image_snoc : (h : Header) (ws : List ℕ) (x n : ℕ) → length ws ≡ n
    → loans_image h (ws ++ (x ∷ [])) ≡ header_word (recounted h (n + 1)) ∷ (ws ++ (x ∷ replicate (most_loans - suc n) 0))
unfolding loans_image
image_snoc h ws x n l =
    let k : length (ws ++ (x ∷ [])) ≡ n + 1 = simp length-append (omega arith) in
    let q : most_loans - (n + 1) ≡ most_loans - suc n = omega arith in
    rw (k, q) (ap (λ (r : List ℕ). header_word (recounted h (n + 1)) ∷ r) (append_snoc ws x (replicate (most_loans - suc n) 0)))

pub room : (n : ℕ) (b : Bool) → leb most_loans n && not b ≡ false → b ≡ false → n < most_loans
room n b e f = leb-false most_loans n (sym (and-true (leb most_loans n)) ∙ ap (λ x. leb most_loans n && not x) (sym f) ∙ e)

module _ (t : List ℕ) (o : Ordered t) where
  pub standing : (word : ℕ) → any (eqb word) (used t) ≡ true → t ≡ loans_with word t
  standing word h = o.whole ∙ ap (loans_image (header_in t)) (sym (insert-present word (used t) o.rises h))

  pub absent : (word : ℕ) → any (eqb word) (used t) ≡ false → t ≡ loans_kept (λ x. not (eqb word x)) t
  absent word h = o.whole ∙ ap (loans_image (header_in t)) (sym (keep-others word (used t) h))

  -- the search of the part that holds the loans in use
  pub placed : (word n : ℕ) → n ≡ min (count_of t) (length t - 1) → (r : Result ℕ ℕ)
      → IsBinarySearchResult (λ y. nat_cmp y word) (take (n + 1 - 1) (drop 1 t)) r
      → MatchResult r (λ k. Below (take (n + 1 - 1) (drop 1 t)) word k × (any (eqb word) (used t) ≡ true))
      (λ k. Below (take (n + 1 - 1) (drop 1 t)) word k × (any (eqb word) (used t) ≡ false))
  placed word n e r q =
      rw (part-used t n e) (searched-place word (used t) o.rises r (rw (part-used t n e) at q))

  module _ (word n place : ℕ) (e : n ≡ min (count_of t) (length t - 1)) (b : Below (take (n + 1 - 1) (drop 1 t)) word place) where
    long-used : length (used t) ≡ n
    long-used = length-used t ∙ sym e

    below-used : Below (used t) word place
    below-used = subst (λ (s : List ℕ). Below s word place) (part-used t n e) b

    inside : place ≤ n
    inside = omega (arith, below-used.within, long-used)

    -- the loan put in at its place, with the last word and the header put
    pub added : (part : List ℕ) (last v : ℕ) → any (eqb word) (used t) ≡ false → count_of t < most_loans
        → length part ≡ length (take (n + 1 - (place + 1)) (drop (place + 1) t))
        → part ++ (last ∷ []) ≡ word ∷ take (n + 1 - (place + 1)) (drop (place + 1) t)
        → v ≡ header_word (recounted (header_in t) (n + 1))
        → set (set (put_mid (place + 1) (n + 1 - (place + 1)) t part) (n + 1) last) 0 v ≡ loans_with word t
    added part last v a few lp ep ev =
        let u = used t in
        let z : List ℕ = replicate (most_loans - suc n) 0 in
        let w = o.whole ∙ image-room (header_in t) u n long-used (omega (arith, o.long)) in
        let m = part-after t u (0 ∷ z) _ n place w long-used inside in
        let first : List ℕ = take place u ++ part in
        let at : length (take place u) ≡ place = length-take-le place u below-used.within in
        let l : length first ≡ n
        = length-append (take place u) part
        ∙ omega (arith, lp, ap (λ (r : List ℕ). length r) m, length-drop place u, at, long-used, inside) in
        let q : first ++ (last ∷ []) ≡ insert word u
        = append_assoc (take place u) part (last ∷ [])
        ∙ ap (λ (r : List ℕ). take place u ++ r) (ep ∙ ap (λ (r : List ℕ). word ∷ r) m)
        ∙ sym (insert-at word place u below-used a) in
        rw (put-after t u (0 ∷ z) _ n place w long-used inside part, add-one n, set_at first 0 z last n l)
        (sym (ap (loans_image (header_in t)) (sym q) ∙ image_snoc (header_in t) first last n l ∙ rw ev))

    -- the loan taken out of its place, with the header put
    pub removed : (part : List ℕ) (taken v : ℕ) → any (eqb word) (used t) ≡ true
        → taken ∷ part ≡ take (n + 1 - (place + 1)) (drop (place + 1) t) ++ (0 ∷ [])
        → v ≡ header_word (recounted (header_in t) (n - 1))
        → set (put_mid (place + 1) (n + 1 - (place + 1)) t part) 0 v ≡ loans_kept (λ x. not (eqb word x)) t
    removed part taken v a ep ev =
        let u = used t in
        let z : List ℕ = replicate (most_loans - n) 0 in
        let w = o.whole ∙ image-parts (header_in t) u n long-used in
        let lt : place < length u = in_place word place u below-used a in
        let rest : part ≡ drop (suc place) u ++ (0 ∷ [])
        = ap (λ (r : List ℕ). drop 1 r)
        (ep ∙ ap (λ (r : List ℕ). r ++ (0 ∷ [])) (part-after t u z _ n place w long-used inside ∙ drop-cons u place 0 lt)) in
        let kept : List ℕ = take place u ++ drop (suc place) u in
        let l : length kept ≡ n - 1
        = length-append (take place u) (drop (suc place) u)
        ∙ omega (arith, length-drop (suc place) u, length-take-le place u below-used.within, long-used) in
        let q : most_loans - (n - 1) ≡ suc (most_loans - n) = omega (arith, o.long, long-used) in
        let image : loans_image (header_in t) kept ≡ v ∷ (kept ++ (0 ∷ z)) = image-parts (header_in t) kept (n - 1) l ∙ rw (q, ev) in
        rw (put-after t u z _ n place w long-used inside part, rest, ← append_assoc (take place u) (drop (suc place) u) (0 ∷ []))
        (ap (λ (r : List ℕ). v ∷ r) (append_snoc kept 0 z)
        ∙ sym (ap (loans_image (header_in t)) (keep_at word place u o.rises below-used lt a) ∙ image))

-- ---- the parts that the test of order looks at
good_split : (live : ℕ → Bool) (w : ℕ) → word_good live w ≡ shaped w && names_live live w
good_split live w =
    ap (λ b. b && live (borrower w)) (and_assoc (shaped w) (live (lender w)) (live (loan_item w)))
    ∙ and_assoc (shaped w) (live (lender w) && live (loan_item w)) (live (borrower w))

pub order-parts : (live : ℕ → Bool) (t : List ℕ) → length t ≡ loan_words → shifts (shift_in t) && leb (count_of t) most_loans ≡ true
    → eqb (length t) loan_words && loans_in_order live t
    ≡ rising (used t) && all shaped (used t) && all (names_live live) (used t)
    && all (eqb 0) (take (length t - (length (used t) + 1)) (drop (length (used t) + 1) t))
unfolding loans_in_order
order-parts live t l in-limits =
    let few : count_of t ≤ most_loans = leb-true (count_of t) most_loans (snd (shifts (shift_in t)) _ in-limits) in
    let n : length (used t) ≡ count_of t = length-used t ∙ omega arith in
    let z : take (length t - (count_of t + 1)) (drop (count_of t + 1) t) ≡ drop (count_of t + 1) t
    = take_all (length t - (count_of t + 1)) (drop (count_of t + 1) t) (simp length-drop (omega arith)) in
    let g : all (word_good live) (used t) ≡ all shaped (used t) && all (names_live live) (used t)
    = (λ j. all (λ w. good_split live w j) (used t)) ∙ all-and shaped (names_live live) (used t) in
    rw (eq-eqb (length t) loan_words l, in-limits, n, z, add-one (count_of t), g)
    (ap (λ b. b && all (eqb 0) (drop (suc (count_of t)) t))
    (sym (and_assoc (rising (used t)) (all shaped (used t)) (all (names_live live) (used t)))))
