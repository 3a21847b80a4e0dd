-- Laws of text written into a buffer.
use mathlib.Core.Path.{◌≡◌, refl, sym, ap, ap₂, ◌∙◌, subst}
use mathlib.Core.Bool.{true, false}
use mathlib.Core.List.{List, [], ◌∷◌, ◌++◌, append_assoc, append-nil}
use Prim.Native.Nat.{ℕ, suc, ◌+◌, ◌≤◌, ◌<◌, min}
use native.Mathlib.Omega.{arith}
use native.Mathlib.Numerals.{add-one}
use native.Mathlib.Nat.{add-zero}
use borrow.Author.Tests.{leb-true, leb-false}
use lib.Dec.{leb}
use Rattle.bits.proofs.Sets.{by_cases}
use lib.ListN.{length, take, get_or, set, length-append}
use lib.Seq.{sets, take-suc, take_all}
use Rattle.output.specs.declared.reply.Said.{Said}
use Rattle.output.specs.declared.reply.Reply.{Reply}
use Rattle.lines.specs.Bytes.{bytes}
use Rattle.lines.specs.Show.{shown, Wrote}
use Rattle.output.specs.Output.{said_text, more_persons, persons, tail_text, newline, units_text, output_line, room, Puts}

-- one text after another, and no text
pub wrote_then : {b b' b'' xs ys : List ℕ} {at p r : ℕ} → Wrote b at xs p b' → Wrote b' p ys r b'' → Wrote b at (xs ++ ys) r b''
wrote_then {b} {b'} {b''} {xs} {ys} {at} {p} {r} w v = record {
  place = omega (arith, w.place, v.place, length-append xs ys);
  buffer = v.buffer ∙ ap₂ (λ (m : List ℕ) (i : ℕ). sets m i ys) w.buffer w.place ∙ sets_append b at xs;
}
  where
    sets_append : (b : List ℕ) (i : ℕ) (xs : List ℕ) → sets (sets b i xs) (i + length xs) ys ≡ sets b i (xs ++ ys)
    sets_append b i [] = rw (add-zero i)
    sets_append b i (x ∷ xs) =
        let e : i + suc (length xs) ≡ suc i + length xs = omega arith in
        rw e (sets_append (set b i x) (suc i) xs)

pub wrote_none : (b : List ℕ) (at : ℕ) → Wrote b at [] at b
wrote_none b at = record { place = omega arith; buffer = refl }

-- the same text in another form
pub wrote_is : {b b' xs ys : List ℕ} {at r : ℕ} → xs ≡ ys → Wrote b at xs r b' → Wrote b at ys r b'
wrote_is {b} {b'} {xs} {ys} {at} {r} e w = subst (λ (l : List ℕ). Wrote b at l r b') e w

-- a key and its value, and what comes after
pub wrote_field : {b b' b'' : List ℕ} (key x : List ℕ) {ys : List ℕ} {at p r : ℕ} → Wrote b at (key ++ x) p b' → Wrote b' p ys r b''
    → Wrote b at (key ++ (x ++ ys)) r b''
wrote_field key x {ys} w v = wrote_is (append_assoc key x ys) (wrote_then w v)

-- ---- persons
more_append : (ps : List ℕ) (q : ℕ) → more_persons (ps ++ (q ∷ [])) ≡ more_persons ps ++ (bytes "," ++ shown q)
unfolding more_persons
more_append [] q = ap (λ (l : List ℕ). bytes "," ++ l) (append-nil (shown q))
more_append (p ∷ ps) q =
    ap (λ (l : List ℕ). bytes "," ++ (shown p ++ l)) (more_append ps q)
    ∙ ap (λ (l : List ℕ). bytes "," ++ l) (sym (append_assoc (shown p) (more_persons ps) (bytes "," ++ shown q)))

pub more_next : (s : List ℕ) (i : ℕ) → i < length s
    → more_persons (take (i + 1) s) ≡ more_persons (take i s) ++ (bytes "," ++ shown (get_or s i 0))
more_next s i h = rw (add-one i, take-suc s i 0) (more_append (take i s) (get_or s i 0))

pub persons-none : (s : List ℕ) → length s ≡ 0 → persons s ≡ []
unfolding persons
persons-none [] e = refl
persons-none (p ∷ ps) e = absurd (omega arith)

pub persons_some : {s ps : List ℕ} {p : ℕ} → s ≡ p ∷ ps → persons s ≡ shown p ++ more_persons ps
unfolding persons
persons_some e = rw e

-- as many persons as the buffer has
pub take_min : (k n : ℕ) (s : List ℕ) → length s ≡ n → take (min k n) s ≡ take k s
take_min k n s e =
    by_cases (leb k n) (λ q. let h : min k n ≡ k = omega (arith, leb-true k n q) in rw h)
    (λ q. let h : min k n ≡ n = omega (arith, leb-false k n q) in
    rw h (take_all n s (omega arith) ∙ sym (take_all k s (omega (arith, leb-false k n q)))))

-- ---- the parts of a line
pub wrote_units : {b b1 b2 b3 : List ℕ} {at p1 p2 p3 : ℕ} (l r c : Said) → Wrote b at (bytes " list=" ++ said_text l) p1 b1
    → Wrote b1 p1 (bytes " row=" ++ said_text r) p2 b2 → Wrote b2 p2 (bytes " chain=" ++ said_text c) p3 b3
    → Wrote b at (units_text l r c) p3 b3
wrote_units l r c w1 w2 w3 = wrote_field (bytes " list=") (said_text l) w1 (wrote_field (bytes " row=") (said_text r) w2 w3)

pub wrote_line : {b b1 b2 b3 b4 : List ℕ} {at p1 p2 p3 p4 : ℕ} (n : ℕ) (r : Reply) (via : List ℕ)
    → Wrote b at (bytes "line=" ++ shown n) p1 b1
    → Wrote b1 p1 (units_text r.list r.row r.chain) p2 b2 → Wrote b2 p2 (tail_text r.tail via) p3 b3 → Wrote b3 p3 newline p4 b4
    → Wrote b at (output_line n r via) p4 b4
unfolding output_line
wrote_line n r via w1 w2 w3 w4 =
    wrote_field (bytes "line=") (shown n) w1 (wrote_is (simp append_assoc) (wrote_then w2 (wrote_then w3 w4)))

-- ---- where there is room, and where there is none
module _ (b : List ℕ) (at : ℕ) (xs : List ℕ) where
  pub puts_none : room (length b) at ≡ false → Puts b at xs at b
  puts_none e = record { place = rw e; buffer = rw e; short = omega arith }

  pub puts_wrote : {b' : List ℕ} {r : ℕ} → room (length b) at ≡ true → Wrote b at xs r b' → r ≤ at + 128 → Puts b at xs r b'
  puts_wrote e w h = record { place = rw e w.place; buffer = rw e w.buffer; short = h }
