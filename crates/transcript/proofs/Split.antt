-- Byte 10 ends each line of the output and stands nowhere else, so the output has one line for each line of input and one more.
use mathlib.Core.Path.{◌≡◌, refl, sym, ap, ◌∙◌}
use mathlib.Core.Bool.{Bool, true, false, not}
use mathlib.Core.List.{List, [], ◌∷◌, ◌++◌, map, append_assoc, append-nil}
use Prim.Native.Nat.{ℕ, zero, suc, ◌+◌, ◌/◌, ◌%◌}
use native.Mathlib.Omega.{arith}
use borrow.Author.Tests.{ne_eqb, not-true}
use lib.ListN.{length}
use lib.Dec.{eqb, ltb}
use Rattle.bits.specs.Sets.{all}
use Rattle.bits.proofs.Sets.{by_cases, fst, snd, both}
use Rattle.lines.specs.Bytes.{bytes}
use Rattle.lines.specs.Show.{shown, shown_in}
use Rattle.lines.specs.Collect.{Line, line, lines_from, lines_of}
use Rattle.output.specs.Output.{more_persons, dashes, swept_key, unswept, newline, line_text, last_output}
use Rattle.transcript.specs.Program.{output_of}
use Rattle.transcript.specs.Forms.{yes_no, Form, numbers, passed, swept, not-swept, refused, no, yes, Formed, last, next}
use Rattle.transcript.proofs.Forms.{output_formed}

-- no byte 10
plain : List ℕ → Bool
plain l = all (λ b. not (eqb b 10)) l

plain_append : (a b : List ℕ) → plain a ≡ true → plain b ≡ true → plain (a ++ b) ≡ true
unfolding plain all
plain_append [] b p q = q
plain_append (x ∷ a) b p q = both (fst (not (eqb x 10)) (plain a) p) (plain_append a b (snd (not (eqb x 10)) (plain a) p) q)

plain_line : (m l rest : List ℕ) → plain l ≡ true → lines_from m (l ++ (newline ++ rest)) ≡ line (m ++ l) true ∷ lines_of rest
unfolding plain all lines_from newline
plain_line m [] rest p = ap (λ (k : List ℕ). line k true ∷ lines_of rest) (sym (append-nil m))
plain_line m (b ∷ l) rest p =
    rw (not-true (eqb b 10) (fst (not (eqb b 10)) (plain l) p))
    (plain_line (m ++ (b ∷ [])) l rest (snd (not (eqb b 10)) (plain l) p)
    ∙ ap (λ (k : List ℕ). line k true ∷ lines_of rest) (append_assoc m (b ∷ []) l))

plain_digit : (d : ℕ) → plain ((48 + d) ∷ []) ≡ true
unfolding plain all
plain_digit d = rw (ne_eqb (48 + d) 10 (λ e. omega arith))

plain_in : (f n : ℕ) → plain (shown_in f n) ≡ true
plain_in zero n = unfold plain all in refl
plain_in (suc f) n =
    by_cases (ltb n 10) (λ q. rw q (plain_digit n))
    (λ q. rw q (plain_append (shown_in f (n / 10)) ((48 + n % 10) ∷ []) (plain_in f (n / 10)) (plain_digit (n % 10))))

plain_shown : (n : ℕ) → plain (shown n) ≡ true
unfolding shown
plain_shown n = plain_in (suc n) n

plain_persons : (ps : List ℕ) → plain (more_persons ps) ≡ true
unfolding more_persons
plain_persons [] = unfold plain all in refl
plain_persons (p ∷ ps) =
    plain_append (bytes ",") (shown p ++ more_persons ps) (unfold plain all in refl)
    (plain_append (shown p) (more_persons ps) (plain_shown p) (plain_persons ps))

-- a line's text up to its byte 10
record Body (t : List ℕ) : Type 0 where
  text : List ℕ
  is : t ≡ text ++ newline
  plainly : plain text ≡ true

line_body : (n : ℕ) (l r c e : List ℕ) → plain l ≡ true → plain r ≡ true → plain c ≡ true → plain e ≡ true → Body (line_text n l r c e)
line_body n l r c e hl hr hc he = record {
  text = bytes "line=" ++ (shown n ++ (bytes " list=" ++ (l ++ (bytes " row=" ++ (r ++ (bytes " chain=" ++ (c ++ e)))))));
  is = simp append_assoc;
  plainly =
      plain_append (bytes "line=") _ (unfold plain all in refl) (plain_append (shown n) _ (plain_shown n)
      (plain_append (bytes " list=") _ (unfold plain all in refl) (plain_append l _ hl
      (plain_append (bytes " row=") _ (unfold plain all in refl) (plain_append r _ hr
      (plain_append (bytes " chain=") _ (unfold plain all in refl) (plain_append c e hc he)))))));
}

plain_none : plain [] ≡ true
unfolding plain all
plain_none = refl

plain_dash : plain (bytes "-") ≡ true
unfolding plain all
plain_dash = refl

plain_dashes : plain dashes ≡ true
unfolding plain all
plain_dashes = refl

plain_unswept : plain unswept ≡ true
unfolding plain all
plain_unswept = refl

plain_yesno : (b : Bool) → plain (yes_no b) ≡ true
plain_yesno true = unfold plain all in refl
plain_yesno false = unfold plain all in refl

form_body : {n : ℕ} {t : List ℕ} → Form n t → Body t
form_body {n} (numbers a b) = line_body n _ _ _ _ (plain_shown a) (plain_shown a) (plain_shown b) plain_none
form_body {n} (passed a) = line_body n _ _ _ _ plain_dash plain_dash (plain_shown a) plain_none
form_body {n} (swept k) =
    line_body n _ _ _ _ plain_dash plain_dash (plain_shown 0) (plain_append swept_key (shown k) (unfold plain all in refl) (plain_shown k))
form_body {n} (not-swept a) = line_body n _ _ _ _ plain_dash plain_dash (plain_shown a) plain_unswept
form_body {n} (refused a) = line_body n _ _ _ _ (plain_shown a) (plain_shown a) (plain_shown a) plain_dashes
form_body {n} (no b) = line_body n _ _ _ _ (plain_yesno b) (plain_yesno b) (plain_yesno false) plain_dashes
form_body {n} (yes b d p ps) =
    line_body n _ _ _ _ (plain_yesno b) (plain_yesno b) (plain_yesno true)
    (plain_append (bytes " depth=") _ (unfold plain all in refl) (plain_append (shown d) _ (plain_shown d)
    (plain_append (bytes " via=") _ (unfold plain all in refl)
    (plain_append (shown p) (more_persons ps) (plain_shown p) (plain_persons ps)))))

-- k + 1 lines, each ended
pub record Split (k : ℕ) (t : List ℕ) : Type 0 where
  pub texts : List (List ℕ)
  pub count : length texts ≡ suc k
  pub lines : lines_of t ≡ map (λ (l : List ℕ). line l true) texts

last_lines_lem : (n : ℕ) → lines_of (last_output n) ≡ line (bytes "lines=" ++ shown n) true ∷ []
unfolding last_output lines_from
last_lines_lem n =
    let e : bytes "lines=" ++ (shown n ++ newline) ≡ (bytes "lines=" ++ shown n) ++ (newline ++ []) = simp append-nil in
    ap (lines_from []) e ∙ plain_line [] (bytes "lines=" ++ shown n) []
    (plain_append (bytes "lines=") (shown n) (unfold plain all in refl) (plain_shown n))

next-lines : (t rest : List ℕ) (b : Body t) → lines_of (t ++ rest) ≡ line b.text true ∷ lines_of rest
next-lines t rest b =
    ap (λ (x : List ℕ). lines_of (x ++ rest)) b.is ∙ ap lines_of (append_assoc b.text newline rest)
    ∙ plain_line [] b.text rest b.plainly

split : {n k : ℕ} {t : List ℕ} → Formed n k t → Split k t
split {n} last = record { texts = (bytes "lines=" ++ shown n) ∷ []; count = refl; lines = last_lines_lem n }
split (next {rest = rest} t f r) =
    let s = split r in
    record {
      texts = (form_body f).text ∷ s.texts;
      count = ap suc s.count;
      lines = next-lines t rest (form_body f) ∙ ap (λ (xs : List Line). line (form_body f).text true ∷ xs) s.lines;
    }

-- the output's lines, split as input is: one for each line of input and one more, each ended
pub output-lines : (input : List ℕ) → Split (length (lines_of input)) (output_of input)
output-lines input = split (output_formed input)
