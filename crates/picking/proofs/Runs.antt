-- The pick of loans in two runs. Of rising loans the open-ended come first, then those that are past, then the others that carry
-- (`carries_open`, `carries-not`, `carries-later`): so the loans of the key in the first and in the last part are those picked.
use mathlib.Core.Path.{◌≡◌, sym, ap, ◌∙◌}
use mathlib.Core.Bool.{true, false, ◌&&◌, and-true, and-false}
use mathlib.Core.List.{List, ◌++◌, append_assoc}
use Prim.Native.Nat.{ℕ, ◌+◌, ◌-◌, ◌*◌, ◌%◌, ◌≤◌, ◌<◌, max}
use native.Mathlib.Omega.{arith}
use lib.ListN.{length, get_or, take, drop, length-drop, take-append-drop}
use lib.Seq.{get_or-take, get_or-drop, take-add, take_all, length-take-le}
use Rattle.bits.specs.Sets.{keep}
use Rattle.bits.proofs.Sets.{keep_append}
use Rattle.model.specs.Journal.{carries}
use Rattle.delegation.specs.Loans.{last_shift}
use Rattle.delegation.specs.Picking.{picks}
use Rattle.delegation.proofs.Loans.{carries_open, carries-later, carries-not}
use Rattle.delegation.specs.Below.{Below}
use Rattle.picking.specs.Runs.{of_key, Appended}
use Rattle.picking.proofs.Picking.{keep_same, skip}

-- ---- a part more, behind what was picked of the words before it
pub appended_more : (out mid after words : List ℕ) (m key k r i n : ℕ) → i + n ≤ length words → k ≤ m + i
    → take k mid ≡ take m out ++ keep (of_key key) (take i words) → Appended mid k (take n (drop i words)) key r after
    → (r ≤ m + (i + n)) × (take r after ≡ take m out ++ keep (of_key key) (take (i + n) words))
appended_more out mid after words m key k r i n h c e a =
    let part : List ℕ = take n (drop i words) in
    let l : length part ≡ n = length-take-le n (drop i words) (simp length-drop (omega arith)) in (
      omega (arith, a.count),
      a.are ∙ ap (λ (x : List ℕ). x ++ keep (of_key key) part) e
          ∙ append_assoc (take m out) (keep (of_key key) (take i words)) (keep (of_key key) part)
          ∙ ap (λ (x : List ℕ). take m out ++ x)
          (sym (keep_append (of_key key) (take i words) part) ∙ ap (keep (of_key key)) (sym (take-add i n words))),
    )

-- ---- the two runs: up to the first loan with a last shift, and from the first on that has the present shift or a later one
module _ (ls : List ℕ) (shift key dated current : ℕ) (low : shift ≤ 255) (small : (i : ℕ) → get_or ls i 0 < 4294967296)
    (o : Below ls 16777216 dated) (p : Below ls (shift % 256 * 16777216) current) where
  abbrev from : ℕ
  from = max dated current

  with_carry : (w : ℕ) → carries shift (last_shift w) ≡ true → of_key key w ≡ picks shift key w
  with_carry w c = sym (ap (λ b. of_key key w && b) c ∙ and-true (of_key key w))

  first : keep (of_key key) (take dated ls) ≡ keep (picks shift key) (take dated ls)
  first =
      keep_same (of_key key) (picks shift key) (take dated ls)
      (λ i l. let k : i < dated = omega (arith, length-take-le dated ls o.within) in
      with_carry _ (carries_open shift _ (rw (get_or-take dated ls i 0 k) (o.low i k))))

  between : keep (picks shift key) (take from ls) ≡ keep (picks shift key) (take dated ls)
  between =
      let e : from ≡ dated + (from - dated) = omega arith in
      ap (λ (n : ℕ). keep (picks shift key) (take n ls)) e
      ∙ skip (picks shift key) ls dated (from - dated) (omega (arith, o.within, p.within))
      (λ i l k. let b : i < current = omega arith in
      let c : carries shift (last_shift (get_or ls i 0)) ≡ false
      = carries-not shift (get_or ls i 0) low (o.high i l (omega (arith, p.within))) (omega (arith, p.low i b)) in
      ap (λ b. of_key key (get_or ls i 0) && b) c ∙ and-false (of_key key (get_or ls i 0)))

  last : keep (of_key key) (drop from ls) ≡ keep (picks shift key) (drop from ls)
  last =
      keep_same (of_key key) (picks shift key) (drop from ls)
      (λ i l. let k : from + i < length ls = omega (arith, length-drop from ls) in
      with_carry _ (rw (get_or-drop from ls i 0)
      (carries-later shift (get_or ls (from + i) 0) (omega (arith, p.high (from + i) (omega arith) k)) (small (from + i)))))

  pub picked_runs : (out mid after : List ℕ) (m r : ℕ) → Appended out 0 (take dated ls) key m mid
      → Appended mid m (take (length ls - from) (drop from ls)) key r after
      → (r ≤ length ls) × (take r after ≡ keep (picks shift key) ls)
  picked_runs out mid after m r a b =
      let n : length (take dated ls) ≡ dated = length-take-le dated ls o.within in
      let d : take (length ls - from) (drop from ls) ≡ drop from ls
      = take_all (length ls - from) (drop from ls) (simp length-drop (omega arith)) in
      let l : length (drop from ls) ≡ length ls - from = length-drop from ls in (
        omega (arith, a.count, b.count, ap (λ (x : List ℕ). length x) d, o.within, p.within),
        b.are ∙ ap (λ (x : List ℕ). take m mid ++ keep (of_key key) x) d
            ∙ ap (λ (x : List ℕ). x ++ keep (of_key key) (drop from ls)) (a.are ∙ first ∙ sym between)
            ∙ ap (λ (x : List ℕ). keep (picks shift key) (take from ls) ++ x) last
            ∙ sym (keep_append (picks shift key) (take from ls) (drop from ls))
            ∙ ap (keep (picks shift key)) (take-append-drop from ls),
      )
