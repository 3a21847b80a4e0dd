-- An array that `from_fn` made by a closure that leaves its captures as they are: the table of what the closure gives at each index.
use mathlib.Core.Path.{◌≡◌, subst, ◌∙◌}
use mathlib.Core.List.{List}
use Prim.Native.Nat.{ℕ, zero, suc, ◌+◌, ◌≤◌, ◌<◌}
use native.Mathlib.Nat.{zero-add}
use native.Mathlib.Omega.{arith}
use lib.ListN.{get_or}
use denote.Param.Members.{Mut, Called}
use Rattle.std.specs.Array.{IsFromFnResult, IsFromFnResultFrom}
use Rattle.bits.specs.Sets.{tabulate}
use Rattle.bits.proofs.Indexed.{tabulate_ext}

module _ {F B : Type 0} (g : Mut F (ℕ × Unit {0}) B) (v : ℕ → B) (f : F) (n : ℕ)
    (call : (i : ℕ) (y : B) (h : F) → i < n → Called g f (i, tt) y h → (y ≡ v i) × (h ≡ f)) where
  element : (ys : List B) (m a i : ℕ) (d : B) → IsFromFnResultFrom g f ys a m → a + m ≤ n → i < m → get_or ys (a + i) d ≡ v (a + i)
  element ys zero a i d r b l = absurd (omega arith)
  element ys (suc m) a zero d (q, y, e, c, r) b l =
      let z : a + 0 ≡ a = omega arith in
      rw z (e.1 d ∙ (call a y q (omega arith) c).0)
  element ys (suc m) a (suc i) d (q, y, e, c, r) b l =
      let z : a + suc i ≡ a + 1 + i = omega arith in
      rw z
      (element ys m (a + 1) i d (subst (λ p. IsFromFnResultFrom g p ys (a + 1) m) (call a y q (omega arith) c).1 r) (omega arith)
      (omega arith))

  pub made_by : (ys : List B) (d : B) → IsFromFnResult g f ys n → ys ≡ tabulate n v
  made_by ys d r = tabulate_ext n v d ys r.long (λ i l. rw (zero-add i) at (element ys n 0 i d r.each (omega arith) l))
