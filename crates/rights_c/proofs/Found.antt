-- What C is given of an answer that finds something: 0 beside a refusal, and a yes as 1.
use mathlib.Core.Path.{◌≡◌, refl}
use mathlib.Core.Bool.{Bool, true, false, cond}
use Prim.Native.Nat.{ℕ, zero, suc}
use borrow.Author.Tests.{ne_eqb}
use native.Mathlib.Omega.{arith}
use lib.Dec.{eqb}
use mir.Val.{bool_byte}
use Rattle.std.specs.Result.{result_unwrap_or}
use Rattle.model.specs.Answers.{answer_with}
use Rattle.rights_c.specs.Exports.{flag}

pub flag-of : (b : Bool) → bool_byte b ≡ flag b
flag-of true = refl
flag-of false = refl

pub found-of : (n k : ℕ) → result_unwrap_or (answer_with n k) 0 ≡ cond (eqb n 0) k 0
unfolding answer_with
found-of zero k = refl
found-of (suc n) k = rw (ne_eqb (suc n) 0 (λ z. omega arith))
