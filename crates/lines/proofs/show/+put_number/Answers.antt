-- One digit is the number itself (`shown-one`); of more, all but the last are those of n / 10, and the last is stored right after them
-- (`shown_more`, `sets_snoc`).
use native.Mathlib.Omega.{arith}
use mathlib.Core.Path.{refl, ap}
use Prim.Native.Nat.{◌+◌, ◌/◌, ◌%◌}
use lib.ListN.{length}
use Rattle.lines.proofs.Decimal.{shown-one, shown_more, shown_more_length, sets_snoc}
use Rattle.lines.specs.Show.{shown}
use Rattle.lines.proofs.show.+put_number.Goals as goal

pub bounds-buf-at : goal.bounds-buf-at
bounds-buf-at t c = omega (arith, ap length (shown-one c.args.n c.if-n-lt10.true))

pub returns-then-n-lt10 : goal.returns-then-n-lt10
returns-then-n-lt10 t c =
    let one = shown-one c.args.n c.if-n-lt10.true in
    record { place = omega (arith, ap length one); buffer = rw one refl }

pub put_number-p-requires : goal.put_number-p-requires
put_number-p-requires t c = (omega arith, omega (arith, shown_more_length c.args.n c.if-n-lt10.false))

pub bounds-buf-p : goal.bounds-buf-p
bounds-buf-p t c = omega (arith, shown_more_length c.args.n c.if-n-lt10.false)

pub overflow_add-result-2 : goal.overflow_add-result-2
overflow_add-result-2 t c = omega (arith, shown_more_length c.args.n c.if-n-lt10.false)

pub returns : goal.returns
returns t c =
    record {
      place = omega (arith, shown_more_length c.args.n c.if-n-lt10.false);
      buffer =
          rw (c.put_number-p.ensures.buffer, c.put_number-p.ensures.place, shown_more c.args.n c.if-n-lt10.false)
          (sets_snoc c.args.buf.now c.args.at (shown (c.args.n / 10)) (48 + c.args.n % 10));
    }
