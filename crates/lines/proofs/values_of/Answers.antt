-- Where the loop stands is `At` (proofs/Turns): the values of the keys so far are read, and those of the rest are left. The pattern of the
-- word and the keys is the one that the grammar shows for it (`action_parts`).
use mathlib.Core.Path.{refl, sym}
use Rattle.lines.specs.Reader.{word_of, keys_of}
use Rattle.lines.proofs.Turns.{action_parts, do_other, word_other, word_same, read_not, filled, key_stop, key_turn}
use Rattle.lines.proofs.values_of.Goals as goal

pub returns-in_err-after : goal.returns-in_err-after
returns-in_err-after c =
    rw (c.from_residual.ensures, ← (action_parts c.args.action).0)
    (read_not (do_other (word_of c.args.action) (keys_of c.args.action) c.args.s.now (sym c.in_err-after.ensures)))

pub returns-in_err-at : goal.returns-in_err-at
returns-in_err-at c =
    rw (c.from_residual-in_err-at.ensures, ← (action_parts c.args.action).0)
    (read_not (word_other (word_of c.args.action) (keys_of c.args.action) c.args.s.now _ (sym c.in_ok-after.ensures)
    (rw c.word.ensures at (sym c.in_err-at.ensures))))

pub loop-i-init : goal.loop-i-init
loop-i-init c =
    rw c.keys-key-items.ensures
    (word_same (word_of c.args.action) (keys_of c.args.action) c.args.s.now _ (sym c.in_ok-after.ensures) _ (action_parts c.args.action).1
    (rw c.word.ensures at (sym c.in_ok-at.ensures)))

pub returns-in_err-v : goal.returns-in_err-v
returns-in_err-v c =
    rw (c.from_residual-in_err-v.ensures, ← (action_parts c.args.action).0, ← c.keys-key-items.ensures)
    (read_not (key_stop c.loop-i.invariant c.loop-i-test.true _ refl (sym c.in_err-v.ensures)))

pub loop-i-preserved : goal.loop-i-preserved
loop-i-preserved c = key_turn c.loop-i.invariant c.loop-i-test.true _ refl _ _ (sym c.in_ok-v.ensures)

pub returns : goal.returns
returns c =
    rw (c.then_some.ensures, ← (action_parts c.args.action).0, ← c.keys-key-items.ensures)
    (filled c.loop-i.invariant c.loop-i-test.false)
