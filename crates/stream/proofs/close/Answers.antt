-- With too little room or too many lines nothing is written. Otherwise it is the last line alone
-- (`closes-last`), or one for the line that has begun before it: 256 bytes are room for both (`closes-begun`).
use Rattle.stream.proofs.Session.{closes-last, closes-begun}
use mathlib.Core.Path.{sym, ◌∙◌}
use Rattle.stream.proofs.close.Goals as goal

pub returns-then-not-is_begun : goal.returns-then-not-is_begun
returns-then-not-is_begun c =
    closes-last _ _ _ c.if-out-lt256.false
    (sym c.is_begun.ensures ∙ c.if-not-is_begun.true) _ _
    c.put_last.ensures c.if-lines-gt-LAST.false

pub returns : goal.returns
returns c =
    closes-begun _ _ _ c.if-out-lt256.false
    (sym c.is_begun.ensures
    ∙ c.if-not-is_begun.false) _ _ _ _ _
    c.malformed-malformed.ensures
    c.put_line-at.ensures
    c.put_line-at.auto.buf c.put_last-2.ensures
    c.if-lines-gt-LAST.false
