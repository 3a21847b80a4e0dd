-- A chunk in which no line ends is held, and nothing is written (`takes_open`); in the other case the line is run, counted, and nothing
-- is held (`takes-ended`). The run is below its last line, so counting does not wrap.
use borrow.Author.Tests.{not-true, not-false}
use Rattle.stream.proofs.Session.{takes_open, takes-ended}
use Rattle.stream.proofs.take_piece.Goals as goal

pub returns-then-not-fed : goal.returns-then-not-fed
returns-then-not-fed c =
    takes_open _ _ _ _ _ _ _ _ c.feed-fed.result
    c.feed-fed.ensures.0 c.feed-fed.ensures.1
    (not-true _ c.if-not-fed.true)

pub returns : goal.returns
returns c =
    takes-ended _ _ _ _ _ _ _ _ c.feed-fed.result c.feed-fed.ensures.0 c.feed-fed.ensures.1 (not-false _ c.if-not-fed.false) _ _ _ _ c.none-none.ensures c.take_line-end.ensures
