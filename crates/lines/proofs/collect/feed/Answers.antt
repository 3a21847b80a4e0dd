-- The bytes up to the line's end go past the buffer, and then only that is noted (`fed-past`); or they have room (`past_room`) and
-- are put behind those held (`fed_more`).
use Rattle.lines.proofs.Chunks.{fed-past, fed_more}
use mathlib.Core.Path.{sym, ◌∙◌}
use Rattle.lines.proofs.collect.feed.Goals as goal

pub returns-then-is_past : goal.returns-then-is_past
returns-then-is_past c =
    fed-past c.args.buf.now c.args.p c.args.chunk.now _ _ c.line_end-n.ensures.0
    c.after_line-used.ensures
    (sym c.is_past.ensures ∙ c.if-is_past.true)

pub returns : goal.returns
returns c =
    fed_more c.args.buf.now c.args.p c.args.chunk.now _ _
    c.line_end-n.ensures.0
    c.after_line-used.ensures
    (sym c.is_past.ensures ∙ c.if-is_past.false)
    _ _ c.put_bytes-next.ensures.place c.put_bytes-next.ensures.buffer
