-- The words written are those of a new ticket at the first free place, under the next number (`issued-words`).
use borrow.Author.Rules.{rules}
use mathlib.Core.Path.{◌≡◌}
use Rattle.bits.specs.Bits.{with_bit}
use Rattle.tickets.proofs.Fields.{of_item}
use Rattle.tickets.proofs.Places.{issued-words}
use Rattle.tickets.proofs.put_ticket.Goals as goal

pub returns : goal.returns
unfolding with_bit
returns c =
    let h : c.with-h.result ≡ with_bit 0 c.args.by.0 = of_item (with_bit 0) c.with-h.result _ _ c.with-h.ensures c.number.ensures (search rules) in
    issued-words c.args.image.now c.put_record.new.image c.args.place c.args.by.0 c.args.on.0 c.args.right.0 _ _ (search rules) (search rules)
    c.record_of-w.ensures h c.put_record.ensures
