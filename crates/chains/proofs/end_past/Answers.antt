-- The image has its length, so the pass over it was made, at its own shift, since a shift within its limit is not cut (`past_end`). What it
-- ended is every loan that was past its last shift, and no other (`past-counted`).
use borrow.Author.Rules.{rules}
use Rattle.chains.proofs.Ending.{past_end, past-counted}
use Rattle.chains.proofs.end_past.Goals as goal

pub returns : goal.returns
returns c = (
  past_end c.args.loans.now _ (search rules) c.requires c.present-shift.ensures _ c.retain.ensures.0,
  past-counted c.args.loans.now _ (search rules) c.requires c.present-shift.ensures _ c.retain.ensures.1,
)
