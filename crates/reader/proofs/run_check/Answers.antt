use Rattle.reader.proofs.Replies.{check_replies}
use borrow.Author.Rules.{rules}
use Rattle.reader.proofs.run_check.Goals as goal

pub returns : goal.returns
returns c = search (rules, check_replies)
