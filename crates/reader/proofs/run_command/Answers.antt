use Rattle.reader.proofs.Replies.{command_replies}
use borrow.Author.Rules.{rules}
use Rattle.reader.proofs.run_command.Goals as goal

pub returns : goal.returns
returns c = search (rules, command_replies)
