use Rattle.program.proofs.Parts.{none_came}
use Rattle.program.proofs.read_some.Goals as goal

pub returns-in-Err : goal.returns-in-Err
returns-in-Err g c = none_came _ _ _ _
