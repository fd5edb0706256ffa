use Rattle.entries.proofs.Subjects.{subject_of}
use Rattle.entries.proofs.commands.sender_of.Goals as goal

pub returns-in-Ok : goal.returns-in-Ok
returns-in-Ok c = let e = c.in-Ok.ensures in subject_of c.args.text.now c.in-Ok.header c.named.result e.0 e.1 c.named.ensures
