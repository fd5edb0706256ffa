use Rattle.command_line.proofs.arguments.join_either_at.Goals as goal

pub returns-in-Program : goal.returns-in-Program
returns-in-Program c = λ a s top h. rw c.in-Program.is (c.join.ensures _ _ top (c.with_either.ensures _ h))

pub returns-in-Script : goal.returns-in-Script
returns-in-Script c = λ a s top h. rw c.in-Script.is (c.join-in-Script.ensures _ _ top h)
