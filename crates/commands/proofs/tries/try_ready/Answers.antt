use Rattle.commands.proofs.tries.try_ready.Goals as goal

pub returns-in-Send-clause-said : goal.returns-in-Send-clause-said
returns-in-Send-clause-said g c =
    let said = rw c.deref.ensures.value at c.try_command.ensures.said in
    rw c.in-Send.is said

pub returns-in-Clerk-clause-said : goal.returns-in-Clerk-clause-said
returns-in-Clerk-clause-said g c =
    let said = rw c.clerk.ensures.told at c.try_command-in-Clerk.ensures.said in
    rw c.in-Clerk.is said
