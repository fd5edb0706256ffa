use Rattle.std.proofs.Common.{ℕ, ◌≤◌, None, Some, subst}
use Rattle.clap.specs.Matches.{found_of}
use Rattle.command_line.specs.Asked.{most_hosts}
use Rattle.command_line.proofs.HostLaws.{as_many, few_found, says, texts}
use Rattle.command_line.proofs.values.hosts_of.Goals as goal

pub filled-requires : goal.filled-requires
filled-requires c =
    let names = c.in-Some.names.now in
    subst (λ (n : ℕ). n ≤ most_hosts) (as_many names) (few_found (found_of c.args.values.now) (Some (texts names)) c.in-Some.ensures c.requires)

pub returns-in-Some : goal.returns-in-Some
returns-in-Some c = says (found_of c.args.values.now) (Some (texts c.in-Some.names.now)) c.in-Some.ensures c.requires c.filled.result c.filled.ensures

pub returns-in-None : goal.returns-in-None
returns-in-None c = says (found_of c.args.values.now) None c.in-None.ensures c.requires c.filled-in-None.result c.filled-in-None.ensures
