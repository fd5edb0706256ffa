use Rattle.std.proofs.Common.{ℕ, ◌≤◌, None, Some, arith, length, sym, subst}
use Rattle.clap.specs.Matches.{found_of}
use Rattle.command_line.specs.Asked.{most_hosts}
use Rattle.command_line.proofs.HostLaws.{as_many, few, few_found, texts}
use Rattle.command_line.proofs.values.has_few_hosts.Goals as goal

pub returns-in_default : goal.returns-in_default
returns-in_default c = record {
  ok = few (found_of c.args.values.now) None c.in_default.ensures (omega arith);
  err = tt;
}

pub returns-then-names-gt-MOST_HOSTS : goal.returns-then-names-gt-MOST_HOSTS
returns-then-names-gt-MOST_HOSTS c = record {
  ok = tt;
  err = λ q.
      let names = c.in-Some.names.now in
      let within : length names ≤ most_hosts = subst (λ (n : ℕ). n ≤ most_hosts) (as_many names) (few_found (found_of c.args.values.now) (Some (texts names)) c.in-Some.ensures q.1) in
      absurd (omega (arith, within, c.if-names-gt-MOST_HOSTS.true));
}

pub returns : goal.returns
returns c = record {
  ok =
      let names = c.in-Some.names.now in
      few (found_of c.args.values.now) (Some (texts names)) c.in-Some.ensures (subst (λ (n : ℕ). n ≤ most_hosts) (sym (as_many names)) (omega (arith, c.if-names-gt-MOST_HOSTS.false)));
  err = tt;
}
