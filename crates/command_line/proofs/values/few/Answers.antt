use Rattle.std.proofs.Common.{sym, ap, ◌∙◌, Some, option_map}
use Rattle.clap.specs.Matches.{found_of}
use Rattle.clap.proofs.WalkLemmas.{first_value-rows}
use Rattle.command_line.specs.Written.{count_of}
use Rattle.command_line.proofs.AskedLaws.{unread}
use Rattle.command_line.proofs.values.few.Goals as goal

pub returns-in_default : goal.returns-in_default
returns-in_default c = record {
  ok = ap (option_map count_of) (sym (first_value-rows (found_of c.args.values.now) c.args.id.now) ∙ sym c.in_default.ensures);
  err = tt;
}

pub returns-in-Some-count_of : goal.returns-in-Some-count_of
returns-in-Some-count_of c = record {
  ok = ap (option_map count_of) (sym (first_value-rows (found_of c.args.values.now) c.args.id.now) ∙ sym c.in-Some.ensures)
      ∙ ap (λ t. Some (count_of t)) (sym c.as_bytes.ensures.value)
      ∙ ap Some (sym c.count_of.ensures ∙ c.in-Some-count_of.is);
  err = tt;
}

pub returns-in-None : goal.returns-in-None
returns-in-None c = record {
  ok = tt;
  err = λ q.
      let there = ap (option_map count_of) (sym (first_value-rows (found_of c.args.values.now) c.args.id.now) ∙ sym c.in-Some.ensures) in
      let none = ap (λ t. Some (count_of t)) (sym c.as_bytes.ensures.value) ∙ ap Some (sym c.count_of.ensures ∙ c.in-None.is) in
      absurd (unread q.0 (sym (there ∙ none) ∙ q.1));
}
