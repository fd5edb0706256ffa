use Rattle.std.proofs.Common.{sym, ap, ◌∙◌, Some, codes, option_map}
use Rattle.clap.specs.Matches.{found_of}
use Rattle.clap.proofs.WalkLemmas.{first_value-rows}
use Rattle.command_line.specs.Written.{number_of}
use Rattle.command_line.proofs.AskedLaws.{unread}
use Rattle.command_line.proofs.values.number.Goals as goal

pub returns-in_default : goal.returns-in_default
returns-in_default c = record {
  ok = ap (option_map number_of) (sym (first_value-rows (found_of c.args.values.now) (codes "number")) ∙ sym c.in_default.ensures);
  err = tt;
}

pub returns-in-Some-number_of : goal.returns-in-Some-number_of
returns-in-Some-number_of c = record {
  ok = ap (option_map number_of) (sym (first_value-rows (found_of c.args.values.now) (codes "number")) ∙ sym c.in-Some.ensures)
      ∙ ap (λ t. Some (number_of t)) (sym c.as_bytes.ensures.value)
      ∙ ap Some (sym c.number_of.ensures ∙ c.in-Some-number_of.is);
  err = tt;
}

pub returns-in-None : goal.returns-in-None
returns-in-None c = record {
  ok = tt;
  err = λ q.
      let there = ap (option_map number_of) (sym (first_value-rows (found_of c.args.values.now) (codes "number")) ∙ sym c.in-Some.ensures) in
      let none = ap (λ t. Some (number_of t)) (sym c.as_bytes.ensures.value) ∙ ap Some (sym c.number_of.ensures ∙ c.in-None.is) in
      absurd (unread q.0 (sym (there ∙ none) ∙ q.1));
}
