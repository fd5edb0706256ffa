use Rattle.std.proofs.Common.{◌≡◌, ◌∙◌, ap, sym, Option, Some, None}
use Rattle.std.specs.Prelude.{find, option_copied}
use Rattle.std.specs.Option.{option_or}
use Rattle.definitions.specs.Means.{Line}
use Rattle.commands.specs.Reasons.{is_unkept, only_doubtful}
use Rattle.commands.proofs.reasons.unnamed.Goals as goal

pub returns-in-Some : goal.returns-in-Some
returns-in-Some c =
    let found : find (is_unkept c.args.kept.now) c.args.lines.now ≡ Some c.in-Some.line.now = sym c.first_unkept.ensures ∙ ap option_copied c.in-Some.is in
    sym (ap (λ (o : Option Line). option_or o (only_doubtful c.args.kept.now c.args.lines.now)) found)

pub returns-in-None : goal.returns-in-None
returns-in-None c =
    let none : find (is_unkept c.args.kept.now) c.args.lines.now ≡ None = sym c.first_unkept.ensures ∙ ap option_copied c.in-None.is in
    c.only_doubtful.ensures ∙ sym (ap (λ (o : Option Line). option_or o (only_doubtful c.args.kept.now c.args.lines.now)) none)
