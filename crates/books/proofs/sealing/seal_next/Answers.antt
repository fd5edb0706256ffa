use Rattle.std.proofs.Common.{Some, sym, ap, ◌∙◌}
use Rattle.std.specs.Prelude.{option_map}
use Rattle.seals.specs.Noted.{noted, noted_after}
use Rattle.books.proofs.sealing.seal_next.Goals as goal

pub returns-in-Some-clause-next : goal.returns-in-Some-clause-next
returns-in-Some-clause-next g c = λ clean W L stands.
    ap Some c.after.ensures
    ∙ ap (option_map (noted_after (noted c.args.before.now))) (sym c.in-Some.is ∙ c.in_ok-entry.ensures.entry clean W L stands)

pub returns-in-None-clause-next : goal.returns-in-None-clause-next
returns-in-None-clause-next g c = λ clean W L stands.
    ap (option_map (noted_after (noted c.args.before.now))) (sym c.in-None.is ∙ c.in_ok-entry.ensures.entry clean W L stands)
