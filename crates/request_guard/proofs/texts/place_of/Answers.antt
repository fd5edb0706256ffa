use Rattle.std.proofs.Common.{◌∙◌, ap, rules, tests, length}
use Rattle.std.specs.Prelude.{◌==◌, unwrap_or}
use Rattle.std.proofs.lemmas.Iterator.{YieldsList-from_slice}
use Rattle.std.proofs.lemmas.Iterator.Search.{position_from_yields_List}
use Rattle.request_guard.proofs.Lists.{place-or-length, position-within}
use Rattle.request_guard.proofs.texts.place_of.Goals as goal

pub returns-clause-place : goal.returns-clause-place
returns-clause-place c =
    c.unwrap_or.ensures
    ∙ ap (λ found. unwrap_or found (length c.args.text.now))
    (position_from_yields_List (λ b. b == c.args.mark) _ _ _ c.position.ensures.ran
    (YieldsList-from_slice c.args.text.now (cc))
    (λ x b q k. search (rules, tests)))
    ∙ place-or-length _ _ (position-within (λ b. b == c.args.mark) c.args.text.now)
