use Rattle.std.proofs.Common.{◌+◌}
use Rattle.std.proofs.lemmas.Result.{IfErr-weaker}
use Rattle.definitions.specs.Cut.{segments_of}
use Rattle.definitions.specs.Events.{Advised}
use Rattle.set_effects.proofs.SetsNamed.{advice_named}
use Rattle.set_effects.proofs.Judges.{advised_ok, advised_stops}
use Rattle.set_effects.proofs.Propers.{announced_proper, both_ok}
use Rattle.set_effects.proofs.judging.advised.Goals as goal

pub returns-clause-ok : goal.returns-clause-ok
returns-clause-ok c = both_ok c.announce.result _ _ _ (λ step h is n P es part names shows.
    let m = c.args.page.now.entries + 1 in
    let ss = segments_of c.args.set.now.pieces in
    let named = advice_named n c.args.set.now.kind ss c.in_ok-advice.advice c.requires.kind c.in_ok-advice.ensures.value names in
    let found = h n P es part named shows in (
      Advised c.in_ok-advice.advice,
      advised_ok c.args.set.now.rules es m c.args.set.now.kind ss c.in_ok-advice.advice c.requires.kind c.in_ok-advice.ensures.value found.0,
      found.1,
      announced_proper P es c.in_ok-advice.advice step.changes.items part.sorted shows found.0 found.1 (is n P part named),
    )) c.announce.ensures.ok c.announce.ensures.changes

pub returns-clause-err : goal.returns-clause-err
returns-clause-err c = IfErr-weaker c.announce.result _ _ (λ stop h n P es part names shows.
    let m = c.args.page.now.entries + 1 in
    let ss = segments_of c.args.set.now.pieces in
    advised_stops c.args.set.now.rules es m c.args.set.now.kind ss c.in_ok-advice.advice stop c.requires.kind c.in_ok-advice.ensures.value (h n P es part (advice_named n c.args.set.now.kind ss c.in_ok-advice.advice c.requires.kind c.in_ok-advice.ensures.value names) shows)) c.announce.ensures.err
