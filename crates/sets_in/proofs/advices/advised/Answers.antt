use Rattle.std.proofs.Common.{List, sym, subst}
use Rattle.std.specs.Prelude.{codes}
use Rattle.definitions.specs.Cut.{Piece, segments_of}
use Rattle.definitions.specs.declared.widths.TheConstants.{ADVICE_TOTAL_DIGITS_TWO}
use Rattle.sets_in.specs.Amounts.{IsCountable}
use Rattle.definitions.specs.Means.{advice_of}
use Rattle.sets_in.specs.Said.{SaysAdvice}
use Rattle.sets_in.proofs.Counted.{advice_counted}
use Rattle.sets_in.proofs.Meaning.{says_advice}
use Rattle.sets_in.proofs.advices.advised.Goals as goal

pub returns-clause-counted : goal.returns-clause-counted
returns-clause-counted c = subst (λ (ps : List Piece). IsCountable (codes "W04") (codes "W03") ADVICE_TOTAL_DIGITS_TWO (segments_of ps)) (sym c.segments.ensures.same)
    (advice_counted c.args.set.now c.segments.ensures.sound c.requires)

pub returns-clause-says : goal.returns-clause-says
returns-clause-says c = subst (λ (ps : List Piece). SaysAdvice (segments_of ps) (advice_of (segments_of ps))) (sym c.segments.ensures.same)
    (says_advice c.args.set.now c.segments.ensures.sound c.requires)
