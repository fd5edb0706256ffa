use Rattle.std.proofs.Common.{◌≡◌, List, sym, subst}
use Rattle.std.specs.Prelude.{IfOk}
use Rattle.std.proofs.lemmas.Result.{IfOk-weaker}
use Rattle.definitions.specs.Cut.{Piece, segments_of}
use Rattle.definitions.specs.Means.{Advice, advice_of}
use Rattle.sets_in.specs.Said.{SaysAdvice}
use Rattle.sets_in.proofs.advices.advice.Goals as goal

pub returns-clause-says : goal.returns-clause-says
returns-clause-says c =
    let ss = segments_of c.advised.result.now in
    let said : SaysAdvice ss (advice_of ss) = c.advised.ensures.says in
    subst (λ (ps : List Piece). IfOk c.said.result (SaysAdvice (segments_of ps))) c.advised.ensures.same
    (IfOk-weaker c.said.result (λ (a : Advice). a ≡ advice_of ss) (SaysAdvice ss) (λ a e. subst (SaysAdvice ss) (sym e) said) c.said.ensures)
