use Rattle.std.proofs.Common.{◌≡◌, List, sym, subst}
use Rattle.std.specs.Prelude.{IfOk}
use Rattle.std.proofs.lemmas.Result.{IfOk-weaker}
use Rattle.definitions.specs.Cut.{Piece, segments_of}
use Rattle.definitions.specs.Means.{Acknowledgment, acknowledgment_of}
use Rattle.sets_in.specs.SaidAck.{SaysAck}
use Rattle.sets_in.proofs.acks.ack.Goals as goal

pub returns-clause-says : goal.returns-clause-says
returns-clause-says c =
    let ss = segments_of c.acknowledged.result.now in
    let said : SaysAck ss (acknowledgment_of ss) = c.acknowledged.ensures.says in
    subst (λ (ps : List Piece). IfOk c.said.result (SaysAck (segments_of ps))) c.acknowledged.ensures.same
    (IfOk-weaker c.said.result (λ (a : Acknowledgment). a ≡ acknowledgment_of ss) (SaysAck ss) (λ a e. subst (SaysAck ss) (sym e) said) c.said.ensures)
