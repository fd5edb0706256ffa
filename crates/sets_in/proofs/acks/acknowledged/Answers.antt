use Rattle.std.proofs.Common.{List, sym, subst}
use Rattle.std.specs.Prelude.{codes}
use Rattle.definitions.specs.Cut.{Piece, segments_of, segment_with, element}
use Rattle.sets_in.specs.Amounts.{IsAmount}
use Rattle.definitions.specs.Means.{acknowledgment_of}
use Rattle.sets_in.specs.SaidAck.{SaysAck}
use Rattle.sets_in.proofs.Counted.{document_known}
use Rattle.sets_in.proofs.AckMeaning.{says_ack}
use Rattle.sets_in.proofs.acks.acknowledged.Goals as goal

pub returns-clause-document : goal.returns-clause-document
returns-clause-document c = subst (λ (ps : List Piece). IsAmount 9 (element (segment_with (codes "AK1") (segments_of ps)) 2)) (sym c.segments.ensures.same)
    (document_known c.args.set.now c.segments.ensures.sound c.requires)

pub returns-clause-says : goal.returns-clause-says
returns-clause-says c = subst (λ (ps : List Piece). SaysAck (segments_of ps) (acknowledgment_of (segments_of ps))) (sym c.segments.ensures.same)
    (says_ack c.args.set.now c.segments.ensures.sound c.requires)
