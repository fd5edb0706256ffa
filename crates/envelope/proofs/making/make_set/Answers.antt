use Rattle.std.proofs.Common.{List, ◌∷◌, ◌∙◌, ap}
use Rattle.definitions.specs.Cut.{Piece}
use Rattle.envelope.specs.Parts.{set_under}
use Rattle.envelope.proofs.Framing.{kept}
use Rattle.envelope.proofs.making.make_set.Goals as goal

pub new-requires : goal.new-requires
new-requires c = (kept c.args.delims c.args.head.now c.args.others.now c.in_ok-segments.segments.items c.has.result c.requires.same c.requires.begins c.requires.few
    (c.in_ok-segments.ensures ∙ ap (λ (ps : List Piece). c.args.head.now ∷ ps) c.through.ensures) c.has.ensures).0

pub returns : goal.returns
returns c = c.new.ensures ∙ ap (set_under c.args.delims) (kept c.args.delims c.args.head.now c.args.others.now c.in_ok-segments.segments.items c.has.result c.requires.same c.requires.begins c.requires.few
    (c.in_ok-segments.ensures ∙ ap (λ (ps : List Piece). c.args.head.now ∷ ps) c.through.ensures) c.has.ensures).1
