use Rattle.std.proofs.Common.{◌≡◌, List, [], ◌∷◌, map, length, refl, sym, ◌∙◌, arith}
use Rattle.definitions.specs.Bytes.{Delims}
use Rattle.definitions.specs.Cut.{Piece, segments_of}
use Rattle.definitions.specs.Structure.{groups_of}
use Rattle.envelope.specs.Parts.{group_under}
use Rattle.envelope.proofs.Framing.{take_of}
use Rattle.envelope.proofs.making.groups_of.Goals as goal

no_groups : (d : Delims) (ps : List Piece) → length ps ≡ 0 → map (group_under d) (groups_of (segments_of ps)) ≡ []
no_groups d [] e = refl
no_groups d (p ∷ ps) e = absurd (omega arith)

pub make_groups-requires-clause-same : goal.make_groups-requires-clause-same
make_groups-requires-clause-same c = rw c.before-in-Some.ensures.pieces
    (take_of c.args.delims _ c.in-Some.others.now ((rw c.in-Some.ensures.cases.0 at c.requires.same).1))

pub returns-in-Some : goal.returns-in-Some
returns-in-Some c = rw (c.in-Some.ensures.cases.0, ← c.before-in-Some.ensures.elements) c.make_groups.ensures

pub returns-in-None : goal.returns-in-None
returns-in-None c = c.new.ensures.items ∙ sym (no_groups c.args.delims c.args.segments.now c.in-None.ensures.cases)
