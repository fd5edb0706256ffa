use Rattle.std.proofs.Common.{[], ◌+◌, ◌-◌, take, drop, get_or, sym, ◌∙◌}
use Rattle.definitions.specs.Cut.{Piece}
use Rattle.definitions.specs.Structure.{is_set_clean}
use Rattle.envelope.proofs.Bared.{clean_more, clean_none}
use Rattle.envelope.proofs.places.are_sets_clean.Goals as goal

-- stands for what lies past the end
abbrev nothing : Piece
nothing = record { delims = record { separator = 0; component = 0; terminator = 0 }; elements = [] }

pub returns-then-not-has_no_rest : goal.returns-then-not-has_no_rest
returns-then-not-has_no_rest c = clean_none is_set_clean _ _
    (get_or c.args.segments.now c.in-Some.start nothing, take (c.in-Some.end - (c.in-Some.start + 1)) (drop (c.in-Some.start + 1) c.args.segments.now)) _
    c.loop-start.invariant.left (c.in-Some.ensures.4 nothing) (sym c.has_no_rest.ensures ∙ c.if-not-has_no_rest.true)

pub loop-start-preserved : goal.loop-start-preserved
loop-start-preserved c = record {
  left = clean_more is_set_clean _ _
      (get_or c.args.segments.now c.in-Some.start nothing, take (c.in-Some.end - (c.in-Some.start + 1)) (drop (c.in-Some.start + 1) c.args.segments.now)) _
      c.loop-start.invariant.left (c.in-Some.ensures.4 nothing) (sym c.has_no_rest.ensures ∙ c.if-not-has_no_rest.false);
  within = c.in-Some.ensures.1;
}
