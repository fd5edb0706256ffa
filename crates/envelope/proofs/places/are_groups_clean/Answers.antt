use Rattle.std.proofs.Common.{[], ◌+◌, ◌-◌, take, drop, get_or, sym, ◌∙◌}
use Rattle.definitions.specs.Cut.{Piece}
use Rattle.definitions.specs.Structure.{is_group_clean}
use Rattle.envelope.proofs.Bared.{clean_more, clean_none}
use Rattle.envelope.proofs.places.are_groups_clean.Goals as goal

-- stands for what lies past the end
abbrev nothing : Piece
nothing = record { delims = record { separator = 0; component = 0; terminator = 0 }; elements = [] }

pub returns-then-not-is_group_clean : goal.returns-then-not-is_group_clean
returns-then-not-is_group_clean c = clean_none is_group_clean _ _
    (get_or c.args.segments.now c.in-Some.start nothing, take (c.in-Some.end - (c.in-Some.start + 1)) (drop (c.in-Some.start + 1) c.args.segments.now)) _
    c.loop-start.invariant.left (c.in-Some.ensures.4 nothing) (sym c.is_group_clean.ensures ∙ c.if-not-is_group_clean.true)

pub loop-start-preserved : goal.loop-start-preserved
loop-start-preserved c = record {
  left = clean_more is_group_clean _ _
      (get_or c.args.segments.now c.in-Some.start nothing, take (c.in-Some.end - (c.in-Some.start + 1)) (drop (c.in-Some.start + 1) c.args.segments.now)) _
      c.loop-start.invariant.left (c.in-Some.ensures.4 nothing) (sym c.is_group_clean.ensures ∙ c.if-not-is_group_clean.false);
  within = c.in-Some.ensures.1;
}
