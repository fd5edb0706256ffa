use Rattle.std.proofs.Common.{sym, ◌∙◌, ap, true, false}
use Rattle.definitions.specs.Cut.{segments_of}
use Rattle.definitions.specs.Header.{delims_of, isa}
use Rattle.envelope.specs.Conditions.{are_held_invalid}
use Rattle.envelope.specs.Parts.{GroupsOf}
use Rattle.envelope.proofs.NoteLemmas.{is_early, has_bad_segments, by_groups, held_invalid, parts_are}
use Rattle.envelope.proofs.whole.structure.Goals as goal

pub returns-in-Some : goal.returns-in-Some
returns-in-Some c = is_early c.args.text.now c.delims-delims.result (segments_of c.as_slice-segments.result.now) c.in_ok-pieces.rest.now
    c.element.result.now c.is_some_left.result c.trailer_note.result c.in-Some.code
    (c.delims-delims.ensures.value ∙ ap delims_of c.requires) (ap segments_of c.as_slice-segments.ensures.value ∙ c.in_ok-pieces.ensures.0)
    c.in_ok-pieces.ensures.3 c.is_some_left.ensures (c.element.ensures.value ∙ ap (λ t. isa t 13) c.requires) c.trailer_note.ensures
    c.in-Some.is

pub returns-then-are_segments_invalid : goal.returns-then-are_segments_invalid
returns-then-are_segments_invalid c = has_bad_segments c.args.text.now c.delims-delims.result (segments_of c.as_slice-segments.result.now) c.in_ok-pieces.rest.now
    c.element.result.now c.is_some_left.result c.trailer_note.result
    (c.delims-delims.ensures.value ∙ ap delims_of c.requires) (ap segments_of c.as_slice-segments.ensures.value ∙ c.in_ok-pieces.ensures.0)
    c.in_ok-pieces.ensures.3 c.is_some_left.ensures (c.element.ensures.value ∙ ap (λ t. isa t 13) c.requires) c.trailer_note.ensures
    c.in_default.is (sym c.are_segments_invalid.ensures ∙ c.if-are_segments_invalid.true)

pub returns-then-are_groups_invalid : goal.returns-then-are_groups_invalid
returns-then-are_groups_invalid c = (by_groups c.args.text.now c.delims-delims.result (segments_of c.as_slice-segments.result.now) c.in_ok-pieces.rest.now
    c.element.result.now c.is_some_left.result c.trailer_note.result c.in_ok-interchange.interchange.groups true
    (c.delims-delims.ensures.value ∙ ap delims_of c.requires) (ap segments_of c.as_slice-segments.ensures.value ∙ c.in_ok-pieces.ensures.0)
    c.in_ok-pieces.ensures.3 c.is_some_left.ensures (c.element.ensures.value ∙ ap (λ t. isa t 13) c.requires) c.trailer_note.ensures
    c.in_default.is (sym c.are_segments_invalid.ensures ∙ c.if-are_segments_invalid.false)
    (ap (λ (i : GroupsOf). i.groups) c.in_ok-interchange.ensures)
    (sym (held_invalid c.in_ok-interchange.interchange.delims c.in_ok-interchange.interchange.groups)
    ∙ (sym (ap are_held_invalid c.groups.ensures) ∙ (sym c.are_groups_invalid.ensures ∙ c.if-are_groups_invalid.true)))).0

pub returns : goal.returns
returns c = (
  (by_groups c.args.text.now c.delims-delims.result (segments_of c.as_slice-segments.result.now) c.in_ok-pieces.rest.now
      c.element.result.now c.is_some_left.result c.trailer_note.result c.in_ok-interchange.interchange.groups false
      (c.delims-delims.ensures.value ∙ ap delims_of c.requires) (ap segments_of c.as_slice-segments.ensures.value ∙ c.in_ok-pieces.ensures.0)
      c.in_ok-pieces.ensures.3 c.is_some_left.ensures (c.element.ensures.value ∙ ap (λ t. isa t 13) c.requires) c.trailer_note.ensures
      c.in_default.is (sym c.are_segments_invalid.ensures ∙ c.if-are_segments_invalid.false)
      (ap (λ (i : GroupsOf). i.groups) c.in_ok-interchange.ensures)
      (sym (held_invalid c.in_ok-interchange.interchange.delims c.in_ok-interchange.interchange.groups)
      ∙ (sym (ap are_held_invalid c.groups.ensures) ∙ (sym c.are_groups_invalid.ensures ∙ c.if-are_groups_invalid.false)))).0,
  parts_are c.args.text.now c.delims-delims.result (segments_of c.as_slice-segments.result.now) c.in_ok-interchange.interchange
      (c.delims-delims.ensures.value ∙ ap delims_of c.requires) (ap segments_of c.as_slice-segments.ensures.value ∙ c.in_ok-pieces.ensures.0)
      c.in_ok-interchange.ensures,
)
