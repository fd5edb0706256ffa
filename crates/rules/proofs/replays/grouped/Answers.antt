use Rattle.std.proofs.Common.{List, ◌∙◌, ap, sym, subst, arith, length}
use Rattle.std.specs.Prelude.{sum_by}
use Rattle.std.specs.List.{AllByRecursion}
use Rattle.definitions.specs.Header.{delims_of}
use Rattle.definitions.specs.Structure.{Group}
use Rattle.definitions.specs.Texts.{Told}
use Rattle.sets_out.specs.Headings.{heading_of}
use Rattle.sets_out.specs.Interchanges.{answer_of}
use Rattle.envelope.specs.Parts.{GroupsOf}
use Rattle.set_effects.specs.Judging.{IsSmall, AreGroupsTaken}
use Rattle.rules.proofs.Content.{content}
use Rattle.rules.proofs.Plays.{grouped_played}
use Rattle.rules.proofs.replays.grouped.Goals as goal

pub take_groups-requires-clause-room : goal.take_groups-requires-clause-room
take_groups-requires-clause-room c =
    let few = (content c.args.header.now c.requires.clean).1 in
    let same = ap (λ (i : GroupsOf). sum_by (λ (g : Group). length g.sets) i.groups) c.requires.parts in
    omega (arith, few, same, c.requires.rest)

pub take_groups-requires-clause-small : goal.take_groups-requires-clause-small
take_groups-requires-clause-small c =
    subst (λ (i : GroupsOf). AllByRecursion IsSmall i.groups) (sym c.requires.parts) (content c.args.header.now c.requires.clean).0

pub returns-clause-played : goal.returns-clause-played
returns-clause-played c = λ h of is.
    let e = c.args.envelope in
    grouped_played c.args.rules e.warehouse e.depositor e.moment e.number c.args.header.now c.args.page c.in_ok-groups.groups.page c.in_ok-groups.groups.changes.items c.in_ok-groups.groups.told.items c.in_ok-outgoing.outgoing.items h
    (subst (λ (i : GroupsOf). AreGroupsTaken c.args.rules i.delims i.groups c.args.page c.in_ok-groups.groups.page c.in_ok-groups.groups.changes.items c.in_ok-groups.groups.told.items) c.requires.parts c.in_ok-groups.ensures) c.rows.ensures.sound.sorted
    (c.in_ok-outgoing.ensures
    ∙ ap (λ (told : List Told). answer_of (delims_of c.args.header.now) e.warehouse e.depositor e.moment e.number (heading_of c.args.header.now) told) c.deref.ensures.value) of is
