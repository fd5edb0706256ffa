use Rattle.std.proofs.Common.{List, ap, ◌∙◌, sym, subst, arith, length}
use Rattle.definitions.specs.History.{after_entry}
use Rattle.definitions.specs.Reply.{interchange_entry}
use Rattle.definitions.specs.Rows.{LotRow}
use Rattle.definitions.specs.Texts.{Told}
use Rattle.sets_out.specs.Headings.{heading_of}
use Rattle.sets_out.specs.Interchanges.{answer_of}
use Rattle.stock.specs.Pages.{PageFacts}
use Rattle.std.specs.Prelude.{sum_by}
use Rattle.std.specs.List.{AllByRecursion}
use Rattle.definitions.specs.Structure.{Group, groups_of}
use Rattle.definitions.specs.Cut.{cut}
use Rattle.definitions.specs.Header.{delims_of}
use Rattle.envelope.specs.Parts.{GroupsOf}
use Rattle.stock.specs.declared.steps.Change.{Change}
use Rattle.rules.specs.Decided.{AreLeading}
use Rattle.set_effects.specs.Judging.{IsSmall, AreGroupsTaken}
use Rattle.rules.specs.Lasting.{HaveRows}
use Rattle.rules.proofs.Content.{content}
use Rattle.rules.proofs.Decides.{accepted_reply}
use Rattle.rules.proofs.Leading.{interchange_leads}
use Rattle.rules.proofs.Lasts.{lasting_leads, rows_there}
use Rattle.rules.proofs.interchanges.accepted.Goals as goal

pub take_groups-requires-clause-room : goal.take_groups-requires-clause-room
take_groups-requires-clause-room c =
    let few = (content c.args.text.now c.requires.clean).1 in
    let same = ap (λ (i : GroupsOf). sum_by (λ (g : Group). length g.sets) i.groups) c.requires.parts in
    omega (arith, few, same, c.requires.rest)

pub take_groups-requires-clause-small : goal.take_groups-requires-clause-small
take_groups-requires-clause-small c =
    subst (λ (i : GroupsOf). AllByRecursion IsSmall i.groups) (sym c.requires.parts) (content c.args.text.now c.requires.clean).0

pub returns-clause-reply : goal.returns-clause-reply
returns-clause-reply c = λ h P has of.
    let e = c.args.envelope in
    let told = c.in_ok-groups.groups.told.items in
    let cs = c.in_ok-groups.groups.changes.items in
    let taken : AreGroupsTaken c.args.rules (delims_of c.args.text.now) (groups_of ((cut (delims_of c.args.text.now) c.args.text.now).segments)) c.args.page c.in_ok-groups.groups.page cs told =
    subst (λ (i : GroupsOf). AreGroupsTaken c.args.rules i.delims i.groups c.args.page c.in_ok-groups.groups.page cs told) c.requires.parts
    c.in_ok-groups.ensures in
    accepted_reply c.args.rules e.warehouse e.depositor e.moment e.number c.args.text.now c.args.header.now c.args.page c.in_ok-groups.groups.page P cs told c.in_ok-outgoing.outgoing.items c.in_ok-entry.entry h has.named
    c.requires.same c.requires.number (omega (arith, c.if-entries-ge-MOST_ENTRIES.false, c.entries.ensures)) taken
    (c.in_ok-outgoing.ensures ∙ ap (λ (ts : List Told). answer_of (delims_of c.args.header.now) e.warehouse e.depositor e.moment e.number (heading_of c.args.header.now) ts) c.deref.ensures.value)
    c.in_ok-entry.ensures has.part (has.names c.requires.readable c.requires.clean) of c.requires.whose

pub returns-clause-leads : goal.returns-clause-leads
returns-clause-leads c = λ h P has of.
    let told = c.in_ok-groups.groups.told.items in
    let cs = c.in_ok-groups.groups.changes.items in
    let taken : AreGroupsTaken c.args.rules (delims_of c.args.text.now) (groups_of ((cut (delims_of c.args.text.now) c.args.text.now).segments)) c.args.page c.in_ok-groups.groups.page cs told =
    subst (λ (i : GroupsOf). AreGroupsTaken c.args.rules i.delims i.groups c.args.page c.in_ok-groups.groups.page cs told) c.requires.parts
    c.in_ok-groups.ensures in
    let there = after_entry h (interchange_entry c.args.rules c.args.text.now c.args.envelope.moment) in
    subst (λ (ds : List Change). AreLeading P ds there) (sym c.in_ok-changes.ensures.lasts)
    (lasting_leads cs P there
    (interchange_leads c.args.rules c.args.text.now c.args.envelope.moment c.args.page c.in_ok-groups.groups.page P told cs h has.named taken has.part (has.names c.requires.readable c.requires.clean) of))

pub lasting-requires : goal.lasting-requires
lasting-requires c =
    let cs = c.in_ok-groups.groups.changes.items in
    subst (λ (rows : List LotRow). HaveRows rows cs) (sym (ap (λ (p : PageFacts). p.rows) c.in_ok-groups.ensures.same)) (rows_there cs _)
