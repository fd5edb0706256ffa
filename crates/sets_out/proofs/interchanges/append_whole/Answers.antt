use Rattle.definitions.specs.Texts.{receiver_of}
use Rattle.segments.proofs.ExtendsLemmas.{extends_trans}
use Rattle.sets_out.specs.Interchanges.{between, groups_for}
use Rattle.sets_out.proofs.AppendsLaws.{appends_interchange}
use Rattle.sets_out.proofs.interchanges.append_whole.Goals as goal

pub returns-clause-ok : goal.returns-clause-ok
returns-clause-ok c =
    let a = c.args.answer.now in
    let e = a.envelope in
    appends_interchange a.delims _ _ _ _ e.warehouse (receiver_of e.depositor) e.moment e.number (groups_for a.told.now)
    (between e.warehouse e.depositor e.moment e.number a.heading.now a.told.now) _ _ _
    c.in_ok-append_isa_to.ensures.ok c.in_ok-append_between.ensures.ok (rw c.groups.ensures at c.in_ok-append_iea.ensures.ok)

pub returns-in_err-append_between-clause-kept : goal.returns-in_err-append_between-clause-kept
returns-in_err-append_between-clause-kept c = extends_trans _ _ _ c.in_ok-append_isa_to.ensures.kept c.in_err-append_between.ensures.kept

pub returns-in_err-append_iea-clause-kept : goal.returns-in_err-append_iea-clause-kept
returns-in_err-append_iea-clause-kept c = extends_trans _ _ _ (extends_trans _ _ _ c.in_ok-append_isa_to.ensures.kept c.in_ok-append_between.ensures.kept) c.in_err-append_iea.ensures.kept

pub returns-clause-kept : goal.returns-clause-kept
returns-clause-kept c = extends_trans _ _ _ (extends_trans _ _ _ c.in_ok-append_isa_to.ensures.kept c.in_ok-append_between.ensures.kept) c.in_ok-append_iea.ensures.kept
