use Rattle.std.proofs.Common.{◌∙◌, sym}
use Rattle.segments.proofs.ExtendsLemmas.{extends_trans}
use Rattle.sets_out.proofs.AppendsLaws.{appends_answers}
use Rattle.sets_out.proofs.interchanges.append_group.Goals as goal

pub returns-clause-ok : goal.returns-clause-ok
returns-clause-ok c =
    let a = c.args.answer.now in
    let e = a.envelope in
    appends_answers a.delims _ _ _ _ e.warehouse e.depositor e.moment e.number a.told.now _ _ _ (sym c.is_empty.ensures ∙ c.if-is_empty.false)
    c.in_ok-first.ensures.ok c.in_ok-sets.ensures.ok c.in_ok-last.ensures.ok

pub returns-in_err-sets-clause-kept : goal.returns-in_err-sets-clause-kept
returns-in_err-sets-clause-kept c = extends_trans _ _ _ c.in_ok-first.ensures.kept c.in_err-sets.ensures.kept

pub returns-in_err-last-clause-kept : goal.returns-in_err-last-clause-kept
returns-in_err-last-clause-kept c = extends_trans _ _ _ (extends_trans _ _ _ c.in_ok-first.ensures.kept c.in_ok-sets.ensures.kept) c.in_err-last.ensures.kept

pub returns-clause-kept : goal.returns-clause-kept
returns-clause-kept c = extends_trans _ _ _ (extends_trans _ _ _ c.in_ok-first.ensures.kept c.in_ok-sets.ensures.kept) c.in_ok-last.ensures.kept
