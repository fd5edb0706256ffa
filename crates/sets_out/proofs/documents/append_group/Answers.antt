use Rattle.segments.proofs.ExtendsLemmas.{extends_trans}
use Rattle.sets_out.specs.Handed.{function_of, number_of, body_of}
use Rattle.sets_out.proofs.AppendsLaws.{appends_group}
use Rattle.sets_out.proofs.documents.append_group.Goals as goal

pub returns-clause-ok : goal.returns-clause-ok
returns-clause-ok c =
    let e = c.args.envelope.now in
    let d = c.args.document.now in
    appends_group c.args.delims _ _ _ _ e.warehouse e.depositor e.moment e.number (function_of d) (number_of d) (body_of e.moment e.number d) _ _ _
    (rw c.function.ensures at c.in_ok-first.ensures.ok) c.in_ok-set.ensures.ok c.in_ok-last.ensures.ok

pub returns-in_err-set-clause-kept : goal.returns-in_err-set-clause-kept
returns-in_err-set-clause-kept c = extends_trans _ _ _ c.in_ok-first.ensures.kept c.in_err-set.ensures.kept

pub returns-in_err-last-clause-kept : goal.returns-in_err-last-clause-kept
returns-in_err-last-clause-kept c = extends_trans _ _ _ (extends_trans _ _ _ c.in_ok-first.ensures.kept c.in_ok-set.ensures.kept) c.in_err-last.ensures.kept

pub returns-clause-kept : goal.returns-clause-kept
returns-clause-kept c = extends_trans _ _ _ (extends_trans _ _ _ c.in_ok-first.ensures.kept c.in_ok-set.ensures.kept) c.in_ok-last.ensures.kept
