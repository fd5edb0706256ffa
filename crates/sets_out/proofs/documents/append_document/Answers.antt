use Rattle.std.proofs.Common.{[], ◌∷◌}
use Rattle.definitions.specs.Texts.{own_delims, group_of_sets, receiver_of}
use Rattle.segments.proofs.ExtendsLemmas.{extends_trans}
use Rattle.sets_out.specs.Handed.{function_of, number_of, body_of}
use Rattle.sets_out.proofs.AppendsLaws.{appends_interchange}
use Rattle.sets_out.proofs.documents.append_document.Goals as goal

pub returns-clause-ok : goal.returns-clause-ok
returns-clause-ok c =
    let e = c.args.envelope.now in
    let d = c.args.document.now in
    appends_interchange own_delims _ _ _ _ e.warehouse (receiver_of e.depositor) e.moment e.number 1
    (group_of_sets e.warehouse e.depositor e.moment e.number (function_of d) (number_of d) (body_of e.moment e.number d ∷ [])) _ _ _
    (rw c.of_documents-delims.ensures at c.in_ok-append_isa_to.ensures.ok)
    (rw c.of_documents-delims.ensures at c.in_ok-append_group.ensures.ok)
    (rw c.of_documents-delims.ensures at c.in_ok-append_iea.ensures.ok)

pub returns-in_err-append_group-clause-kept : goal.returns-in_err-append_group-clause-kept
returns-in_err-append_group-clause-kept c = extends_trans _ _ _ c.in_ok-append_isa_to.ensures.kept c.in_err-append_group.ensures.kept

pub returns-in_err-append_iea-clause-kept : goal.returns-in_err-append_iea-clause-kept
returns-in_err-append_iea-clause-kept c = extends_trans _ _ _ (extends_trans _ _ _ c.in_ok-append_isa_to.ensures.kept c.in_ok-append_group.ensures.kept) c.in_err-append_iea.ensures.kept

pub returns-clause-kept : goal.returns-clause-kept
returns-clause-kept c = extends_trans _ _ _ (extends_trans _ _ _ c.in_ok-append_isa_to.ensures.kept c.in_ok-append_group.ensures.kept) c.in_ok-append_iea.ensures.kept
