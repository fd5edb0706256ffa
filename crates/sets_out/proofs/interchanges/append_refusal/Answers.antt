use Rattle.std.proofs.Common.{[], ◌∷◌, Some}
use Rattle.segments.proofs.ExtendsLemmas.{extends_trans}
use Rattle.sets_out.specs.Headings.{ta1_of}
use Rattle.sets_out.proofs.AppendsLaws.{appends_interchange}
use Rattle.sets_out.proofs.interchanges.append_refusal.Goals as goal

pub returns-clause-ok : goal.returns-clause-ok
returns-clause-ok c =
    let r = c.args.refusal.now in
    appends_interchange r.delims _ _ _ _ r.warehouse (record { qualifier = r.heading.now.qualifier; id = r.heading.now.id }) r.moment 0 0 (ta1_of r.heading.now (Some r.note) ∷ []) _ _ _
    (rw c.sender.ensures at c.in_ok-append_isa.ensures.ok) c.in_ok-append_ta1.ensures.ok c.in_ok-append_iea.ensures.ok

pub returns-in_err-append_ta1-clause-kept : goal.returns-in_err-append_ta1-clause-kept
returns-in_err-append_ta1-clause-kept c = extends_trans _ _ _ c.in_ok-append_isa.ensures.kept c.in_err-append_ta1.ensures.kept

pub returns-in_err-append_iea-clause-kept : goal.returns-in_err-append_iea-clause-kept
returns-in_err-append_iea-clause-kept c = extends_trans _ _ _ (extends_trans _ _ _ c.in_ok-append_isa.ensures.kept c.in_ok-append_ta1.ensures.kept) c.in_err-append_iea.ensures.kept

pub returns-clause-kept : goal.returns-clause-kept
returns-clause-kept c = extends_trans _ _ _ (extends_trans _ _ _ c.in_ok-append_isa.ensures.kept c.in_ok-append_ta1.ensures.kept) c.in_ok-append_iea.ensures.kept
