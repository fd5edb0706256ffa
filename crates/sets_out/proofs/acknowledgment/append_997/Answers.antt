use Rattle.segments.proofs.ExtendsLemmas.{extends_trans}
use Rattle.sets_out.proofs.AppendsLaws.{appends_set}
use Rattle.sets_out.proofs.acknowledgment.append_997.Goals as goal

pub returns-clause-ok : goal.returns-clause-ok
returns-clause-ok c = appends_set c.args.delims _ _ _ _ _ c.args.place _ _ _ _ c.in_ok-append_st.ensures.ok c.in_ok-body.ensures.ok c.in_ok-append_se.ensures.ok

pub returns-in_err-body-clause-kept : goal.returns-in_err-body-clause-kept
returns-in_err-body-clause-kept c = extends_trans _ _ _ c.in_ok-append_st.ensures.kept c.in_err-body.ensures.kept

pub returns-in_err-append_se-clause-kept : goal.returns-in_err-append_se-clause-kept
returns-in_err-append_se-clause-kept c = extends_trans _ _ _ (extends_trans _ _ _ c.in_ok-append_st.ensures.kept c.in_ok-body.ensures.kept) c.in_err-append_se.ensures.kept

pub returns-clause-kept : goal.returns-clause-kept
returns-clause-kept c = extends_trans _ _ _ (extends_trans _ _ _ c.in_ok-append_st.ensures.kept c.in_ok-body.ensures.kept) c.in_ok-append_se.ensures.kept
