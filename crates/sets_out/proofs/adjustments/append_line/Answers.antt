use Rattle.std.proofs.Common.{◌≡◌, ◌+◌, true, false, eq-eqb, arith, subst}
use Rattle.std.specs.Prelude.{◌==◌}
use Rattle.std.proofs.lemmas.Bool.Decides.{nat_tests}
use Rattle.segments.proofs.ExtendsLemmas.{extends_trans}
use Rattle.sets_out.specs.Appends.{Writes}
use Rattle.sets_out.specs.Documents.{AdjustedLine, changed_line}
use Rattle.sets_out.proofs.AppendsLaws.{appends_none, appends_then}
use Rattle.sets_out.proofs.adjustments.append_line.Goals as goal

pub returns-clause-ok : goal.returns-clause-ok
returns-clause-ok c =
    let apart : (c.line.inside.after == c.line.inside.before) ≡ false = grind (arith, nat_tests) in
    let P : AdjustedLine → Type 0 = λ l. Writes c.args.delims c.args.out.now.items c.append_segment.new.out.items (changed_line l) (c.in_ok-goods.goods + c.in_ok-lot.lot) in
    subst P c.line.view_is (rw apart (appends_then c.args.delims _ _ _ _ _ _ _ c.in_ok-goods.ensures.ok c.in_ok-lot.ensures.ok))

pub returns-in_err-lot-clause-kept : goal.returns-in_err-lot-clause-kept
returns-in_err-lot-clause-kept c = extends_trans _ _ _ c.in_ok-goods.ensures.kept c.in_err-lot.ensures.kept

pub returns-clause-kept : goal.returns-clause-kept
returns-clause-kept c = extends_trans _ _ _ c.in_ok-goods.ensures.kept c.in_ok-lot.ensures.kept

pub returns-then-line-clause-ok : goal.returns-then-line-clause-ok
returns-then-line-clause-ok c =
    let same : (c.line.inside.after == c.line.inside.before) ≡ true = eq-eqb _ _ c.if-line.true in
    let P : AdjustedLine → Type 0 = λ l. Writes c.args.delims c.args.out.now.items c.args.out.now.items (changed_line l) 0 in
    subst P c.line.view_is (rw same (appends_none _ _))
