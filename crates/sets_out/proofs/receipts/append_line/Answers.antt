use Rattle.std.proofs.Common.{◌+◌, subst}
use Rattle.definitions.specs.Means.{Line}
use Rattle.segments.proofs.ExtendsLemmas.{extends_trans}
use Rattle.sets_out.specs.Appends.{Writes}
use Rattle.sets_out.specs.Documents.{received_line}
use Rattle.sets_out.proofs.AppendsLaws.{appends_then}
use Rattle.sets_out.proofs.receipts.append_line.Goals as goal

pub returns-in_err-lot-clause-kept : goal.returns-in_err-lot-clause-kept
returns-in_err-lot-clause-kept c = extends_trans _ _ _ c.in_ok-goods.ensures.kept c.in_err-lot.ensures.kept

pub returns-clause-ok : goal.returns-clause-ok
returns-clause-ok c =
    let P : Line → Type 0 = λ l. Writes c.args.delims c.args.out.now.items c.append_segment-2.new.out.items (received_line l) (c.in_ok-goods.goods + c.in_ok-lot.lot) in
    subst P c.line.view_is (appends_then c.args.delims _ _ _ _ _ _ _ (rw (c.as_bytes-quantity.ensures.value, c.format.ensures.text) at c.in_ok-goods.ensures.ok) c.in_ok-lot.ensures.ok)

pub returns-clause-kept : goal.returns-clause-kept
returns-clause-kept c = extends_trans _ _ _ c.in_ok-goods.ensures.kept c.in_ok-lot.ensures.kept
