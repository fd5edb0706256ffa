use Rattle.std.proofs.Common.{List, ◌+◌, map, subst}
use Rattle.segments.proofs.ExtendsLemmas.{extends_trans}
use Rattle.sets_out.specs.Appends.{Writes}
use Rattle.sets_out.specs.Documents.{PickedLot, ShippedLine, shipped_line, shipped_lot}
use Rattle.sets_out.proofs.AppendsLaws.{appends_then}
use Rattle.sets_out.proofs.shipments.append_line.Goals as goal

pub returns-clause-ok : goal.returns-clause-ok
returns-clause-ok c =
    let P : ShippedLine → Type 0 = λ l. Writes c.args.delims c.args.out.now.items c.append_lots.new.out.items (shipped_line c.args.place l) (c.in_ok-first.first + c.in_ok-goods.goods + c.in_ok-lots.lots) in
    let lots = subst (λ (ls : List PickedLot). Writes c.args.delims c.append_goods.new.out.items c.append_lots.new.out.items (map shipped_lot ls) c.in_ok-lots.lots)
    c.deref.ensures.value c.in_ok-lots.ensures.ok in
    subst P c.line.view_is
    (appends_then c.args.delims _ _ _ _ _ _ _ (appends_then c.args.delims _ _ _ _ _ _ _ c.in_ok-first.ensures.ok c.in_ok-goods.ensures.ok) lots)

pub returns-in_err-goods-clause-kept : goal.returns-in_err-goods-clause-kept
returns-in_err-goods-clause-kept c = extends_trans _ _ _ c.in_ok-first.ensures.kept c.in_err-goods.ensures.kept

pub returns-in_err-lots-clause-kept : goal.returns-in_err-lots-clause-kept
returns-in_err-lots-clause-kept c = extends_trans _ _ _ (extends_trans _ _ _ c.in_ok-first.ensures.kept c.in_ok-goods.ensures.kept) c.in_err-lots.ensures.kept

pub returns-clause-kept : goal.returns-clause-kept
returns-clause-kept c = extends_trans _ _ _ (extends_trans _ _ _ c.in_ok-first.ensures.kept c.in_ok-goods.ensures.kept) c.in_ok-lots.ensures.kept
