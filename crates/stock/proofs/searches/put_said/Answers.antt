use Rattle.std.proofs.Common.{◌∙◌, ap, set}
use Rattle.page_rows.proofs.KeyLemmas.{said_set}
use Rattle.stock.proofs.searches.put_said.Goals as goal

pub returns-in-Ok : goal.returns-in-Ok
returns-in-Ok c = ap (set c.args.documents.now.items c.in-Ok.i) c.keep.ensures
    ∙ said_set c.args.n c.in-Ok.i c.args.accepts c.index_mut-document.result.now c.args.documents.now.items c.requires (rw c.deref.ensures.value at c.in-Ok.ensures) c.index_mut-document.ensures.value
