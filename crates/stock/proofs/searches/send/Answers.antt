use Rattle.std.proofs.Common.{◌∙◌}
use Rattle.page_rows.specs.Functions.{function_text}
use Rattle.page_rows.proofs.KeyLemmas.{sent_there, sent_insert}
use Rattle.stock.proofs.searches.send.Goals as goal

pub returns-in_default : goal.returns-in_default
returns-in_default c = sent_there c.args.n c.in_default.field-0 (function_text c.args.function) c.args.documents.now.items (rw c.deref.ensures.value at c.in_default.ensures)

pub returns : goal.returns
returns c =
    let found = rw c.deref.ensures.value at c.in-Err.ensures in
    c.in_ok-insert.ensures.items ∙ sent_insert c.args.n c.in-Err.i (function_text c.args.function) c.args.documents.now.items found.1 found.0
