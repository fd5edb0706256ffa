use Rattle.std.proofs.Common.{◌∙◌, ap}
use Rattle.std.proofs.lemmas.Result.{on_ok_weaker}
use Rattle.std.specs.Prelude.{nat_lt}
use Rattle.definitions.specs.Page.{PageDocument}
use Rattle.page_rows.specs.Keyed.{entry_of}
use Rattle.page_rows.specs.Pages.{is_document}
use Rattle.page_rows.proofs.KeyLemmas.{numbers_strict, document_test}
use Rattle.stock.proofs.FoundByKey.{found_within, put_found}
use Rattle.stock.proofs.searches.put_document.Goals as goal

pub put_at-requires : goal.put_at-requires
put_at-requires c = found_within nat_lt numbers_strict entry_of _ c.args.documents.now.items _ c.find_document-place.result (rw c.deref.ensures.value at c.find_document-place.ensures)

pub returns : goal.returns
returns c =
    let k = c.args.document.n in
    on_ok_weaker c.put_at.result
    (λ put. put ∙ put_found nat_lt numbers_strict entry_of c.args.document c.args.documents.now.items (is_document k) (document_test k) c.requires c.find_document-place.result (rw (c.deref.ensures.value, ap (λ (d : PageDocument). d.n) c.document.view_is) at c.find_document-place.ensures))
    c.put_at.ensures
