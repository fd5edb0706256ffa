use Rattle.std.proofs.Common.{rules}
use Rattle.std.proofs.lemmas.Fn.{always_returns_same}
use Rattle.std.specs.Ordering.{nat_cmp}
use Rattle.std.specs.Prelude.{nat_lt}
use Rattle.page_rows.specs.Keyed.{entry_of}
use Rattle.page_rows.specs.Pages.{is_document}
use Rattle.page_rows.proofs.KeyLemmas.{numbers_strict, document_test}
use Rattle.stock.proofs.FoundByKey.{searched, numbers_told}
use Rattle.stock.proofs.searches.find_document.Goals as goal

pub returns : goal.returns
returns c =
    let n = c.args.n in
    let found = c.binary_search_by.ensures in
    searched nat_lt numbers_strict entry_of n (λ d. nat_cmp (entry_of d) n) (numbers_told entry_of n) (is_document n) (document_test n) c.args.documents.now c.requires _ found.bound
    (found.position (λ d. nat_cmp (entry_of d) n) (always_returns_same _ _ _ (λ a r g called. (search rules, search rules))))
