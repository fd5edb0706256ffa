use Rattle.std.proofs.Common.{rules}
use Rattle.std.proofs.lemmas.Fn.{always_returns_same}
use Rattle.definitions.specs.Bytes.{comes_before}
use Rattle.page_rows.specs.Keyed.{number_of, text_order}
use Rattle.page_rows.specs.Pages.{is_number}
use Rattle.page_rows.proofs.KeyLemmas.{texts_strict, number_test}
use Rattle.stock.proofs.FoundByKey.{searched, texts_told}
use Rattle.stock.proofs.searches.find_order.Goals as goal

pub returns : goal.returns
returns c =
    let s = c.args.number.now in
    let found = c.binary_search_by.ensures in
    searched comes_before texts_strict number_of s (λ k. text_order (number_of k) s) (texts_told number_of s) (is_number s) (number_test s) c.args.orders.now c.requires _ found.bound
    (found.position (λ k. text_order (number_of k) s) (always_returns_same _ _ _ (λ a r g called. (search rules, search rules))))
