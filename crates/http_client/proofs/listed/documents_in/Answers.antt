use Rattle.std.proofs.Common.{rules, tests}
use Rattle.std.proofs.lemmas.Iterator.{items_from_collect}
use Rattle.std.proofs.lemmas.Iterator.Consumers.{YieldsList-from_filter_map}
use Rattle.std.proofs.lemmas.Iterator.Splits.{YieldsList-from_slice_split}
use Rattle.std.specs.Prelude.{◌==◌}
use Rattle.http_client.specs.Listed as meant
use Rattle.http_client.proofs.listed.documents_in.Goals as goal

pub returns : goal.returns
returns c =
    let source = c.filter_map.ensures.source in
    items_from_collect c.collect.result c.collect.ensures.ran
    (YieldsList-from_filter_map {s = c.filter_map.result} _ meant.document_in
    (YieldsList-from_slice_split {s = c.filter_map.result.iter} _ (λ b. b == 10) c.args.list.now
    (rw source c.split.ensures.rest) (rw source c.split.ensures.done) (rw source c.split.ensures.closure)
    (λ x r q k. search (rules, tests)))
    c.filter_map.ensures.closure (λ x b q k. search (rules, tests)))
