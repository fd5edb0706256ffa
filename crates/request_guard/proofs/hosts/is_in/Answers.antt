use Rattle.std.proofs.Common.{◌≡◌, ◌∙◌, ℕ, List, ap, rules, tests}
use Rattle.std.specs.Prelude.{◌==◌}
use Rattle.std.specs.List.{list_any, slice_split}
use Rattle.std.proofs.lemmas.Iterator.Splits.{YieldsList-from_slice_split}
use Rattle.std.proofs.lemmas.Iterator.Search.{any_from_yields_List}
use Rattle.request_guard.specs.Doors as meant
use Rattle.request_guard.proofs.hosts.is_in.Goals as goal

pub returns : goal.returns
returns c =
    let name = c.args.name.now in
    let among = λ (text : List ℕ). list_any (meant.same_letters name) (slice_split (λ b. b == 44) text) in
    let any : c.any.result ≡ among c.as_bytes.result.now =
    any_from_yields_List (meant.same_letters name) _ _ _ c.any.ensures.ran
    (YieldsList-from_slice_split _ _ c.as_bytes.result.now c.split.ensures.rest c.split.ensures.done
    c.split.ensures.closure (λ x r q k. search (rules, tests)))
    (λ x b q k. search (rules, tests)) in
    any ∙ ap among c.as_bytes.ensures.value
