use Rattle.std.proofs.Common.{◌≡◌, sym, ◌∙◌, ap, rules, tests}
use Rattle.std.specs.Prelude.{◌&&◌, ◌==◌}
use Rattle.std.specs.List.{list_all, list_any}
use Rattle.std.proofs.lemmas.Iterator.{YieldsList-from_slice}
use Rattle.std.proofs.lemmas.Iterator.Search.{all_from_yields_List}
use Rattle.request_guard.specs.Doors as meant
use Rattle.request_guard.proofs.hosts.is_ipv6.Goals as goal

pub returns-then-is_spelled : goal.returns-then-is_spelled
returns-then-is_spelled c =
    let spelled : c.all-is_spelled.result ≡ list_all meant.is_ipv6_byte c.args.text.now =
    all_from_yields_List meant.is_ipv6_byte _ _ _ c.all-is_spelled.ensures.ran
    (YieldsList-from_slice c.args.text.now (cc))
    (λ x b q k. search (rules, tests)) in
    c.contains.ensures.value
    ∙ ap (λ all. all && list_any (λ b. b == 58) c.args.text.now)
    (sym (sym spelled ∙ c.if-is_spelled.true))
