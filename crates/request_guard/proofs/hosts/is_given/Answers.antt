use Rattle.std.proofs.Common.{◌≡◌, sym, ◌∙◌, ap, true, rules, tests, length}
use Rattle.std.specs.Prelude.{◌&&◌, nat_lt}
use Rattle.std.specs.List.{list_any}
use Rattle.std.proofs.lemmas.Iterator.{YieldsList-from_slice}
use Rattle.std.proofs.lemmas.Iterator.Search.{any_from_yields_List}
use Rattle.request_guard.specs.Doors as meant
use Rattle.request_guard.proofs.Lists.{list_any-flat_map}
use Rattle.request_guard.proofs.hosts.is_given.Goals as goal

pub returns-then-not-is_empty : goal.returns-then-not-is_empty
returns-then-not-is_empty c =
    let name = c.args.name.now in
    let same = meant.same_letters name in
    let any : c.any.result ≡ list_any (λ text. list_any same (meant.names_in text.now)) c.args.names.now =
    any_from_yields_List (λ text. list_any same (meant.names_in text.now)) _ _ _ c.any.ensures.ran
    (YieldsList-from_slice c.args.names.now (cc))
    (λ x b q k. search (rules, tests)) in
    let some : nat_lt 0 (length name) ≡ true = search (rules, tests) in
    any ∙ list_any-flat_map same (λ text. meant.names_in text.now) c.args.names.now
    ∙ ap (λ b. b && list_any same (meant.names_of c.args.names)) (sym some)
