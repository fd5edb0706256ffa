use Rattle.std.proofs.Common.{◌≡◌, sym, ◌∙◌, ap, ℕ, Bool, rules, tests, length}
use Rattle.std.specs.Prelude.{◌&&◌, ◌==◌}
use Rattle.std.specs.List.{list_all, slice_split}
use Rattle.std.proofs.lemmas.Iterator.Consumers.{count_from_yields_List}
use Rattle.std.proofs.lemmas.Iterator.Splits.{YieldsList-from_slice_split}
use Rattle.std.proofs.lemmas.Iterator.Search.{all_from_yields_List}
use Rattle.request_guard.specs.Doors as meant
use Rattle.request_guard.proofs.hosts.is_ipv4.Goals as goal

-- a count that isn't four decides alone
not-four : (n : ℕ) (each : Bool) → (n ≡ 4 → ⊥) → (n == 4) ≡ (n == 4 && each)
not-four n each other = search (rules, tests)

pub returns-then-count-eq4 : goal.returns-then-count-eq4
returns-then-count-eq4 c =
    let parts = slice_split (λ b. b == 46) c.args.text.now in
    let counted : c.count.result ≡ length parts =
    count_from_yields_List _ _ c.count.ensures.ran
    (YieldsList-from_slice_split _ _ c.args.text.now c.split.ensures.rest c.split.ensures.done
    c.split.ensures.closure (λ x r q k. search (rules, tests))) in
    let each : c.all.result ≡ list_all meant.is_octet parts =
    all_from_yields_List meant.is_octet _ _ _ c.all.ensures.ran
    (YieldsList-from_slice_split _ _ c.args.text.now c.split-then-count-eq4.ensures.rest
    c.split-then-count-eq4.ensures.done c.split-then-count-eq4.ensures.closure
    (λ x r q k. search (rules, tests)))
    (λ x b q k. search (rules, tests)) in
    each
    ∙ ap (λ n. n == 4 && list_all meant.is_octet parts) (sym (sym counted ∙ c.if-count-eq4.true))

pub returns-else-count-eq4 : goal.returns-else-count-eq4
returns-else-count-eq4 c =
    let parts = slice_split (λ b. b == 46) c.args.text.now in
    let counted : c.count.result ≡ length parts =
    count_from_yields_List _ _ c.count.ensures.ran
    (YieldsList-from_slice_split _ _ c.args.text.now c.split.ensures.rest c.split.ensures.done
    c.split.ensures.closure (λ x r q k. search (rules, tests))) in
    not-four c.count.result (list_all meant.is_octet parts) c.if-count-eq4.false
    ∙ ap (λ n. n == 4 && list_all meant.is_octet parts) counted
