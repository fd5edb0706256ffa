use Rattle.std.proofs.Common.{◌++◌, ◌+◌, List, drop, option_map, sym, ap, ◌∙◌}
use Rattle.toml.specs.View.{items_view}
use Rattle.definitions.specs.Header.{Who}
use Rattle.command_line.specs.Rosters.{partners_in}
use Rattle.command_line.proofs.RosterLaws.{more_at, none_at}
use Rattle.command_line.proofs.rosters.partners.Goals as goal

pub returns-in-None : goal.returns-in-None
returns-in-None c =
    sym (c.loop-value.invariant.rest
    ∙ none_at c.args.values.now c.loop-value.value-index c.value-item.result c.loop-value.found.items
    c.loop-value-test.true c.value-item.is (sym c.partner.ensures ∙ c.in-None.is))

pub loop-value-preserved : goal.loop-value-preserved
loop-value-preserved c = record {
  rest =
      let rest = partners_in (items_view (drop (c.loop-value.value-index + 1) c.args.values.now)) in
      c.loop-value.invariant.rest
      ∙ more_at c.args.values.now c.loop-value.value-index c.value-item.result c.loop-value.found.items c.in-Some.who
      c.loop-value-test.true c.value-item.is (sym c.partner.ensures ∙ c.in-Some.is)
      ∙ ap (λ (front : List Who). option_map (λ ws. front ++ ws) rest) (sym c.in_ok-push-in-Some.ensures.items);
}
