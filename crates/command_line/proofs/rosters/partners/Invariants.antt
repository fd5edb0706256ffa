use Rattle.std.proofs.Common.{◌≡◌, ◌++◌, drop, option_map}
use Rattle.toml.specs.View.{items_view}
use Rattle.command_line.specs.Rosters as meant
use Rattle.command_line.proofs.rosters.partners.Given as goal

abbrev pub invariant-loop-value : goal.invariant-loop-value
invariant-loop-value l = record {
  rest : meant.partners_in (items_view l.values) ≡ option_map (λ ws. l.found.items ++ ws) (meant.partners_in (items_view (drop l.value-index l.values)));
}
