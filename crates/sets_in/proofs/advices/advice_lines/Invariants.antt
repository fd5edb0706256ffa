use Rattle.std.proofs.Common.{◌≡◌, ◌<◌, ◌-◌, ◌^◌, ◌+◌, ◌++◌, ◌≤◌, map, drop}
use Rattle.std.specs.Prelude.{codes, All}
use Rattle.definitions.specs.Rules.{Today}
use Rattle.definitions.specs.Cut.{segments_of, places_of}
use Rattle.definitions.specs.Limits.{most_quantity}
use Rattle.definitions.specs.Means as meant
use Rattle.sets_in.specs.Places.{places_from}
use Rattle.sets_in.proofs.advices.advice_lines.Given as goal

-- the lines so far, and those that are left
abbrev pub invariant-loop-index : goal.invariant-loop-index
invariant-loop-index l = record {
  lines : map (meant.advice_line (segments_of l.segments)) (places_of (codes "W04") (segments_of l.segments))
      ≡ l.lines.items ++ map (meant.advice_line (segments_of l.segments)) (places_from (codes "W04") (l.index + 1) (segments_of (drop l.index l.segments)));
  small : All (λ (x : meant.AdviceLine). x.line.quantity ≤ most_quantity Today) l.lines.items;
  placed : All (λ (x : meant.AdviceLine). x.position < 2 ^ 32 - 1) l.lines.items;
}
