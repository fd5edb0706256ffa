-- How much a set may say, by rules 1 or 2.
use Rattle.std.specs.Prelude.{◌≤◌, ◌<◌, ◌-◌, ◌^◌, List, length, All}
use Rattle.definitions.specs.Rules.{Today}
use Rattle.definitions.specs.Limits.{most_lines, most_quantity}
use Rattle.definitions.specs.Means.{AdviceLine, OrderLine}

-- few lines, and none of much
pub record HasFewLines (lines : List AdviceLine) : Type 0 where
  pub few : length lines ≤ most_lines Today
  pub small : All (λ (l : AdviceLine). l.line.quantity ≤ most_quantity Today) lines
  -- a line's N9 has a position after that of its W04
  pub placed : All (λ (l : AdviceLine). l.position < 2 ^ 32 - 1) lines

pub record HasFewOrderLines (lines : List OrderLine) : Type 0 where
  pub few : length lines ≤ most_lines Today
  pub small : All (λ (l : OrderLine). l.quantity ≤ most_quantity Today) lines
