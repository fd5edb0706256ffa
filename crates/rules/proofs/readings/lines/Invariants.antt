use Rattle.std.proofs.Common.{◌≡◌, take, map, filter_map}
use Rattle.rules.specs.Likely.{record_in}
use Rattle.rules.proofs.readings.lines.Given as goal

abbrev pub invariant-loop-text : goal.invariant-loop-text
invariant-loop-text l = l.lines.items ≡ filter_map record_in (take l.text-index (map (λ text. text.now) l.texts))
