use Rattle.std.proofs.Common.{◌≡◌, map, take, true}
use Rattle.std.specs.List.{list_all}
use Rattle.definitions.specs.Bytes.{is_one_of}
use Rattle.stock.proofs.sound.in_lines_at_once.Given as goal

abbrev pub invariant-loop-line : goal.invariant-loop-line
invariant-loop-line l = list_all (λ k. is_one_of (map (λ m. m.item) l.order.lines) k.item) (take l.line-index l.order.reserved) ≡ true
