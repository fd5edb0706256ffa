use Rattle.std.proofs.Common.{◌≡◌, ◌+◌, ◌-◌, ◌<◌, ◌≤◌, take, drop, length, min, ◌∙◌, ap, arith}
use Rattle.std.proofs.lemmas.List.{length-take}
use Rattle.definitions.specs.Bytes.{value}
use Rattle.segments.proofs.DigitsLemmas.{few_digits}
use Rattle.command_line.specs.Written.{pair_at}
use Rattle.command_line.proofs.moments.pair_at.Goals as goal

pub overflow_cast-result : goal.overflow_cast-result
overflow_cast-result c =
    let rest = drop c.args.at c.args.text.now in
    let two : c.args.at + 2 - c.args.at ≡ 2 = omega arith in
    let is : c.number.result ≡ value (pair_at c.args.at c.args.text.now) = c.number.ensures ∙ ap (λ n. value (take n rest)) two in
    let short : length (pair_at c.args.at c.args.text.now) ≤ 2 = rw (length-take 2 rest) (grind (arith, min)) in
    let small : value (pair_at c.args.at c.args.text.now) < 100 = few_digits 2 _ short c.requires.digits in
    omega (arith, is)
