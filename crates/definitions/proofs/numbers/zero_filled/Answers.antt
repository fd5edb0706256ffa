use Rattle.std.proofs.Common.{◌≤◌, length, ◌∙◌, arith, rules}
use Rattle.definitions.proofs.Digits.{digit_filled}
use Rattle.definitions.proofs.numbers.zero_filled.Goals as goal

pub loop-at-preserved : goal.loop-at-preserved
loop-at-preserved g c =
    let inside : c.loop-at.at ≤ length c.loop-at.digits = omega (arith, c.loop-at.invariant.whole, c.loop-at.invariant.within) in
    record {
      whole = search (rules, c.loop-at.invariant.whole);
      within = omega (arith, c.loop-at.invariant.within);
      written = digit_filled c.loop-at.at c.loop-at.left c.loop-at.digits c.loop-at-test.true inside ∙ c.loop-at.invariant.written;
    }
