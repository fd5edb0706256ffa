use Rattle.std.proofs.Common.{◌∙◌, arith}
use Rattle.segments.proofs.DigitsLemmas.{few_digits-min}
use Rattle.segments.proofs.digits.number.Goals as goal

pub returns : goal.returns
returns c = c.value_up_to.ensures ∙ few_digits-min 9 999999999 c.args.text.now c.requires.few c.requires.digits (omega arith)
