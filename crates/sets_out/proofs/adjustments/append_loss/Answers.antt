use Rattle.sets_out.proofs.adjustments.append_loss.Goals as goal

pub returns-clause-ok : goal.returns-clause-ok
returns-clause-ok c = rw (c.with_minus-text.ensures, c.as_bytes-digits.ensures.value, c.format.ensures.text) at c.append_goods.ensures.ok
