use Rattle.sets_out.proofs.shipments.append_goods.Goals as goal

pub returns-clause-ok : goal.returns-clause-ok
returns-clause-ok c =
    rw (c.code_of-code.ensures, c.as_bytes-wanted.ensures.value, c.format.ensures.text, c.as_bytes-sent.ensures.value, c.format-2.ensures.text, c.as_bytes-missing.ensures.value, c.format-3.ensures.text, c.saturating_sub-missing.ensures) at c.append_w12.ensures.ok
