use Rattle.sets_out.proofs.shipments.append_first.Goals as goal

pub returns-clause-ok : goal.returns-clause-ok
returns-clause-ok c = rw (c.date-date.ensures, c.as_bytes-number.ensures.value, c.format.ensures.text) at c.append_segment.ensures.ok
