use Rattle.sets_out.proofs.envelopes.append_gs.Goals as goal

pub returns-clause-ok : goal.returns-clause-ok
returns-clause-ok c = rw (c.as_bytes-number.ensures.value, c.format.ensures.text, c.date-date.ensures, c.time-time.ensures, c.id-from.ensures, c.id-to.ensures) at c.append_segment.ensures.ok
