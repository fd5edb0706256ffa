use Rattle.sets_out.proofs.envelopes.append_iea.Goals as goal

pub returns-clause-ok : goal.returns-clause-ok
returns-clause-ok c = rw (c.as_bytes-groups.ensures.value, c.format.ensures.text, c.zero_filled-control.ensures, c.from.ensures) at c.append_segment.ensures.ok
