use Rattle.sets_out.proofs.envelopes.append_closing.Goals as goal

pub returns-clause-ok : goal.returns-clause-ok
returns-clause-ok c = rw (c.date-date.ensures, c.time-time.ensures, c.zero_filled-control.ensures, c.from.ensures, c.component.ensures) at c.write_segment.ensures.ok
