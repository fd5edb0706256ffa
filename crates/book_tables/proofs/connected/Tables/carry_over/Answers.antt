use Rattle.book_tables.proofs.connected.Tables.carry_over.Goals as goal

pub returns-clause-whole : goal.returns-clause-whole
returns-clause-whole g c = rw (← c.self.view_is) c.carry_over.ensures.whole
