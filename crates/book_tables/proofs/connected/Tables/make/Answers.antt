use Rattle.book_tables.proofs.connected.Tables.make.Goals as goal

pub returns-clause-whole : goal.returns-clause-whole
returns-clause-whole g c = rw (← c.self.view_is) c.make.ensures.whole
