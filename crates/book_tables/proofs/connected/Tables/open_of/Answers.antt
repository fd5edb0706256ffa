use Rattle.sqlite.specs.Held.{state}
use Rattle.book_tables.proofs.AskedLater.{clean_before, ok_anyway}
use Rattle.book_tables.proofs.OpenFound.{open_found}
use Rattle.book_tables.proofs.Queries.{asked_on}
use Rattle.book_tables.proofs.connected.Tables.open_of.Goals as goal

pub returns-clause-work : goal.returns-clause-work
returns-clause-work g c =
    open_found g.S.Store c.args.self.now c.open_need.new.self c.page_for.new.self c.args.who c.in_ok-need.need c.page_for.result c.in_ok-need.ensures.need c.open_need.ensures.asked.left c.page_for.ensures.asked.left c.page_for.ensures.part

pub returns-clause-open : goal.returns-clause-open
returns-clause-open g c = λ clean.
    let mid = state g.S.Store c.open_need.new.self.conn in
    let new = state g.S.Store c.page_for.new.self.conn in
    ok_anyway c.page_for.result (c.in_ok-need.ensures.open (clean_before mid new c.page_for.ensures.asked.left clean))

pub returns-clause-asked : goal.returns-clause-asked
returns-clause-asked g c = asked_on g.S.Store c.args.self.now c.open_need.new.self c.page_for.new.self c.in_ok-need.need c.page_for.result c.in_ok-need.ensures.asked c.page_for.ensures.asked
