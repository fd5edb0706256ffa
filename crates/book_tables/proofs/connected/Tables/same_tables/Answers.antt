use Rattle.sqlite.specs.Held.{state}
use Rattle.book_tables.proofs.ComparedTables.{compared_stands, compared_same, ok_map, ok_open}
use Rattle.book_tables.proofs.connected.Tables.same_tables.Goals as goal

pub returns-clause-stands : goal.returns-clause-stands
returns-clause-stands g c = λ clean its_clean laid tables W L stands.
    let one = state g.S.Store c.args.self.now.conn in
    let two = state g.T.Store c.args.other.now.conn in
    ok_map c.compare_tables.result (compared_stands one two c.settle.ensures.live c.settle-2.ensures.live W L laid tables stands)
    (c.compare_tables.ensures.compares clean its_clean)

pub returns-clause-same : goal.returns-clause-same
returns-clause-same g c = λ clean its_clean W L stands mine.
    let one = state g.S.Store c.args.self.now.conn in
    let two = state g.T.Store c.args.other.now.conn in
    ok_map c.compare_tables.result (compared_same one two c.settle.ensures.live c.settle-2.ensures.live W L mine stands)
    (c.compare_tables.ensures.compares clean its_clean)

pub returns-clause-was_open : goal.returns-clause-was_open
returns-clause-was_open g c = λ clean its_clean.
    ok_open (state g.S.Store c.args.self.now.conn) (state g.T.Store c.args.other.now.conn) c.compare_tables.result (c.compare_tables.ensures.compares clean its_clean)
