use Rattle.commands.proofs.dock_sheets.receiving_text.Goals as goal

pub returns-then-is_csv-clause-ok : goal.returns-then-is_csv-clause-ok
returns-then-is_csv-clause-ok c = rw c.if-is_csv.true c.receiving_csv.ensures.ok

pub returns-then-is_csv-clause-err : goal.returns-then-is_csv-clause-err
returns-then-is_csv-clause-err c = rw c.if-is_csv.true c.receiving_csv.ensures.err

pub returns-else-is_csv-clause-ok : goal.returns-else-is_csv-clause-ok
returns-else-is_csv-clause-ok c = rw c.if-is_csv.false c.receiving_list.ensures.ok

pub returns-else-is_csv-clause-err : goal.returns-else-is_csv-clause-err
returns-else-is_csv-clause-err c = rw c.if-is_csv.false c.receiving_list.ensures.err
