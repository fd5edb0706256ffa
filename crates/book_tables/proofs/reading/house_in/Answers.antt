use Rattle.std.proofs.Common.{refl}
use Rattle.book_tables.proofs.HouseRead.{no_version, no_qualifier, no_id, no_partner, its_house}
use Rattle.book_tables.proofs.reading.house_in.Goals as goal

pub returns-in_err-version : goal.returns-in_err-version
returns-in_err-version c = rw c.from_residual.ensures (no_version c.args.row.now (c.in_err-version.ensures.none refl))

pub returns-in_err-text_at : goal.returns-in_err-text_at
returns-in_err-text_at c = rw c.from_residual-in_err-text_at.ensures (no_qualifier c.args.row.now c.in_err-text_at.ensures)

pub returns-in_err-text_at-2 : goal.returns-in_err-text_at-2
returns-in_err-text_at-2 c = rw c.from_residual-in_err-text_at-2.ensures (no_id c.args.row.now c.in_err-text_at-2.ensures)

pub returns-in_err-who : goal.returns-in_err-who
returns-in_err-who c =
    rw c.from_residual-in_err-who.ensures (no_partner c.args.row.now c.in_ok-text_at.field-0.now c.in_ok-text_at-2.field-0.now c.in_ok-text_at.ensures c.in_ok-text_at-2.ensures c.in_err-who.ensures)

pub returns : goal.returns
returns c =
    its_house c.args.row.now c.in_ok-version.version c.in_ok-text_at.field-0.now c.in_ok-text_at-2.field-0.now c.in_ok-who.who c.new.result c.in_ok-version.ensures.only c.in_ok-text_at.ensures c.in_ok-text_at-2.ensures
    c.in_ok-who.ensures c.new.ensures
