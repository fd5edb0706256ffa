use Rattle.book_tables.proofs.Addresses.{has_address, no_name}
use Rattle.book_tables.proofs.orders.address_in.Goals as goal

pub returns-in_default-clause-shows : goal.returns-in_default-clause-shows
returns-in_default-clause-shows c o is = absurd (no_name c.args.row.now c.in_default.ensures o.address (has_address c.args.row.now o is))

pub returns-in_default-clause-only : goal.returns-in_default-clause-only
returns-in_default-clause-only c = no_name c.args.row.now c.in_default.ensures
