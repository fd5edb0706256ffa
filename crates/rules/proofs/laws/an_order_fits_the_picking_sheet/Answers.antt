use Rattle.rules.proofs.Columns.{orders_have_columns}
use Rattle.rules.proofs.laws.an_order_fits_the_picking_sheet.Goals as goal

pub returns : goal.returns
returns c = λ M number o h. orders_have_columns M number o h
