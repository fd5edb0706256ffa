use Rattle.page_rows.specs.declared.rows.Column.{Column}
use Rattle.page_rows.specs.declared.rows.Column.TheVariants.{Expected, OnHand, Reservation, Shipped}
use Rattle.definitions.specs.Movements.{Column as Kind, Expected as OfExpected, OnHand as OfOnHand, Reservation as OfReservation, Shipped as OfShipped}

abbrev pub column_of : Column → Kind
column_of Expected = OfExpected
column_of OnHand = OfOnHand
column_of Reservation = OfReservation
column_of Shipped = OfShipped
