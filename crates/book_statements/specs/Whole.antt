-- The texts that ask for whole tables.
use Rattle.std.specs.Prelude.{ℕ, List, codes}
use Rattle.book_statements.specs.declared.names.TableName.{TableName}
use Rattle.book_statements.specs.declared.names.TableName.TheVariants.{Book, Entry, Outgoing, Stock, Advice, AdviceLine, Orders, OrderLine, Reservation, EntryRules, LotExpiry}

-- the text that asks for all that a table has, in the order of its keys
abbrev pub whole_text : TableName → List ℕ
whole_text Book = codes "SELECT rowid, version, qualifier, id FROM book"
whole_text Entry = codes "SELECT seq, who, mark, n, moment, body FROM entry ORDER BY seq"
whole_text Outgoing = codes "SELECT who, n, kind, content, state FROM outgoing ORDER BY who, n"
whole_text Stock =
    codes "SELECT who, item, lot, since, expected, on_hand, reserved, shipped FROM stock ORDER BY who, item, lot"
whole_text Advice = codes "SELECT who, shipment, ord, is_open FROM advice ORDER BY who, shipment"
whole_text AdviceLine =
    codes "SELECT who, shipment, line, item, lot, quantity FROM advice_line ORDER BY who, shipment, line"
whole_text Orders =
    codes "SELECT who, ord, is_open, to_name, to_one, to_two, to_place FROM orders ORDER BY who, ord"
whole_text OrderLine =
    codes "SELECT who, ord, line, item, lot, quantity FROM order_line ORDER BY who, ord, line"
whole_text Reservation =
    codes "SELECT who, ord, item, lot, quantity FROM reservation ORDER BY who, ord, item, lot"
whole_text EntryRules = codes "SELECT seq, rules FROM entry_rules ORDER BY seq"
whole_text LotExpiry = codes "SELECT who, item, lot, expiry FROM lot_expiry ORDER BY who, item, lot"
