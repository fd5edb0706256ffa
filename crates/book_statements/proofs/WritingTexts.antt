-- The texts that write the book's rows, and what they mean.
use Rattle.std.proofs.Common.{◌≡◌, codes, ℕ, zero, suc, ◌-◌, List, [], ◌∷◌, ◌++◌, refl, Some, None, pos, negsuc, false}
use Rattle.sqlite.specs.declared.types.Value.TheVariants.{Null, Int}
use Rattle.sqlite.specs.Command.TheVariants.{Insert, InsertOr, Update, Delete}
use Rattle.sqlite.specs.Source.TheVariants.{Values}
use Rattle.sqlite.specs.Term.{Term, lit, col, op2}
use Rattle.sqlite_sql.specs.declared.ops.BinaryOp.TheVariants.{Compare}
use Rattle.sqlite_sql.specs.declared.ops.CompareOp.TheVariants.{Eq}
use Rattle.sqlite.specs.Collation.TheVariants.{Binary}
use Rattle.sqlite_schema.specs.declared.command.Upsert.{Upsert}
use Rattle.sqlite_schema.specs.declared.command.Conflict.TheVariants.{Abort}
use Rattle.sqlite.specs.Query.{Query, inner, end}
use Rattle.sqlite_tied.specs.Compute.{everything}
use Rattle.sqlite.specs.Listing.{understood}
use Rattle.sqlite.specs.Given.{IsPlain}
use Rattle.sqlite.proofs.Callers.{command_of}
use Rattle.book_statements.specs.Layout.{Others, beside}
use Rattle.book_statements.proofs.Understood.{Compiles, command_is, plain_is}

-- so many columns of a slot: 0 has the parameters, 1 the row
abbrev pub columns_of : ℕ → ℕ → ℕ → List Term
columns_of slot at zero = []
columns_of slot at (suc n) = col slot at ∷ columns_of slot (suc at) n

-- a row of n columns whose rowid is chosen
abbrev pub source : ℕ → List Term
source n = lit Null ∷ columns_of 0 0 n

-- WHERE these columns are the first parameters
abbrev pub where_key : ℕ → ℕ → List Term
where_key at zero = []
where_key at (suc k) = op2 (Compare Eq Binary) (col 1 (suc at)) (col 0 at) ∷ where_key (suc at) k

-- the rows of a table that pass, as these terms
abbrev pub from_where : ℕ → List Term → List Term → Query
from_where tree filter project = record {
  from = inner tree end;
  filter = filter;
  group = None;
  project = project;
  distinct = false;
  collations = [];
  order = [];
  limit = lit (Int (negsuc 0));
  offset = lit (Int (pos 0));
}

-- the row, with the columns after its key as they are given
abbrev pub renewed : ℕ → ℕ → List Term
renewed k n = col 1 0 ∷ col 1 0 ∷ columns_of 1 1 k ++ columns_of 0 k (n - k)

-- the rowid is the parameter after the n columns
abbrev pub update_query : ℕ → ℕ → ℕ → Query
update_query tree k n = from_where tree (op2 (Compare Eq Binary) (col 1 0) (col 0 n) ∷ []) (renewed k n)

abbrev pub on_conflict : List ℕ → Query → Upsert
on_conflict key query = record { target = Some key; update = Some (record { lets = []; body = query }) }

-- Upserts.

abbrev pub put_stock_text : List ℕ
put_stock_text = codes "INSERT INTO stock (who, item, lot, since, expected, on_hand, reserved, shipped) VALUES (?1, ?2, ?3, ?4, ?5, ?6, ?7, ?8) ON CONFLICT (who, item, lot) DO UPDATE SET since = ?4, expected = ?5, on_hand = ?6, reserved = ?7, shipped = ?8"

put_stock_compiles : (others : Others) → Compiles (beside others) put_stock_text 8 (InsertOr 3 Abort (Values (source 8) 9) (on_conflict (1 ∷ 2 ∷ 3 ∷ []) (update_query 6 3 8) ∷ []))
unfolding everything
put_stock_compiles others = refl

pub put_stock_is : (others : Others) → command_of (understood (beside others) put_stock_text) ≡ InsertOr 3 Abort (Values (source 8) 9) (on_conflict (1 ∷ 2 ∷ 3 ∷ []) (update_query 6 3 8) ∷ [])
put_stock_is others = command_is (beside others) put_stock_text 8 _ (put_stock_compiles others)

pub put_stock_plain : (others : Others) → IsPlain (understood (beside others) put_stock_text)
put_stock_plain others = plain_is (beside others) put_stock_text 8 _ (put_stock_compiles others)

abbrev pub put_advice_text : List ℕ
put_advice_text = codes "INSERT INTO advice (who, shipment, ord, is_open) VALUES (?1, ?2, ?3, ?4) ON CONFLICT (who, shipment) DO UPDATE SET ord = ?3, is_open = ?4"

put_advice_compiles : (others : Others) → Compiles (beside others) put_advice_text 4 (InsertOr 4 Abort (Values (source 4) 5) (on_conflict (1 ∷ 2 ∷ []) (update_query 8 2 4) ∷ []))
unfolding everything
put_advice_compiles others = refl

pub put_advice_is : (others : Others) → command_of (understood (beside others) put_advice_text) ≡ InsertOr 4 Abort (Values (source 4) 5) (on_conflict (1 ∷ 2 ∷ []) (update_query 8 2 4) ∷ [])
put_advice_is others = command_is (beside others) put_advice_text 4 _ (put_advice_compiles others)

pub put_advice_plain : (others : Others) → IsPlain (understood (beside others) put_advice_text)
put_advice_plain others = plain_is (beside others) put_advice_text 4 _ (put_advice_compiles others)

abbrev pub put_orders_text : List ℕ
put_orders_text = codes "INSERT INTO orders (who, ord, is_open, to_name, to_one, to_two, to_place) VALUES (?1, ?2, ?3, ?4, ?5, ?6, ?7) ON CONFLICT (who, ord) DO UPDATE SET is_open = ?3, to_name = ?4, to_one = ?5, to_two = ?6, to_place = ?7"

put_orders_compiles : (others : Others) → Compiles (beside others) put_orders_text 7 (InsertOr 6 Abort (Values (source 7) 8) (on_conflict (1 ∷ 2 ∷ []) (update_query 12 2 7) ∷ []))
unfolding everything
put_orders_compiles others = refl

pub put_orders_is : (others : Others) → command_of (understood (beside others) put_orders_text) ≡ InsertOr 6 Abort (Values (source 7) 8) (on_conflict (1 ∷ 2 ∷ []) (update_query 12 2 7) ∷ [])
put_orders_is others = command_is (beside others) put_orders_text 7 _ (put_orders_compiles others)

pub put_orders_plain : (others : Others) → IsPlain (understood (beside others) put_orders_text)
put_orders_plain others = plain_is (beside others) put_orders_text 7 _ (put_orders_compiles others)

abbrev pub put_expiry_text : List ℕ
put_expiry_text = codes "INSERT INTO lot_expiry (who, item, lot, expiry) VALUES (?1, ?2, ?3, ?4) ON CONFLICT (who, item, lot) DO UPDATE SET expiry = ?4"

-- Inserts.

abbrev pub insert_book_text : List ℕ
insert_book_text = codes "INSERT INTO book (version, qualifier, id) VALUES (?1, ?2, ?3)"

insert_book_compiles : (others : Others) → Compiles (beside others) insert_book_text 3 (Insert 0 (Values (source 3) 4))
unfolding everything
insert_book_compiles others = refl

pub insert_book_is : (others : Others) → command_of (understood (beside others) insert_book_text) ≡ Insert 0 (Values (source 3) 4)
insert_book_is others = command_is (beside others) insert_book_text 3 _ (insert_book_compiles others)

pub insert_book_plain : (others : Others) → IsPlain (understood (beside others) insert_book_text)
insert_book_plain others = plain_is (beside others) insert_book_text 3 _ (insert_book_compiles others)

abbrev pub insert_entry_text : List ℕ
insert_entry_text = codes "INSERT INTO entry (seq, who, mark, n, moment, body) VALUES (?1, ?2, ?3, ?4, ?5, ?6)"

insert_entry_compiles : (others : Others) → Compiles (beside others) insert_entry_text 6 (Insert 1 (Values (col 0 0 ∷ lit Null ∷ columns_of 0 1 5) 7))
unfolding everything
insert_entry_compiles others = refl

pub insert_entry_is : (others : Others) → command_of (understood (beside others) insert_entry_text) ≡ Insert 1 (Values (col 0 0 ∷ lit Null ∷ columns_of 0 1 5) 7)
insert_entry_is others = command_is (beside others) insert_entry_text 6 _ (insert_entry_compiles others)

pub insert_entry_plain : (others : Others) → IsPlain (understood (beside others) insert_entry_text)
insert_entry_plain others = plain_is (beside others) insert_entry_text 6 _ (insert_entry_compiles others)

abbrev pub insert_outgoing_text : List ℕ
insert_outgoing_text = codes "INSERT INTO outgoing (who, n, kind, content, state) VALUES (?1, ?2, ?3, ?4, ?5)"

insert_outgoing_compiles : (others : Others) → Compiles (beside others) insert_outgoing_text 5 (Insert 2 (Values (source 5) 6))
unfolding everything
insert_outgoing_compiles others = refl

pub insert_outgoing_is : (others : Others) → command_of (understood (beside others) insert_outgoing_text) ≡ Insert 2 (Values (source 5) 6)
insert_outgoing_is others = command_is (beside others) insert_outgoing_text 5 _ (insert_outgoing_compiles others)

pub insert_outgoing_plain : (others : Others) → IsPlain (understood (beside others) insert_outgoing_text)
insert_outgoing_plain others = plain_is (beside others) insert_outgoing_text 5 _ (insert_outgoing_compiles others)

abbrev pub insert_rules_text : List ℕ
insert_rules_text = codes "INSERT INTO entry_rules (seq, rules) VALUES (?1, ?2)"

abbrev pub insert_advice_text : List ℕ
insert_advice_text = codes "INSERT INTO advice (who, shipment, ord, is_open) VALUES (?1, ?2, ?3, ?4)"

insert_advice_compiles : (others : Others) → Compiles (beside others) insert_advice_text 4 (Insert 4 (Values (source 4) 5))
unfolding everything
insert_advice_compiles others = refl

pub insert_advice_is : (others : Others) → command_of (understood (beside others) insert_advice_text) ≡ Insert 4 (Values (source 4) 5)
insert_advice_is others = command_is (beside others) insert_advice_text 4 _ (insert_advice_compiles others)

pub insert_advice_plain : (others : Others) → IsPlain (understood (beside others) insert_advice_text)
insert_advice_plain others = plain_is (beside others) insert_advice_text 4 _ (insert_advice_compiles others)

abbrev pub insert_advice_line_text : List ℕ
insert_advice_line_text = codes "INSERT INTO advice_line (who, shipment, line, item, lot, quantity) VALUES (?1, ?2, ?3, ?4, ?5, ?6)"

insert_advice_line_compiles : (others : Others) → Compiles (beside others) insert_advice_line_text 6 (Insert 5 (Values (source 6) 7))
unfolding everything
insert_advice_line_compiles others = refl

pub insert_advice_line_is : (others : Others) → command_of (understood (beside others) insert_advice_line_text) ≡ Insert 5 (Values (source 6) 7)
insert_advice_line_is others = command_is (beside others) insert_advice_line_text 6 _ (insert_advice_line_compiles others)

pub insert_advice_line_plain : (others : Others) → IsPlain (understood (beside others) insert_advice_line_text)
insert_advice_line_plain others = plain_is (beside others) insert_advice_line_text 6 _ (insert_advice_line_compiles others)

abbrev pub insert_orders_text : List ℕ
insert_orders_text = codes "INSERT INTO orders (who, ord, is_open, to_name, to_one, to_two, to_place) VALUES (?1, ?2, ?3, ?4, ?5, ?6, ?7)"

insert_orders_compiles : (others : Others) → Compiles (beside others) insert_orders_text 7 (Insert 6 (Values (source 7) 8))
unfolding everything
insert_orders_compiles others = refl

pub insert_orders_is : (others : Others) → command_of (understood (beside others) insert_orders_text) ≡ Insert 6 (Values (source 7) 8)
insert_orders_is others = command_is (beside others) insert_orders_text 7 _ (insert_orders_compiles others)

pub insert_orders_plain : (others : Others) → IsPlain (understood (beside others) insert_orders_text)
insert_orders_plain others = plain_is (beside others) insert_orders_text 7 _ (insert_orders_compiles others)

abbrev pub insert_order_line_text : List ℕ
insert_order_line_text = codes "INSERT INTO order_line (who, ord, line, item, lot, quantity) VALUES (?1, ?2, ?3, ?4, ?5, ?6)"

insert_order_line_compiles : (others : Others) → Compiles (beside others) insert_order_line_text 6 (Insert 7 (Values (source 6) 7))
unfolding everything
insert_order_line_compiles others = refl

pub insert_order_line_is : (others : Others) → command_of (understood (beside others) insert_order_line_text) ≡ Insert 7 (Values (source 6) 7)
insert_order_line_is others = command_is (beside others) insert_order_line_text 6 _ (insert_order_line_compiles others)

pub insert_order_line_plain : (others : Others) → IsPlain (understood (beside others) insert_order_line_text)
insert_order_line_plain others = plain_is (beside others) insert_order_line_text 6 _ (insert_order_line_compiles others)

abbrev pub insert_reservation_text : List ℕ
insert_reservation_text = codes "INSERT INTO reservation (who, ord, item, lot, quantity) VALUES (?1, ?2, ?3, ?4, ?5)"

insert_reservation_compiles : (others : Others) → Compiles (beside others) insert_reservation_text 5 (Insert 8 (Values (source 5) 6))
unfolding everything
insert_reservation_compiles others = refl

pub insert_reservation_is : (others : Others) → command_of (understood (beside others) insert_reservation_text) ≡ Insert 8 (Values (source 5) 6)
insert_reservation_is others = command_is (beside others) insert_reservation_text 5 _ (insert_reservation_compiles others)

pub insert_reservation_plain : (others : Others) → IsPlain (understood (beside others) insert_reservation_text)
insert_reservation_plain others = plain_is (beside others) insert_reservation_text 5 _ (insert_reservation_compiles others)

-- An update and a delete.

abbrev pub set_version_text : List ℕ
set_version_text = codes "UPDATE book SET version = ?1"

abbrev pub set_version_query : Query
set_version_query = from_where 0 [] (col 1 0 ∷ col 1 0 ∷ col 0 0 ∷ columns_of 1 2 2)

set_version_compiles : (others : Others) → Compiles (beside others) set_version_text 1 (Update 0 (record { lets = []; body = set_version_query }))
unfolding everything
set_version_compiles others = refl

pub set_version_is : (others : Others) → command_of (understood (beside others) set_version_text) ≡ Update 0 (record { lets = []; body = set_version_query })
set_version_is others = command_is (beside others) set_version_text 1 _ (set_version_compiles others)

pub set_version_plain : (others : Others) → IsPlain (understood (beside others) set_version_text)
set_version_plain others = plain_is (beside others) set_version_text 1 _ (set_version_compiles others)

abbrev pub set_state_text : List ℕ
set_state_text = codes "UPDATE outgoing SET state = ?3 WHERE who = ?1 AND n = ?2"

abbrev pub set_state_query : Query
set_state_query = from_where 4 (where_key 0 2) (col 1 0 ∷ columns_of 1 0 5 ++ col 0 2 ∷ [])

set_state_compiles : (others : Others) → Compiles (beside others) set_state_text 3 (Update 2 (record { lets = []; body = set_state_query }))
unfolding everything
set_state_compiles others = refl

pub set_state_is : (others : Others) → command_of (understood (beside others) set_state_text) ≡ Update 2 (record { lets = []; body = set_state_query })
set_state_is others = command_is (beside others) set_state_text 3 _ (set_state_compiles others)

pub set_state_plain : (others : Others) → IsPlain (understood (beside others) set_state_text)
set_state_plain others = plain_is (beside others) set_state_text 3 _ (set_state_compiles others)

abbrev pub free_text : List ℕ
free_text = codes "DELETE FROM reservation WHERE who = ?1 AND ord = ?2"

abbrev pub free_query : Query
free_query = from_where 16 (where_key 0 2) (col 1 0 ∷ [])

free_compiles : (others : Others) → Compiles (beside others) free_text 2 (Delete 8 (record { lets = []; body = free_query }))
unfolding everything
free_compiles others = refl

pub free_is : (others : Others) → command_of (understood (beside others) free_text) ≡ Delete 8 (record { lets = []; body = free_query })
free_is others = command_is (beside others) free_text 2 _ (free_compiles others)

pub free_plain : (others : Others) → IsPlain (understood (beside others) free_text)
free_plain others = plain_is (beside others) free_text 2 _ (free_compiles others)
