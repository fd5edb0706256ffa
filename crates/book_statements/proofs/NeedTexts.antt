-- The texts that read what a command names of a depositor, and what they mean.
use Rattle.std.proofs.Common.{◌≡◌, codes, ℕ, List, [], ◌∷◌, refl, false, None, pos, negsuc}
use Rattle.sqlite.specs.declared.types.Value.TheVariants.{Int}
use Rattle.sqlite.specs.Command.TheVariants.{Select}
use Rattle.sqlite.specs.Term.{Term, lit, col, op2}
use Rattle.sqlite_sql.specs.declared.ops.BinaryOp.TheVariants.{Compare}
use Rattle.sqlite_sql.specs.declared.ops.CompareOp.TheVariants.{Eq}
use Rattle.sqlite.specs.Collation.TheVariants.{Binary}
use Rattle.sqlite.specs.Query.{Query, inner, end}
use Rattle.sqlite_value.specs.declared.keys.Key.{Key}
use Rattle.sqlite_tied.specs.Compute.{everything}
use Rattle.sqlite.specs.Listing.{understood, reads_listing}
use Rattle.sqlite.proofs.Callers.{command_of}
use Rattle.book_statements.specs.Asking.{OnlyReads}
use Rattle.book_statements.specs.Layout.{Others, beside}
use Rattle.book_statements.proofs.Understood.{Compiles, query_is}
use Rattle.book_statements.proofs.ShowingTexts.{rising, lots_columns, lots_names, dates_columns, pair_order}
use Rattle.book_statements.proofs.Selects.{query_reads}

-- the rows of a table that begin with the first parameter and have the second in the column at a
-- place, these columns of them, in this order
abbrev pub under_at : ℕ → ℕ → List Term → List (Term × Key) → Query
under_at at tree project order = record {
  from = inner tree end;
  filter = op2 (Compare Eq Binary) (col 1 1) (col 0 0) ∷ op2 (Compare Eq Binary) (col 1 at) (col 0 1) ∷ [];
  group = None;
  project = project;
  distinct = false;
  collations = [];
  order = order;
  limit = lit (Int (negsuc 0));
  offset = lit (Int (pos 0));
}

-- those that begin with both
abbrev pub under_where : ℕ → List Term → List (Term × Key) → Query
under_where = under_at 2

-- the text is a query, whose answer has these columns
abbrev pub Reads : List ℕ → Query → List (List ℕ) → Others → Type 0
Reads text query names others = (command_of (understood (beside others) text) ≡ Select (record { lets = []; body = query }) names) × (reads_listing (beside others) text ≡ false)

-- The lots of an item.

abbrev pub lots_text : List ℕ
lots_text = codes "SELECT item, lot, since, expected, on_hand, reserved, shipped FROM stock WHERE who = ?1 AND item = ?2 ORDER BY item, lot"

lots_compiles : (others : Others) → Compiles (beside others) lots_text 2 (Select (record { lets = []; body = under_where 6 lots_columns pair_order }) lots_names)
unfolding everything
lots_compiles others = refl

pub lots_is : (others : Others) → Reads lots_text (under_where 6 lots_columns pair_order) lots_names others
lots_is others = query_is (beside others) lots_text 2 _ _ (lots_compiles others)

pub lots_reads : OnlyReads lots_text
unfolding everything
lots_reads = query_reads lots_text (λ schema base. refl)

-- And their dates.

abbrev pub dates_text : List ℕ
dates_text = codes "SELECT item, lot, expiry FROM lot_expiry WHERE who = ?1 AND item = ?2 ORDER BY item, lot"

abbrev pub dates_query : Query
dates_query = under_where 19 dates_columns pair_order

pub dates_reads : OnlyReads dates_text
unfolding everything
dates_reads = query_reads dates_text (λ schema base. refl)

-- An advice and its lines.

abbrev pub advice_text : List ℕ
advice_text = codes "SELECT shipment, ord, is_open FROM advice WHERE who = ?1 AND shipment = ?2"

abbrev pub advice_columns : List Term
advice_columns = col 1 2 ∷ col 1 3 ∷ col 1 4 ∷ []

abbrev pub advice_names : List (List ℕ)
advice_names = codes "shipment" ∷ codes "ord" ∷ codes "is_open" ∷ []

advice_compiles : (others : Others) → Compiles (beside others) advice_text 2 (Select (record { lets = []; body = under_where 8 advice_columns [] }) advice_names)
unfolding everything
advice_compiles others = refl

pub advice_is : (others : Others) → Reads advice_text (under_where 8 advice_columns []) advice_names others
advice_is others = query_is (beside others) advice_text 2 _ _ (advice_compiles others)

pub advice_reads : OnlyReads advice_text
unfolding everything
advice_reads = query_reads advice_text (λ schema base. refl)

abbrev pub line_names : List (List ℕ)
line_names = codes "item" ∷ codes "lot" ∷ codes "quantity" ∷ []

abbrev pub line_columns : List Term
line_columns = col 1 4 ∷ col 1 5 ∷ col 1 6 ∷ []

abbrev pub line_order : List (Term × Key)
line_order = rising 3 ∷ []

abbrev pub advice_lines_text : List ℕ
advice_lines_text = codes "SELECT item, lot, quantity FROM advice_line WHERE who = ?1 AND shipment = ?2 ORDER BY line"

advice_lines_compiles : (others : Others) → Compiles (beside others) advice_lines_text 2 (Select (record { lets = []; body = under_where 10 line_columns line_order }) line_names)
unfolding everything
advice_lines_compiles others = refl

pub advice_lines_is : (others : Others) → Reads advice_lines_text (under_where 10 line_columns line_order) line_names others
advice_lines_is others = query_is (beside others) advice_lines_text 2 _ _ (advice_lines_compiles others)

pub advice_lines_reads : OnlyReads advice_lines_text
unfolding everything
advice_lines_reads = query_reads advice_lines_text (λ schema base. refl)

-- An order, its lines, and what is reserved for it.

abbrev pub order_text : List ℕ
order_text = codes "SELECT ord, is_open, to_name, to_one, to_two, to_place FROM orders WHERE who = ?1 AND ord = ?2"

abbrev pub order_columns : List Term
order_columns = col 1 2 ∷ col 1 3 ∷ col 1 4 ∷ col 1 5 ∷ col 1 6 ∷ col 1 7 ∷ []

abbrev pub order_names : List (List ℕ)
order_names = codes "ord" ∷ codes "is_open" ∷ codes "to_name" ∷ codes "to_one" ∷ codes "to_two" ∷ codes "to_place" ∷ []

order_compiles : (others : Others) → Compiles (beside others) order_text 2 (Select (record { lets = []; body = under_where 12 order_columns [] }) order_names)
unfolding everything
order_compiles others = refl

pub order_is : (others : Others) → Reads order_text (under_where 12 order_columns []) order_names others
order_is others = query_is (beside others) order_text 2 _ _ (order_compiles others)

pub order_reads : OnlyReads order_text
unfolding everything
order_reads = query_reads order_text (λ schema base. refl)

abbrev pub order_lines_text : List ℕ
order_lines_text = codes "SELECT item, lot, quantity FROM order_line WHERE who = ?1 AND ord = ?2 ORDER BY line"

order_lines_compiles : (others : Others) → Compiles (beside others) order_lines_text 2 (Select (record { lets = []; body = under_where 14 line_columns line_order }) line_names)
unfolding everything
order_lines_compiles others = refl

pub order_lines_is : (others : Others) → Reads order_lines_text (under_where 14 line_columns line_order) line_names others
order_lines_is others = query_is (beside others) order_lines_text 2 _ _ (order_lines_compiles others)

pub order_lines_reads : OnlyReads order_lines_text
unfolding everything
order_lines_reads = query_reads order_lines_text (λ schema base. refl)

abbrev pub reserved_text : List ℕ
reserved_text = codes "SELECT item, lot, quantity FROM reservation WHERE who = ?1 AND ord = ?2 ORDER BY item, lot"

abbrev pub reserved_columns : List Term
reserved_columns = col 1 3 ∷ col 1 4 ∷ col 1 5 ∷ []

abbrev pub reserved_order : List (Term × Key)
reserved_order = rising 3 ∷ rising 4 ∷ []

reserved_compiles : (others : Others) → Compiles (beside others) reserved_text 2 (Select (record { lets = []; body = under_where 16 reserved_columns reserved_order }) line_names)
unfolding everything
reserved_compiles others = refl

pub reserved_is : (others : Others) → Reads reserved_text (under_where 16 reserved_columns reserved_order) line_names others
reserved_is others = query_is (beside others) reserved_text 2 _ _ (reserved_compiles others)

pub reserved_reads : OnlyReads reserved_text
unfolding everything
reserved_reads = query_reads reserved_text (λ schema base. refl)

-- What went out under a number: what it was and what was said of it.

abbrev pub sent_text : List ℕ
sent_text = codes "SELECT kind, state FROM outgoing WHERE who = ?1 AND n = ?2"

abbrev pub sent_columns : List Term
sent_columns = col 1 3 ∷ col 1 5 ∷ []

sent_compiles : (others : Others) → Compiles (beside others) sent_text 2 (Select (record { lets = []; body = under_where 4 sent_columns [] }) (codes "kind" ∷ codes "state" ∷ []))
unfolding everything
sent_compiles others = refl

pub sent_is : (others : Others) → Reads sent_text (under_where 4 sent_columns []) (codes "kind" ∷ codes "state" ∷ []) others
sent_is others = query_is (beside others) sent_text 2 _ _ (sent_compiles others)

pub sent_reads : OnlyReads sent_text
unfolding everything
sent_reads = query_reads sent_text (λ schema base. refl)
