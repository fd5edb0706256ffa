-- The texts that show running rows, and what they mean.
use Rattle.std.proofs.Common.{◌≡◌, codes, List, ℕ, [], ◌∷◌, refl, None, pos, negsuc, false}
use Rattle.sqlite.specs.declared.types.Value.TheVariants.{Int}
use Rattle.sqlite.specs.Command.TheVariants.{Select}
use Rattle.sqlite.specs.Term.{Term, lit, col, op2}
use Rattle.sqlite_sql.specs.declared.ops.BinaryOp.TheVariants.{Compare}
use Rattle.sqlite_sql.specs.declared.ops.CompareOp.TheVariants.{Eq}
use Rattle.sqlite.specs.Collation.TheVariants.{Binary}
use Rattle.sqlite.specs.Query.{Query, inner, end}
use Rattle.sqlite_value.specs.Keys.{ascending}
use Rattle.sqlite_value.specs.declared.keys.Key.{Key}
use Rattle.sqlite_tied.specs.Compute.{everything}
use Rattle.sqlite.specs.Listing.{understood, reads_listing}
use Rattle.sqlite.proofs.Callers.{command_of}
use Rattle.book_statements.specs.Asking.{OnlyReads}
use Rattle.book_statements.specs.Layout.{Others, beside}
use Rattle.book_statements.proofs.Understood.{Compiles, query_is}
use Rattle.book_statements.proofs.WritingTexts.{where_key}
use Rattle.book_statements.proofs.Selects.{query_reads}

-- a column of the row, from the least to the greatest
abbrev pub rising : ℕ → Term × Key
rising at = (col 1 at, ascending Binary)

-- the depositor's rows of a table, these columns of them, in this order
abbrev pub shown_where : ℕ → List Term → List (Term × Key) → Query
shown_where tree project order = record {
  from = inner tree end;
  filter = where_key 0 1;
  group = None;
  project = project;
  distinct = false;
  collations = [];
  order = order;
  limit = lit (Int (negsuc 0));
  offset = lit (Int (pos 0));
}

-- What is shown of a lot, what of its date, and in which order both are.

abbrev pub lots_columns : List Term
lots_columns = col 1 2 ∷ col 1 3 ∷ col 1 4 ∷ col 1 5 ∷ col 1 6 ∷ col 1 7 ∷ col 1 8 ∷ []

abbrev pub lots_names : List (List ℕ)
lots_names = codes "item" ∷ codes "lot" ∷ codes "since" ∷ codes "expected" ∷ codes "on_hand" ∷ codes "reserved" ∷ codes "shipped" ∷ []

abbrev pub dates_columns : List Term
dates_columns = col 1 2 ∷ col 1 3 ∷ col 1 4 ∷ []

abbrev pub dates_names : List (List ℕ)
dates_names = codes "item" ∷ codes "lot" ∷ codes "expiry" ∷ []

abbrev pub pair_order : List (Term × Key)
pair_order = rising 2 ∷ rising 3 ∷ []

-- All lots of a depositor.

abbrev pub all_lots_text : List ℕ
all_lots_text = codes "SELECT item, lot, since, expected, on_hand, reserved, shipped FROM stock WHERE who = ?1 ORDER BY item, lot"

abbrev pub all_lots_query : Query
all_lots_query = shown_where 6 lots_columns pair_order

all_lots_compiles : (others : Others) → Compiles (beside others) all_lots_text 1 (Select (record { lets = []; body = all_lots_query }) lots_names)
unfolding everything
all_lots_compiles others = refl

pub all_lots_is : (others : Others) → (command_of (understood (beside others) all_lots_text) ≡ Select (record { lets = []; body = all_lots_query }) lots_names) × (reads_listing (beside others) all_lots_text ≡ false)
all_lots_is others = query_is (beside others) all_lots_text 1 _ _ (all_lots_compiles others)

pub all_lots_reads : OnlyReads all_lots_text
unfolding everything
all_lots_reads = query_reads all_lots_text (λ schema base. refl)

-- And their dates.

abbrev pub all_dates_text : List ℕ
all_dates_text = codes "SELECT item, lot, expiry FROM lot_expiry WHERE who = ?1 ORDER BY item, lot"

abbrev pub all_dates_query : Query
all_dates_query = shown_where 19 dates_columns pair_order

pub all_dates_reads : OnlyReads all_dates_text
unfolding everything
all_dates_reads = query_reads all_dates_text (λ schema base. refl)

-- What went out.

abbrev pub outbox_text : List ℕ
outbox_text = codes "SELECT n, kind, content, state FROM outgoing WHERE who = ?1 ORDER BY n"

abbrev pub outbox_columns : List Term
outbox_columns = col 1 2 ∷ col 1 3 ∷ col 1 4 ∷ col 1 5 ∷ []

abbrev pub outbox_order : List (Term × Key)
outbox_order = rising 2 ∷ []

abbrev pub outbox_query : Query
outbox_query = shown_where 4 outbox_columns outbox_order

abbrev pub outbox_names : List (List ℕ)
outbox_names = codes "n" ∷ codes "kind" ∷ codes "content" ∷ codes "state" ∷ []

outbox_compiles : (others : Others) → Compiles (beside others) outbox_text 1 (Select (record { lets = []; body = outbox_query }) outbox_names)
unfolding everything
outbox_compiles others = refl

pub outbox_is : (others : Others) → (command_of (understood (beside others) outbox_text) ≡ Select (record { lets = []; body = outbox_query }) outbox_names) × (reads_listing (beside others) outbox_text ≡ false)
outbox_is others = query_is (beside others) outbox_text 1 _ _ (outbox_compiles others)

pub outbox_reads : OnlyReads outbox_text
unfolding everything
outbox_reads = query_reads outbox_text (λ schema base. refl)

-- Whether a depositor has an entry.

abbrev pub has_text : List ℕ
has_text = codes "SELECT seq FROM entry WHERE who = ?1 LIMIT 1"

abbrev pub has_query : Query
has_query = record {
  from = inner 1 end;
  filter = op2 (Compare Eq Binary) (col 1 2) (col 0 0) ∷ [];
  group = None;
  project = col 1 0 ∷ [];
  distinct = false;
  collations = [];
  order = [];
  limit = lit (Int (pos 1));
  offset = lit (Int (pos 0));
}

has_compiles : (others : Others) → Compiles (beside others) has_text 1 (Select (record { lets = []; body = has_query }) (codes "seq" ∷ []))
unfolding everything
has_compiles others = refl

pub has_is : (others : Others) → (command_of (understood (beside others) has_text) ≡ Select (record { lets = []; body = has_query }) (codes "seq" ∷ [])) × (reads_listing (beside others) has_text ≡ false)
has_is others = query_is (beside others) has_text 1 _ _ (has_compiles others)

pub has_reads : OnlyReads has_text
unfolding everything
has_reads = query_reads has_text (λ schema base. refl)
