-- What the texts that make tables mean.
use Rattle.std.proofs.Common.{◌≡◌, ℕ, List, Ok, refl, ap}
use Rattle.sqlite.specs.Table.{Table}
use Rattle.sqlite.specs.Schema.{Schema}
use Rattle.sqlite.specs.Command.TheVariants.{CreateTable}
use Rattle.sqlite.specs.Compile.{table_defined_by}
use Rattle.sqlite_tied.specs.Compute.{everything}
use Rattle.sqlite_syntax.specs.declared.statement.Parsed.{Parsed}
use Rattle.sqlite_resolve.specs.declared.compiled.Compiled.{Compiled}
use Rattle.sqlite_resolve.specs.Lowering.{Checked, and_then}
use Rattle.sqlite_resolve.specs.Compile.{first, compiled, planned, with_command, table_in}
use Rattle.book_statements.specs.Layout.{book_text, entry_text, outgoing_text, stock_text, advice_text, advice_line_text, orders_text, order_line_text, reservation_text, entry_rules_text, lot_expiry_text}
use Rattle.book_statements.specs.Layout.{book_layout, entry_layout, outgoing_layout, stock_layout, advice_layout, advice_line_layout, orders_layout, order_line_layout, reservation_layout, entry_rules_layout, lot_expiry_layout}
use Rattle.book_statements.specs.Layout.{first_layouts}
use Rattle.book_statements.proofs.Understood.{statement, Compiles}

abbrev pub at_first : Table → Table
at_first t = record t { tree = 0 }

-- what is compiled and what table is defined, both of what the parser reads, so that a text is
-- read once
abbrev both_of : Schema → Checked Parsed → Checked Compiled × Checked Table
both_of schema read = (
  and_then read (λ p. and_then (planned schema p) (λ plan. Ok (with_command p plan))),
  and_then read (λ p. table_in p.formats p.statement),
)

-- under a schema the text makes a table, and defines this one
pub record Makes (schema : Schema) (text : List ℕ) (table : Table) : Type 0 where
  pub both : both_of schema (first text) ≡ (Ok (statement text 0 CreateTable), Ok (at_first table))

pub compiles : (schema : Schema) (text : List ℕ) (table : Table) → Makes schema text table → Compiles schema text 0 CreateTable
unfolding compiled
compiles schema text table makes = ap (λ (b : Checked Compiled × Checked Table). b.0) makes.both

pub defines : (schema : Schema) (text : List ℕ) (table : Table) → Makes schema text table → table_defined_by text ≡ Ok (at_first table)
unfolding table_defined_by
defines schema text table makes = ap (λ (b : Checked Compiled × Checked Table). b.1) makes.both

pub book_makes : Makes (first_layouts 0 0) book_text book_layout
unfolding everything
book_makes = record { both = refl }

pub entry_makes : Makes (first_layouts 1 0) entry_text entry_layout
unfolding everything
entry_makes = record { both = refl }

pub outgoing_makes : Makes (first_layouts 2 2) outgoing_text outgoing_layout
unfolding everything
outgoing_makes = record { both = refl }

pub stock_makes : Makes (first_layouts 3 3) stock_text stock_layout
unfolding everything
stock_makes = record { both = refl }

pub advice_makes : Makes (first_layouts 4 4) advice_text advice_layout
unfolding everything
advice_makes = record { both = refl }

pub advice_line_makes : Makes (first_layouts 5 5) advice_line_text advice_line_layout
unfolding everything
advice_line_makes = record { both = refl }

pub orders_makes : Makes (first_layouts 6 6) orders_text orders_layout
unfolding everything
orders_makes = record { both = refl }

pub order_line_makes : Makes (first_layouts 7 7) order_line_text order_line_layout
unfolding everything
order_line_makes = record { both = refl }

pub reservation_makes : Makes (first_layouts 8 8) reservation_text reservation_layout
unfolding everything
reservation_makes = record { both = refl }

pub entry_rules_makes : Makes (first_layouts 9 9) entry_rules_text entry_rules_layout
unfolding everything
entry_rules_makes = record { both = refl }

pub lot_expiry_makes : Makes (first_layouts 10 9) lot_expiry_text lot_expiry_layout
unfolding everything
lot_expiry_makes = record { both = refl }
