-- What the page of a depositor lists fits the rules of its register: so many lines of an advice at
-- most, quantities within their limit, and numbers of entries.
use Rattle.std.specs.Prelude.{◌≡◌, ◌≤◌, ◌+◌, ◌^◌, ℕ, Bool, true, ◌&&◌, length, nat_le, nat_lt}
use Rattle.std.specs.List.{list_all}
use Rattle.definitions.specs.declared.rules.Rules.{Rules}
use Rattle.definitions.specs.declared.widths.TheConstants.{QUANTITY_COLUMN}
use Rattle.definitions.specs.Limits.{most_lines, most_quantity, most_entries}
use Rattle.definitions.specs.Means.{Line}
use Rattle.definitions.specs.Events.{Reserved}
use Rattle.definitions.specs.Rows.{LotRow}
use Rattle.definitions.specs.Page.{Page, PageAdvice, PageLine, PageOrder}

abbrev pub is_fitting_line : Rules → Line → Bool
is_fitting_line r l = nat_le l.quantity (most_quantity r)

-- since is the number of an entry, or 0
abbrev pub is_fitting_row : LotRow → Bool
is_fitting_row row = nat_le row.since (most_entries + 1)

abbrev pub is_fitting_advice : Rules → PageAdvice → Bool
is_fitting_advice r k = nat_le (length k.lines) (most_lines r)
    && list_all (is_fitting_line r) k.lines

abbrev pub is_fitting_ordered : Rules → PageLine → Bool
is_fitting_ordered r l = nat_le l.quantity (most_quantity r)

abbrev pub is_fitting_order : Rules → PageOrder → Bool
is_fitting_order r k = list_all (is_fitting_ordered r) k.lines
    && list_all (is_fitting_line r) k.reserved

pub record IsFitting (r : Rules) (P : Page) : Type 0 where
  pub rows : list_all is_fitting_row P.rows ≡ true
  pub advices : list_all (is_fitting_advice r) P.advices ≡ true
  pub orders : list_all (is_fitting_order r) P.orders ≡ true
  pub entries : P.entries ≤ most_entries

-- a quantity has the places of the picking sheet's column
abbrev pub has_column : ℕ → Bool
has_column n = nat_lt n (10 ^ QUANTITY_COLUMN)

-- so have those of an order's lines, and of what was reserved for it
abbrev pub has_columns : Reserved → Bool
has_columns o = list_all (λ l. has_column l.quantity) o.order.lines
    && list_all (λ l. has_column l.quantity) o.shares
