-- Rules 1 as they are by themselves: each part of the definitions that rules decide, told without
-- the others.
use Rattle.std.specs.Prelude.{◌≡◌, ◌==◌, ℕ, Bool, ◌&&◌, ◌||◌, List, [], ◌∷◌, Option, is_some, map, flat_map, nat_lt, codes, decimal}
use Rattle.definitions.specs.declared.rules.Rules.TheVariants.{One}
use Rattle.definitions.specs.Bytes.{comes_before, padded, right_aligned}
use Rattle.definitions.specs.Header.{Who}
use Rattle.definitions.specs.Lists.{first_present, in_order}
use Rattle.definitions.specs.Limits.{most_lines, most_quantity, most_item, most_lot}
use Rattle.definitions.specs.Elements.{quantity_digits, advice_total_digits, order_total_digits}
use Rattle.definitions.specs.Faults.{SetFault}
use Rattle.definitions.specs.Means.{Advice}
use Rattle.definitions.specs.Register.{Entry}
use Rattle.definitions.specs.Events.{Event, since, fault_where, trade_fault, advice_under, repeated_pair, wrong_advice_total}
use Rattle.definitions.specs.Allotment.{lots_named}
use Rattle.definitions.specs.Rows.{StockRow}
use Rattle.definitions.specs.Reports.{columns, csv_record}
use Rattle.definitions.specs.Tables.{AllTables, Number, Text, entry_table, outgoing_table, stock_table, advice_table, advice_line_table, orders_table, order_line_table, reservation_table}

-- lines of a set or a sheet, the quantity of a line, and the digits of that and of the sums of a
-- 943 and a 940
pub record HasFirstLimits : Type 0 where
  pub lines : most_lines One ≡ 99
  pub quantity : most_quantity One ≡ 99999
  pub quantity_width : quantity_digits One ≡ 5
  pub advice_width : advice_total_digits One ≡ 7
  pub order_width : order_total_digits One ≡ 7

-- the lots of an item by their first counts, and those of one count by their bytes
abbrev pub since_before : ℕ × List ℕ → ℕ × List ℕ → Bool
since_before a b = nat_lt a.0 b.0 || (a.0 == b.0 && comes_before a.1 b.1)

abbrev pub lots_since : List Event → List ℕ → List (List ℕ)
lots_since es item = map (λ (c : ℕ × List ℕ). c.1)
    (in_order since_before (map (λ lot. (since es item lot, lot)) (flat_map (lots_named item) es)))

-- the trade fault of a 943: a shipment number of an earlier advice, a repeated pair, a W03 that
-- isn't the sum
abbrev pub undated_fault : List Event → Advice → Option SetFault
undated_fault es a = first_present
    (fault_where (is_some (advice_under a.shipment es)) (trade_fault (codes "W06") 2 4)
    ∷ repeated_pair a
    ∷ wrong_advice_total a
    ∷ [])

-- a line of the stock report: item, lot and four amounts
abbrev pub undated_line : StockRow → List ℕ
undated_line row = columns
    (padded most_item row.item ∷ padded most_lot row.lot
    ∷ map (right_aligned 15) (decimal row.expected ∷ decimal row.on_hand ∷ decimal row.reserved
    ∷ decimal row.shipped ∷ []))

-- a record of the export: the same
abbrev pub undated_record : StockRow → List ℕ
undated_record row = csv_record
    (row.item ∷ row.lot ∷ decimal row.expected ∷ decimal row.on_hand ∷ decimal row.reserved
    ∷ decimal row.shipped ∷ [])

-- the nine tables of version 1
abbrev pub nine_tables : Who → List Entry → AllTables
nine_tables W L =
    (codes "book", (Number 1 ∷ Text W.qualifier ∷ Text W.id ∷ []) ∷ [])
    ∷ (codes "entry", entry_table L)
    ∷ (codes "outgoing", outgoing_table W L)
    ∷ (codes "stock", stock_table L)
    ∷ (codes "advice", advice_table L)
    ∷ (codes "advice_line", advice_line_table L)
    ∷ (codes "orders", orders_table L)
    ∷ (codes "order_line", order_line_table L)
    ∷ (codes "reservation", reservation_table L)
    ∷ []
