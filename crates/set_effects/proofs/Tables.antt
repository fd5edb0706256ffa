-- Rows that are put into a depositor's page are put into its part of the table.
use Rattle.std.proofs.Common.{◌≡◌, ℕ, Bool, true, false, not, ◌&&◌, ◌||◌, List, [], ◌∷◌, refl, sym, ap, ◌∙◌, inl, inr}
use Rattle.std.specs.Prelude.{bytes_eq, fold, if◌then◌else◌}
use Rattle.std.proofs.lemmas.Bool.{cases_Bool}
use Rattle.std.proofs.lemmas.Slice.Eq.{bytes_eq-Decides}
use Rattle.definitions.specs.Bytes.{comes_before}
use Rattle.definitions.specs.Header.{Who, who_text}
use Rattle.definitions.specs.Events.{Event}
use Rattle.definitions.specs.Rows.{LotRow, running_rows}
use Rattle.definitions.specs.Tables.{Text, TableRow}
use Rattle.definitions.specs.Schema.{stock_schema, put_row as put_table_row, key_before as cells_before, key_in}
use Rattle.stock.specs.declared.steps.Change.{Change}
use Rattle.stock.specs.declared.steps.Change.TheVariants.{Stock, Advice, Order, Sent, Document}
use Rattle.stock.specs.Keyed.{key_before, row_key, put_row}
use Rattle.stock.specs.Pages.{PageFacts, IsSound}
use Rattle.stock.specs.Puts.{put, put_change}
use Rattle.stock.specs.Shows.{Shows}
use Rattle.stock.proofs.Texts.{texts_never, texts_total}
use Rattle.set_effects.specs.Tabled.{stock_row, stock_part, stock_puts, with_rows}
use Rattle.set_effects.proofs.Rowed.{rows_are}

-- The keys of rows of one depositor are in the order of their pairs.

pub last_cell : (a b : Bool) → (a || (not b && false)) ≡ a
last_cell true b = refl
last_cell false true = refl
last_cell false false = refl

pub pairs_before : (i l j m : List ℕ) → (comes_before i j || (not (comes_before j i) && (comes_before l m || (not (comes_before m l) && false)))) ≡ key_before (i, l) (j, m)
pairs_before i l j m =
    ap (λ (t : Bool). comes_before i j || (not (comes_before j i) && t)) (last_cell (comes_before l m) (comes_before m l)) ∙ by_tests (comes_before i j) (comes_before j i) refl refl
  where
    by_tests : (a b : Bool) → comes_before i j ≡ a → comes_before j i ≡ b → (comes_before i j || (not (comes_before j i) && comes_before l m)) ≡ (comes_before i j || (bytes_eq i j && comes_before l m))
    by_tests true b e f = rw e refl
    by_tests false true e f = elim (cases_Bool (bytes_eq i j)) [
      | inl s ↦
          let same = (bytes_eq-Decides i j).0 s in
          let never : comes_before j i ≡ false = ap (comes_before j) same ∙ texts_never j in
          absurd (cc (never, f))
      | inr s ↦ rw (e, f, s) refl
    ]
    by_tests false false e f =
        let s : bytes_eq i j ≡ true = (bytes_eq-Decides i j).1 (texts_total i j e f) in
        rw (e, f, s) refl

pub rows_before : (w : Who) (r q : LotRow) → cells_before (Text (who_text w) ∷ Text r.item ∷ Text r.lot ∷ []) (Text (who_text w) ∷ Text q.item ∷ Text q.lot ∷ []) ≡ key_before (row_key r) (row_key q)
rows_before w r q =
    ap (λ (t : Bool). t || (not t && (comes_before r.item q.item || (not (comes_before q.item r.item) && (comes_before r.lot q.lot || (not (comes_before q.lot r.lot) && false)))))) (texts_never (who_text w))
    ∙ pairs_before r.item r.lot q.item q.lot

-- Putting.

put_part : (w : Who) (r : LotRow) (rows : List LotRow) → stock_part w (put_row r rows) ≡ put_table_row stock_schema (stock_row w r) (stock_part w rows)
put_part w r [] = refl
put_part w r (q ∷ qs) = by_tests (key_before (row_key r) (row_key q)) (key_before (row_key q) (row_key r)) refl refl (put_part w r qs)
  where
    by_tests : (a b : Bool) → key_before (row_key r) (row_key q) ≡ a → key_before (row_key q) (row_key r) ≡ b → stock_part w (put_row r qs) ≡ put_table_row stock_schema (stock_row w r) (stock_part w qs)
        → stock_part w (put_row r (q ∷ qs)) ≡ put_table_row stock_schema (stock_row w r) (stock_part w (q ∷ qs))
    by_tests true b e f later =
        ap (λ (t : Bool). stock_part w (if t then r ∷ q ∷ qs else (if key_before (row_key q) (row_key r) then q ∷ put_row r qs else r ∷ qs))) e
        ∙ sym (ap (λ (t : Bool). if t then stock_row w r ∷ stock_part w (q ∷ qs) else (if cells_before (key_in stock_schema (stock_row w q)) (key_in stock_schema (stock_row w r)) then stock_row w q ∷ put_table_row stock_schema (stock_row w r) (stock_part w qs) else stock_row w r ∷ stock_part w qs)) (rows_before w r q ∙ e))
    by_tests false true e f later =
        (λ i. stock_part w (if e i then r ∷ q ∷ qs else (if f i then q ∷ put_row r qs else r ∷ qs)))
        ∙ ap (λ (ts : List TableRow). stock_row w q ∷ ts) later
        ∙ sym (λ i. if (rows_before w r q ∙ e) i then stock_row w r ∷ stock_part w (q ∷ qs) else (if (rows_before w q r ∙ f) i then stock_row w q ∷ put_table_row stock_schema (stock_row w r) (stock_part w qs) else stock_row w r ∷ stock_part w qs))
    by_tests false false e f later =
        (λ i. stock_part w (if e i then r ∷ q ∷ qs else (if f i then q ∷ put_row r qs else r ∷ qs)))
        ∙ sym (λ i. if (rows_before w r q ∙ e) i then stock_row w r ∷ stock_part w (q ∷ qs) else (if (rows_before w q r ∙ f) i then stock_row w q ∷ put_table_row stock_schema (stock_row w r) (stock_part w qs) else stock_row w r ∷ stock_part w qs))

puts_part : (w : Who) (cs : List Change) (p : PageFacts) → stock_part w ((fold put_change p cs).rows) ≡ with_rows (stock_part w p.rows) (stock_puts w cs)
puts_part w [] p = refl
puts_part w (Stock r ∷ cs) p = puts_part w cs (put_change p (Stock r)) ∙ ap (λ (ts : List TableRow). with_rows ts (stock_puts w cs)) (put_part w r p.rows)
puts_part w (Advice k ∷ cs) p = puts_part w cs (put_change p (Advice k))
puts_part w (Order k ∷ cs) p = puts_part w cs (put_change p (Order k))
puts_part w (Sent n f ∷ cs) p = puts_part w cs (put_change p (Sent n f))
puts_part w (Document n accepts ∷ cs) p = puts_part w cs (put_change p (Document n accepts))

-- the rows that a step changes lead from a depositor's rows of the table to those of one event more
pub stock_led : (w : Who) (p : PageFacts) (es fs : List Event) (cs : List Change) → IsSound p → Shows p es → IsSound (put cs p) → Shows (put cs p) fs
    → with_rows (stock_part w (running_rows es)) (stock_puts w cs) ≡ stock_part w (running_rows fs)
stock_led w p es fs cs sound shows next led =
    ap (λ (rows : List LotRow). with_rows (stock_part w rows) (stock_puts w cs)) (sym (rows_are p es sound shows))
    ∙ sym (puts_part w cs p)
    ∙ ap (stock_part w) (rows_are (put cs p) fs next led)
