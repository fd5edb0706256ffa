-- Proper changes of a depositor's page, in turn, in all tables.
use Rattle.std.proofs.Common.{◌≡◌, ℕ, Bool, List, [], ◌∷◌, ◌++◌, map, refl, ap, ◌∙◌, Option, Some, None}
use Rattle.std.specs.Prelude.{fold, flat_map, codes, if◌then◌else◌}
use Rattle.std.proofs.lemmas.List.Sums.{fold-append}
use Rattle.definitions.specs.Header.{Who, who_text}
use Rattle.definitions.specs.Rows.{state_text}
use Rattle.definitions.specs.Page.{PageAdvice, PageOrder}
use Rattle.definitions.specs.Tables.{Text, TableRow, AllTables, stock_cells, expiry_cells, advice_cells, advice_line_cells, orders_cells, order_line_cells, reservation_cells}
use Rattle.definitions.specs.Schema.{put_row, stock_schema, advice_schema, advice_line_schema, orders_schema, order_line_schema, reservation_schema, lot_expiry_schema}
use Rattle.definitions.specs.Changes as tables
use Rattle.definitions.specs.Changes.{changed, changed_by, with_state}
use Rattle.stock.specs.Keyed.{put_advice, put_order}
use Rattle.stock.specs.Pages.{PageFacts, AreSorted, advice_at, order_at}
use Rattle.stock.specs.Puts.{put_change}
use Rattle.stock.specs.Functions.{function_text}
use Rattle.stock.specs.Steps.{with_sent}
use Rattle.stock.specs.declared.steps.Change.{Change}
use Rattle.stock.specs.declared.steps.Change.TheVariants.{Stock, Advice, Order, Sent, Document}
use Rattle.stock.proofs.KeyLemmas.{put_sorted, advices_put_sorted, orders_put_sorted, sent_sorted, said_sorted}
use Rattle.set_effects.specs.Proper.{IsProperAdvice, IsProperOrder, IsProper, AreProper}
use Rattle.set_effects.specs.Tabled.{puts_into, table_changes_of, table_changes}
use Rattle.set_effects.proofs.TableSteps.{framed, eleven, Others, AreBeside, of_page, stock_part, expiries_part, advice_part, advice_lines_opened, advice_lines_kept, orders_part, order_lines_opened, order_lines_kept, reservations_opened, reservations_freed}

-- Rows that are put in turn.

advice_lines_put : (b e o s a al d dl r er le : List TableRow) (w : Who) (rows : List TableRow) → changed_by (eleven b e o s a al d dl r er le) (puts_into (codes "advice_line") w rows)
    ≡ eleven b e o s a (fold (λ (U : List TableRow) (q : TableRow). put_row advice_line_schema (Text (who_text w) ∷ q) U) al rows) d dl r er le
advice_lines_put b e o s a al d dl r er le w [] = refl
advice_lines_put b e o s a al d dl r er le w (q ∷ qs) = advice_lines_put b e o s a (put_row advice_line_schema (Text (who_text w) ∷ q) al) d dl r er le w qs

order_lines_put : (b e o s a al d dl r er le : List TableRow) (w : Who) (rows : List TableRow) → changed_by (eleven b e o s a al d dl r er le) (puts_into (codes "order_line") w rows)
    ≡ eleven b e o s a al d (fold (λ (U : List TableRow) (q : TableRow). put_row order_line_schema (Text (who_text w) ∷ q) U) dl rows) r er le
order_lines_put b e o s a al d dl r er le w [] = refl
order_lines_put b e o s a al d dl r er le w (q ∷ qs) = order_lines_put b e o s a al d (put_row order_line_schema (Text (who_text w) ∷ q) dl) r er le w qs

reservations_put : (b e o s a al d dl r er le : List TableRow) (w : Who) (rows : List TableRow) → changed_by (eleven b e o s a al d dl r er le) (puts_into (codes "reservation") w rows)
    ≡ eleven b e o s a al d dl (fold (λ (U : List TableRow) (q : TableRow). put_row reservation_schema (Text (who_text w) ∷ q) U) r rows) er le
reservations_put b e o s a al d dl r er le w [] = refl
reservations_put b e o s a al d dl r er le w (q ∷ qs) = reservations_put b e o s a al d dl (put_row reservation_schema (Text (who_text w) ∷ q) r) er le w qs

expiries_put : (b e o s a al d dl r er le : List TableRow) (w : Who) (rows : List TableRow) → changed_by (eleven b e o s a al d dl r er le) (puts_into (codes "lot_expiry") w rows)
    ≡ eleven b e o s a al d dl r er (fold (λ (U : List TableRow) (q : TableRow). put_row lot_expiry_schema (Text (who_text w) ∷ q) U) le rows)
expiries_put b e o s a al d dl r er le w [] = refl
expiries_put b e o s a al d dl r er le w (q ∷ qs) = expiries_put b e o s a al d dl r er (put_row lot_expiry_schema (Text (who_text w) ∷ q) le) w qs

-- Lists of a page stay in order.

pub sorted_with : (p : PageFacts) (c : Change) → AreSorted p → AreSorted (put_change p c)
sorted_with p (Stock r) sorted = record { rows = put_sorted r p.rows sorted.rows; advices = sorted.advices; orders = sorted.orders; documents = sorted.documents }
sorted_with p (Advice k) sorted = record { rows = sorted.rows; advices = advices_put_sorted k p.advices (put_advice k p.advices) refl sorted.advices; orders = sorted.orders; documents = sorted.documents }
sorted_with p (Order k) sorted = record { rows = sorted.rows; advices = sorted.advices; orders = orders_put_sorted k p.orders (put_order k p.orders) refl sorted.orders; documents = sorted.documents }
sorted_with p (Sent n f) sorted = record { rows = sorted.rows; advices = sorted.advices; orders = sorted.orders; documents = sent_sorted n (function_text f) p.documents (with_sent n (function_text f) p.documents) refl sorted.documents }
sorted_with p (Document n accepts) sorted = record { rows = sorted.rows; advices = sorted.advices; orders = sorted.orders; documents = said_sorted n accepts p.documents sorted.documents }

pub sorted_with_all : (cs : List Change) (p : PageFacts) → AreSorted p → AreSorted (fold put_change p cs)
sorted_with_all [] p sorted = sorted
sorted_with_all (c ∷ cs) p sorted = sorted_with_all cs (put_change p c) (sorted_with p c sorted)

-- One change.

-- the outgoing rows, where a document is decided
abbrev pub said_in : Who → Change → List TableRow → List TableRow
said_in w (Stock row) o = o
said_in w (Advice k) o = o
said_in w (Order k) o = o
said_in w (Sent n function) o = o
said_in w (Document n accepts) o = map (with_state (who_text w) n (state_text (Some accepts))) o

module _ (b e er : List TableRow) (w : Who) (x : Others) (beside : AreBeside (who_text w) x) where
  step_advice : (o : List TableRow) (p : PageFacts) (k : PageAdvice) → AreSorted p → IsProper p (Advice k)
      → changed_by (of_page b e o er (who_text w) x p) (table_changes_of w (Advice k)) ≡ of_page b e o er (who_text w) x (put_change p (Advice k))
  step_advice o p k sorted proper = by (advice_at k.shipment p.advices) refl proper
    where
      t : List ℕ
      t = who_text w

      put : List TableRow
      put = put_row advice_schema (Text (who_text w) ∷ advice_cells k) (framed (who_text w) x.advice (map advice_cells p.advices))

      tail : Bool → AllTables
      tail v = changed_by (eleven b e o (framed (who_text w) x.stock (map stock_cells p.rows)) put (framed (who_text w) x.advice_line (flat_map advice_line_cells p.advices))
          (framed (who_text w) x.orders (map orders_cells p.orders)) (framed (who_text w) x.order_line (flat_map order_line_cells p.orders)) (framed (who_text w) x.reservation (flat_map reservation_cells p.orders))
          er (framed (who_text w) x.lot_expiry (flat_map expiry_cells p.rows)))
          (if v then puts_into (codes "advice_line") w (advice_line_cells k) else [])

      by : (known : Option PageAdvice) → advice_at k.shipment p.advices ≡ known → IsProperAdvice known k
          → tail k.is_open ≡ of_page b e o er (who_text w) x (put_change p (Advice k))
      by None none opened =
          ap tail opened
          ∙ advice_lines_put b e o (framed t x.stock (map stock_cells p.rows)) put (framed t x.advice_line (flat_map advice_line_cells p.advices))
          (framed t x.orders (map orders_cells p.orders)) (framed t x.order_line (flat_map order_line_cells p.orders)) (framed t x.reservation (flat_map reservation_cells p.orders))
          er (framed t x.lot_expiry (flat_map expiry_cells p.rows)) w (advice_line_cells k)
          ∙ (λ i. eleven b e o (framed t x.stock (map stock_cells p.rows)) (advice_part t x.advice k p.advices beside.advice i) (advice_lines_opened t x.advice_line k p.advices beside.advice_line sorted.advices none i)
          (framed t x.orders (map orders_cells p.orders)) (framed t x.order_line (flat_map order_line_cells p.orders)) (framed t x.reservation (flat_map reservation_cells p.orders))
          er (framed t x.lot_expiry (flat_map expiry_cells p.rows)))
      by (Some a) some closed =
          ap tail (ap (λ (z : PageAdvice). z.is_open) closed)
          ∙ (λ i. eleven b e o (framed t x.stock (map stock_cells p.rows)) (advice_part t x.advice k p.advices beside.advice i) (advice_lines_kept t x.advice_line k a p.advices sorted.advices some closed i)
          (framed t x.orders (map orders_cells p.orders)) (framed t x.order_line (flat_map order_line_cells p.orders)) (framed t x.reservation (flat_map reservation_cells p.orders))
          er (framed t x.lot_expiry (flat_map expiry_cells p.rows)))

  step_order : (o : List TableRow) (p : PageFacts) (k : PageOrder) → AreSorted p → IsProper p (Order k)
      → changed_by (of_page b e o er (who_text w) x p) (table_changes_of w (Order k)) ≡ of_page b e o er (who_text w) x (put_change p (Order k))
  step_order o p k sorted proper = by (order_at k.number p.orders) refl proper
    where
      t : List ℕ
      t = who_text w

      put : List TableRow
      put = put_row orders_schema (Text (who_text w) ∷ orders_cells k) (framed (who_text w) x.orders (map orders_cells p.orders))

      begun : List TableRow → List TableRow → AllTables
      begun dl r = eleven b e o (framed (who_text w) x.stock (map stock_cells p.rows)) (framed (who_text w) x.advice (map advice_cells p.advices)) (framed (who_text w) x.advice_line (flat_map advice_line_cells p.advices)) put dl r
          er (framed (who_text w) x.lot_expiry (flat_map expiry_cells p.rows))

      tail : Bool → AllTables
      tail v = changed_by (begun (framed (who_text w) x.order_line (flat_map order_line_cells p.orders)) (framed (who_text w) x.reservation (flat_map reservation_cells p.orders)))
          (if v then puts_into (codes "order_line") w (order_line_cells k) ++ puts_into (codes "reservation") w (reservation_cells k) else tables.Frees (who_text w) k.number ∷ [])

      by : (known : Option PageOrder) → order_at k.number p.orders ≡ known → IsProperOrder known k
          → tail k.is_open ≡ of_page b e o er (who_text w) x (put_change p (Order k))
      by None none opened =
          let dl = framed t x.order_line (flat_map order_line_cells p.orders) in
          let r = framed t x.reservation (flat_map reservation_cells p.orders) in
          let more = fold (λ (U : List TableRow) (q : TableRow). put_row order_line_schema (Text t ∷ q) U) dl (order_line_cells k) in
          ap tail opened.0
          ∙ fold-append changed (begun dl r) (puts_into (codes "order_line") w (order_line_cells k)) (puts_into (codes "reservation") w (reservation_cells k))
          ∙ ap (λ (ts : AllTables). changed_by ts (puts_into (codes "reservation") w (reservation_cells k)))
          (order_lines_put b e o (framed t x.stock (map stock_cells p.rows)) (framed t x.advice (map advice_cells p.advices)) (framed t x.advice_line (flat_map advice_line_cells p.advices)) put dl r
          er (framed t x.lot_expiry (flat_map expiry_cells p.rows)) w (order_line_cells k))
          ∙ reservations_put b e o (framed t x.stock (map stock_cells p.rows)) (framed t x.advice (map advice_cells p.advices)) (framed t x.advice_line (flat_map advice_line_cells p.advices)) put more r
          er (framed t x.lot_expiry (flat_map expiry_cells p.rows)) w (reservation_cells k)
          ∙ (λ i. eleven b e o (framed t x.stock (map stock_cells p.rows)) (framed t x.advice (map advice_cells p.advices)) (framed t x.advice_line (flat_map advice_line_cells p.advices))
          (orders_part t x.orders k p.orders beside.orders i) (order_lines_opened t x.order_line k p.orders beside.order_line sorted.orders none i) (reservations_opened t x.reservation k p.orders beside.reservation sorted.orders none opened.1 i)
          er (framed t x.lot_expiry (flat_map expiry_cells p.rows)))
      by (Some known) some closed =
          ap tail (ap (λ (z : PageOrder). z.is_open) closed)
          ∙ (λ i. eleven b e o (framed t x.stock (map stock_cells p.rows)) (framed t x.advice (map advice_cells p.advices)) (framed t x.advice_line (flat_map advice_line_cells p.advices))
          (orders_part t x.orders k p.orders beside.orders i) (order_lines_kept t x.order_line k known p.orders sorted.orders some closed i) (reservations_freed t x.reservation k known p.orders beside.reservation sorted.orders some closed i)
          er (framed t x.lot_expiry (flat_map expiry_cells p.rows)))

  step : (o : List TableRow) (p : PageFacts) (c : Change) → AreSorted p → IsProper p c
      → changed_by (of_page b e o er (who_text w) x p) (table_changes_of w c) ≡ of_page b e (said_in w c o) er (who_text w) x (put_change p c)
  step o p (Stock r) sorted proper =
      let t = who_text w in
      let put = put_row stock_schema (Text t ∷ stock_cells r) (framed t x.stock (map stock_cells p.rows)) in
      expiries_put b e o put (framed t x.advice (map advice_cells p.advices)) (framed t x.advice_line (flat_map advice_line_cells p.advices))
      (framed t x.orders (map orders_cells p.orders)) (framed t x.order_line (flat_map order_line_cells p.orders)) (framed t x.reservation (flat_map reservation_cells p.orders))
      er (framed t x.lot_expiry (flat_map expiry_cells p.rows)) w (expiry_cells r)
      ∙ (λ i. eleven b e o (stock_part t x.stock r p.rows beside.stock i) (framed t x.advice (map advice_cells p.advices)) (framed t x.advice_line (flat_map advice_line_cells p.advices))
      (framed t x.orders (map orders_cells p.orders)) (framed t x.order_line (flat_map order_line_cells p.orders)) (framed t x.reservation (flat_map reservation_cells p.orders))
      er (expiries_part t x.lot_expiry r p.rows beside.lot_expiry sorted.rows proper i))
  step o p (Advice k) sorted proper = step_advice o p k sorted proper
  step o p (Order k) sorted proper = step_order o p k sorted proper
  step o p (Sent n f) sorted proper = refl
  step o p (Document n accepts) sorted proper = refl

  -- In turn.

  pub steps : (cs : List Change) (o : List TableRow) (p : PageFacts) → AreSorted p → AreProper p cs
      → changed_by (of_page b e o er (who_text w) x p) (table_changes w cs)
      ≡ of_page b e (fold (λ (U : List TableRow) (c : Change). said_in w c U) o cs) er (who_text w) x (fold put_change p cs)
  steps [] o p sorted proper = refl
  steps (c ∷ cs) o p sorted proper =
      fold-append changed (of_page b e o er (who_text w) x p) (table_changes_of w c) (table_changes w cs)
      ∙ ap (λ (ts : AllTables). changed_by ts (table_changes w cs)) (step o p c sorted proper.0)
      ∙ steps cs (said_in w c o) (put_change p c) (sorted_with p c sorted) proper.1
