-- What each text leads to, run on the book's tables.
use Rattle.std.proofs.Common.{◌≡◌, ℕ, pos, List, [], ◌∷◌, codes, Bool, Option, Some, None, Ok, refl, ap, subst, ◌∙◌}
use Rattle.sqlite.specs.declared.types.Value.TheVariants as value
use Rattle.sqlite.specs.Kind.TheVariants as kind
use Rattle.sqlite.specs.Cast.{cast}
use Rattle.sqlite.specs.State.{State, Executes}
use Rattle.definitions.specs.Means.{Address}
use Rattle.definitions.specs.Rows.{LotRow, state_text}
use Rattle.definitions.specs.Page.{PageOrder}
use Rattle.definitions.specs.Tables.{Number, Text, Blob, TableRow, flag, text_or_null, address_cells, stock_cells, orders_cells}
use Rattle.definitions.specs.Changes.{Puts, SetsState as Sets, Frees}
use Rattle.book_statements.specs.Held.{values, value_of}
use Rattle.book_statements.specs.Layout.{book_trees}
use Rattle.book_statements.specs.Leading.{Leads, Keeps}
use Rattle.book_statements.specs.declared.names.TableName.{TableName}
use Rattle.book_statements.specs.declared.names.TableName.TheVariants as table
use Rattle.book_statements.specs.Standing.{ByColumns, keying_of, schema_of, tree_of, width_of, Filled, HeldAs, OrderedAs}
use Rattle.book_statements.specs.Steps.{AreOutgoing, AreKeyed, PutByKey, WritesInto}
use Rattle.book_statements.proofs.WritingTexts.{put_stock_text, put_advice_text, put_orders_text, put_expiry_text, insert_advice_text, insert_advice_line_text, insert_orders_text, insert_order_line_text, insert_reservation_text, insert_entry_text, insert_rules_text, insert_outgoing_text, set_state_text, free_text}
use Rattle.book_statements.proofs.Upserts.{puts_stock, puts_advice, puts_orders, puts_expiry}
use Rattle.book_statements.proofs.NewRows.{inserts_advice, inserts_advice_line, inserts_orders, inserts_order_line, inserts_reservation}
use Rattle.book_statements.proofs.Inserts.{inserts_entry, inserts_rules, inserts_outgoing}
use Rattle.book_statements.proofs.Stating.{sets_state}
use Rattle.book_statements.proofs.Freeing.{frees}
use Rattle.book_statements.proofs.HoldsLemmas.{are_keyed}
use Rattle.book_statements.proofs.LeadsLemmas.{leads_put, leads_state, leads_free}

module _ (old new : State) (count : ℕ) where
  -- a table's rows as they are stored
  keyed : (t : TableName) → keying_of t ≡ ByColumns → (f : Filled) → Keeps f old.now → AreKeyed (width_of t) (book_trees old.now (tree_of t))
  keyed t is f k = are_keyed (schema_of t) (width_of t) (f t) (book_trees old.now (tree_of t))
      (subst (λ g. OrderedAs g (schema_of t) (width_of t) (f t)) is (k.ordered.each t)) (subst (λ g. HeldAs g (f t) (book_trees old.now (tree_of t))) is (k.rows t))

  pub stock_led : (who : List ℕ) (r : LotRow) → Executes put_stock_text (values (Text who ∷ stock_cells r)) old new (Ok count)
      → Leads (Puts (codes "stock") (Text who ∷ stock_cells r) ∷ []) old.now new.now
  stock_led who r h = λ f k. leads_put table.Stock (Text who ∷ stock_cells r) f old.now new.now (record { key = refl; cells = refl }) tt k
      (puts_stock who r.item r.lot (pos r.since) (pos r.expected) (pos r.on_hand) (pos r.reserved) (pos r.shipped) old new count k.schema k.sound
      (keyed table.Stock refl f k) h)

  pub advice_line_led : (who shipment : List ℕ) (line : ℕ) (item lot : List ℕ) (quantity : ℕ) → Executes insert_advice_line_text (values (Text who ∷ Text shipment ∷ Number line ∷ Text item ∷ Text lot ∷ Number quantity ∷ [])) old new (Ok count)
      → Leads (Puts (codes "advice_line") (Text who ∷ Text shipment ∷ Number line ∷ Text item ∷ Text lot ∷ Number quantity ∷ []) ∷ []) old.now new.now
  advice_line_led who shipment line item lot quantity h = λ f k. leads_put table.AdviceLine (Text who ∷ Text shipment ∷ Number line ∷ Text item ∷ Text lot ∷ Number quantity ∷ []) f old.now new.now (record { key = refl; cells = refl }) tt k
      (inserts_advice_line who shipment (pos line) item lot (pos quantity) old new count k.schema
      (keyed table.AdviceLine refl f k) h)

  pub reservation_led : (who order item lot : List ℕ) (quantity : ℕ) → Executes insert_reservation_text (values (Text who ∷ Text order ∷ Text item ∷ Text lot ∷ Number quantity ∷ [])) old new (Ok count)
      → Leads (Puts (codes "reservation") (Text who ∷ Text order ∷ Text item ∷ Text lot ∷ Number quantity ∷ []) ∷ []) old.now new.now
  reservation_led who order item lot quantity h = λ f k. leads_put table.Reservation (Text who ∷ Text order ∷ Text item ∷ Text lot ∷ Number quantity ∷ []) f old.now new.now (record { key = refl; cells = refl }) tt k
      (inserts_reservation who order item lot (pos quantity) old new count k.schema
      (keyed table.Reservation refl f k) h)

  pub expiry_led : (who item lot expiry : List ℕ) → Executes put_expiry_text (values (Text who ∷ Text item ∷ Text lot ∷ Text expiry ∷ [])) old new (Ok count)
      → Leads (Puts (codes "lot_expiry") (Text who ∷ Text item ∷ Text lot ∷ Text expiry ∷ []) ∷ []) old.now new.now
  expiry_led who item lot expiry h = λ f k. leads_put table.LotExpiry (Text who ∷ Text item ∷ Text lot ∷ Text expiry ∷ []) f old.now new.now (record { key = refl; cells = refl }) tt k
      (puts_expiry who item lot expiry old new count k.schema k.sound
      (keyed table.LotExpiry refl f k) h)

  advice_by : (who shipment order : List ℕ) (is_open : ℕ)
      → ((f : Filled) → Keeps f old.now → WritesInto 8 (PutByKey 2 (values (Text who ∷ Text shipment ∷ Text order ∷ Number is_open ∷ []))) old.now new.now)
      → Leads (Puts (codes "advice") (Text who ∷ Text shipment ∷ Text order ∷ Number is_open ∷ []) ∷ []) old.now new.now
  advice_by who shipment order is_open writes = λ f k. leads_put table.Advice (Text who ∷ Text shipment ∷ Text order ∷ Number is_open ∷ []) f old.now new.now (record { key = refl; cells = refl }) tt k (writes f k)

  pub advice_led : (who shipment order : List ℕ) (is_open : ℕ) → Executes put_advice_text (values (Text who ∷ Text shipment ∷ Text order ∷ Number is_open ∷ [])) old new (Ok count)
      → Leads (Puts (codes "advice") (Text who ∷ Text shipment ∷ Text order ∷ Number is_open ∷ []) ∷ []) old.now new.now
  advice_led who shipment order is_open h = advice_by who shipment order is_open (λ f k. puts_advice who shipment order (pos is_open) old new count k.schema k.sound (keyed table.Advice refl f k) h)

  pub advice_added : (who shipment order : List ℕ) (is_open : ℕ) → Executes insert_advice_text (values (Text who ∷ Text shipment ∷ Text order ∷ Number is_open ∷ [])) old new (Ok count)
      → Leads (Puts (codes "advice") (Text who ∷ Text shipment ∷ Text order ∷ Number is_open ∷ []) ∷ []) old.now new.now
  advice_added who shipment order is_open h = advice_by who shipment order is_open (λ f k. inserts_advice who shipment order (pos is_open) old new count k.schema (keyed table.Advice refl f k) h)

  -- a text or NULL is kept by a column of texts
  kept_text : (t : Option (List ℕ)) → cast kind.Text (value_of (text_or_null t)) ≡ value_of (text_or_null t)
  kept_text None = refl
  kept_text (Some t) = refl

  abbrev order_row : List ℕ → List ℕ → ℕ → Option (List ℕ) → List ℕ → List ℕ → List ℕ → TableRow
  order_row who order is_open name one two place = Text who ∷ Text order ∷ Number is_open ∷ text_or_null name ∷ Text one ∷ Text two ∷ Text place ∷ []

  -- by a text that puts a row of `orders`
  module _ (text : List ℕ)
      (writes : (who order : List ℕ) (is_open : ℕ) (name : Option (List ℕ)) (one two place : List ℕ) (f : Filled) → Keeps f old.now
      → Executes text (values (order_row who order is_open name one two place)) old new (Ok count)
      → WritesInto 12 (PutByKey 2 (values (order_row who order is_open name one two place))) old.now new.now) where
    orders_by : (who order : List ℕ) (is_open : ℕ) (name : Option (List ℕ)) (one two place : List ℕ) → Executes text (values (order_row who order is_open name one two place)) old new (Ok count)
        → Leads (Puts (codes "orders") (order_row who order is_open name one two place) ∷ []) old.now new.now
    orders_by who order is_open name one two place h = λ f k.
        leads_put table.Orders (order_row who order is_open name one two place) f old.now new.now (record { key = refl; cells = refl }) tt k (writes who order is_open name one two place f k h)

    order_by : (who : List ℕ) (o : PageOrder) → Executes text (values (Text who ∷ orders_cells o)) old new (Ok count)
        → Leads (Puts (codes "orders") (Text who ∷ orders_cells o) ∷ []) old.now new.now
    order_by who o = by_address o.address
      where
        by_address : (address : Option Address) → Executes text (values (Text who ∷ Text o.number ∷ flag o.is_open ∷ address_cells address)) old new (Ok count)
            → Leads (Puts (codes "orders") (Text who ∷ Text o.number ∷ flag o.is_open ∷ address_cells address) ∷ []) old.now new.now
        by_address None h = orders_by who o.number _ None [] [] [] h
        by_address (Some a) h = orders_by who o.number _ (Some a.name) a.one a.two a.place h

  pub order_led : (who : List ℕ) (o : PageOrder) → Executes put_orders_text (values (Text who ∷ orders_cells o)) old new (Ok count)
      → Leads (Puts (codes "orders") (Text who ∷ orders_cells o) ∷ []) old.now new.now
  order_led = order_by put_orders_text (λ who order is_open name one two place f k h.
      puts_orders who order (pos is_open) (value_of (text_or_null name)) one two place (kept_text name) old new count k.schema k.sound (keyed table.Orders refl f k) h)

  pub order_added : (who : List ℕ) (o : PageOrder) → Executes insert_orders_text (values (Text who ∷ orders_cells o)) old new (Ok count)
      → Leads (Puts (codes "orders") (Text who ∷ orders_cells o) ∷ []) old.now new.now
  order_added = order_by insert_orders_text (λ who order is_open name one two place f k h.
      inserts_orders who order (pos is_open) (value_of (text_or_null name)) one two place (kept_text name) old new count k.schema (keyed table.Orders refl f k) h)

  pub order_line_led : (who order : List ℕ) (line : ℕ) (item : List ℕ) (pin : Option (List ℕ)) (quantity : ℕ)
      → Executes insert_order_line_text (values (Text who ∷ Text order ∷ Number line ∷ Text item ∷ text_or_null pin ∷ Number quantity ∷ [])) old new (Ok count)
      → Leads (Puts (codes "order_line") (Text who ∷ Text order ∷ Number line ∷ Text item ∷ text_or_null pin ∷ Number quantity ∷ []) ∷ []) old.now new.now
  order_line_led who order line item pin quantity h = λ f k.
      leads_put table.OrderLine (Text who ∷ Text order ∷ Number line ∷ Text item ∷ text_or_null pin ∷ Number quantity ∷ []) f old.now new.now (record { key = refl; cells = refl }) tt k
      (inserts_order_line who order (pos line) item (value_of (text_or_null pin)) (pos quantity) (kept_text pin) old new count k.schema
      (keyed table.OrderLine refl f k) h)

  pub entry_led : (seq : ℕ) (who mark : List ℕ) (n : ℕ) (moment body : List ℕ)
      → Executes insert_entry_text (values (Number seq ∷ Text who ∷ Text mark ∷ Number n ∷ Text moment ∷ Blob body ∷ [])) old new (Ok count)
      → Leads (Puts (codes "entry") (Number seq ∷ Text who ∷ Text mark ∷ Number n ∷ Text moment ∷ Blob body ∷ []) ∷ []) old.now new.now
  entry_led seq who mark n moment body h = λ f k.
      leads_put table.Entry (Number seq ∷ Text who ∷ Text mark ∷ Number n ∷ Text moment ∷ Blob body ∷ []) f old.now new.now
      (seq, Text who ∷ Text mark ∷ Number n ∷ Text moment ∷ Blob body ∷ [], refl, refl) tt k
      (inserts_entry (pos seq) who mark (pos n) moment body old new count k.schema h)

  pub rules_led : (seq rules : ℕ) → Executes insert_rules_text (values (Number seq ∷ Number rules ∷ [])) old new (Ok count)
      → Leads (Puts (codes "entry_rules") (Number seq ∷ Number rules ∷ []) ∷ []) old.now new.now
  rules_led seq rules h = λ f k.
      leads_put table.EntryRules (Number seq ∷ Number rules ∷ []) f old.now new.now (seq, Number rules ∷ [], refl, refl) tt k
      (inserts_rules (pos seq) (pos rules) old new count k.schema h)

  pub outgoing_led : (who : List ℕ) (n : ℕ) (kind content state : List ℕ)
      → Executes insert_outgoing_text (values (Text who ∷ Number n ∷ Text kind ∷ Blob content ∷ Text state ∷ [])) old new (Ok count)
      → Leads (Puts (codes "outgoing") (Text who ∷ Number n ∷ Text kind ∷ Blob content ∷ Text state ∷ []) ∷ []) old.now new.now
  outgoing_led who n kind content state h = λ f k.
      leads_put table.Outgoing (Text who ∷ Number n ∷ Text kind ∷ Blob content ∷ Text state ∷ []) f old.now new.now (record { key = refl; cells = refl }) (who, n, kind, content, state, refl) k
      (inserts_outgoing who (pos n) kind content state old new count k.schema
      (keyed table.Outgoing refl f k) h)

  -- the rows of `outgoing` as they are stored
  are_outgoing : (f : Filled) → Keeps f old.now → AreOutgoing (old.now.trees 4)
  are_outgoing f k = λ row there.
      let it = (k.rows table.Outgoing).sound row there in
      let is = k.ordered.shaped table.Outgoing it.1 it.2 in
      (it.0, is.0, pos is.1, is.2, is.3, is.4, it.3 ∙ ap (λ (r : TableRow). value.Int it.0 ∷ values r) is.5)

  pub state_led : (who : List ℕ) (n : ℕ) (said : Option Bool) → Executes set_state_text (value.Text who ∷ value.Int (pos n) ∷ value.Text (state_text said) ∷ []) old new (Ok count)
      → Leads (Sets who n said ∷ []) old.now new.now
  state_led who n said h = λ f k. leads_state who n said f old.now new.now k
      (sets_state who (pos n) (state_text said) old new count k.schema k.sound
      (keyed table.Outgoing refl f k) (are_outgoing f k) h)

  pub free_led : (who order : List ℕ) → Executes free_text (value.Text who ∷ value.Text order ∷ []) old new (Ok count) → Leads (Frees who order ∷ []) old.now new.now
  free_led who order h = λ f k. leads_free who order f old.now new.now k
      (frees who order old new count k.schema (keyed table.Reservation refl f k) h)
