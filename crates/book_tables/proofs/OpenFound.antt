-- The rows of open advices and orders under a depositor show their names, and the part of its page
-- that has these names has what is open.
use Rattle.std.proofs.Common.{◌≡◌, inl, inr, ℕ, List, [], ◌∷◌, map, filter, cond, Bool, true, false, ◌||◌, bytes_eq, None, Some, Option, option_map, Result, Ok, Err, IfOk, IsTrue, length, refl, sym, ap, ◌∙◌}
use Rattle.std.specs.Prelude.{◌==◌, if◌then◌else◌}
use Rattle.std.proofs.lemmas.Bool.{cases_Bool}
use Rattle.sqlite.specs.Held.{state}
use Rattle.sqlite.specs.State.{State, IsLive}
use Rattle.sqlite.specs.Store.{Ghosts}
use Rattle.sqlite.specs.declared.types.Value.TheVariants as value
use Rattle.sqlite.specs.Order.{Row, value_cmp}
use Rattle.sqlite.specs.Effect.{Database, IsDatabase}
use Rattle.sqlite.specs.Query.{Output}
use Rattle.sqlite.specs.Term.{Term, col}
use Rattle.sqlite_rules.specs.Lists.{Has}
use Rattle.sqlite_rules.proofs.ListLemmas.{has_kept}
use Rattle.sqlite_rules.proofs.ProbeLemmas.{mapped_has}
use Rattle.definitions.specs.Rules.{Today}
use Rattle.definitions.specs.Bytes.{comes_before, is_one_of}
use Rattle.definitions.specs.Header.{Who, is_partner, who_text}
use Rattle.definitions.specs.Need.{Need, part}
use Rattle.definitions.specs.Register.{Entry, own}
use Rattle.definitions.specs.History.{events}
use Rattle.definitions.specs.Accepted.{IsLegal}
use Rattle.definitions.specs.Page.{PageAdvice, PageOrder, page_advices, page_orders, page_of}
use Rattle.definitions.specs.Tables.{Text, TableRow, advice_cells, advice_rows, advice_table, flag, orders_cells, orders_rows, orders_table}
use Rattle.definitions.specs.Schema.{advice_schema, orders_schema}
use Rattle.definitions.proofs.TextLaws.{same_text}
use Rattle.rules.specs.Keyed.{shipment_of, number_of}
use Rattle.rules.specs.Naming.{facts_of}
use Rattle.rules.specs.Pages.{PageFacts}
use Rattle.store.specs.Fault.{Fault}
use Rattle.store.specs.Open.{open_of, open_on, open_work}
use Rattle.book_statements.specs.Asking.{Finds, IsAsked, OfStanding}
use Rattle.book_statements.specs.Exits.{StandsWhileOpen}
use Rattle.book_statements.specs.Kept.{Kept}
use Rattle.book_statements.specs.Held.{value_of}
use Rattle.book_statements.specs.Layout.{advice_layout, orders_layout}
use Rattle.book_tables.specs.Needed.{needed_part, open_need}
use Rattle.book_tables.specs.Opened.{numbers_text, open_shown, shipments_text}
use Rattle.book_statements.specs.declared.names.TableName.TheVariants.{Advice, Orders}
use Rattle.book_statements.specs.Standing.{StandsSecond, AreOrdered, filled}
use Rattle.book_statements.proofs.Asked.{found}
use Rattle.book_tables.proofs.AskedLater.{clean_before, stands_later}
use Rattle.book_tables.proofs.Finding.{rises_kept}
use Rattle.book_statements.proofs.HoldsLemmas.{are_keyed}
use Rattle.book_statements.proofs.OpenTexts.{name_order}
use Rattle.book_statements.proofs.Ordered.{all_ordered, advices_rise, orders_rise}
use Rattle.book_tables.proofs.ShownRows.{texts_ranked, one_equal, text_is}
use Rattle.book_tables.proofs.UnclosedTexts.{not_closed, numbers_is, numbers_reads, shipments_is, shipments_reads, unclosed_told}
use Rattle.book_tables.proofs.UnderTest.{IsTested, all_tested, cells_tested}
use Rattle.book_statements.proofs.UpsertLemmas.{only_row}

abbrev shown : List ℕ → Bool → Row
shown name is_open = value.Text name ∷ value_of (flag is_open) ∷ []

abbrev name_out : List ℕ → Bool → Output
name_out name is_open = (value.Text name ∷ [], shown name is_open)

-- what passes is shown as open
shown_open : {M : Type 0} (is_open : M → Bool) (name : M → List ℕ) (ms : List M) → map (λ (m : M). shown (name m) (is_open m)) (filter is_open ms) ≡ map open_shown (map name (filter is_open ms))
shown_open is_open name [] = refl
shown_open {M} is_open name (m ∷ ms) = by (is_open m) refl (shown_open is_open name ms)
  where
    by : (b : Bool) → is_open m ≡ b → map (λ (n : M). shown (name n) (is_open n)) (filter is_open ms) ≡ map open_shown (map name (filter is_open ms))
        → map (λ (n : M). shown (name n) (is_open n)) (cond b (m ∷ filter is_open ms) (filter is_open ms)) ≡ map open_shown (map name (cond b (m ∷ filter is_open ms) (filter is_open ms)))
    by true e later = λ i. shown (name m) (e i) ∷ later i
    by false e later = later

abbrev open_params : Who → Row
open_params who = value.Text (who_text who) ∷ []

abbrev name_columns : ℕ → List Term
name_columns at = col 1 2 ∷ col 1 at ∷ []

-- Advices.

abbrev open_advices : List Entry → Who → List PageAdvice
open_advices L who = (open_work (own L who)).advices

abbrev advised : Who → PageAdvice → TableRow
advised who a = Text (who_text who) ∷ advice_cells a

shipments_under : (W : Who) (L : List Entry) (who : Who) → IsLegal Today W L → is_partner who ≡ true
    → IsTested (not_closed 4) (advised who) 8 (name_columns 4) name_order (λ a. name_out a.shipment a.is_open) (value.Text (who_text who)) (advice_table L) (open_advices L who)
shipments_under W L who legal partner =
    cells_tested W L who legal partner advice_rows refl advice_cells (page_advices (events (own L who))) refl (λ (a : PageAdvice). a.is_open) (not_closed 4) (λ id a. unclosed_told a.is_open)
    8 (name_columns 4) name_order (λ a. name_out a.shipment a.is_open) (λ db. refl) (λ id a. refl)

shipments_found : (W : Who) (L : List Entry) (who : Who) (db : Database) (rows : List Row) → is_partner who ≡ true → IsDatabase db → StandsSecond W L db
    → Finds shipments_text (open_params who) db rows → rows ≡ map open_shown (map shipment_of (open_advices L who))
shipments_found W L who db rows partner sound stands h =
    let read = found shipments_text (open_params who) db rows _ stands.schema shipments_reads shipments_is h in
    let held = stands.rows in
    let lies = stands.schema in
    let ordered : AreOrdered (filled W L) = all_ordered W L in
    all_tested (not_closed 4) (advised who) 8 (name_columns 4) name_order (λ a. name_out a.shipment a.is_open) (value.Text (who_text who)) (advice_table L) (open_advices L who)
    (shipments_under W L who stands.legal partner) db.trees (held Advice) rows (read.answer value.Null)
    comes_before shipment_of 2 (rises_kept comes_before shipment_of (λ (a : PageAdvice). a.is_open) (page_advices (events (own L who))) (advices_rise (events (own L who))))
    (λ a b. texts_ranked a.shipment b.shipment)
    (λ a b t. let same = text_is a.shipment b.shipment (one_equal (value_cmp (value.Text a.shipment) (value.Text b.shipment)) t) in λ i. value.Text (who_text who) ∷ value.Text (same i) ∷ [])
    (only_row db.schema lies advice_layout.name 8 2 advice_layout.checks advice_layout.columns db.trees (inr (inr (inr (inr (inl refl))))) sound
    (are_keyed advice_schema 2 (advice_table L) (db.trees 8) (ordered.each Advice) (held Advice)))
    ∙ shown_open (λ (a : PageAdvice). a.is_open) shipment_of (page_advices (events (own L who)))

-- what rows were read as, of tables that stand while they are open
pub shipments_read : (old : State) (W : Who) (L : List Entry) (who : Who) → IsTrue (is_partner who) → IsLive old → StandsWhileOpen old W L → (rows : List Row)
    → IsTrue old.is_open × Finds shipments_text (open_params who) old.now rows → (read : Option (List (List ℕ))) → ((names : List (List ℕ)) → rows ≡ map open_shown names → read ≡ Some names)
    → read ≡ Some (map shipment_of (open_advices L who))
shipments_read old W L who partner live stands rows finds read right = right _ (shipments_found W L who old.now rows partner (live finds.0).0 (stands finds.0) finds.1)

-- Orders.

abbrev open_orders : List Entry → Who → List PageOrder
open_orders L who = (open_work (own L who)).orders

abbrev ordered_row : Who → PageOrder → TableRow
ordered_row who o = Text (who_text who) ∷ orders_cells o

numbers_under : (W : Who) (L : List Entry) (who : Who) → IsLegal Today W L → is_partner who ≡ true
    → IsTested (not_closed 3) (ordered_row who) 12 (name_columns 3) name_order (λ o. name_out o.number o.is_open) (value.Text (who_text who)) (orders_table L) (open_orders L who)
numbers_under W L who legal partner =
    cells_tested W L who legal partner orders_rows refl orders_cells (page_orders (events (own L who))) refl (λ (o : PageOrder). o.is_open) (not_closed 3) (λ id o. unclosed_told o.is_open)
    12 (name_columns 3) name_order (λ o. name_out o.number o.is_open) (λ db. refl) (λ id o. refl)

numbers_found : (W : Who) (L : List Entry) (who : Who) (db : Database) (rows : List Row) → is_partner who ≡ true → IsDatabase db → StandsSecond W L db
    → Finds numbers_text (open_params who) db rows → rows ≡ map open_shown (map number_of (open_orders L who))
numbers_found W L who db rows partner sound stands h =
    let read = found numbers_text (open_params who) db rows _ stands.schema numbers_reads numbers_is h in
    let held = stands.rows in
    let lies = stands.schema in
    let ordered : AreOrdered (filled W L) = all_ordered W L in
    all_tested (not_closed 3) (ordered_row who) 12 (name_columns 3) name_order (λ o. name_out o.number o.is_open) (value.Text (who_text who)) (orders_table L) (open_orders L who)
    (numbers_under W L who stands.legal partner) db.trees (held Orders) rows (read.answer value.Null)
    comes_before number_of 2 (rises_kept comes_before number_of (λ (o : PageOrder). o.is_open) (page_orders (events (own L who))) (orders_rise (events (own L who))))
    (λ a b. texts_ranked a.number b.number)
    (λ a b t. let same = text_is a.number b.number (one_equal (value_cmp (value.Text a.number) (value.Text b.number)) t) in λ i. value.Text (who_text who) ∷ value.Text (same i) ∷ [])
    (only_row db.schema lies orders_layout.name 12 2 orders_layout.checks orders_layout.columns db.trees (inr (inr (inr (inr (inr (inr (inl refl))))))) sound
    (are_keyed orders_schema 2 (orders_table L) (db.trees 12) (ordered.each Orders) (held Orders)))
    ∙ shown_open (λ (o : PageOrder). o.is_open) number_of (page_orders (events (own L who)))

pub numbers_read : (old : State) (W : Who) (L : List Entry) (who : Who) → IsTrue (is_partner who) → IsLive old → StandsWhileOpen old W L → (rows : List Row)
    → IsTrue old.is_open × Finds numbers_text (open_params who) old.now rows → (read : Option (List (List ℕ))) → ((names : List (List ℕ)) → rows ≡ map open_shown names → read ≡ Some names)
    → read ≡ Some (map number_of (open_orders L who))
numbers_read old W L who partner live stands rows finds read right = right _ (numbers_found W L who old.now rows partner (live finds.0).0 (stands finds.0) finds.1)

-- What these names name.

-- where a test keeps all that passes another, the other keeps the same of them
kept_same : {X : Type 0} (p q : X → Bool) (xs : List X) → ((x : X) → Has xs x → p x ≡ true → q x ≡ true) → filter p (filter q xs) ≡ filter p xs
kept_same p q [] each = refl
kept_same {X} p q (x ∷ xs) each = by (q x) refl (kept_same p q xs (λ y there. each y (inr there)))
  where
    fails : q x ≡ false → p x ≡ false
    fails e = elim (cases_Bool (p x)) [
      | inl h ↦ absurd (let f : ◌≡◌ {A = Bool} true false = sym (each x (inl refl) h) ∙ e in cc)
      | inr h ↦ h
    ]

    by : (b : Bool) → q x ≡ b → filter p (filter q xs) ≡ filter p xs → filter p (cond b (x ∷ filter q xs) (filter q xs)) ≡ filter p (x ∷ xs)
    by true e later = ap (λ (ys : List X). cond (p x) (x ∷ ys) ys) later
    by false e later = later ∙ sym (ap (λ (b : Bool). cond b (x ∷ filter p xs) (filter p xs)) (fails e))

one_of : (texts : List (List ℕ)) (text : List ℕ) → Has texts text → is_one_of texts text ≡ true
one_of [] text there = absurd there
one_of (s ∷ texts) text (inl e) = ap (λ (b : Bool). b || is_one_of texts text) (ap (bytes_eq text) (sym e) ∙ same_text text)
one_of (s ∷ texts) text (inr later) = by (bytes_eq text s) (one_of texts text later)
  where
    by : (b : Bool) → is_one_of texts text ≡ true → (b || is_one_of texts text) ≡ true
    by true h = refl
    by false h = h

-- what has the name of one that passes is all that passes, and perhaps more
named_kept : {X : Type 0} (p : X → Bool) (name : X → List ℕ) (xs : List X) → filter p (filter (λ x. is_one_of (map name (filter p xs)) (name x)) xs) ≡ filter p xs
named_kept p name xs =
    kept_same p (λ x. is_one_of (map name (filter p xs)) (name x)) xs (λ x there passes. one_of (map name (filter p xs)) (name x) (mapped_has name (filter p xs) x (has_kept p xs x there passes)))

pub open_needed : (L : List Entry) (who : Who) → option_map open_on (needed_part (open_need (open_work (own L who))) L who) ≡ open_of L who
open_needed L who = by (length (own L who) == 0)
  where
    same : open_on (facts_of (part (page_of (own L who)) (open_need (open_work (own L who))))) ≡ open_work (own L who)
    same = λ i. record {
      advices = named_kept (λ (a : PageAdvice). a.is_open) shipment_of (page_advices (events (own L who))) i;
      orders = named_kept (λ (o : PageOrder). o.is_open) number_of (page_orders (events (own L who))) i;
    }

    by : (b : Bool) → option_map open_on (if b then None else Some (facts_of (part (page_of (own L who)) (open_need (open_work (own L who)))))) ≡ (if b then None else Some (open_work (own L who)))
    by true = refl
    by false = ap Some same

-- what is open, of the part of a page that was read for its names
open_read : (L : List Entry) (who : Who) (need : Need) (r : Result (Option PageFacts) Fault) → need ≡ open_need (open_work (own L who)) → IfOk r (λ page. page ≡ needed_part need L who)
    → IfOk r (λ page. option_map open_on page ≡ open_of L who)
open_read L who need (Ok page) named is = ap (option_map open_on) (is ∙ ap (λ (n : Need). needed_part n L who) named) ∙ open_needed L who
open_read L who need (Err fault) named is = tt

pub open_found : {S : Type 0} (store : Ghosts S) (a b c : Kept S) (who : Who) (need : Need) (r : Result (Option PageFacts) Fault)
    → OfStanding store a b (λ W L. need ≡ open_need (open_work (own L who))) → IsAsked (state store a.conn) (state store b.conn) → IsAsked (state store b.conn) (state store c.conn)
    → OfStanding store b c (λ W L. IfOk r (λ page. page ≡ needed_part need L who)) → OfStanding store a c (λ W L. IfOk r (λ page. option_map open_on page ≡ open_of L who))
open_found store a b c who need r named first second found clean W L stands =
    let early = clean_before (state store b.conn) (state store c.conn) second clean in
    open_read L who need r (named early W L stands) (found clean W L (stands_later (state store a.conn) (state store b.conn) W L early first stands))
