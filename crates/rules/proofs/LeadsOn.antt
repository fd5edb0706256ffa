-- What a decision changes leads from the tables of a register to those of the register with one
-- entry more.
use Rattle.std.proofs.Common.{◌≡◌, ℕ, zero, suc, ◌+◌, Bool, true, false, not, List, [], ◌∷◌, ◌++◌, length, map, take, Option, Some, None, Ok, Err, refl, sym, ap, ◌∙◌, subst, arith}
use Rattle.std.specs.Prelude.{Result, IfOk, bytes_eq, filter, flat_map, codes, ◌==◌, if◌then◌else◌}
use Rattle.std.specs.List.{list_all}
use borrow.Author.Tests.{eqb-true}
use Rattle.std.proofs.lemmas.Bool.{both_ways, and_parts}
use Rattle.std.proofs.lemmas.Grind.{flat_map-append}
use Rattle.definitions.specs.declared.rules.Rules.{Rules}
use Rattle.definitions.specs.declared.rules.Rules.TheVariants.{One, Two}
use Rattle.definitions.specs.Bytes.{comes_before}
use Rattle.definitions.specs.Moments.{Moment}
use Rattle.definitions.specs.Header.{Who, who_text, who_eq}
use Rattle.definitions.specs.Rows.{LotRow, OutRow, state_text, running_rows, new_out_row, outgoing_rows}
use Rattle.definitions.specs.Page.{PageAdvice, PageOrder, page_advices, page_orders}
use Rattle.definitions.specs.Register.{Command, Interchange, Enrol, Clerk, Deed, Enrolled, Entry, is_numbered, own}
use Rattle.definitions.specs.History.{History, history, events, after_entry}
use Rattle.definitions.specs.Decision.{standing}
use Rattle.definitions.specs.Accepted.{IsLegal, entry_of, own_of}
use Rattle.definitions.specs.Tables.{TableRow, AllTables, for_each, tables, book_table, entry_row, entry_table, entry_rules_row, entry_rules_table, outgoing_table, stock_table, advice_table, advice_line_table, orders_table, order_line_table, reservation_table, lot_expiry_table, outgoing_cells, outgoing_row, stock_cells, expiry_cells, advice_cells, advice_line_cells, orders_cells, order_line_cells, reservation_cells, advice_rows, advice_line_rows, orders_rows, order_line_rows, reservation_rows}
use Rattle.definitions.specs.Changes as tables
use Rattle.definitions.specs.Changes.{in_table, with_state, is_reserved_for, changed, changed_by, with_entry, LeadOn}
use Rattle.definitions.specs.Schema.{put_row, schema_named}
use Rattle.definitions.proofs.HistoryLaws.{history-numbered, history_snoc}
use Rattle.stock.specs.Pages.{PageFacts, AreSorted}
use Rattle.stock.specs.Shows.{Shows}
use Rattle.stock.specs.declared.steps.Change.{Change}
use Rattle.stock.proofs.Texts.{texts_never}
use Rattle.rules.specs.Needs.{HasNeeded}
use Rattle.rules.specs.Decided.{IsPageOf, AreLeading, StandsFor, LeadsFrom, led_to}
use Rattle.set_effects.specs.Tabled.{table_changes}
use Rattle.rules.specs.Decided.{LeadsInTables}
use Rattle.entries.specs.declared.decisions.Decision.{Decision}
use Rattle.entries.specs.declared.decisions.Decision.TheVariants.{Stored, Refused, Accepted}
use Rattle.rules.proofs.Follows.{legal_follow, own_sender}
use Rattle.rules.proofs.Plays.{clean_read}
use Rattle.rules.proofs.Registers.{who_is, own_with, own_without, done_own}
use Rattle.set_effects.proofs.Rowed.{rows_in_order}
use Rattle.rules.proofs.Once.{advices_once, orders_once}
use Rattle.rules.proofs.Paged.{advices_are_page, orders_are_page}
use Rattle.set_effects.proofs.Blocks.{prefixed, blocks, blocks_below, blocks_above}
use Rattle.set_effects.proofs.TableSteps.{Sides, IsBeside, framed, eleven, Others, AreBeside, of_page}
use Rattle.set_effects.proofs.TableChanges.{steps, sorted_with_all}
use Rattle.rules.proofs.Depositors.{IsAmong, among, partner_of, unnumbered}
use Rattle.rules.proofs.SentRows.{entry_put, entry_rules_put, row_put, all_framed, AreStates, rows_led, new_lower}

-- Parts of a table.

-- the rows of the other depositors
abbrev sides : (L : List Entry) (e : Entry) → IsAmong L e → (List Entry → List TableRow) → Sides
sides L e a rows = record { front = blocks who_text (λ v. rows (own L v)) a.front; back = blocks who_text (λ v. rows (own L v)) a.back }

beside : (L : List Entry) (e : Entry) (a : IsAmong L e) (rows : List Entry → List TableRow) → IsBeside (who_text e.who) (sides L e a rows)
beside L e a rows = record {
  below = blocks_below who_text (λ v. rows (own L v)) (who_text e.who) a.front a.below;
  above = blocks_above who_text (λ v. rows (own L v)) (who_text e.who) a.back a.above;
}

before : (L : List Entry) (e : Entry) (a : IsAmong L e) (rows : List Entry → List TableRow) → (is_numbered e ≡ false → rows (own L e.who) ≡ [])
    → for_each L rows ≡ framed (who_text e.who) (sides L e a rows) (rows (own L e.who))
before L e a rows none =
    ap (blocks who_text (λ v. rows (own L v))) a.here
    ∙ flat_map-append (λ v. prefixed (who_text v) (rows (own L v))) a.front (a.old ++ a.back)
    ∙ ap (λ (T : List TableRow). blocks who_text (λ v. rows (own L v)) a.front ++ T) (ap (λ (ws : List Who). blocks who_text (λ v. rows (own L v)) (ws ++ a.back)) a.old_is ∙ by (is_numbered e) refl)
  where
    by : (b : Bool) → is_numbered e ≡ b → blocks who_text (λ v. rows (own L v)) ((if b then e.who ∷ [] else []) ++ a.back)
        ≡ prefixed (who_text e.who) (rows (own L e.who)) ++ blocks who_text (λ v. rows (own L v)) a.back
    by true h = refl
    by false h = ap (λ (T : List TableRow). prefixed (who_text e.who) T ++ blocks who_text (λ v. rows (own L v)) a.back) (sym (none h))

-- Another depositor's entries stay.

not_same : (w v : Who) (b : Bool) → who_eq w v ≡ b → (w ≡ v → ⊥) → b ≡ false
not_same w v true h differ = absurd (differ (who_is w v h))
not_same w v false h differ = refl

front_same : (L : List Entry) (e : Entry) (rows : List Entry → List TableRow) (vs : List Who) → list_all (λ (v : Who). comes_before (who_text v) (who_text e.who)) vs ≡ true
    → blocks who_text (λ v. rows (own (L ++ e ∷ []) v)) vs ≡ blocks who_text (λ v. rows (own L v)) vs
front_same L e rows [] h = refl
front_same L e rows (v ∷ vs) h =
    let p = and_parts (comes_before (who_text v) (who_text e.who)) (list_all (λ (u : Who). comes_before (who_text u) (who_text e.who)) vs) h in
    let other : who_eq e.who v ≡ false = not_same e.who v (who_eq e.who v) refl (λ s. both_ways (comes_before (who_text v) (who_text v)) (texts_never (who_text v)) (ap (λ (u : Who). comes_before (who_text v) (who_text u)) (sym s) ∙ p.0)) in
    λ i. prefixed (who_text v) (rows (own_without L e v other i)) ++ front_same L e rows vs p.1 i

later_same : (L : List Entry) (e : Entry) (rows : List Entry → List TableRow) (vs : List Who) → list_all (λ (v : Who). comes_before (who_text e.who) (who_text v)) vs ≡ true
    → blocks who_text (λ v. rows (own (L ++ e ∷ []) v)) vs ≡ blocks who_text (λ v. rows (own L v)) vs
later_same L e rows [] h = refl
later_same L e rows (v ∷ vs) h =
    let p = and_parts (comes_before (who_text e.who) (who_text v)) (list_all (λ (u : Who). comes_before (who_text e.who) (who_text u)) vs) h in
    let other : who_eq e.who v ≡ false = not_same e.who v (who_eq e.who v) refl (λ s. both_ways (comes_before (who_text v) (who_text v)) (texts_never (who_text v)) (ap (λ (u : Who). comes_before (who_text u) (who_text v)) (sym s) ∙ p.0)) in
    λ i. prefixed (who_text v) (rows (own_without L e v other i)) ++ later_same L e rows vs p.1 i

back : (L : List Entry) (e : Entry) (a : IsAmong L e) (rows : List Entry → List TableRow)
    → for_each (L ++ e ∷ []) rows ≡ framed (who_text e.who) (sides L e a rows) (rows (own L e.who ++ e ∷ []))
back L e a rows =
    ap (blocks who_text (λ v. rows (own (L ++ e ∷ []) v))) a.there
    ∙ flat_map-append (λ v. prefixed (who_text v) (rows (own (L ++ e ∷ []) v))) a.front (e.who ∷ a.back)
    ∙ (λ i. front_same L e rows a.front a.below i ++ (prefixed (who_text e.who) (rows (own_with L e i)) ++ later_same L e rows a.back a.above i))

-- All tables.

abbrev outgoing_part : Who → List Entry → List TableRow
outgoing_part W M = map outgoing_cells (outgoing_rows W M)

abbrev stock_rows : List Entry → List TableRow
stock_rows M = map stock_cells (running_rows (events M))

abbrev expiry_rows : List Entry → List TableRow
expiry_rows M = flat_map expiry_cells (running_rows (events M))

abbrev others : (L : List Entry) (e : Entry) → IsAmong L e → Others
others L e a = record {
  stock = sides L e a stock_rows;
  advice = sides L e a advice_rows;
  advice_line = sides L e a advice_line_rows;
  orders = sides L e a orders_rows;
  order_line = sides L e a order_line_rows;
  reservation = sides L e a reservation_rows;
  lot_expiry = sides L e a expiry_rows;
}

all_beside : (L : List Entry) (e : Entry) (a : IsAmong L e) → AreBeside (who_text e.who) (others L e a)
all_beside L e a = record {
  stock = beside L e a stock_rows;
  advice = beside L e a advice_rows;
  advice_line = beside L e a advice_line_rows;
  orders = beside L e a orders_rows;
  order_line = beside L e a order_line_rows;
  reservation = beside L e a reservation_rows;
  lot_expiry = beside L e a expiry_rows;
}

-- a page has the rows, the advices and the orders of these entries
record IsHeld (M : List Entry) (p : PageFacts) : Type 0 where
  rows : p.rows ≡ running_rows (events M)
  advices : p.advices ≡ page_advices (events M)
  orders : p.orders ≡ page_orders (events M)

held : (p : PageFacts) (M : List Entry) → AreSorted p → Shows p (events M) → IsHeld M p
held p M sorted shows = record {
  rows = rows_in_order p (events M) sorted.rows shows;
  advices = advices_are_page p (events M) sorted shows (advices_once M);
  orders = orders_are_page p (events M) sorted shows (orders_once M);
}

-- all tables of the book of a version, and those that version 1 hasn't
abbrev all_tables : Rules → Who → List Entry → AllTables
all_tables r W L = eleven (book_table r W) (entry_table L) (outgoing_table W L) (stock_table L) (advice_table L) (advice_line_table L) (orders_table L) (order_line_table L) (reservation_table L)
    (entry_rules_table L) (lot_expiry_table L)

abbrev in_tables : (r : Rules) (W : Who) (L : List Entry) (e : Entry) → IsAmong L e → List TableRow → List TableRow → List Entry → PageFacts → AllTables
in_tables r W L e a entries rules M p =
    of_page (book_table r W) entries (framed (who_text e.who) (sides L e a (outgoing_part W)) (outgoing_part W M)) rules (who_text e.who) (others L e a) p

-- a depositor without entries has no rows
nothing : (rows : List Entry → List TableRow) (e : Entry) (M : List Entry) → (is_numbered e ≡ false → M ≡ []) → rows [] ≡ [] → is_numbered e ≡ false → rows M ≡ []
nothing rows e M first none h = ap rows (first h) ∙ none

tables_before : (r : Rules) (W : Who) (L : List Entry) (e : Entry) (a : IsAmong L e) (p : PageFacts) → (is_numbered e ≡ false → own L e.who ≡ []) → IsHeld (own L e.who) p
    → all_tables r W L ≡ in_tables r W L e a (entry_table L) (entry_rules_table L) (own L e.who) p
tables_before r W L e a p first h =
    let t = who_text e.who in
    let M = own L e.who in
    λ i. eleven (book_table r W) (entry_table L)
    (before L e a (outgoing_part W) (nothing (outgoing_part W) e M first refl) i)
    ((before L e a stock_rows (nothing stock_rows e M first refl) ∙ ap (λ (rs : List LotRow). framed t (sides L e a stock_rows) (map stock_cells rs)) (sym h.rows)) i)
    ((before L e a advice_rows (nothing advice_rows e M first refl) ∙ ap (λ (ks : List PageAdvice). framed t (sides L e a advice_rows) (map advice_cells ks)) (sym h.advices)) i)
    ((before L e a advice_line_rows (nothing advice_line_rows e M first refl) ∙ ap (λ (ks : List PageAdvice). framed t (sides L e a advice_line_rows) (flat_map advice_line_cells ks)) (sym h.advices)) i)
    ((before L e a orders_rows (nothing orders_rows e M first refl) ∙ ap (λ (ks : List PageOrder). framed t (sides L e a orders_rows) (map orders_cells ks)) (sym h.orders)) i)
    ((before L e a order_line_rows (nothing order_line_rows e M first refl) ∙ ap (λ (ks : List PageOrder). framed t (sides L e a order_line_rows) (flat_map order_line_cells ks)) (sym h.orders)) i)
    ((before L e a reservation_rows (nothing reservation_rows e M first refl) ∙ ap (λ (ks : List PageOrder). framed t (sides L e a reservation_rows) (flat_map reservation_cells ks)) (sym h.orders)) i)
    (entry_rules_table L)
    ((before L e a expiry_rows (nothing expiry_rows e M first refl) ∙ ap (λ (rs : List LotRow). framed t (sides L e a expiry_rows) (flat_map expiry_cells rs)) (sym h.rows)) i)

tables_later : (r : Rules) (W : Who) (L : List Entry) (e : Entry) (a : IsAmong L e) (q : PageFacts) → IsHeld (own L e.who ++ e ∷ []) q
    → all_tables r W (L ++ e ∷ []) ≡ in_tables r W L e a (entry_table (L ++ e ∷ [])) (entry_rules_table (L ++ e ∷ [])) (own L e.who ++ e ∷ []) q
tables_later r W L e a q h =
    let t = who_text e.who in
    λ i. eleven (book_table r W) (entry_table (L ++ e ∷ []))
    (back L e a (outgoing_part W) i)
    ((back L e a stock_rows ∙ ap (λ (rs : List LotRow). framed t (sides L e a stock_rows) (map stock_cells rs)) (sym h.rows)) i)
    ((back L e a advice_rows ∙ ap (λ (ks : List PageAdvice). framed t (sides L e a advice_rows) (map advice_cells ks)) (sym h.advices)) i)
    ((back L e a advice_line_rows ∙ ap (λ (ks : List PageAdvice). framed t (sides L e a advice_line_rows) (flat_map advice_line_cells ks)) (sym h.advices)) i)
    ((back L e a orders_rows ∙ ap (λ (ks : List PageOrder). framed t (sides L e a orders_rows) (map orders_cells ks)) (sym h.orders)) i)
    ((back L e a order_line_rows ∙ ap (λ (ks : List PageOrder). framed t (sides L e a order_line_rows) (flat_map order_line_cells ks)) (sym h.orders)) i)
    ((back L e a reservation_rows ∙ ap (λ (ks : List PageOrder). framed t (sides L e a reservation_rows) (flat_map reservation_cells ks)) (sym h.orders)) i)
    (entry_rules_table (L ++ e ∷ []))
    ((back L e a expiry_rows ∙ ap (λ (rs : List LotRow). framed t (sides L e a expiry_rows) (flat_map expiry_cells rs)) (sym h.rows)) i)

-- A numbered entry.

abbrev entered : (W : Who) (L : List Entry) (e : Entry) → Bool → AllTables → AllTables
entered W L e b ts =
    let made = changed_by ts (tables.Puts (codes "entry") (entry_row L e) ∷ tables.Puts (codes "entry_rules") (entry_rules_row L e) ∷ []) in
    if b then changed made (tables.Puts (codes "outgoing") (outgoing_row e.who (new_out_row W (own L e.who) e))) else made

-- changes with which all tables of a register become those of one entry more
abbrev LeadAll : Rules → Who → List Entry → Entry → List tables.Change → Type 0
LeadAll r W L e cs = changed_by (entered W L e (is_numbered e) (all_tables r W L)) cs ≡ all_tables r W (L ++ e ∷ [])

-- Version 1 has the first nine tables, and no change looks from one table at another.

in_front : (name : List ℕ) (f : List TableRow → List TableRow) (n : ℕ) (ts : AllTables) → in_table name f (take n ts) ≡ take n (in_table name f ts)
in_front name f zero ts = refl
in_front name f (suc n) [] = refl
in_front name f (suc n) (t ∷ ts) = ap (λ (us : AllTables). (if bytes_eq t.0 name then (t.0, f t.1) else t) ∷ us) (in_front name f n ts)

changed_front : (n : ℕ) (ts : AllTables) (c : tables.Change) → changed (take n ts) c ≡ take n (changed ts c)
changed_front n ts (tables.Puts name row) = in_front name (put_row (schema_named name) row) n ts
changed_front n ts (tables.SetsState who k said) = in_front (codes "outgoing") (map (with_state who k (state_text said))) n ts
changed_front n ts (tables.Frees who order) = in_front (codes "reservation") (filter (λ row. not (is_reserved_for who order row))) n ts

all_front : (n : ℕ) (ts : AllTables) (cs : List tables.Change) → changed_by (take n ts) cs ≡ take n (changed_by ts cs)
all_front n ts [] = refl
all_front n ts (c ∷ cs) = ap (λ (us : AllTables). changed_by us cs) (changed_front n ts c) ∙ all_front n (changed ts c) cs

first_entered : (W : Who) (L : List Entry) (e : Entry) → with_entry One W L e (tables One W L) ≡ take 9 (entered W L e (is_numbered e) (all_tables One W L))
first_entered W L e = by (is_numbered e)
  where
    made : AllTables
    made = changed (take 9 (all_tables One W L)) (tables.Puts (codes "entry") (entry_row L e))

    by : (b : Bool) → (if b then changed made (tables.Puts (codes "outgoing") (outgoing_row e.who (new_out_row W (own L e.who) e))) else made)
        ≡ take 9 (entered W L e b (all_tables One W L))
    by true = refl
    by false = refl

lead_on : (r : Rules) (W : Who) (L : List Entry) (e : Entry) (cs : List tables.Change) → LeadAll r W L e cs → LeadOn r W L e cs
lead_on Two W L e cs led = led
lead_on One W L e cs led =
    ap (λ (ts : AllTables). changed_by ts cs) (first_entered W L e)
    ∙ all_front 9 (entered W L e (is_numbered e) (all_tables One W L)) cs
    ∙ ap (λ (ts : AllTables). take 9 ts) led

abbrev with_row : (r : Rules) (W : Who) (L : List Entry) (e : Entry) → IsAmong L e → List OutRow → PageFacts → AllTables
with_row r W L e a rows p =
    of_page (book_table r W) (entry_table (L ++ e ∷ [])) (framed (who_text e.who) (sides L e a (outgoing_part W)) (map outgoing_cells rows)) (entry_rules_table (L ++ e ∷ [])) (who_text e.who) (others L e a) p

entry_led : (r : Rules) (W : Who) (L : List Entry) (e : Entry) (a : IsAmong L e) (p : PageFacts)
    → entered W L e true (in_tables r W L e a (entry_table L) (entry_rules_table L) (own L e.who) p) ≡ with_row r W L e a (outgoing_rows W (own L e.who) ++ new_out_row W (own L e.who) e ∷ []) p
entry_led r W L e a p =
    let t = who_text e.who in
    let M = own L e.who in
    let x = others L e a in
    let S = sides L e a (outgoing_part W) in
    λ i. eleven (book_table r W) (entry_put L e i) (row_put t S (new_out_row W M e) (outgoing_rows W M) (beside L e a (outgoing_part W)) (new_lower W M e) i)
    (framed t x.stock (map stock_cells p.rows)) (framed t x.advice (map advice_cells p.advices)) (framed t x.advice_line (flat_map advice_line_cells p.advices))
    (framed t x.orders (map orders_cells p.orders)) (framed t x.order_line (flat_map order_line_cells p.orders)) (framed t x.reservation (flat_map reservation_cells p.orders))
    (entry_rules_put L e i) (framed t x.lot_expiry (flat_map expiry_cells p.rows))

pub numbered_leads : (r : Rules) (W : Who) (L : List Entry) (e : Entry) (p : PageFacts) (cs : List Change) → IsLegal r W L → IsLegal r W (L ++ e ∷ []) → is_numbered e ≡ true
    → IsPageOf p (history (own L e.who)) → AreLeading p cs (after_entry (history (own L e.who)) e) → LeadOn r W L e (table_changes e.who cs)
numbered_leads r W L e p cs legal next numbered of leading =
    let w = e.who in
    let t = who_text w in
    let M = own L w in
    let follows = legal_follow r W (L ++ e ∷ []) L e [] next refl in
    let a = among r W L e legal (partner_of e follows.good) follows.numbered in
    let q = led_to cs p in
    let S = sides L e a (outgoing_part W) in
    let shows : Shows q (events (M ++ e ∷ [])) = subst (λ (h : History). Shows q h.events) (sym (history_snoc M e)) leading.page.shows in
    let sorted : AreSorted q =
    record { rows = (sorted_with_all cs p leading.sorted).rows; advices = (sorted_with_all cs p leading.sorted).advices; orders = (sorted_with_all cs p leading.sorted).orders; documents = (sorted_with_all cs p leading.sorted).documents } in
    let states : AreStates M e p q cs = record {
      shows = of.shows;
      entries = ap (λ n. n + 1) of.entries ∙ history-numbered M;
      next = shows;
      documents = refl;
      proper = leading.proper;
      done = done_own r W L w legal;
    } in
    let first : is_numbered e ≡ false → M ≡ [] = λ h. absurd (cc (h, numbered)) in
    lead_on r W L e (table_changes w cs)
    (ap (λ (ts : AllTables). changed_by (entered W L e (is_numbered e) ts) (table_changes w cs)) (tables_before r W L e a p first (held p M leading.sorted of.shows))
    ∙ ap (λ (b : Bool). changed_by (entered W L e b (in_tables r W L e a (entry_table L) (entry_rules_table L) M p)) (table_changes w cs)) numbered
    ∙ ap (λ (ts : AllTables). changed_by ts (table_changes w cs)) (entry_led r W L e a p)
    ∙ steps (book_table r W) (entry_table (L ++ e ∷ [])) (entry_rules_table (L ++ e ∷ [])) w (others L e a) (all_beside L e a) cs (framed t S (map outgoing_cells (outgoing_rows W M ++ new_out_row W M e ∷ []))) p leading.sorted leading.proper
    ∙ ap (λ (o : List TableRow). of_page (book_table r W) (entry_table (L ++ e ∷ [])) o (entry_rules_table (L ++ e ∷ [])) t (others L e a) q)
    (all_framed w S cs (outgoing_rows W M ++ new_out_row W M e ∷ []) (beside L e a (outgoing_part W))
    ∙ ap (λ (rows : List OutRow). framed t S (map outgoing_cells rows)) (rows_led W M e p q cs states numbered))
    ∙ sym (tables_later r W L e a q (held q (M ++ e ∷ []) sorted shows)))

-- An enrolment.

abbrev blank : PageFacts
blank = record { rows = []; advices = []; orders = []; documents = []; entries = 0; recent = 0 }

no_entries : (M : List Entry) → (length M == 0) ≡ true → M ≡ []
no_entries [] h = refl
no_entries (k ∷ M) h = absurd (omega (arith, eqb-true (length (k ∷ M)) 0 h))

length_none : (b c : Bool) → b ≡ not c → b ≡ false → c ≡ true
length_none b true e h = refl
length_none b false e h = absurd (cc (e, h))

enrolment_held : (w : Who) (t : Moment) (d : Deed) (q : Rules) → d ≡ Enrolled → IsHeld ((record { who = w; moment = t; deed = d; rules = q }) ∷ []) blank
enrolment_held w t d q is =
    subst (λ (x : Deed). IsHeld ((record { who = w; moment = t; deed = x; rules = q }) ∷ []) blank) (sym is) (record { rows = refl; advices = refl; orders = refl })

enrolment_out : (W : Who) (w : Who) (t : Moment) (d : Deed) (q : Rules) → d ≡ Enrolled → outgoing_rows W ((record { who = w; moment = t; deed = d; rules = q }) ∷ []) ≡ []
enrolment_out W w t d q is = ap (λ (x : Deed). outgoing_rows W ((record { who = w; moment = t; deed = x; rules = q }) ∷ [])) is

pub enrolment_leads : (r : Rules) (W : Who) (L : List Entry) (e : Entry) → IsLegal r W L → IsLegal r W (L ++ e ∷ []) → is_numbered e ≡ false → LeadOn r W L e []
enrolment_leads r W L e legal next unnumbered_one =
    let t = who_text e.who in
    let follows = legal_follow r W (L ++ e ∷ []) L e [] next refl in
    let a = among r W L e legal (partner_of e follows.good) follows.numbered in
    let none : own L e.who ≡ [] = no_entries (own L e.who) (length_none (is_numbered e) (length (own L e.who) == 0) follows.numbered unnumbered_one) in
    let deed = unnumbered e unnumbered_one in
    let S = sides L e a (outgoing_part W) in
    let out_before : outgoing_rows W (own L e.who) ≡ [] = ap (outgoing_rows W) none in
    let out_later : outgoing_rows W (own L e.who ++ e ∷ []) ≡ [] = ap (λ (M : List Entry). outgoing_rows W (M ++ e ∷ [])) none ∙ enrolment_out W e.who e.moment e.deed e.rules deed in
    lead_on r W L e []
    (ap (λ (ts : AllTables). entered W L e (is_numbered e) ts)
    (tables_before r W L e a blank (λ h. none) (subst (λ (M : List Entry). IsHeld M blank) (sym none) (record { rows = refl; advices = refl; orders = refl })))
    ∙ ap (λ (b : Bool). entered W L e b (in_tables r W L e a (entry_table L) (entry_rules_table L) (own L e.who) blank)) unnumbered_one
    ∙ (λ i. of_page (book_table r W) (entry_put L e i) (framed t S (map outgoing_cells ((out_before ∙ sym out_later) i))) (entry_rules_put L e i) t (others L e a) blank)
    ∙ sym (tables_later r W L e a blank (subst (λ (M : List Entry). IsHeld (M ++ e ∷ []) blank) (sym none) (enrolment_held e.who e.moment e.deed e.rules deed))))

-- Decisions.

-- what an accepted command's entry is after its depositor's own, by the page that is held of these
is_new : (r : Rules) (W : Who) (L : List Entry) (e : Entry) → IsLegal r W (L ++ e ∷ []) → standing (own L e.who) ≡ None → is_numbered e ≡ false
is_new r W L e next none = (legal_follow r W (L ++ e ∷ []) L e [] next refl).numbered ∙ ap not (by (length (own L e.who) == 0) none)
  where
    by : (b : Bool) → (if b then None else Some (history (own L e.who))) ≡ None → b ≡ true
    by true h = refl
    by false h = absurd (cc (h))

record IsOld (M : List Entry) (h : History) : Type 0 where
  some : (length M == 0) ≡ false
  same : h ≡ history M

old : (M : List Entry) (h : History) → standing M ≡ Some h → IsOld M h
old M h is = by (length M == 0) refl is
  where
    by : (b : Bool) → (length M == 0) ≡ b → (if b then None else Some (history M)) ≡ Some h → IsOld M h
    by true e g = absurd (cc (g))
    by false e g = let same : history M ≡ h = cc (g) in record { some = e; same = sym same }

-- a command whose entry may stand in a legal register names that entry's depositor
named_own : (v r : Rules) (W : Who) (L : List Entry) (c : Command) (t : Moment) → IsLegal v W (L ++ entry_of r c t ∷ []) → own_of L c ≡ own L (entry_of r c t).who
named_own v r W L (Interchange text) t next =
    let follows = legal_follow v W (L ++ entry_of r (Interchange text) t ∷ []) L (entry_of r (Interchange text) t) [] next refl in
    own_sender L text (clean_read text follows.clean) (partner_of (entry_of r (Interchange text) t) follows.good)
named_own v r W L (Enrol w) t next = refl
named_own v r W L (Clerk w ticket act) t next = refl

led_from_none : (r : Rules) (c : Command) (W : Who) (L : List Entry) (e : Entry) (cs : List Change) (o : Option History) → IsLegal r W L → IsLegal r W (L ++ e ∷ []) → standing (own L e.who) ≡ o → StandsFor c None o → cs ≡ []
    → LeadOn r W L e (table_changes e.who cs)
led_from_none r c W L e cs None legal next none stands nothing_changes =
    subst (λ (ds : List Change). LeadOn r W L e (table_changes e.who ds)) (sym nothing_changes) (enrolment_leads r W L e legal next (is_new r W L e next none))
led_from_none r c W L e cs (Some h) legal next some stands nothing_changes = absurd stands

led_from_some : (r : Rules) (c : Command) (W : Who) (L : List Entry) (e : Entry) (p : PageFacts) (cs : List Change) (o : Option History) → IsLegal r W L → IsLegal r W (L ++ e ∷ []) → standing (own L e.who) ≡ o → StandsFor c (Some p) o
    → ((h : History) (P : PageFacts) → HasNeeded c p P → IsPageOf P h → AreLeading P cs (after_entry h e)) → LeadOn r W L e (table_changes e.who cs)
led_from_some r c W L e p cs None legal next none stands leads = absurd stands
led_from_some r c W L e p cs (Some h) legal next some stands leads =
    let was = old (own L e.who) h some in
    let P = stands.0 in
    let of : IsPageOf P (history (own L e.who)) = subst (IsPageOf P) was.same stands.2 in
    let numbered : is_numbered e ≡ true = (legal_follow r W (L ++ e ∷ []) L e [] next refl).numbered ∙ ap not was.some in
    numbered_leads r W L e P cs legal next numbered of (leads (history (own L e.who)) P stands.1 of)

-- what a decision changes by the page of the depositor that the command names leads on in the
-- tables
pub tables_lead : (r : Rules) (page : Option PageFacts) (c : Command) (t : Moment) (d : Decision) → LeadsFrom r page c t d
    → (W : Who) (L : List Entry) → StandsFor c page (standing (own_of L c)) → LeadsInTables r W L c t d
tables_lead r page c t (Stored text) leads W L stands = tt
tables_lead r page c t (Refused refusal text) leads W L stands = tt
tables_lead r None c t (Accepted row changes text) leads W L stands = λ v legal next.
    let e = entry_of r c t in
    led_from_none v c W L e changes.items (standing (own L e.who)) legal next refl (subst (λ (M : List Entry). StandsFor c None (standing M)) (named_own v r W L c t next) stands) leads
tables_lead r (Some p) c t (Accepted row changes text) leads W L stands = λ v legal next.
    let e = entry_of r c t in
    led_from_some v c W L e p changes.items (standing (own L e.who)) legal next refl (subst (λ (M : List Entry). StandsFor c (Some p) (standing M)) (named_own v r W L c t next) stands) leads

pub all_lead : {E : Type 0} (r : Rules) (page : Option PageFacts) (made : Result Decision E) (c : Command) (t : Moment) → IfOk made (LeadsFrom r page c t)
    → IfOk made (λ d. (W : Who) (L : List Entry) → StandsFor c page (standing (own_of L c)) → LeadsInTables r W L c t d)
all_lead r page (Ok d) c t leads = tables_lead r page c t d leads
all_lead r page (Err e) c t leads = tt
