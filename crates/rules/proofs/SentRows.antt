-- The tables `entry`, `entry_rules` and `outgoing` with one entry more.
use Rattle.std.proofs.Common.{◌≡◌, ℕ, ◌+◌, ◌<◌, ◌≤◌, Bool, true, false, ◌&&◌, cond, List, [], ◌∷◌, ◌++◌, length, map, Option, Some, None, refl, sym, ap, ◌∙◌, subst, inl, inr, arith, append_assoc, append-nil}
use Rattle.std.specs.Prelude.{fold, option_map, ◌==◌, nat_lt, bytes_eq, if◌then◌else◌}
use Rattle.std.specs.List.{list_all}
use Rattle.std.proofs.lemmas.Bool.{and_parts, lt-ltb, le-ltb, ltb-true}
use Rattle.std.proofs.lemmas.List.{length-append, map-id, map-append}
use Rattle.definitions.specs.declared.rules.Rules.{Rules}
use Rattle.definitions.specs.Bytes.{comes_before}
use Rattle.definitions.specs.Moments.{Moment}
use Rattle.definitions.specs.Header.{Who, who_text}
use Rattle.definitions.specs.Events.{Event}
use Rattle.definitions.specs.Rows.{OutRow, state_text, said_of, act_kind, act_function, out_row, new_out_row, outgoing_on}
use Rattle.definitions.specs.Page.{PageDocument}
use Rattle.definitions.specs.Register.{Deed, Enrolled, Received, Performed, Entry, is_numbered, next_number}
use Rattle.definitions.specs.History.{events}
use Rattle.definitions.specs.Reply.{out}
use Rattle.definitions.specs.Tables.{Cell, Null, Number, Text, Blob, TableRow, entry_row, entries_on, entry_table, entry_rules_row, entry_rules_on, entry_rules_table, outgoing_cells}
use Rattle.definitions.specs.Schema.{key_in, put_row, entry_schema, entry_rules_schema, outgoing_schema}
use Rattle.definitions.specs.Changes.{with_state}
use Rattle.definitions.proofs.TextLaws.{same_text}
use Rattle.definitions.proofs.HistoryLaws.{history-numbered, history_snoc}
use Rattle.stock.specs.Keyed.{put_by}
use Rattle.stock.specs.Pages.{PageFacts, document_at}
use Rattle.stock.specs.Puts.{put_change}
use Rattle.stock.specs.Shows.{Shows, sent_under, document_of}
use Rattle.stock.specs.declared.steps.Change.{Change}
use Rattle.stock.specs.declared.steps.Change.TheVariants.{Stock, Advice, Order, Sent, Document}
use Rattle.set_effects.specs.Proper.{AreProper}
use Rattle.set_effects.proofs.KeyedLists.{both}
use Rattle.set_effects.proofs.Tables.{last_cell}
use Rattle.set_effects.proofs.Blocks.{prefixed, is_below, is_above, put_row_by, put_map, put_within}
use Rattle.set_effects.proofs.Portions.{rest_in}
use Rattle.set_effects.proofs.TableSteps.{Sides, IsBeside, framed, text_apart}
use Rattle.set_effects.proofs.TableChanges.{said_in}
use Rattle.rules.proofs.Registers.{Along1, IsDone, along_at}
use Rattle.rules.proofs.SentUnder.{sent_of, sent_at}
use Rattle.rules.proofs.SaidOf.{said_by, said_stays, said_above, decided_row, all_decided, decided_state, untouched, untouched_new}

-- Entries.

entries_snoc : (before L : List Entry) (e : Entry) → entries_on before (L ++ e ∷ []) ≡ entries_on before L ++ entry_row (before ++ L) e ∷ []
entries_snoc before [] e = ap (λ (B : List Entry). entry_row B e ∷ []) (sym (append-nil before))
entries_snoc before (k ∷ L) e =
    ap (λ (rows : List TableRow). entry_row before k ∷ rows) (entries_snoc (before ++ k ∷ []) L e ∙ ap (λ (B : List Entry). entries_on (before ++ k ∷ []) L ++ entry_row B e ∷ []) (append_assoc before (k ∷ []) L))

-- a row with this number
abbrev numbered_row : ℕ → Cell → Cell → Cell → Cell → Cell → TableRow
numbered_row n a b c d f = Number n ∷ a ∷ b ∷ c ∷ d ∷ f ∷ []

entries_put : (before L : List Entry) (n : ℕ) (a b c d f : Cell) → length before + length L < n
    → put_row entry_schema (numbered_row n a b c d f) (entries_on before L) ≡ entries_on before L ++ numbered_row n a b c d f ∷ []
entries_put before [] n a b c d f lt = refl
entries_put before (k ∷ L) n a b c d f lt =
    let m = length before + 1 in
    let later : nat_lt n m ≡ false = le-ltb n m (omega (arith, lt)) in
    let sooner : nat_lt m n ≡ true = lt-ltb m n (omega (arith, lt)) in
    let one : length (before ++ k ∷ []) ≡ length before + 1 = length-append before (k ∷ []) in
    (λ i. if (last_cell (nat_lt n m) (nat_lt m n) ∙ later) i then numbered_row n a b c d f ∷ entry_row before k ∷ entries_on (before ++ k ∷ []) L
    else (if (last_cell (nat_lt m n) (nat_lt n m) ∙ sooner) i then entry_row before k ∷ entries_put (before ++ k ∷ []) L n a b c d f (omega (arith, one, lt)) i
    else numbered_row n a b c d f ∷ entries_on (before ++ k ∷ []) L))

pub entry_put : (L : List Entry) (e : Entry) → put_row entry_schema (entry_row L e) (entry_table L) ≡ entry_table (L ++ e ∷ [])
entry_put L e = entries_put [] L (length L + 1) _ _ _ _ _ (omega arith) ∙ sym (entries_snoc [] L e)

-- Rules of entries.

rules_snoc : (before L : List Entry) (e : Entry) → entry_rules_on before (L ++ e ∷ []) ≡ entry_rules_on before L ++ entry_rules_row (before ++ L) e ∷ []
rules_snoc before [] e = ap (λ (B : List Entry). entry_rules_row B e ∷ []) (sym (append-nil before))
rules_snoc before (k ∷ L) e =
    ap (λ (rows : List TableRow). entry_rules_row before k ∷ rows)
    (rules_snoc (before ++ k ∷ []) L e ∙ ap (λ (B : List Entry). entry_rules_on (before ++ k ∷ []) L ++ entry_rules_row B e ∷ []) (append_assoc before (k ∷ []) L))

-- a row with this number
abbrev ruled_row : ℕ → Cell → TableRow
ruled_row n a = Number n ∷ a ∷ []

rules_put : (before L : List Entry) (n : ℕ) (a : Cell) → length before + length L < n
    → put_row entry_rules_schema (ruled_row n a) (entry_rules_on before L) ≡ entry_rules_on before L ++ ruled_row n a ∷ []
rules_put before [] n a lt = refl
rules_put before (k ∷ L) n a lt =
    let m = length before + 1 in
    let later : nat_lt n m ≡ false = le-ltb n m (omega (arith, lt)) in
    let sooner : nat_lt m n ≡ true = lt-ltb m n (omega (arith, lt)) in
    let one : length (before ++ k ∷ []) ≡ length before + 1 = length-append before (k ∷ []) in
    (λ i. if (last_cell (nat_lt n m) (nat_lt m n) ∙ later) i then ruled_row n a ∷ entry_rules_row before k ∷ entry_rules_on (before ++ k ∷ []) L
    else (if (last_cell (nat_lt m n) (nat_lt n m) ∙ sooner) i then entry_rules_row before k ∷ rules_put (before ++ k ∷ []) L n a (omega (arith, one, lt)) i
    else ruled_row n a ∷ entry_rules_on (before ++ k ∷ []) L))

pub entry_rules_put : (L : List Entry) (e : Entry) → put_row entry_rules_schema (entry_rules_row L e) (entry_rules_table L) ≡ entry_rules_table (L ++ e ∷ [])
entry_rules_put L e = rules_put [] L (length L + 1) _ (omega arith) ∙ sym (rules_snoc [] L e)

-- Numbers.

pub next_snoc : (M : List Entry) (e : Entry) → next_number (M ++ e ∷ []) ≡ next_number M + (if is_numbered e then 1 else 0)
next_snoc M e =
    let a = history-numbered (M ++ e ∷ []) in
    let b = history-numbered M in
    let c = ap (λ h. h.numbered) (history_snoc M e) in
    omega (arith, a, b, c)

next_more : (before M : List Entry) → next_number before ≤ next_number (before ++ M)
next_more before [] = omega (arith, ap next_number (append-nil before))
next_more before (e ∷ M) =
    let later = next_more (before ++ e ∷ []) M in
    omega (arith, later, ap next_number (append_assoc before (e ∷ []) M), one)
  where
    one : next_number before ≤ next_number (before ++ e ∷ [])
    one = omega (arith, next_snoc before e, grown (is_numbered e))
      where
        grown : (b : Bool) → 0 ≤ (if b then 1 else 0)
        grown true = omega arith
        grown false = omega arith

next_later : (before : List Entry) (e : Entry) (M : List Entry) → is_numbered e ≡ true → next_number before + 1 ≤ next_number (before ++ e ∷ M)
next_later before e M h =
    omega (arith, next_more (before ++ e ∷ []) M, ap next_number (append_assoc before (e ∷ []) M), next_snoc before e, ap (λ (b : Bool). cond {A = ℕ} b 1 0) h)

row_number : (W : Who) (es : List Event) (before : List Entry) (e : Entry) → (out_row W es before e).n ≡ next_number before
row_number W es before e = by e.who e.moment e.deed e.rules
  where
    by : (w : Who) (t : Moment) (d : Deed) (z : Rules) → (out_row W es before (record { who = w; moment = t; deed = d; rules = z })).n ≡ next_number before
    by w t Enrolled z = refl
    by w t (Received text) z = refl
    by w t (Performed ticket act) z = refl

-- The rows of a depositor.

abbrev row_if : Who → List Event → List Entry → Entry → List OutRow
row_if W es before e = if is_numbered e then out_row W es before e ∷ [] else []

on_snoc : (W : Who) (es : List Event) (before M : List Entry) (e : Entry) → outgoing_on W es before (M ++ e ∷ []) ≡ outgoing_on W es before M ++ row_if W es (before ++ M) e
on_snoc W es before [] e = append-nil (row_if W es before e) ∙ ap (λ (B : List Entry). row_if W es B e) (sym (append-nil before))
on_snoc W es before (k ∷ M) e =
    ap (λ (rows : List OutRow). row_if W es before k ++ rows) (on_snoc W es (before ++ k ∷ []) M e ∙ ap (λ (B : List Entry). outgoing_on W es (before ++ k ∷ []) M ++ row_if W es B e) (append_assoc before (k ∷ []) M))
    ∙ sym (append_assoc (row_if W es before k) (outgoing_on W es (before ++ k ∷ []) M) (row_if W es (before ++ k ∷ M) e))

all_lower : (W : Who) (es : List Event) (before M : List Entry) (n : ℕ) → next_number (before ++ M) ≤ n → list_all (λ (q : OutRow). nat_lt q.n n) (outgoing_on W es before M) ≡ true
all_lower W es before [] n le = refl
all_lower W es before (e ∷ M) n le = by (is_numbered e) refl (all_lower W es (before ++ e ∷ []) M n (omega (arith, le, ap next_number (append_assoc before (e ∷ []) M))))
  where
    by : (b : Bool) → is_numbered e ≡ b → list_all (λ (q : OutRow). nat_lt q.n n) (outgoing_on W es (before ++ e ∷ []) M) ≡ true
        → list_all (λ (q : OutRow). nat_lt q.n n) ((if b then out_row W es before e ∷ [] else []) ++ outgoing_on W es (before ++ e ∷ []) M) ≡ true
    by true h later = both (nat_lt (out_row W es before e).n n) _ (lt-ltb (out_row W es before e).n n (omega (arith, row_number W es before e, next_later before e M h, le))) later
    by false h later = later

-- put after all of lower numbers
put_end : (r : OutRow) (rows : List OutRow) → list_all (λ (q : OutRow). nat_lt q.n r.n) rows ≡ true → put_by nat_lt (λ (q : OutRow). q.n) r rows ≡ rows ++ r ∷ []
put_end r [] h = refl
put_end r (q ∷ rows) h =
    let a = and_parts (nat_lt q.n r.n) (list_all (λ (z : OutRow). nat_lt z.n r.n) rows) h in
    let back : nat_lt r.n q.n ≡ false = le-ltb r.n q.n (omega (arith, lower q.n r.n a.0)) in
    λ i. if back i then r ∷ q ∷ rows else (if a.0 i then q ∷ put_end r rows a.1 i else r ∷ rows)
  where
    lower : (m n : ℕ) → nat_lt m n ≡ true → m < n
    lower m n e = ltb-true m n e

-- a depositor's new row, put among the others
pub row_put : (t : List ℕ) (x : Sides) (r : OutRow) (rows : List OutRow) → IsBeside t x → list_all (λ (q : OutRow). nat_lt q.n r.n) rows ≡ true
    → put_row outgoing_schema (Text t ∷ outgoing_cells r) (framed t x (map outgoing_cells rows)) ≡ framed t x (map outgoing_cells (rows ++ r ∷ []))
row_put t x r rows beside lower =
    put_row_by outgoing_schema (Text t ∷ outgoing_cells r) (framed t x (map outgoing_cells rows))
    ∙ put_within (key_in outgoing_schema) (rest_in 1 outgoing_schema) (λ u row. refl) t (outgoing_cells r) x.front (map outgoing_cells rows) x.back beside.below beside.above
    ∙ ap (framed t x) (put_map nat_lt (λ (q : OutRow). q.n) (rest_in 1 outgoing_schema) outgoing_cells (λ a b. last_cell (nat_lt a.n b.n) (nat_lt b.n a.n)) r rows)
    ∙ ap (λ (qs : List OutRow). framed t x (map outgoing_cells qs)) (put_end r rows lower)

-- States that are set.

state_apart : (s t : List ℕ) (n : ℕ) (st : List ℕ) (q : TableRow) → bytes_eq s t ≡ false → with_state t n st (Text s ∷ q) ≡ Text s ∷ q
state_apart s t n st [] h = refl
state_apart s t n st (Null ∷ q) h = refl
state_apart s t n st (Text u ∷ q) h = refl
state_apart s t n st (Blob b ∷ q) h = refl
state_apart s t n st (Number m ∷ []) h = refl
state_apart s t n st (Number m ∷ kind ∷ []) h = refl
state_apart s t n st (Number m ∷ kind ∷ content ∷ []) h = refl
state_apart s t n st (Number m ∷ kind ∷ content ∷ old ∷ []) h = ap (λ (b : Bool). Text s ∷ Number m ∷ kind ∷ content ∷ (if b && m == n then Text st else old) ∷ []) h
state_apart s t n st (Number m ∷ kind ∷ content ∷ old ∷ more ∷ q) h = refl

states_below : (t : List ℕ) (n : ℕ) (st : List ℕ) (A : List TableRow) → list_all (is_below t) A ≡ true → map (with_state t n st) A ≡ A
states_below t n st [] h = refl
states_below t n st ((Text s ∷ q) ∷ A) h =
    let a = and_parts (comes_before s t) (list_all (is_below t) A) h in
    λ i. state_apart s t n st q (text_apart s t (inl a.0)) i ∷ states_below t n st A a.1 i
states_below t n st ([] ∷ A) h = absurd (cc (h))
states_below t n st ((Null ∷ q) ∷ A) h = absurd (cc (h))
states_below t n st ((Number m ∷ q) ∷ A) h = absurd (cc (h))
states_below t n st ((Blob b ∷ q) ∷ A) h = absurd (cc (h))

states_above : (t : List ℕ) (n : ℕ) (st : List ℕ) (A : List TableRow) → list_all (is_above t) A ≡ true → map (with_state t n st) A ≡ A
states_above t n st [] h = refl
states_above t n st ((Text s ∷ q) ∷ A) h =
    let a = and_parts (comes_before t s) (list_all (is_above t) A) h in
    λ i. state_apart s t n st q (text_apart s t (inr a.0)) i ∷ states_above t n st A a.1 i
states_above t n st ([] ∷ A) h = absurd (cc (h))
states_above t n st ((Null ∷ q) ∷ A) h = absurd (cc (h))
states_above t n st ((Number m ∷ q) ∷ A) h = absurd (cc (h))
states_above t n st ((Blob b ∷ q) ∷ A) h = absurd (cc (h))

state_own : (t : List ℕ) (n : ℕ) (accepts : Bool) (r : OutRow) → with_state t n (state_text (Some accepts)) (Text t ∷ outgoing_cells r) ≡ Text t ∷ outgoing_cells (decided_row (Document n accepts) r)
state_own t n accepts r =
    ap (λ (b : Bool). Text t ∷ Number r.n ∷ Text r.kind ∷ Blob r.content ∷ (if b && r.n == n then Text (state_text (Some accepts)) else Text r.state) ∷ []) (same_text t)
    ∙ ap (λ (c : Cell). Text t ∷ Number r.n ∷ Text r.kind ∷ Blob r.content ∷ c ∷ []) (by (r.n == n))
  where
    by : (b : Bool) → (if b then Text (state_text (Some accepts)) else Text r.state) ≡ Text (if b then state_text (Some accepts) else r.state)
    by true = refl
    by false = refl

states_own : (t : List ℕ) (n : ℕ) (accepts : Bool) (rows : List OutRow)
    → map (with_state t n (state_text (Some accepts))) (prefixed t (map outgoing_cells rows)) ≡ prefixed t (map outgoing_cells (map (decided_row (Document n accepts)) rows))
states_own t n accepts [] = refl
states_own t n accepts (r ∷ rows) = λ i. state_own t n accepts r i ∷ states_own t n accepts rows i

kept_rows : (rows : List OutRow) → rows ≡ map (λ (r : OutRow). r) rows
kept_rows rows = sym (map-id rows)

said_framed : (w : Who) (x : Sides) (c : Change) (rows : List OutRow) → IsBeside (who_text w) x
    → said_in w c (framed (who_text w) x (map outgoing_cells rows)) ≡ framed (who_text w) x (map outgoing_cells (map (decided_row c) rows))
said_framed w x (Stock row) rows beside = ap (λ (qs : List OutRow). framed (who_text w) x (map outgoing_cells qs)) (kept_rows rows)
said_framed w x (Advice k) rows beside = ap (λ (qs : List OutRow). framed (who_text w) x (map outgoing_cells qs)) (kept_rows rows)
said_framed w x (Order k) rows beside = ap (λ (qs : List OutRow). framed (who_text w) x (map outgoing_cells qs)) (kept_rows rows)
said_framed w x (Sent m f) rows beside = ap (λ (qs : List OutRow). framed (who_text w) x (map outgoing_cells qs)) (kept_rows rows)
said_framed w x (Document n accepts) rows beside =
    let t = who_text w in
    let F : TableRow → TableRow = with_state t n (state_text (Some accepts)) in
    map-append F x.front (prefixed t (map outgoing_cells rows) ++ x.back)
    ∙ (λ i. states_below t n (state_text (Some accepts)) x.front beside.below i ++ map-append F (prefixed t (map outgoing_cells rows)) x.back i)
    ∙ (λ i. x.front ++ (states_own t n accepts rows i ++ states_above t n (state_text (Some accepts)) x.back beside.above i))

-- in turn
map_map : (f g : OutRow → OutRow) (rows : List OutRow) → map g (map f rows) ≡ map (λ (r : OutRow). g (f r)) rows
map_map f g [] = refl
map_map f g (r ∷ rows) = ap (λ (qs : List OutRow). g (f r) ∷ qs) (map_map f g rows)

pub all_framed : (w : Who) (x : Sides) (cs : List Change) (rows : List OutRow) → IsBeside (who_text w) x
    → fold (λ (U : List TableRow) (c : Change). said_in w c U) (framed (who_text w) x (map outgoing_cells rows)) cs ≡ framed (who_text w) x (map outgoing_cells (map (all_decided cs) rows))
all_framed w x [] rows beside = ap (λ (qs : List OutRow). framed (who_text w) x (map outgoing_cells qs)) (kept_rows rows)
all_framed w x (c ∷ cs) rows beside =
    ap (λ (T : List TableRow). fold (λ (U : List TableRow) (d : Change). said_in w d U) T cs) (said_framed w x c rows beside)
    ∙ all_framed w x cs (map (decided_row c) rows) beside
    ∙ ap (λ (qs : List OutRow). framed (who_text w) x (map outgoing_cells qs)) (map_map (decided_row c) (all_decided cs) rows)

-- Each row is decided as the events say.

-- the pages before and after an entry of a depositor, whose changes lead from one to the other
pub record AreStates (M : List Entry) (e : Entry) (p q : PageFacts) (cs : List Change) : Type 0 where
  pub shows : Shows p (events M)
  pub entries : p.entries + 1 ≡ next_number M
  pub next : Shows q (events (M ++ e ∷ []))
  pub documents : q.documents ≡ (fold put_change p cs).documents
  pub proper : AreProper p cs
  pub done : Along1 (λ (N : List Entry) (k : Entry). IsDone N k.deed) [] M

row_decided : (W : Who) (M : List Entry) (new : Entry) (p q : PageFacts) (cs : List Change) → AreStates M new p q cs → (before : List Entry) (w : Who) (t : Moment) (d : Deed) (z : Rules) (back : List Entry)
    → M ≡ before ++ (record { who = w; moment = t; deed = d; rules = z }) ∷ back → is_numbered (record { who = w; moment = t; deed = d; rules = z }) ≡ true
    → sent_under (next_number before) (events M) ≡ sent_of d → sent_under (next_number before) (events (M ++ new ∷ [])) ≡ sent_of d
    → all_decided cs (out_row W (events M) before (record { who = w; moment = t; deed = d; rules = z })) ≡ out_row W (events (M ++ new ∷ [])) before (record { who = w; moment = t; deed = d; rules = z })
row_decided W M new p q cs states before w t Enrolled z back is numbered first second = absurd (cc (numbered))
row_decided W M new p q cs states before w t (Received text) z back is numbered first second =
    let n = next_number before in
    let e : Entry = record { who = w; moment = t; deed = Received text; rules = z } in
    let none : document_at n p.documents ≡ None = states.shows.documents n ∙ ap (option_map (document_of (events M) n)) first in
    untouched cs p (out_row W (events M) before e) states.proper none (omega (arith, next_later before e back refl, ap next_number is, states.entries))
row_decided W M new p q cs states before w t (Performed ticket act) z back is numbered first second =
    let n = next_number before in
    let f = act_function act in
    let e : Entry = record { who = w; moment = t; deed = Performed ticket act; rules = z } in
    let es = events M in
    let fs = events (M ++ new ∷ []) in
    let old : document_at n p.documents ≡ Some (document_of es n f) = states.shows.documents n ∙ ap (option_map (document_of es n)) first in
    let there : document_at n q.documents ≡ Some (document_of fs n f) = states.next.documents n ∙ ap (option_map (document_of fs n)) second in
    let led : document_at n q.documents ≡ Some (record (document_of es n f) { said = said_by cs n (said_of es n f) }) =
    ap (document_at n) states.documents ∙ said_stays cs p n (document_of es n f) old in
    let same : said_by cs n (said_of es n f) ≡ said_of fs n f = said_same (record (document_of es n f) { said = said_by cs n (said_of es n f) }) (document_of fs n f) (sym led ∙ there) in
    decided_state cs n (act_kind act) (out W before e) (said_of es n f)
    ∙ ap (λ (s : Option Bool). record { n = n; kind = act_kind act; content = out W before e; state = state_text s }) same
  where
    said_same : (a b : PageDocument) → Some a ≡ Some b → a.said ≡ b.said
    said_same a b h = let same : a ≡ b = cc (h) in ap (λ (d : PageDocument). d.said) same

rows_decided : (W : Who) (M : List Entry) (new : Entry) (p q : PageFacts) (cs : List Change) → AreStates M new p q cs → (before N : List Entry) → M ≡ before ++ N
    → map (all_decided cs) (outgoing_on W (events M) before N) ≡ outgoing_on W (events (M ++ new ∷ [])) before N
rows_decided W M new p q cs states before [] is = refl
rows_decided W M new p q cs states before (e ∷ N) is =
    map-append (all_decided cs) (row_if W (events M) before e) (outgoing_on W (events M) (before ++ e ∷ []) N)
    ∙ (λ i. by (is_numbered e) refl i ++ rows_decided W M new p q cs states (before ++ e ∷ []) N (is ∙ sym (append_assoc before (e ∷ []) N)) i)
  where
    by : (b : Bool) → is_numbered e ≡ b
        → map (all_decided cs) (if b then out_row W (events M) before e ∷ [] else []) ≡ (if b then out_row W (events (M ++ new ∷ [])) before e ∷ [] else [])
    by false h = refl
    by true h =
        let done = along_at (λ (K : List Entry) (k : Entry). IsDone K k.deed) [] before e N (subst (Along1 (λ (K : List Entry) (k : Entry). IsDone K k.deed) []) is states.done) in
        let n = next_number before in
        let first : sent_under n (events M) ≡ sent_of e.deed = ap (λ (K : List Entry). sent_under n (events K)) is ∙ sent_at before e N h done in
        let more : M ++ new ∷ [] ≡ before ++ e ∷ (N ++ new ∷ []) = ap (λ (K : List Entry). K ++ new ∷ []) is ∙ append_assoc before (e ∷ N) (new ∷ []) in
        let second : sent_under n (events (M ++ new ∷ [])) ≡ sent_of e.deed = ap (λ (K : List Entry). sent_under n (events K)) more ∙ sent_at before e (N ++ new ∷ []) h done in
        ap (λ (r : OutRow). r ∷ []) (row_decided W M new p q cs states before e.who e.moment e.deed e.rules N is h first second)

-- the row of the new entry is as new under the events with it
new_row : (W : Who) (M : List Entry) (w : Who) (t : Moment) (d : Deed) (z : Rules) → is_numbered (record { who = w; moment = t; deed = d; rules = z }) ≡ true
    → out_row W [] M (record { who = w; moment = t; deed = d; rules = z }) ≡ out_row W (events (M ++ (record { who = w; moment = t; deed = d; rules = z }) ∷ [])) M (record { who = w; moment = t; deed = d; rules = z })
new_row W M w t Enrolled z numbered = absurd (cc (numbered))
new_row W M w t (Received text) z numbered = refl
new_row W M w t (Performed ticket act) z numbered =
    let e : Entry = record { who = w; moment = t; deed = Performed ticket act; rules = z } in
    let n = next_number M in
    let none : said_of (events (M ++ e ∷ [])) n (act_function act) ≡ None =
    said_above (M ++ e ∷ []) n (act_function act) (omega (arith, history-numbered (M ++ e ∷ []), next_snoc M e)) in
    ap (λ (s : Option Bool). record { n = n; kind = act_kind act; content = out W M e; state = state_text s }) (sym none)

-- all rows with the new entry's, decided, are those of one entry more
pub rows_led : (W : Who) (M : List Entry) (e : Entry) (p q : PageFacts) (cs : List Change) → AreStates M e p q cs → is_numbered e ≡ true
    → map (all_decided cs) (outgoing_on W (events M) [] M ++ new_out_row W M e ∷ []) ≡ outgoing_on W (events (M ++ e ∷ [])) [] (M ++ e ∷ [])
rows_led W M e p q cs states numbered =
    let r = new_out_row W M e in
    let es = events (M ++ e ∷ []) in
    let last : all_decided cs r ≡ out_row W es M e =
    untouched_new cs p r states.proper (omega (arith, row_number W [] M e, states.entries)) ∙ new_row W M e.who e.moment e.deed e.rules numbered in
    map-append (all_decided cs) (outgoing_on W (events M) [] M) (r ∷ [])
    ∙ (λ i. rows_decided W M e p q cs states [] M refl i ++ last i ∷ [])
    ∙ sym (on_snoc W es [] M e ∙ ap (λ (b : Bool). outgoing_on W es [] M ++ (if b then out_row W es M e ∷ [] else [])) numbered)

pub new_lower : (W : Who) (M : List Entry) (e : Entry) → list_all (λ (q : OutRow). nat_lt q.n (new_out_row W M e).n) (outgoing_on W (events M) [] M) ≡ true
new_lower W M e = all_lower W (events M) [] M (new_out_row W M e).n (omega (arith, row_number W [] M e))
