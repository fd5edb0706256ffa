-- What an entry that is appended writes.
use Rattle.std.proofs.Common.{◌≡◌, inl, inr, ℕ, List, [], ◌∷◌, ◌++◌, get_or, codes, Bool, true, false, refl, sym, ap, subst, ◌∙◌, arith}
use Rattle.std.specs.Prelude.{if◌then◌else◌, nat_lt}
use Rattle.std.proofs.lemmas.Bool.{cases_Bool}
use Rattle.std.proofs.lemmas.Bool.Decides.{nat_tests}
use Rattle.sqlite.specs.Effect.{Database}
use Rattle.definitions.specs.declared.rules.Rules.{Rules}
use Rattle.definitions.specs.Rules.{Today, rules_number}
use Rattle.definitions.specs.Header.{Who, who_text}
use Rattle.definitions.specs.Moments.{Moment, stamp}
use Rattle.definitions.specs.Register.{Deed, Enrolled, Received, Performed, Entry, is_numbered, own, next_number}
use Rattle.definitions.specs.Reply.{out}
use Rattle.definitions.specs.Rows.{new_out_row}
use Rattle.definitions.specs.Tables.{Number, Text, Blob, TableRow, AllTables, number_of, entry_row, entry_rules_row, outgoing_row, tables}
use Rattle.definitions.specs.Changes.{Change, Puts, changed_by, with_entry, LeadOn}
use Rattle.rules.specs.Written.{Written}
use Rattle.rules.specs.Tabled.{table_changes}
use Rattle.rules.specs.Change as stock
use Rattle.rules.specs.Kinds.{kind_by}
use Rattle.book_statements.specs.Appending.{first_state, sent_changes, entry_changes, Appends}
use Rattle.book_statements.specs.Leading.{Leads}
use Rattle.book_statements.specs.Lines.{rules_row}
use Rattle.book_statements.proofs.LeadingLemmas.{leads_none, leads_on, changed_on}
use Rattle.book_statements.specs.declared.names.TableName.{TableName}
use Rattle.book_statements.specs.declared.names.TableName.TheVariants as table
use Rattle.book_statements.specs.Standing.{Filled, named}

-- an entry is numbered where its number isn't 0
positive : (M : List Entry) → nat_lt 0 (next_number M) ≡ true
positive M = grind (arith, nat_tests)

pub numbered : (L : List Entry) (e : Entry) → nat_lt 0 (number_of L e) ≡ is_numbered e
numbered L e = elim (cases_Bool (is_numbered e)) [
  | inl counts ↦ rw counts (positive (own L e.who))
  | inr not_so ↦ rw not_so refl
]

-- the row of what goes out
row_of : (W : Who) (before : List Entry) (who : Who) (t : Moment) (q : Rules) (d : Deed) → is_numbered (record { who = who; moment = t; deed = d; rules = q }) ≡ true
    → outgoing_row who (new_out_row W before (record { who = who; moment = t; deed = d; rules = q }))
    ≡ Text (who_text who) ∷ Number (next_number before) ∷ Text (kind_by d) ∷ Blob (out W before (record { who = who; moment = t; deed = d; rules = q })) ∷ Text (first_state d) ∷ []
row_of W before who t q Enrolled h = absurd (let e : ◌≡◌ {A = Bool} false true = h in cc)
row_of W before who t q (Received text) h = refl
row_of W before who t q (Performed ticket act) h = refl

number_is : (L : List Entry) (e : Entry) → is_numbered e ≡ true → number_of L e ≡ next_number (own L e.who)
number_is L e h = ap (λ (b : Bool). if b then next_number (own L e.who) else 0) h

-- and nothing goes out for one that isn't
pub unsent_led : (W : Who) (L : List Entry) (e : Entry) (db : Database) → is_numbered e ≡ false → Leads (sent_changes W L e) db db
unsent_led W L e db silent =
    subst (λ (b : Bool). Leads (if b then Puts (codes "outgoing") (outgoing_row e.who (new_out_row W (own L e.who) e)) ∷ [] else []) db db) (sym silent) (leads_none db)

pub sent_led : (W : Who) (L : List Entry) (e : Entry) (who : List ℕ) (n : ℕ) (kind content state : List ℕ) (a b : Database) → is_numbered e ≡ true → who ≡ who_text e.who → n ≡ number_of L e
    → kind ≡ kind_by e.deed → content ≡ out W (own L e.who) e → state ≡ first_state e.deed
    → Leads (Puts (codes "outgoing") (Text who ∷ Number n ∷ Text kind ∷ Blob content ∷ Text state ∷ []) ∷ []) a b → Leads (sent_changes W L e) a b
sent_led W L e who n kind content state a b counts p q r s t led =
    let row : Text who ∷ Number n ∷ Text kind ∷ Blob content ∷ Text state ∷ [] ≡ outgoing_row e.who (new_out_row W (own L e.who) e) =
    (λ i. Text (p i) ∷ Number ((q ∙ number_is L e counts) i) ∷ Text (r i) ∷ Blob (s i) ∷ Text (t i) ∷ []) ∙ sym (row_of W (own L e.who) e.who e.moment e.rules e.deed counts) in
    subst (λ (b' : Bool). Leads (if b' then Puts (codes "outgoing") (outgoing_row e.who (new_out_row W (own L e.who) e)) ∷ [] else []) a b) (sym counts)
    (subst (λ (x : TableRow). Leads (Puts (codes "outgoing") x ∷ []) a b) row led)

-- the entry's row, and that of its rules
pub entry_led_on : (W : Who) (L : List Entry) (e : Entry) (cs : List stock.Change) (seq : ℕ) (who : List ℕ) (row : Written) (rules : Rules) (moment text : List ℕ) (a b c d z : Database) → who ≡ who_text e.who → moment ≡ stamp row.moment
    → rules ≡ row.rules → Appends W L e seq row cs text
    → Leads (Puts (codes "entry") (Number seq ∷ Text who ∷ Text row.key ∷ Number row.n ∷ Text moment ∷ Blob row.body ∷ []) ∷ []) a b → Leads (Puts (codes "entry_rules") (rules_row seq rules) ∷ []) b c
    → Leads (sent_changes W L e) c d → Leads (table_changes e.who cs) d z → Leads (entry_changes W L e ++ table_changes e.who cs) a z
entry_led_on W L e cs seq who row rules moment text a b c d z p m r next first second third fourth =
    let is : Number seq ∷ Text who ∷ Text row.key ∷ Number row.n ∷ Text moment ∷ Blob row.body ∷ [] ≡ entry_row L e =
    (λ i. Number (next.next i) ∷ Text (p i) ∷ Text ((next.entry i).key) ∷ Number ((next.entry i).n) ∷ Text ((m ∙ ap (λ (w : Written). stamp w.moment) next.entry) i) ∷ Blob ((next.entry i).body) ∷ []) in
    let ruled : rules_row seq rules ≡ entry_rules_row L e = (λ i. Number (next.next i) ∷ Number (rules_number ((r ∙ ap (λ (w : Written). w.rules) next.entry) i)) ∷ []) in
    leads_on (entry_changes W L e) (table_changes e.who cs) a d z
    (leads_on (Puts (codes "entry") (entry_row L e) ∷ []) (Puts (codes "entry_rules") (entry_rules_row L e) ∷ sent_changes W L e) a b d (subst (λ (x : TableRow). Leads (Puts (codes "entry") x ∷ []) a b) is first)
    (leads_on (Puts (codes "entry_rules") (entry_rules_row L e) ∷ []) (sent_changes W L e) b c d (subst (λ (x : TableRow). Leads (Puts (codes "entry_rules") x ∷ []) b c) ruled second) third)) fourth

-- ---- what an entry that was appended leads to

with_entry_is : (W : Who) (L : List Entry) (e : Entry) (ts : AllTables) → with_entry Today W L e ts ≡ changed_by ts (entry_changes W L e)
with_entry_is W L e ts = elim (cases_Bool (is_numbered e)) [
  | inl counts ↦ rw counts refl
  | inr not_so ↦ rw not_so refl
]

pub led_on : (W : Who) (L : List Entry) (e : Entry) (cs : List Change) → LeadOn Today W L e cs → changed_by (tables Today W L) (entry_changes W L e ++ cs) ≡ tables Today W (L ++ e ∷ [])
led_on W L e cs h = changed_on (tables Today W L) (entry_changes W L e) cs ∙ ap (λ (ts : AllTables). changed_by ts cs) (sym (with_entry_is W L e (tables Today W L))) ∙ h

-- tables with the same rows by their names are the same
abbrev table_rows : ℕ → AllTables → List TableRow
table_rows place ts = (get_or ts place ([], [])).1

pub same_named : (f g : Filled) → named f ≡ named g → f ≡ g
same_named f g h = λ i t. by t i
  where
    by : (t : TableName) → f t ≡ g t
    by table.Book = ap (table_rows 0) h
    by table.Entry = ap (table_rows 1) h
    by table.Outgoing = ap (table_rows 2) h
    by table.Stock = ap (table_rows 3) h
    by table.Advice = ap (table_rows 4) h
    by table.AdviceLine = ap (table_rows 5) h
    by table.Orders = ap (table_rows 6) h
    by table.OrderLine = ap (table_rows 7) h
    by table.Reservation = ap (table_rows 8) h
    by table.EntryRules = ap (table_rows 9) h
    by table.LotExpiry = ap (table_rows 10) h
