-- What the entries of a depositor sent out, one entry more at a time.
use Rattle.std.proofs.Common.{◌≡◌, ℕ, ◌<◌, ◌+◌, Bool, true, false, not, List, [], ◌∷◌, ◌++◌, length, take, drop, get_or, suc, refl, sym, ap, ◌∙◌, subst, arith, Option, Some, None, option_map, append-nil, append_assoc}
use Rattle.std.specs.Prelude.{if◌then◌else◌, nat_lt, filter, option_to_list, ◌==◌, codes, count_by, unwrap_or}
use Rattle.std.proofs.Math.Seq.{take-length}
use Rattle.std.proofs.lemmas.Bool.{eqb-true, lt-ltb}
use Rattle.std.proofs.lemmas.List.Elements.{filter-append}
use Rattle.definitions.specs.declared.rules.Rules.{Rules}
use Rattle.definitions.specs.Rules.{Today}
use Rattle.definitions.specs.Accepted.{IsLegal}
use Rattle.definitions.specs.Decision.{standing}
use Rattle.definitions.specs.Moments.{Moment}
use Rattle.definitions.specs.Header.{Who, who_eq}
use Rattle.definitions.specs.Events.{Event}
use Rattle.definitions.specs.History.{history, events}
use Rattle.definitions.specs.Page.{PageDocument}
use Rattle.definitions.specs.Register.{Deed, Enrolled, Received, Performed, Entry, own, is_numbered, next_number, deed_mark, body_of}
use Rattle.definitions.specs.Reply.{out}
use Rattle.definitions.specs.Rows.{OutRow, out_row, outgoing_on, outbox_rows, outbox_of, act_function, act_kind, state_text, said_of}
use Rattle.definitions.specs.Tables.{number_of}
use Rattle.rules.specs.Pages.{PageFacts, document_at}
use Rattle.rules.specs.Shows.{document_of, sent_under}
use Rattle.rules.specs.Decided.{IsPageOf}
use Rattle.rules.specs.Written.{Written, written}
use Rattle.rules.proofs.SentUnder.{sent_under_own, sent_of}
use Rattle.store.specs.Held.{IsHeldFor}
use Rattle.store.specs.Replayed.{all_written}
use Rattle.store.specs.Sent.{said_in, said_under, sent_row, sent_on}
use Rattle.store.proofs.Entries.{IsThere, there_on, own_same, own_other, who_is, written_length, written_take}

-- Rows of entries.

abbrev has_content : OutRow → Bool
has_content r = nat_lt 0 (length r.content)

-- the row of an entry that counts
abbrev row_of : Who → List Event → List Entry → Entry → List OutRow
row_of W es M e = if is_numbered e then out_row W es M e ∷ [] else []

outgoing_more : (W : Who) (es : List Event) (before M : List Entry) (e : Entry)
    → outgoing_on W es before (M ++ e ∷ []) ≡ outgoing_on W es before M ++ row_of W es (before ++ M) e
outgoing_more W es before [] e = append-nil (row_of W es before e) ∙ ap (λ (B : List Entry). row_of W es B e) (sym (append-nil before))
outgoing_more W es before (x ∷ M) e =
    ap (λ (rs : List OutRow). row_of W es before x ++ rs) (outgoing_more W es (before ++ x ∷ []) M e)
    ∙ ap (λ (B : List Entry). row_of W es before x ++ (outgoing_on W es (before ++ x ∷ []) M ++ row_of W es B e)) (append_assoc before (x ∷ []) M)
    ∙ sym (append_assoc (row_of W es before x) (outgoing_on W es (before ++ x ∷ []) M) (row_of W es (before ++ x ∷ M) e))

sent_more : (W : Who) (es : List Event) (M : List Entry) (e : Entry) → sent_on W es (M ++ e ∷ []) ≡ sent_on W es M ++ filter has_content (row_of W es M e)
sent_more W es M e = ap (filter has_content) (outgoing_more W es [] M e) ∙ filter-append has_content (outgoing_on W es [] M) (row_of W es M e)

-- What a page's documents say of a document is what the events say.

said_found : (es : List Event) (n : ℕ) (function : List ℕ) (o : Option PageDocument) (s : Option (List ℕ)) → o ≡ option_map (document_of es n) s → s ≡ Some function
    → said_in o ≡ said_of es n function
said_found es n function o s is sent = ap said_in (is ∙ ap (option_map (document_of es n)) sent)

row_by : (W : Who) (es : List Event) (M : List Entry) (w : Who) (t : Moment) (d : Deed) (q : Rules) (p : PageFacts) (n : ℕ) (text : List ℕ) → n ≡ next_number M
    → text ≡ out W M (record { who = w; moment = t; deed = d; rules = q })
    → ((m : ℕ) → document_at m p.documents ≡ option_map (document_of es m) (sent_under m es))
    → sent_under (next_number M) es ≡ sent_of d
    → sent_row p.documents d n text ≡ out_row W es M (record { who = w; moment = t; deed = d; rules = q })
row_by W es M w t Enrolled q p n text count content documents sent = λ i. record { n = count i; kind = codes "ANS"; content = content i; state = codes "-" }
row_by W es M w t (Received bytes) q p n text count content documents sent = λ i. record { n = count i; kind = codes "ANS"; content = content i; state = codes "-" }
row_by W es M w t (Performed ticket act) q p n text count content documents sent =
    let said : said_under n p.documents ≡ said_of es (next_number M) (act_function act) =
    ap (λ m. said_under m p.documents) count
    ∙ said_found es (next_number M) (act_function act) (document_at (next_number M) p.documents) (sent_under (next_number M) es) (documents (next_number M)) sent in
    λ i. record { n = count i; kind = act_kind act; content = content i; state = state_text (said i) }

own_append : (X Y : List Entry) (who : Who) → own (X ++ Y) who ≡ own X who ++ own Y who
own_append X Y who = filter-append (λ (x : Entry). who_eq x.who who) X Y

-- a depositor's part of a register, at one of its entries
own_split : (X Y : List Entry) (e : Entry) (who : Who) → who_eq e.who who ≡ true → own (X ++ e ∷ Y) who ≡ own X who ++ e ∷ own Y who
own_split X Y e who whose = own_append X (e ∷ Y) who ∙ ap (λ (b : Bool). own X who ++ (if b then e ∷ own Y who else own Y who)) whose

-- One entry more.

-- a place in a register's entries, of a depositor or another
pub record IsPlace (W : Who) (L : List Entry) (i : ℕ) (who : Who) (p : PageFacts) (w : Written) : Type 0 where
  pub legal : IsLegal Today W L
  pub within : i < length (all_written L)
  pub row : w ≡ get_or (all_written L) i w
  pub page : IsPageOf p (history (own L who))

one_more : (i : ℕ) → i + 1 ≡ suc i
one_more i = omega arith

next_own : (L : List Entry) (i : ℕ) (w : Written) (e : Entry) (who : Who) → IsThere [] L i w e → who_eq w.who who ≡ true → own (take (i + 1) L) who ≡ own (take i L) who ++ e ∷ []
next_own L i w e who there whose =
    ap (λ n. own (take n L) who) (one_more i) ∙ ap (λ (M : List Entry). own M who) there.more
    ∙ own_same (take i L) e who (ap (λ (x : Written). who_eq x.who who) (sym there.row) ∙ whose)

next_other : (L : List Entry) (i : ℕ) (w : Written) (e : Entry) (who : Who) → IsThere [] L i w e → who_eq w.who who ≡ false → own (take (i + 1) L) who ≡ own (take i L) who
next_other L i w e who there whose =
    ap (λ n. own (take n L) who) (one_more i) ∙ ap (λ (M : List Entry). own M who) there.more
    ∙ own_other (take i L) e who (ap (λ (x : Written). who_eq x.who who) (sym there.row) ∙ whose)

abbrev pub Adds : Who → List Entry → ℕ → Who → Option OutRow → Type 0
Adds W L i who row = sent_on W (events (own L who)) (own (take (i + 1) L) who) ≡ sent_on W (events (own L who)) (own (take i L) who) ++ option_to_list row

pub adds_other : (W : Who) (L : List Entry) (i : ℕ) (who : Who) (p : PageFacts) (w : Written) → IsPlace W L i who p w → who_eq w.who who ≡ false → Adds W L i who None
adds_other W L i who p w at whose =
    let t = there_on [] L i w at.within at.row in
    ap (sent_on W (events (own L who))) (next_other L i w t.0 who t.1 whose) ∙ sym (append-nil (sent_on W (events (own L who)) (own (take i L) who)))

adds_row : (W : Who) (L : List Entry) (i : ℕ) (who : Who) (w : Written) (e : Entry) (rows : List OutRow) → IsThere [] L i w e → who_eq w.who who ≡ true
    → filter has_content (row_of W (events (own L who)) (own (take i L) who) e) ≡ rows
    → sent_on W (events (own L who)) (own (take (i + 1) L) who) ≡ sent_on W (events (own L who)) (own (take i L) who) ++ rows
adds_row W L i who w e rows there whose is =
    ap (sent_on W (events (own L who))) (next_own L i w e who there whose)
    ∙ sent_more W (events (own L who)) (own (take i L) who) e
    ∙ ap (λ (rs : List OutRow). sent_on W (events (own L who)) (own (take i L) who) ++ rs) is

pub positive : (n : ℕ) → nat_lt 0 (n + 1) ≡ true
positive n = lt-ltb 0 (n + 1) (omega arith)

not_both : (b : Bool) → b ≡ true → b ≡ false → ⊥
not_both b is other = absurd (cc (is, other))

uncounted : (before : List Entry) (e : Entry) → nat_lt 0 (number_of before e) ≡ false → is_numbered e ≡ false
uncounted before e not = by_test (is_numbered e) refl
  where
    by_test : (b : Bool) → is_numbered e ≡ b → is_numbered e ≡ false
    by_test true h = absurd (not_both (nat_lt 0 (number_of before e)) (ap (λ (b : Bool). nat_lt 0 (if b then next_number (own before e.who) else 0)) h ∙ positive (count_by is_numbered (own before e.who))) not)
    by_test false h = h

counted : (before : List Entry) (e : Entry) → nat_lt 0 (number_of before e) ≡ true → is_numbered e ≡ true
counted before e is = by_test (is_numbered e) refl
  where
    by_test : (b : Bool) → is_numbered e ≡ b → is_numbered e ≡ true
    by_test true h = h
    by_test false h = absurd (not_both (nat_lt 0 (number_of before e)) is (ap (λ (b : Bool). nat_lt 0 (if b then next_number (own before e.who) else 0)) h))

pub adds_uncounted : (W : Who) (L : List Entry) (i : ℕ) (who : Who) (p : PageFacts) (w : Written) → IsPlace W L i who p w → who_eq w.who who ≡ true → nat_lt 0 w.n ≡ false
    → Adds W L i who None
adds_uncounted W L i who p w at whose not =
    let t = there_on [] L i w at.within at.row in
    let free = uncounted (take i L) t.0 (ap (λ (x : Written). nat_lt 0 x.n) (sym t.1.row) ∙ not) in
    adds_row W L i who w t.0 [] t.1 whose
    (ap (λ (b : Bool). filter has_content (if b then out_row W (events (own L who)) (own (take i L) who) t.0 ∷ [] else [])) free)

-- the row of an entry that counts, by its text
row_there : (W : Who) (L : List Entry) (i : ℕ) (who : Who) (p : PageFacts) (w : Written) (e : Entry) (text : List ℕ) → IsPlace W L i who p w → IsThere [] L i w e
    → who_eq w.who who ≡ true → is_numbered e ≡ true → text ≡ out W (own (take i L) e.who) e
    → sent_row p.documents e.deed w.n text ≡ out_row W (events (own L who)) (own (take i L) who) e
row_there W L i who p w e text at there whose counts content =
    let same : e.who ≡ who = who_is e.who who (ap (λ (x : Written). who_eq x.who who) (sym there.row) ∙ whose) in
    let M = own (take i L) who in
    let number : w.n ≡ next_number M =
    ap (λ (x : Written). x.n) there.row ∙ ap (λ (b : Bool). if b then next_number (own (take i L) e.who) else 0) counts ∙ ap (λ d. next_number (own (take i L) d)) same in
    let split = ap (λ (K : List Entry). own K who) there.split ∙ own_split (take i L) (drop (suc i) L) e who (ap (λ (x : Written). who_eq x.who who) (sym there.row) ∙ whose) in
    row_by W (events (own L who)) M e.who e.moment e.deed e.rules p w.n text number (content ∙ ap (λ d. out W (own (take i L) d) e) same)
    at.page.shows.documents (sent_under_own Today W L who M e (own (drop (suc i) L) who) at.legal split counts)

-- what an entry that counts sent out is its row, unless it is nothing
adds_counted : (W : Who) (L : List Entry) (i : ℕ) (who : Who) (p : PageFacts) (w : Written) (e : Entry) (text : List ℕ) (rows : List OutRow) → IsPlace W L i who p w → IsThere [] L i w e
    → who_eq w.who who ≡ true → nat_lt 0 w.n ≡ true → text ≡ out W (own (take i L) e.who) e
    → filter has_content (sent_row p.documents e.deed w.n text ∷ []) ≡ rows
    → sent_on W (events (own L who)) (own (take (i + 1) L) who) ≡ sent_on W (events (own L who)) (own (take i L) who) ++ rows
adds_counted W L i who p w e text rows at there whose counts content is =
    let numbered = counted (take i L) e (ap (λ (x : Written). nat_lt 0 x.n) (sym there.row) ∙ counts) in
    adds_row W L i who w e rows there whose
    (ap (λ (b : Bool). filter has_content (if b then out_row W (events (own L who)) (own (take i L) who) e ∷ [] else [])) numbered
    ∙ ap (λ (r : OutRow). filter has_content (r ∷ [])) (sym (row_there W L i who p w e text at there whose numbered content)) ∙ is)

-- what is said of a place's text, where one is made from the entries before it
abbrev pub TextOf : Who → List Entry → Written → List ℕ → Type 0
TextOf W X w text = (e : Entry) (later : List Entry) → w ≡ written X e → IsLegal Today W (X ++ e ∷ later) → text ≡ out W (own X e.who) e

text_there : (W : Who) (L : List Entry) (i : ℕ) (w : Written) (e : Entry) (text : List ℕ) → IsLegal Today W L → IsThere [] L i w e → TextOf W (take i L) w text → text ≡ out W (own (take i L) e.who) e
text_there W L i w e text legal there made = made e (drop (suc i) L) there.row (subst (IsLegal Today W) there.split legal)

content_of : (ds : List PageDocument) (d : Deed) (n : ℕ) (text : List ℕ) → has_content (sent_row ds d n text) ≡ nat_lt 0 (length text)
content_of ds Enrolled n text = refl
content_of ds (Received bytes) n text = refl
content_of ds (Performed ticket act) n text = refl

pub adds_nothing : (W : Who) (L : List Entry) (i : ℕ) (who : Who) (p : PageFacts) (w : Written) (text : List ℕ) → IsPlace W L i who p w → who_eq w.who who ≡ true
    → nat_lt 0 w.n ≡ true → TextOf W (take i L) w text → nat_lt 0 (length text) ≡ false → Adds W L i who None
adds_nothing W L i who p w text at whose counts made empty =
    let t = there_on [] L i w at.within at.row in
    adds_counted W L i who p w t.0 text [] at t.1 whose counts (text_there W L i w t.0 text at.legal t.1 made)
    (ap (λ (b : Bool). if b then sent_row p.documents t.0.deed w.n text ∷ [] else []) (content_of p.documents t.0.deed w.n text ∙ empty))

pub adds_sent : (W : Who) (L : List Entry) (i : ℕ) (who : Who) (p : PageFacts) (w : Written) (text : List ℕ) (row : OutRow) → IsPlace W L i who p w → who_eq w.who who ≡ true
    → nat_lt 0 w.n ≡ true → TextOf W (take i L) w text → nat_lt 0 (length text) ≡ true
    → ((d : Deed) → w.key ≡ deed_mark d → w.body ≡ body_of d → row ≡ sent_row p.documents d w.n text)
    → Adds W L i who (Some row)
adds_sent W L i who p w text row at whose counts made full is =
    let t = there_on [] L i w at.within at.row in
    let this : row ≡ sent_row p.documents t.0.deed w.n text = is t.0.deed (ap (λ (x : Written). x.key) t.1.row) (ap (λ (x : Written). x.body) t.1.row) in
    adds_counted W L i who p w t.0 text (row ∷ []) at t.1 whose counts (text_there W L i w t.0 text at.legal t.1 made)
    (ap (λ (b : Bool). if b then sent_row p.documents t.0.deed w.n text ∷ [] else []) (content_of p.documents t.0.deed w.n text ∙ full)
    ∙ ap (λ (r : OutRow). r ∷ []) (sym this))

-- a place of a list of entries that are those of a register
pub placed : (W : Who) (L : List Entry) (ws : List Written) (i : ℕ) (who : Who) (p : PageFacts) (w : Written) → ws ≡ all_written L → IsLegal Today W L → IsPageOf p (history (own L who))
    → i < length ws → w ≡ get_or ws i w → IsPlace W L i who p w
placed W L ws i who p w is legal page within row = record {
  legal = legal;
  within = subst (λ (vs : List Written). i < length vs) is within;
  row = row ∙ ap (λ (vs : List Written). get_or vs i w) is;
  page = page;
}

pub is_nothing : (text : List ℕ) → (length text == 0) ≡ true → nat_lt 0 (length text) ≡ false
is_nothing [] h = refl
is_nothing (x ∷ text) h = absurd (omega (arith, eqb-true (length (x ∷ text)) 0 h))

pub is_something : (text : List ℕ) → (length text == 0) ≡ false → nat_lt 0 (length text) ≡ true
is_something [] h = absurd (cc (h))
is_something (x ∷ text) h = lt-ltb 0 (length (x ∷ text)) (omega arith)

pub text_of : (W : Who) (L : List Entry) (ws : List Written) (i : ℕ) (w : Written) (text : List ℕ) → ws ≡ all_written L
    → ((M : List Entry) (e : Entry) (later : List Entry) → take i ws ≡ all_written M → w ≡ written M e → IsLegal Today W (M ++ e ∷ later) → text ≡ out W (own M e.who) e)
    → TextOf W (take i L) w text
text_of W L ws i w text is made = λ e later row legal. made (take i L) e later (ap (λ (vs : List Written). take i vs) is ∙ written_take [] L i) row legal

-- All of a register.

pub sent_all : (W : Who) (L : List Entry) (ws : List Written) (who : Who) (rows : List OutRow) → ws ≡ all_written L
    → rows ≡ sent_on W (events (own L who)) (own (take (length ws) L) who) → rows ≡ outbox_rows W (own L who)
sent_all W L ws who rows is sent =
    let count : length ws ≡ length L = ap length is ∙ written_length [] L in
    sent ∙ ap (λ (M : List Entry). sent_on W (events (own L who)) (own M who)) (ap (λ n. take n L) count ∙ take-length L)

outbox_by : (rows : List OutRow) (W : Who) (page : Option PageFacts) (M : List Entry) (b : Bool) → (length M == 0) ≡ b → IsHeldFor page (if b then None else Some (history M))
    → ((p : PageFacts) → page ≡ Some p → IsPageOf p (history M) → rows ≡ outbox_rows W M)
    → option_map (λ (p : PageFacts). rows) page ≡ (if b then None else Some (outbox_rows W M))
outbox_by rows W None M true t h is = refl
outbox_by rows W None M false t h is = absurd h
outbox_by rows W (Some p) M true t h is = absurd h
outbox_by rows W (Some p) M false t h is = ap Some (is p refl h)

pub outbox_none : (W : Who) (L : List Entry) (who : Who) → IsHeldFor None (standing (own L who)) → None ≡ outbox_of W L who
outbox_none W L who h = outbox_by [] W None (own L who) (length (own L who) == 0) refl h (λ p e i. absurd (cc))

some_is : (a b : PageFacts) → Some a ≡ Some b → a ≡ b
some_is a b e = ap (λ (o : Option PageFacts). unwrap_or o a) e

pub outbox_some : (W : Who) (L : List Entry) (who : Who) (p : PageFacts) (rows : List OutRow) → IsHeldFor (Some p) (standing (own L who))
    → (IsPageOf p (history (own L who)) → rows ≡ outbox_rows W (own L who)) → Some rows ≡ outbox_of W L who
outbox_some W L who p rows h is =
    outbox_by rows W (Some p) (own L who) (length (own L who) == 0) refl h (λ q e i. is (subst (λ x. IsPageOf x (history (own L who))) (some_is q p (sym e)) i))
