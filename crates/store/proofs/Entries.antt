-- Registers, and the entries that are written down of them.
use Rattle.std.proofs.Common.{◌≡◌, ℕ, ◌<◌, ◌+◌, Bool, true, false, not, List, [], ◌∷◌, ◌++◌, length, take, drop, get_or, suc, zero, refl, sym, ap, ◌∙◌, subst, arith, Option, Some, None, option_map, append-nil}
use Rattle.std.specs.Prelude.{◌&&◌, ◌==◌, if◌then◌else◌, find, bytes_eq}
use Rattle.std.proofs.lemmas.Bool.{eqb-true}
use Rattle.definitions.specs.Rules.{Today, rules_number}
use Rattle.definitions.specs.Header.{Who, who_eq}
use Rattle.definitions.specs.Register.{Entry, Known, known, own, mark, is_numbered}
use Rattle.definitions.specs.History.{history, after_entry}
use Rattle.definitions.specs.Decision as decided
use Rattle.definitions.specs.Decision.{standing, recalled}
use Rattle.definitions.specs.Tables.{number_of, TableRow, Number, Text, Blob, entry_row, entries_on, entry_rules_row, entry_rules_on}
use Rattle.definitions.specs.Header.{who_text, is_partner}
use Rattle.definitions.specs.Moments.{stamp}
use Rattle.definitions.specs.Limits.{most_entries}
use Rattle.definitions.specs.Readings.{is_entry}
use Rattle.definitions.specs.History.{History}
use Rattle.definitions.proofs.RegisterLaws.{entry_table-determines}
use Rattle.rules.specs.Played.{is_clean}
use Rattle.rules.proofs.Follows.{legal_follow}
use Rattle.std.proofs.lemmas.List.{length_push, take_more}
use Rattle.std.proofs.lemmas.List.Folds.{find-append}
use Rattle.std.specs.Option.{option_or}
use Rattle.std.specs.Prelude.{cond}
use Rattle.std.proofs.Math.Seq.{take-length}
use Rattle.std.specs.Prelude.{◌≤◌, IsTrue}
use Rattle.definitions.specs.Accepted.{IsLegal}
use Rattle.definitions.specs.Reply.{out, stored}
use Rattle.definitions.proofs.TextLaws.{text_is, both_parts}
use Rattle.definitions.proofs.HistoryLaws.{history-numbered, history_snoc}
use Rattle.definitions.proofs.DecisionLaws.{out-by}
use Rattle.rules.specs.Pages.{PageFacts, IsSound}
use Rattle.definitions.specs.History.{events}
use Rattle.definitions.specs.Rows.{StockRow, shown_row, stock_rows, stock_of}
use Rattle.rules.proofs.Rowed.{rows_are}
use Rattle.std.specs.Prelude.{map, unwrap_or}
use Rattle.rules.specs.Decided.{IsPageOf, IsRecalled}
use Rattle.rules.specs.Written.{Written, written, written_as}
use Rattle.rules.specs.Played.{IsBefore, IsReplayed, number_after, no_history}
use Rattle.store.specs.Held.{IsHeldFor}
use Rattle.store.specs.Replayed.{written_on, all_written, is_under}

-- Places.

-- the entry that is written down at a place
pub record IsThere (before L : List Entry) (i : ℕ) (w : Written) (e : Entry) : Type 0 where
  pub split : L ≡ take i L ++ e ∷ drop (suc i) L
  pub row : w ≡ written (before ++ take i L) e
  pub more : take (suc i) L ≡ take i L ++ e ∷ []

append-cons : (xs : List Entry) (x : Entry) (ys : List Entry) → (xs ++ x ∷ []) ++ ys ≡ xs ++ x ∷ ys
append-cons [] x ys = refl
append-cons (y ∷ xs) x ys = ap (λ (zs : List Entry). y ∷ zs) (append-cons xs x ys)

pub there_on : (before L : List Entry) (i : ℕ) (w : Written) → i < length (written_on before L) → w ≡ get_or (written_on before L) i w
    → (e : Entry) × IsThere before L i w e
there_on before [] i w lt is = absurd (omega (arith, lt))
there_on before (e ∷ L) zero w lt is = (e, record { split = refl; row = is ∙ ap (λ (B : List Entry). written B e) (sym (append-nil before)); more = refl })
there_on before (e ∷ L) (suc i) w lt is =
    let h = there_on (before ++ e ∷ []) L i w (omega (arith, lt)) is in (
      h.0,
      record {
        split = ap (λ (M : List Entry). e ∷ M) h.1.split;
        row = h.1.row ∙ ap (λ (B : List Entry). written B h.0) (append-cons before e (take i L));
        more = ap (λ (M : List Entry). e ∷ M) h.1.more;
      },
    )

pub written_take : (before L : List Entry) (i : ℕ) → take i (written_on before L) ≡ written_on before (take i L)
written_take before L zero = refl
written_take before [] (suc i) = refl
written_take before (e ∷ L) (suc i) = ap (λ (ws : List Written). written before e ∷ ws) (written_take (before ++ e ∷ []) L i)

-- Own entries.

pub own_more : (L : List Entry) (e : Entry) (who : Who) → own (L ++ e ∷ []) who ≡ own L who ++ (if who_eq e.who who then e ∷ [] else [])
own_more [] e who = refl
own_more (x ∷ L) e who = by_test (who_eq x.who who) refl (own_more L e who)
  where
    by_test : (b : Bool) → who_eq x.who who ≡ b → own (L ++ e ∷ []) who ≡ own L who ++ (if who_eq e.who who then e ∷ [] else [])
        → own (x ∷ (L ++ e ∷ [])) who ≡ own (x ∷ L) who ++ (if who_eq e.who who then e ∷ [] else [])
    by_test true t h = rw t (ap (λ (M : List Entry). x ∷ M) h)
    by_test false t h = rw t h

pub own_same : (L : List Entry) (e : Entry) (who : Who) → who_eq e.who who ≡ true → own (L ++ e ∷ []) who ≡ own L who ++ e ∷ []
own_same L e who t = own_more L e who ∙ ap (λ (b : Bool). own L who ++ (if b then e ∷ [] else [])) t

pub own_other : (L : List Entry) (e : Entry) (who : Who) → who_eq e.who who ≡ false → own (L ++ e ∷ []) who ≡ own L who
own_other L e who t = own_more L e who ∙ ap (λ (b : Bool). own L who ++ (if b then e ∷ [] else [])) t ∙ append-nil (own L who)

pub who_is : (a b : Who) → who_eq a b ≡ true → a ≡ b
who_is a b h =
    let p = both_parts (bytes_eq a.qualifier b.qualifier) (bytes_eq a.id b.id) h in
    let q = text_is a.qualifier b.qualifier p.0 in
    let i = text_is a.id b.id p.1 in
    ap (λ (x : List ℕ). record { qualifier = x; id = a.id }) q ∙ ap (λ (x : List ℕ). record { qualifier = b.qualifier; id = x }) i

-- Histories.

number_is : (before : List Entry) (e : Entry) → number_of before e ≡ number_after (history (own before e.who)) e
number_is before e = ap (λ n. if is_numbered e then n else 0) (sym (history-numbered (own before e.who)))

pub written_later : (before : List Entry) (e : Entry) (w : Written) → w ≡ written before e → w ≡ written_as (number_after (history (own before e.who)) e) e
written_later before e w h = h ∙ ap (λ n. written_as n e) (number_is before e)

none_empty : (M : List Entry) → (length M == 0) ≡ true → history M ≡ no_history
none_empty [] h = refl
none_empty (e ∷ M) h = absurd (omega (arith, eqb-true (length (e ∷ M)) 0 h))

before_by : (page : Option PageFacts) (M : List Entry) (e : Entry) (b : Bool) → (length M == 0) ≡ b → IsHeldFor page (if b then None else Some (history M)) → is_numbered e ≡ not b
    → IsBefore page (history M) e
before_by None M e true t h n = (none_empty M t, n)
before_by None M e false t h n = absurd h
before_by (Some p) M e true t h n = absurd h
before_by (Some p) M e false t h n = (h, n)

pub before_is : (page : Option PageFacts) (M : List Entry) (e : Entry) → IsHeldFor page (standing M) → is_numbered e ≡ not (length M == 0) → IsBefore page (history M) e
before_is page M e h n = before_by page M e (length M == 0) refl h n

not_none : (e : Entry) (M : List Entry) → (length (e ∷ M) == 0) ≡ false
not_none e M = by_test (length (e ∷ M) == 0) refl
  where
    by_test : (b : Bool) → (length (e ∷ M) == 0) ≡ b → b ≡ false
    by_test true same = absurd (omega (arith, eqb-true (length (e ∷ M)) 0 same))
    by_test false same = refl

pub some_more : (M : List Entry) (e : Entry) → (length (M ++ e ∷ []) == 0) ≡ false
some_more [] e = not_none e []
some_more (x ∷ M) e = not_none x (M ++ e ∷ [])

pub held_after : (W : Who) (M : List Entry) (e : Entry) (p : PageFacts) (text : List ℕ) → IsReplayed W (history M) e p text → IsHeldFor (Some p) (standing (M ++ e ∷ []))
held_after W M e p text r =
    let is : standing (M ++ e ∷ []) ≡ Some (after_entry (history M) e) = rw (some_more M e) (ap Some (history_snoc M e)) in
    subst (IsHeldFor (Some p)) (sym is) r.page

-- Known entries.

-- what is found in a list is found after its first, where that isn't it
not_first : (p : Written → Bool) (w : Written) (ws : List Written) → find p (w ∷ ws) ≡ None → (p w ≡ false) × (find p ws ≡ None)
not_first p w ws h = by_test (p w) refl
  where
    by_test : (b : Bool) → p w ≡ b → (p w ≡ false) × (find p ws ≡ None)
    by_test true t = let k : find p (w ∷ ws) ≡ Some w = rw t refl in absurd (cc)
    by_test false t = let k : find p (w ∷ ws) ≡ find p ws = rw t refl in (t, sym k ∙ h)

-- an entry of another, or under another key, isn't the one that is known
passed_over : (who : Who) (key : List ℕ) (e : Entry) (L : List Entry) → (who_eq e.who who && bytes_eq (mark e) key) ≡ false
    → known key (own (e ∷ L) who)
    ≡ (if who_eq e.who who then option_map (λ (k : Known). record { before = e ∷ k.before; entry = k.entry }) (known key (own L who)) else known key (own L who))
passed_over who key e L h = by_who (who_eq e.who who) (bytes_eq (mark e) key) refl refl
  where
    by_who : (b d : Bool) → who_eq e.who who ≡ b → bytes_eq (mark e) key ≡ d
        → known key (own (e ∷ L) who)
        ≡ (if who_eq e.who who then option_map (λ (k : Known). record { before = e ∷ k.before; entry = k.entry }) (known key (own L who)) else known key (own L who))
    by_who true true t u = let k : (who_eq e.who who && bytes_eq (mark e) key) ≡ true = rw (t, u) refl in absurd (cc)
    by_who true false t u = rw (t, u) refl
    by_who false d t u = rw t refl

pub known_none : (who : Who) (key : List ℕ) (before L : List Entry) → find (is_under who key) (written_on before L) ≡ None → known key (own L who) ≡ None
known_none who key before [] h = refl
known_none who key before (e ∷ L) h =
    let p = not_first (is_under who key) (written before e) (written_on (before ++ e ∷ []) L) h in
    let rest = known_none who key (before ++ e ∷ []) L p.1 in
    passed_over who key e L p.0 ∙ by_who (who_eq e.who who) rest
  where
    by_who : (b : Bool) → known key (own L who) ≡ None
        → (if b then option_map (λ (k : Known). record { before = e ∷ k.before; entry = k.entry }) (known key (own L who)) else known key (own L who)) ≡ None
    by_who true r = rw r refl
    by_who false r = r

found_here : (who : Who) (key : List ℕ) (e : Entry) (Y : List Entry) → (who_eq e.who who && bytes_eq (mark e) key) ≡ true
    → known key (own (e ∷ Y) who) ≡ Some (record { before = []; entry = e })
found_here who key e Y h =
    let p = both_parts (who_eq e.who who) (bytes_eq (mark e) key) h in
    rw (p.0, p.1) refl

pub known_at : (who : Who) (key : List ℕ) (before X : List Entry) (e : Entry) (Y : List Entry) → find (is_under who key) (written_on before X) ≡ None
    → (who_eq e.who who && bytes_eq (mark e) key) ≡ true → known key (own (X ++ e ∷ Y) who) ≡ Some (record { before = own X who; entry = e })
known_at who key before [] e Y none h = found_here who key e Y h
known_at who key before (x ∷ X) e Y none h =
    let p = not_first (is_under who key) (written before x) (written_on (before ++ x ∷ []) X) none in
    let rest = known_at who key (before ++ x ∷ []) X e Y p.1 h in
    passed_over who key x (X ++ e ∷ Y) p.0 ∙ by_who (who_eq x.who who) refl rest
  where
    by_who : (b : Bool) → who_eq x.who who ≡ b → known key (own (X ++ e ∷ Y) who) ≡ Some (record { before = own X who; entry = e })
        → (if who_eq x.who who then option_map (λ (k : Known). record { before = x ∷ k.before; entry = k.entry }) (known key (own (X ++ e ∷ Y) who)) else known key (own (X ++ e ∷ Y) who))
        ≡ Some (record { before = own (x ∷ X) who; entry = e })
    by_who true t r = rw (t, r) refl
    by_who false t r = rw (t, r) refl

-- The rows of what is written down determine a legal register.

row_from : ℕ → Written → TableRow
row_from n w = Number (n + 1) ∷ Text (who_text w.who) ∷ Text w.key ∷ Number w.n ∷ Text (stamp w.moment) ∷ Blob w.body ∷ []

abbrev rows_from : ℕ → List Written → List TableRow
rows_from n [] = []
rows_from n (w ∷ ws) = row_from n w ∷ rows_from (n + 1) ws

one_longer : (before : List Entry) (e : Entry) → length (before ++ e ∷ []) ≡ length before + 1
one_longer before e = length_push before e

rows_of : (before L : List Entry) → entries_on before L ≡ rows_from (length before) (written_on before L)
unfolding row_from
rows_of before [] = refl
rows_of before (e ∷ L) =
    ap (λ (rs : List TableRow). entry_row before e ∷ rs)
    (rows_of (before ++ e ∷ []) L ∙ ap (λ n. rows_from n (written_on (before ++ e ∷ []) L)) (one_longer before e))

-- with the rules of each
rules_from : ℕ → List Written → List TableRow
rules_from n [] = []
rules_from n (w ∷ ws) = (Number (n + 1) ∷ Number (rules_number w.rules) ∷ []) ∷ rules_from (n + 1) ws

rules_of : (before L : List Entry) → entry_rules_on before L ≡ rules_from (length before) (written_on before L)
unfolding rules_from
rules_of before [] = refl
rules_of before (e ∷ L) =
    ap (λ (rs : List TableRow). entry_rules_row before e ∷ rs)
    (rules_of (before ++ e ∷ []) L ∙ ap (λ n. rules_from n (written_on (before ++ e ∷ []) L)) (one_longer before e))

pub one_register : (V W : Who) (L M : List Entry) → IsLegal Today V L → IsLegal Today W M → all_written L ≡ all_written M → L ≡ M
one_register V W L M l m e =
    entry_table-determines V W L M l m (rows_of [] L ∙ ap (rows_from 0) e ∙ sym (rows_of [] M))
    (rules_of [] L ∙ ap (rules_from 0) e ∙ sym (rules_of [] M))

pub nothing_legal : (W : Who) → IsTrue (is_partner W) → IsLegal Today W []
nothing_legal W h = record { first = []; commands = []; of_a_partner = h; first_given = refl; given = refl; left = refl }

-- one entry more that is written down
pub written_more : (before L : List Entry) (e : Entry) → written_on before (L ++ e ∷ []) ≡ written_on before L ++ written (before ++ L) e ∷ []
written_more before [] e = ap (λ (B : List Entry). written B e ∷ []) (sym (append-nil before))
written_more before (x ∷ L) e =
    ap (λ (ws : List Written). written before x ∷ ws)
    (written_more (before ++ x ∷ []) L e ∙ ap (λ (B : List Entry). written_on (before ++ x ∷ []) L ++ written B e ∷ []) (append-cons before x L))

pub written_length : (before L : List Entry) → length (written_on before L) ≡ length L
written_length before [] = refl
written_length before (e ∷ L) = ap suc (written_length (before ++ e ∷ []) L)

-- What replaying one more entry comes to.

assoc : (X : List Entry) (e : Entry) (Y Z : List Entry) → (X ++ e ∷ Y) ++ Z ≡ X ++ e ∷ (Y ++ Z)
assoc [] e Y Z = refl
assoc (x ∷ X) e Y Z = ap (λ (M : List Entry). x ∷ M) (assoc X e Y Z)

abbrev pub Replays : Who → Option PageFacts → Written → PageFacts → List ℕ → Type 0
Replays W page w p text = (h : History) (e : Entry) → IsBefore page h e → w ≡ written_as (number_after h e) e → number_after h e ≤ most_entries
    → is_entry e ≡ true → is_clean e.deed ≡ true → IsReplayed W h e p text

pub replayed_at : (W : Who) (X : List Entry) (e : Entry) (later : List Entry) (who : Who) (w : Written) (page : Option PageFacts) (p : PageFacts) (text : List ℕ)
    → IsLegal Today W (X ++ e ∷ later) → w ≡ written X e → e.who ≡ who → IsHeldFor page (standing (own X who)) → Replays W page w p text
    → IsReplayed W (history (own X e.who)) e p text
replayed_at W X e later who w page p text legal row same held replays =
    let follow = legal_follow Today W (X ++ e ∷ later) X e later legal refl in
    let at : IsHeldFor page (standing (own X e.who)) = subst (λ d. IsHeldFor page (standing (own X d))) (sym same) held in
    replays (history (own X e.who)) e (before_is page (own X e.who) e at follow.numbered) (written_later X e w row) follow.few follow.good follow.clean

pub text_at : (W : Who) (X : List Entry) (e : Entry) (later : List Entry) (who : Who) (w : Written) (page : Option PageFacts) (p : PageFacts) (text : List ℕ)
    → IsLegal Today W (X ++ e ∷ later) → w ≡ written X e → e.who ≡ who → IsHeldFor page (standing (own X who)) → Replays W page w p text
    → text ≡ out W (own X e.who) e
text_at W X e later who w page p text legal row same held replays =
    (replayed_at W X e later who w page p text legal row same held replays).outgoing ∙ sym (out-by W (own X e.who) e)

one_more : (i : ℕ) → i + 1 ≡ suc i
one_more i = omega arith

pub held_next : (W : Who) (L later : List Entry) (i : ℕ) (w : Written) (who : Who) (page : Option PageFacts) (p : PageFacts) (text : List ℕ)
    → IsLegal Today W (L ++ later) → i < length (all_written L) → w ≡ get_or (all_written L) i w → who_eq w.who who ≡ true
    → IsHeldFor page (standing (own (take i L) who)) → Replays W page w p text → IsHeldFor (Some p) (standing (own (take (i + 1) L) who))
held_next W L later i w who page p text legal lt is whose held replays =
    let t = there_on [] L i w lt is in
    let e = t.0 in
    let X = take i L in
    let of_e : w.who ≡ e.who = ap (λ (x : Written). x.who) t.1.row in
    let same : e.who ≡ who = sym of_e ∙ who_is w.who who whose in
    let all : L ++ later ≡ X ++ e ∷ (drop (suc i) L ++ later) = ap (λ (M : List Entry). M ++ later) t.1.split ∙ assoc X e (drop (suc i) L) later in
    let r = replayed_at W X e (drop (suc i) L ++ later) who w page p text (subst (IsLegal Today W) all legal) t.1.row same held replays in
    let after : IsHeldFor (Some p) (standing (own X e.who ++ e ∷ [])) = held_after W (own X e.who) e p text r in
    let grown : own (take (i + 1) L) who ≡ own X e.who ++ e ∷ [] =
    ap (λ n. own (take n L) who) (one_more i) ∙ ap (λ (M : List Entry). own M who) t.1.more
    ∙ own_same X e who (ap (λ d. who_eq d who) (sym of_e) ∙ whose) ∙ ap (λ d. own X d ++ e ∷ []) (sym same) in
    subst (λ (M : List Entry). IsHeldFor (Some p) (standing M)) (sym grown) after

pub held_other : (L : List Entry) (i : ℕ) (w : Written) (who : Who) (page : Option PageFacts)
    → i < length (all_written L) → w ≡ get_or (all_written L) i w → who_eq w.who who ≡ false
    → IsHeldFor page (standing (own (take i L) who)) → IsHeldFor page (standing (own (take (i + 1) L) who))
held_other L i w who page lt is whose held =
    let t = there_on [] L i w lt is in
    let e = t.0 in
    let of_e : w.who ≡ e.who = ap (λ (x : Written). x.who) t.1.row in
    let grown : own (take (i + 1) L) who ≡ own (take i L) who =
    ap (λ n. own (take n L) who) (one_more i) ∙ ap (λ (M : List Entry). own M who) t.1.more
    ∙ own_other (take i L) e who (ap (λ d. who_eq d who) (sym of_e) ∙ whose) in
    subst (λ (M : List Entry). IsHeldFor page (standing M)) (sym grown) held

-- all of a register
pub held_all : (L : List Entry) (ws : List Written) (who : Who) (page : Option PageFacts) → ws ≡ all_written L
    → IsHeldFor page (standing (own (take (length ws) L) who)) → IsHeldFor page (standing (own L who))
held_all L ws who page is held =
    let count : length ws ≡ length L = ap length is ∙ written_length [] L in
    subst (λ (M : List Entry). IsHeldFor page (standing (own M who))) (ap (λ n. take n L) count ∙ take-length L) held

-- What is recalled.

pub recalled_none : (W : Who) (who : Who) (key : List ℕ) (L : List Entry) (ws : List Written) → ws ≡ all_written L → find (is_under who key) ws ≡ None
    → recalled W key (own L who) ≡ None
recalled_none W who key L ws is none =
    ap (λ (o : Option Known). option_map (λ (k : Known). record { entry = k.entry; outgoing = stored W k }) o)
    (known_none who key [] L (ap (find (is_under who key)) (sym is) ∙ none))

-- the entry at the first place under a key is the one that is recalled
pub recalled_at_place : (W : Who) (who : Who) (key : List ℕ) (L : List Entry) (i : ℕ) (w : Written) (e : Entry) → IsThere [] L i w e
    → find (is_under who key) (take i (all_written L)) ≡ None → is_under who key w ≡ true
    → recalled W key (own L who) ≡ Some (record { entry = e; outgoing = out W (own (take i L) e.who) e })
recalled_at_place W who key L i w e there none here =
    let X = take i L in
    let Y = drop (suc i) L in
    let at : (who_eq e.who who && bytes_eq (mark e) key) ≡ true = ap (λ (x : Written). is_under who key x) (sym there.row) ∙ here in
    let whose = who_is e.who who ((both_parts (who_eq e.who who) (bytes_eq (mark e) key) at).0) in
    let before : find (is_under who key) (written_on [] X) ≡ None = ap (find (is_under who key)) (sym (written_take [] L i)) ∙ none in
    let known_there = known_at who key [] X e Y before at in
    ap (λ (M : List Entry). recalled W key (own M who)) there.split
    ∙ ap (λ (o : Option Known). option_map (λ (k : Known). record { entry = k.entry; outgoing = stored W k }) o) known_there
    ∙ ap (λ d. Some (record { entry = e; outgoing = out W (own X d) e })) (sym whose)

pub is_recalled : (W : Who) (L : List Entry) (i : ℕ) (w copy : Written) (e : Entry) (text : List ℕ) (o : Option decided.Recalled) → IsThere [] L i w e → copy ≡ w
    → text ≡ out W (own (take i L) e.who) e → o ≡ Some (record { entry = e; outgoing = out W (own (take i L) e.who) e })
    → IsRecalled (Some (record { entry = copy; outgoing = text })) o
is_recalled W L i w copy e text o there same sent is =
    subst (IsRecalled (Some (record { entry = copy; outgoing = text }))) (sym is) (number_of (take i L) e, same ∙ there.row, sent)

-- What is shown of a depositor, by its page.

pub rows_of_page : (p : PageFacts) (M : List Entry) → IsSound p → IsPageOf p (history M) → map shown_row p.rows ≡ stock_rows M
rows_of_page p M sound h = ap (map shown_row) (rows_are p (events M) sound h.shows)

shown_by : {X : Type 0} (f : List Entry → X) (x : X) (page : Option PageFacts) (M : List Entry) (b : Bool) → (length M == 0) ≡ b → IsHeldFor page (if b then None else Some (history M))
    → ((p : PageFacts) → page ≡ Some p → IsPageOf p (history M) → x ≡ f M)
    → option_map (λ (p : PageFacts). x) page ≡ (if b then None else Some (f M))
shown_by f x None M true t h is = refl
shown_by f x None M false t h is = absurd h
shown_by f x (Some p) M true t h is = absurd h
shown_by f x (Some p) M false t h is = ap Some (is p refl h)

some_is : (a b : PageFacts) → Some a ≡ Some b → a ≡ b
some_is a b e = ap (λ (o : Option PageFacts). unwrap_or o a) e

-- of a stranger nothing
pub shown_none : {X : Type 0} (f : List Entry → X) (x : X) (L : List Entry) (who : Who) → IsHeldFor None (standing (own L who))
    → None ≡ (if length (own L who) == 0 then None else Some (f (own L who)))
shown_none f x L who h = shown_by f x None (own L who) (length (own L who) == 0) refl h (λ p e i. absurd (cc))

pub shown_some : {X : Type 0} (f : List Entry → X) (x : X) (L : List Entry) (who : Who) (p : PageFacts) → IsHeldFor (Some p) (standing (own L who))
    → ((M : List Entry) → IsPageOf p (history M) → x ≡ f M) → Some x ≡ (if length (own L who) == 0 then None else Some (f (own L who)))
shown_some f x L who p h is =
    shown_by f x (Some p) (own L who) (length (own L who) == 0) refl h
    (λ q e i. is (own L who) (subst (λ y. IsPageOf y (history (own L who))) (some_is q p (sym e)) i))

pub stock_none : (L : List Entry) (who : Who) → IsHeldFor None (standing (own L who)) → None ≡ stock_of L who
stock_none L who h = shown_none stock_rows [] L who h

pub stock_some : (L : List Entry) (who : Who) (p : PageFacts) (rows : List StockRow) → IsHeldFor (Some p) (standing (own L who))
    → ((M : List Entry) → IsPageOf p (history M) → rows ≡ stock_rows M) → Some rows ≡ stock_of L who
stock_some L who p rows h is = shown_some stock_rows rows L who p h is

-- The search goes on after an entry that isn't the one.

find_push : (p : Written → Bool) (ws : List Written) (w : Written) → find p (ws ++ w ∷ []) ≡ option_or (find p ws) (cond (p w) (Some w) None)
find_push p ws w = find-append p ws (w ∷ [])

pub find_next : (p : Written → Bool) (ws : List Written) (i : ℕ) (w : Written) → i < length ws → w ≡ get_or ws i w
    → find p (take i ws) ≡ None → p w ≡ false → find p (take (i + 1) ws) ≡ None
find_next p ws i w within is before not =
    ap (find p) (take_more ws i w within ∙ ap (λ (y : Written). take i ws ++ y ∷ []) (sym is))
    ∙ find_push p (take i ws) w
    ∙ ap (λ (o : Option Written). option_or o (cond (p w) (Some w) None)) before
    ∙ ap (λ (v : Bool). cond v (Some w) None) not
