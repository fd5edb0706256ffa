-- What is said of documents: no acknowledgment names a document of a later entry, and proper
-- changes decide the documents that the events decide.
use Rattle.std.proofs.Common.{◌≡◌, ℕ, ◌+◌, ◌<◌, ◌≤◌, Bool, true, false, ◌&&◌, cond, List, [], ◌∷◌, ◌++◌, Option, Some, None, Ok, Err, refl, sym, ap, ◌∙◌, inl, inr, arith}
use Rattle.std.specs.Prelude.{Result, is_some, fold, option_map, if◌then◌else◌, ◌==◌, nat_lt, bytes_eq}
use Rattle.std.specs.Option.{option_or}
use borrow.Author.Tests.{eqb-true}
use Rattle.std.proofs.lemmas.Bool.{cases_Bool, ne_eqb, eq-eqb, le-ltb}
use Rattle.definitions.specs.declared.rules.Rules.{Rules}
use Rattle.definitions.specs.Lists.{or_else}
use Rattle.definitions.specs.Moments.{Moment}
use Rattle.definitions.specs.Header.{Who}
use Rattle.definitions.specs.Events.{Event, Enrolment, Advised, Ordered, Acknowledged, Counted, Picked, Recounted}
use Rattle.definitions.specs.declared.refusals.Refusal.{Refusal}
use Rattle.definitions.specs.Clerk.{performed}
use Rattle.definitions.specs.Rows.{OutRow, acknowledges, said_of, state_text}
use Rattle.definitions.specs.Page.{PageDocument}
use Rattle.definitions.specs.Register.{Act, Count, Pick, Recount, Deed, Enrolled, Received, Performed, Entry}
use Rattle.definitions.specs.History.{History, after_entry, history, events, events_added}
use Rattle.stock.specs.Keyed.{put_document}
use Rattle.stock.specs.Pages.{PageFacts, is_document, document_at}
use Rattle.stock.specs.Puts.{put_change}
use Rattle.stock.specs.Steps.{with_said, said_of_found}
use Rattle.stock.specs.Functions.{function_text}
use Rattle.stock.specs.declared.steps.Change.{Change}
use Rattle.stock.specs.declared.steps.Change.TheVariants.{Stock, Advice, Order, Sent, Document}
use Rattle.stock.proofs.Finds.{first_found-append, or_else_none, found_says}
use Rattle.stock.proofs.KeyLemmas.{document_put, sent_found}
use Rattle.rules.specs.Played.{no_history}
use Rattle.set_effects.specs.Proper.{AreProper}
use Rattle.rules.proofs.Plays.{added_of}
use Rattle.set_effects.proofs.Added.{AreOfSets, IsOfSet, IsOfAct, of_received, of_performed}
use Rattle.rules.proofs.SentUnder.{numbered_le}

-- Later entries' documents.

set_says : (es : List Event) (m : ℕ) (event : Event) (n : ℕ) (f : List ℕ) → m ≤ n → IsOfSet es m event → acknowledges n f event ≡ None
set_says es m Enrolment n f le h = refl
set_says es m (Advised a) n f le h = refl
set_says es m (Ordered o shares) n f le h = refl
set_says es m (Acknowledged k a) n f le h =
    let later : nat_lt n k ≡ false = le-ltb n k (omega (arith, le, h)) in
    ap (λ (b : Bool). if b && a.document == n && bytes_eq a.function f then Some a.accepts else None) later
set_says es m (Counted k a sheet) n f le h = absurd h
set_says es m (Picked k o shares sheet) n f le h = absurd h
set_says es m (Recounted k before sheet) n f le h = absurd h

sets_say : (es : List Event) (m : ℕ) (fs : List Event) (n : ℕ) (f : List ℕ) → m ≤ n → AreOfSets es m fs → said_of fs n f ≡ None
sets_say es m [] n f le h = refl
sets_say es m (e ∷ fs) n f le h = ap (λ (o : Option Bool). or_else o (said_of fs n f)) (set_says es m e n f le h.0) ∙ sets_say (es ++ e ∷ []) m fs n f le h.1

act_says : (es : List Event) (m : ℕ) (act : Act) (event : Event) (n : ℕ) (f : List ℕ) → IsOfAct es m act event → acknowledges n f event ≡ None
act_says es m (Count shipment sheet) event n f h = ap (acknowledges n f) h.3
act_says es m (Pick number sheet) event n f h = ap (acknowledges n f) h.3
act_says es m (Recount sheet) event n f h = ap (acknowledges n f) h

performed_says : (es : List Event) (m : ℕ) (act : Act) (n : ℕ) (f : List ℕ) (r : Result Event Refusal) → performed es m act ≡ r → said_of (added_of r) n f ≡ None
performed_says es m act n f (Ok event) e = or_else_none (acknowledges n f event) ∙ act_says es m act event n f (of_performed es m act event e)
performed_says es m act n f (Err r) e = refl

added_says : (h : History) (w : Who) (t : Moment) (d : Deed) (q : Rules) (n : ℕ) (f : List ℕ) → (after_entry h (record { who = w; moment = t; deed = d; rules = q })).numbered ≤ n
    → said_of (events_added q h.events (h.numbered + 1) d) n f ≡ None
added_says h w t Enrolled q n f le = refl
added_says h w t (Received text) q n f le = sets_say h.events (h.numbered + 1) (events_added q h.events (h.numbered + 1) (Received text)) n f le (of_received q h.events (h.numbered + 1) text)
added_says h w t (Performed ticket act) q n f le = performed_says h.events (h.numbered + 1) act n f (performed h.events (h.numbered + 1) act) refl

said_from : (f : List ℕ) (h : History) (M : List Entry) → ((n : ℕ) → h.numbered ≤ n → said_of h.events n f ≡ None) → (n : ℕ) → (fold after_entry h M).numbered ≤ n → said_of (fold after_entry h M).events n f ≡ None
said_from f h [] before n le = before n le
said_from f h (e ∷ M) before n le = said_from f (after_entry h e) M (λ k l. one k l) n le
  where
    one : (k : ℕ) → (after_entry h e).numbered ≤ k → said_of (after_entry h e).events k f ≡ None
    one k l =
        first_found-append (acknowledges k f) h.events (events_added e.rules h.events (h.numbered + 1) e.deed)
        ∙ ap (λ (o : Option Bool). or_else o (said_of (events_added e.rules h.events (h.numbered + 1) e.deed) k f)) (before k (omega (arith, l, numbered_le h e)))
        ∙ added_says h e.who e.moment e.deed e.rules k f l

-- nothing is said of the last entry's document, or of a later one's
pub said_above : (M : List Entry) (n : ℕ) (f : List ℕ) → (history M).numbered ≤ n → said_of (events M) n f ≡ None
said_above M n f le = said_from f no_history M (λ k l. refl) n le

-- What changes say of a document.

abbrev pub said_one : ℕ → Change → Option Bool → Option Bool
said_one n (Stock row) s = s
said_one n (Advice k) s = s
said_one n (Order k) s = s
said_one n (Sent m f) s = s
said_one n (Document m accepts) s = if n == m then Some accepts else s

abbrev pub said_by : List Change → ℕ → Option Bool → Option Bool
said_by cs n s = fold (λ (z : Option Bool) (c : Change). said_one n c z) s cs

turned : (m n : ℕ) (b : Bool) → (n == m) ≡ b → (m == n) ≡ b
turned m n true e = eq-eqb m n (sym (eqb-true n m e))
turned m n false e = ne_eqb m n (λ h. let g : (n == m) ≡ true = eq-eqb n m (sym h) in absurd (cc (e, g)))

one_said : (m n : ℕ) (accepts : Bool) (ds : List PageDocument) (d : PageDocument) → document_at n ds ≡ Some d
    → document_at n (with_said m accepts ds) ≡ Some (record d { said = if n == m then Some accepts else d.said })
one_said m n accepts ds d h = by (document_at m ds) (n == m) refl refl
  where
    by : (o : Option PageDocument) (b : Bool) → document_at m ds ≡ o → (n == m) ≡ b → document_at n (said_of_found o accepts ds) ≡ Some (record d { said = if b then Some accepts else d.said })
    by None true e f =
        let lost : document_at n ds ≡ None = ap (λ (k : ℕ). document_at k ds) (eqb-true n m f) ∙ e in
        absurd (cc (h, lost))
    by None false e f = h
    by (Some c) b e f = of_one b f
      where
        number : c.n ≡ m
        number = eqb-true c.n m (found_says (is_document m) ds c e)

        of_one : (b : Bool) → (n == m) ≡ b → document_at n (put_document (record c { said = Some accepts }) ds) ≡ Some (record d { said = if b then Some accepts else d.said })
        of_one true f =
            let same : Some c ≡ Some d = sym e ∙ ap (λ (k : ℕ). document_at k ds) (sym (eqb-true n m f)) ∙ h in
            document_put n (record c { said = Some accepts }) ds
            ∙ ap (λ (b : Bool). cond b (Some (record c { said = Some accepts })) (document_at n ds)) (eq-eqb c.n n (number ∙ sym (eqb-true n m f)))
            ∙ ap (λ (o : Option PageDocument). option_map (λ (z : PageDocument). record z { said = Some accepts }) o) same
        of_one false f =
            document_put n (record c { said = Some accepts }) ds
            ∙ ap (λ (b : Bool). cond b (Some (record c { said = Some accepts })) (document_at n ds)) (ap (λ (k : ℕ). k == n) number ∙ turned m n false f)
            ∙ h

-- a document that is there is decided as the changes say
pub said_stays : (cs : List Change) (p : PageFacts) (n : ℕ) (d : PageDocument) → document_at n p.documents ≡ Some d
    → document_at n (fold put_change p cs).documents ≡ Some (record d { said = said_by cs n d.said })
said_stays [] p n d h = h
said_stays (Stock row ∷ cs) p n d h = said_stays cs (put_change p (Stock row)) n d h
said_stays (Advice k ∷ cs) p n d h = said_stays cs (put_change p (Advice k)) n d h
said_stays (Order k ∷ cs) p n d h = said_stays cs (put_change p (Order k)) n d h
said_stays (Sent m f ∷ cs) p n d h =
    said_stays cs (put_change p (Sent m f)) n d
    (sent_found m n (function_text f) p.documents ∙ ap (λ (o : Option PageDocument). option_or o (cond (m == n) (Some (record { n = m; function = function_text f; said = None })) None)) h)
said_stays (Document m accepts ∷ cs) p n d h =
    said_stays cs (put_change p (Document m accepts)) n (record d { said = if n == m then Some accepts else d.said }) (one_said m n accepts p.documents d h)

-- What changes say of outgoing rows.

abbrev pub decided_row : Change → OutRow → OutRow
decided_row (Stock row) r = r
decided_row (Advice k) r = r
decided_row (Order k) r = r
decided_row (Sent m f) r = r
decided_row (Document m accepts) r = record r { state = if r.n == m then state_text (Some accepts) else r.state }

abbrev pub all_decided : List Change → OutRow → OutRow
all_decided cs r = fold (λ (q : OutRow) (c : Change). decided_row c q) r cs

-- the state of a document's row
pub decided_state : (cs : List Change) (n : ℕ) (kind content : List ℕ) (s : Option Bool)
    → all_decided cs (record { n = n; kind = kind; content = content; state = state_text s }) ≡ record { n = n; kind = kind; content = content; state = state_text (said_by cs n s) }
decided_state [] n kind content s = refl
decided_state (Stock row ∷ cs) n kind content s = decided_state cs n kind content s
decided_state (Advice k ∷ cs) n kind content s = decided_state cs n kind content s
decided_state (Order k ∷ cs) n kind content s = decided_state cs n kind content s
decided_state (Sent m f ∷ cs) n kind content s = decided_state cs n kind content s
decided_state (Document m accepts ∷ cs) n kind content s =
    ap (λ (x : List ℕ). all_decided cs (record { n = n; kind = kind; content = content; state = x })) (by (n == m))
    ∙ decided_state cs n kind content (if n == m then Some accepts else s)
  where
    by : (b : Bool) → (if b then state_text (Some accepts) else state_text s) ≡ state_text (if b then Some accepts else s)
    by true = refl
    by false = refl

-- a number without a document stays so

none_said : (m n : ℕ) (accepts : Bool) (ds : List PageDocument) → document_at n ds ≡ None → (n == m) ≡ false → document_at n (with_said m accepts ds) ≡ None
none_said m n accepts ds h f = by (document_at m ds) refl
  where
    by : (o : Option PageDocument) → document_at m ds ≡ o → document_at n (said_of_found o accepts ds) ≡ None
    by None e = h
    by (Some c) e =
        document_put n (record c { said = Some accepts }) ds
        ∙ ap (λ (b : Bool). cond b (Some (record c { said = Some accepts })) (document_at n ds)) (ap (λ (k : ℕ). k == n) (eqb-true c.n m (found_says (is_document m) ds c e)) ∙ turned m n false f)
        ∙ h

apart_from : (m n : ℕ) (ds : List PageDocument) → document_at n ds ≡ None → is_some (document_at m ds) ≡ true → (n == m) ≡ false
apart_from m n ds none some = elim (cases_Bool (n == m)) [
  | inl e ↦
      let lost : is_some (document_at m ds) ≡ false = ap (λ (k : ℕ). is_some (document_at k ds)) (sym (eqb-true n m e)) ∙ ap is_some none in
      absurd (cc (some, lost))
  | inr e ↦ e
]

row_kept : (m : ℕ) (accepts : Bool) (r : OutRow) → (r.n == m) ≡ false → decided_row (Document m accepts) r ≡ r
row_kept m accepts r h = ap (λ (b : Bool). record r { state = if b then state_text (Some accepts) else r.state }) h

-- proper changes leave the row of an earlier number without a document
pub untouched : (cs : List Change) (p : PageFacts) (r : OutRow) → AreProper p cs → document_at r.n p.documents ≡ None → r.n ≤ p.entries → all_decided cs r ≡ r
untouched [] p r proper none le = refl
untouched (Stock row ∷ cs) p r proper none le = untouched cs (put_change p (Stock row)) r proper.1 none le
untouched (Advice k ∷ cs) p r proper none le = untouched cs (put_change p (Advice k)) r proper.1 none le
untouched (Order k ∷ cs) p r proper none le = untouched cs (put_change p (Order k)) r proper.1 none le
untouched (Sent m f ∷ cs) p r proper none le =
    let other : (m == r.n) ≡ false = ne_eqb m r.n (λ e. absurd (omega (arith, proper.0, e, le))) in
    untouched cs (put_change p (Sent m f)) r proper.1
    (sent_found m r.n (function_text f) p.documents
    ∙ (λ i. option_or (none i) (cond (other i) (Some (record { n = m; function = function_text f; said = None })) None))) le
untouched (Document m accepts ∷ cs) p r proper none le =
    let other = apart_from m r.n p.documents none proper.0.1 in
    ap (all_decided cs) (row_kept m accepts r other)
    ∙ untouched cs (put_change p (Document m accepts)) r proper.1 (none_said m r.n accepts p.documents none other) le

-- and that of the next entry
pub untouched_new : (cs : List Change) (p : PageFacts) (r : OutRow) → AreProper p cs → p.entries < r.n → all_decided cs r ≡ r
untouched_new [] p r proper lt = refl
untouched_new (Stock row ∷ cs) p r proper lt = untouched_new cs (put_change p (Stock row)) r proper.1 lt
untouched_new (Advice k ∷ cs) p r proper lt = untouched_new cs (put_change p (Advice k)) r proper.1 lt
untouched_new (Order k ∷ cs) p r proper lt = untouched_new cs (put_change p (Order k)) r proper.1 lt
untouched_new (Sent m f ∷ cs) p r proper lt = untouched_new cs (put_change p (Sent m f)) r proper.1 lt
untouched_new (Document m accepts ∷ cs) p r proper lt =
    ap (all_decided cs) (row_kept m accepts r (ne_eqb r.n m (λ e. absurd (omega (arith, proper.0.0, e, lt)))))
    ∙ untouched_new cs (put_change p (Document m accepts)) r proper.1 lt
