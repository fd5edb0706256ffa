-- The document of an entry is what the events of its depositor say: an act's function under its
-- number, and nothing under any other's.
use Rattle.std.proofs.Common.{◌≡◌, ℕ, ◌+◌, ◌<◌, ◌≤◌, Bool, true, false, cond, List, [], ◌∷◌, ◌++◌, Option, Some, None, Ok, Err, refl, sym, ap, ◌∙◌, subst, arith}
use Rattle.std.specs.Prelude.{Result, if◌then◌else◌, fold, ◌==◌}
use Rattle.std.proofs.lemmas.Bool.{ne_eqb, eq-eqb}
use Rattle.std.proofs.lemmas.List.Sums.{fold-append}
use Rattle.definitions.specs.declared.rules.Rules.{Rules}
use Rattle.definitions.specs.Header.{Who}
use Rattle.definitions.specs.Moments.{Moment}
use Rattle.definitions.specs.Lists.{or_else}
use Rattle.definitions.specs.Events.{Event, Enrolment, Advised, Ordered, Acknowledged, Counted, Picked, Recounted}
use Rattle.definitions.specs.declared.refusals.Refusal.{Refusal}
use Rattle.definitions.specs.Clerk.{performed}
use Rattle.definitions.specs.Rows.{act_function}
use Rattle.definitions.specs.Register.{Act, Count, Pick, Recount, Deed, Enrolled, Received, Performed, Entry, is_numbered, own, next_number}
use Rattle.definitions.specs.History.{History, after_entry, history, events, events_added}
use Rattle.definitions.specs.Accepted.{IsLegal}
use Rattle.definitions.proofs.HistoryLaws.{history-numbered}
use Rattle.stock.specs.Shows.{sent_if, sent_under}
use Rattle.stock.proofs.Finds.{first_found-append, or_else_none}
use Rattle.rules.specs.Played.{no_history}
use Rattle.rules.proofs.Plays.{added_of}
use Rattle.set_effects.proofs.Added.{AreOfSets, IsOfSet, of_received, of_performed}
use Rattle.rules.proofs.Registers.{Along1, IsDone, done_own, along_at}

-- what a deed sends
abbrev pub sent_of : Deed → Option (List ℕ)
sent_of Enrolled = None
sent_of (Received text) = None
sent_of (Performed ticket act) = Some (act_function act)

-- What the events of one entry say.

act_sent : (es : List Event) (m : ℕ) (act : Act) (event : Event) (n : ℕ) → performed es m act ≡ Ok event → sent_if n event ≡ (if m == n then Some (act_function act) else None)
act_sent es m (Count shipment sheet) event n h = let f = of_performed es m (Count shipment sheet) event h in ap (sent_if n) f.3
act_sent es m (Pick number sheet) event n h = let f = of_performed es m (Pick number sheet) event h in ap (sent_if n) f.3
act_sent es m (Recount sheet) event n h = ap (sent_if n) (of_performed es m (Recount sheet) event h)

set_sent : (es : List Event) (m : ℕ) (event : Event) (n : ℕ) → IsOfSet es m event → sent_if n event ≡ None
set_sent es m Enrolment n h = refl
set_sent es m (Advised a) n h = refl
set_sent es m (Ordered o shares) n h = refl
set_sent es m (Acknowledged k a) n h = refl
set_sent es m (Counted k a sheet) n h = absurd h
set_sent es m (Picked k o shares sheet) n h = absurd h
set_sent es m (Recounted k before sheet) n h = absurd h

sets_sent : (es : List Event) (m : ℕ) (fs : List Event) (n : ℕ) → AreOfSets es m fs → sent_under n fs ≡ None
sets_sent es m [] n h = refl
sets_sent es m (f ∷ fs) n h = ap (λ (o : Option (List ℕ)). or_else o (sent_under n fs)) (set_sent es m f n h.0) ∙ sets_sent (es ++ f ∷ []) m fs n h.1

-- under another number than the entry's there is nothing
added_apart : (r : Rules) (es : List Event) (m : ℕ) (d : Deed) (n : ℕ) → (m == n) ≡ false → sent_under n (events_added r es m d) ≡ None
added_apart r es m Enrolled n h = refl
added_apart r es m (Received text) n h = sets_sent es m (events_added r es m (Received text)) n (of_received r es m text)
added_apart r es m (Performed ticket act) n h = by (performed es m act) refl
  where
    by : (r : Result Event Refusal) → performed es m act ≡ r → sent_under n (added_of r) ≡ None
    by (Ok event) e = or_else_none (sent_if n event) ∙ act_sent es m act event n e ∙ ap (λ (b : Bool). if b then Some (act_function act) else None) h
    by (Err r) e = refl

-- and under its own what its deed sends
added_own : (r : Rules) (M : List Entry) (d : Deed) → IsDone M d → sent_under (next_number M) (events_added r (events M) (next_number M) d) ≡ sent_of d
added_own r M Enrolled done = refl
added_own r M (Received text) done = sets_sent (events M) (next_number M) (events_added r (events M) (next_number M) (Received text)) (next_number M) (of_received r (events M) (next_number M) text)
added_own r M (Performed ticket act) done =
    let n = next_number M in
    subst (λ (r : Result Event Refusal). sent_under n (added_of r) ≡ Some (act_function act)) (sym done.1)
    (or_else_none (sent_if n done.0) ∙ act_sent (events M) n act done.0 n done.1 ∙ ap (λ (b : Bool). if b then Some (act_function act) else None) (eq-eqb n n refl))

-- Histories.

apart : (h : ℕ) (n : ℕ) → n ≤ h → (h + 1 == n) ≡ false
apart h n le = ne_eqb (h + 1) n (λ e. absurd (omega (arith, e, le)))

apart_above : (h : ℕ) (n : ℕ) → h + 1 < n → (h + 1 == n) ≡ false
apart_above h n lt = ne_eqb (h + 1) n (λ e. absurd (omega (arith, e, lt)))

pub numbered_le : (h : History) (e : Entry) → h.numbered ≤ (after_entry h e).numbered
numbered_le h e = by (is_numbered e)
  where
    by : (b : Bool) → h.numbered ≤ h.numbered + (if b then 1 else 0)
    by true = omega arith
    by false = omega arith

-- later entries say nothing of an earlier number
pub sent_kept : (h : History) (M : List Entry) (n : ℕ) → n ≤ h.numbered → sent_under n (fold after_entry h M).events ≡ sent_under n h.events
sent_kept h [] n le = refl
sent_kept h (e ∷ M) n le =
    sent_kept (after_entry h e) M n (omega (arith, le, numbered_le h e))
    ∙ first_found-append (sent_if n) h.events (events_added e.rules h.events (h.numbered + 1) e.deed)
    ∙ ap (or_else (sent_under n h.events)) (added_apart e.rules h.events (h.numbered + 1) e.deed n (apart h.numbered n le))
    ∙ or_else_none (sent_under n h.events)

-- no entry says anything of a later number

above_deed : (h : History) (w : Who) (t : Moment) (d : Deed) (q : Rules) (k : ℕ) → (after_entry h (record { who = w; moment = t; deed = d; rules = q })).numbered < k
    → sent_under k (events_added q h.events (h.numbered + 1) d) ≡ None
above_deed h w t Enrolled q k lt = refl
above_deed h w t (Received text) q k lt = added_apart q h.events (h.numbered + 1) (Received text) k (apart_above h.numbered k lt)
above_deed h w t (Performed ticket act) q k lt = added_apart q h.events (h.numbered + 1) (Performed ticket act) k (apart_above h.numbered k lt)

above : (h : History) (M : List Entry) → ((k : ℕ) → h.numbered < k → sent_under k h.events ≡ None) → (n : ℕ) → (fold after_entry h M).numbered < n → sent_under n (fold after_entry h M).events ≡ None
above h [] before n lt = before n lt
above h (e ∷ M) before n lt = above (after_entry h e) M (λ k l. one k l) n lt
  where
    one : (k : ℕ) → (after_entry h e).numbered < k → sent_under k (after_entry h e).events ≡ None
    one k l =
        first_found-append (sent_if k) h.events (events_added e.rules h.events (h.numbered + 1) e.deed)
        ∙ ap (λ (o : Option (List ℕ)). or_else o (sent_under k (events_added e.rules h.events (h.numbered + 1) e.deed))) (before k (omega (arith, l, numbered_le h e)))
        ∙ above_deed h e.who e.moment e.deed e.rules k l

pub sent_above : (M : List Entry) (n : ℕ) → next_number M ≤ n → sent_under n (events M) ≡ None
sent_above M n le = above no_history M (λ k lt. refl) n (omega (arith, le, history-numbered M))

-- Own entries of a legal register.

-- among own entries, what the events say of an entry's number is what its deed sent
pub sent_at : (before : List Entry) (e : Entry) (back : List Entry) → is_numbered e ≡ true → IsDone before e.deed
    → sent_under (next_number before) (events (before ++ e ∷ back)) ≡ sent_of e.deed
sent_at before e back numbered done =
    let n = next_number before in
    let h = history before in
    let is : h.numbered + 1 ≡ n = history-numbered before in
    let more : n ≤ (after_entry h e).numbered = omega (arith, is, ap (λ (b : Bool). h.numbered + cond b 1 0) numbered) in
    ap (λ (g : History). sent_under n g.events) (fold-append after_entry no_history before (e ∷ back))
    ∙ sent_kept (after_entry h e) back n more
    ∙ ap (λ (k : ℕ). sent_under n (h.events ++ events_added e.rules h.events k e.deed)) is
    ∙ first_found-append (sent_if n) h.events (events_added e.rules h.events n e.deed)
    ∙ ap (λ (o : Option (List ℕ)). or_else o (sent_under n (events_added e.rules h.events n e.deed))) (sent_above before n (omega arith))
    ∙ added_own e.rules before e.deed done

pub sent_under_own : (r : Rules) (W : Who) (L : List Entry) (who : Who) (before : List Entry) (e : Entry) (back : List Entry) → IsLegal r W L → own L who ≡ before ++ e ∷ back → is_numbered e ≡ true
    → sent_under (next_number before) (events (own L who)) ≡ sent_of e.deed
sent_under_own r W L who before e back legal is numbered =
    let done = along_at (λ (M : List Entry) (x : Entry). IsDone M x.deed) [] before e back (subst (Along1 (λ (M : List Entry) (x : Entry). IsDone M x.deed) []) is (done_own r W L who legal)) in
    ap (λ (M : List Entry). sent_under (next_number before) (events M)) is ∙ sent_at before e back numbered done

numbered_by : (e : Entry) (d : Deed) → e.deed ≡ d → is_numbered (record { who = e.who; moment = e.moment; deed = d; rules = e.rules }) ≡ true → is_numbered e ≡ true
numbered_by e d is numbered = ap (λ (x : Deed). is_numbered (record { who = e.who; moment = e.moment; deed = x; rules = e.rules })) is ∙ numbered

pub act_sent_own : (r : Rules) (W : Who) (L : List Entry) (who : Who) (before : List Entry) (e : Entry) (back : List Entry) (ticket : List ℕ) (act : Act) → IsLegal r W L
    → own L who ≡ before ++ e ∷ back → e.deed ≡ Performed ticket act → sent_under (next_number before) (events (own L who)) ≡ Some (act_function act)
act_sent_own r W L who before e back ticket act legal is deed =
    sent_under_own r W L who before e back legal is (numbered_by e (Performed ticket act) deed refl) ∙ ap sent_of deed

pub text_sent_own : (r : Rules) (W : Who) (L : List Entry) (who : Who) (before : List Entry) (e : Entry) (back : List Entry) (text : List ℕ) → IsLegal r W L
    → own L who ≡ before ++ e ∷ back → e.deed ≡ Received text → sent_under (next_number before) (events (own L who)) ≡ None
text_sent_own r W L who before e back text legal is deed =
    sent_under_own r W L who before e back legal is (numbered_by e (Received text) deed refl) ∙ ap sent_of deed
