-- All events of a list of entries are small by the rules that come last.
use Rattle.std.proofs.Common.{◌≡◌, ℕ, ◌+◌, Bool, true, false, List, [], ◌∷◌, ◌++◌, Option, Some, None, Ok, Err, refl, ap}
use Rattle.std.specs.Prelude.{Result, is_none, fold, if◌then◌else◌, option_to_list}
use Rattle.std.specs.Cmp.Derive.{both_true}
use Rattle.std.specs.List.{list_all, cons_option}
use Rattle.definitions.specs.declared.rules.Rules.{Rules}
use Rattle.definitions.specs.Rules.{may_follow}
use Rattle.definitions.specs.Bytes.{Delims}
use Rattle.definitions.specs.Cut.{cut}
use Rattle.definitions.specs.Header.{delims_of}
use Rattle.definitions.specs.declared.set_kind.SetKind.{SetKind}
use Rattle.definitions.specs.Faults.{SetFault}
use Rattle.definitions.specs.Structure.{Set, Group, kind_of, group_fault, examined, groups_of}
use Rattle.definitions.specs.Events.{Event}
use Rattle.definitions.specs.declared.refusals.Refusal.{Refusal}
use Rattle.definitions.specs.Clerk.{performed}
use Rattle.definitions.specs.Register.{Act, Count, Pick, Recount, Deed, Enrolled, Received, Performed, Entry}
use Rattle.definitions.specs.History.{Rejection, event_of, judged, by_segment, outcome_of, verdicts_on, telling_of, events_told, tellings_on, events_added, History, after_entry, events}
use Rattle.definitions.proofs.TextLaws.{both_parts}
use Rattle.set_effects.specs.Judging.{passed, told_events}
use Rattle.rules.specs.Played.{no_history}
use Rattle.rules.proofs.Plays.{added_of}
use Rattle.set_effects.proofs.Added.{of_performed}
use Rattle.rules.proofs.Small.{is_small_event, all_so, all_two, event_later, IsSmall, judged_small}

abbrev pub AreSmall : Rules → List Event → Type 0
AreSmall r es = list_all (is_small_event r) es ≡ true

-- Sets and groups, one after another.

segment_small : (r : Rules) (o : Result Event SetFault) → IsSmall r o → IsSmall r (by_segment o)
segment_small r (Ok e) small = small
segment_small r (Err f) small = tt

outcome_small : (r : Rules) (d : Delims) (es : List Event) (n : ℕ) (kind : Option SetKind) (code : Option ℕ) (s : Set)
    → IsSmall r (outcome_of r d es n kind code s)
outcome_small r d es n kind (Some code) s = tt
outcome_small r d es n None None s = tt
outcome_small r d es n (Some kind) None s =
    segment_small r (judged r d es n kind s.segments) (judged_small r d es n kind s.segments)

one_small : (r : Rules) (s : Set) (o : Result Event Rejection) (fs : List Event) → IsSmall r o → AreSmall r fs
    → AreSmall r (cons_option (event_of (record { set = s; outcome = o })) fs)
one_small r s (Ok e) fs small more = both_true small more
one_small r s (Err why) fs small more = more

verdicts_small : (r : Rules) (d : Delims) (es : List Event) (n : ℕ) (kind : Option SetKind) (ps : List (Set × Option ℕ))
    → AreSmall r (passed (verdicts_on r d es n kind ps))
verdicts_small r d es n kind [] = refl
verdicts_small r d es n kind (p ∷ ps) =
    let o = outcome_of r d es n kind p.1 p.0 in
    let before = es ++ option_to_list (event_of (record { set = p.0; outcome = o })) in
    one_small r p.0 o (passed (verdicts_on r d before n kind ps)) (outcome_small r d es n kind p.1 p.0)
    (verdicts_small r d before n kind ps)

telling_small : (r : Rules) (d : Delims) (es : List Event) (n : ℕ) (g : Group) → AreSmall r (events_told (telling_of r d es n g))
telling_small r d es n g = by (is_none (group_fault g))
  where
    by : (b : Bool) → AreSmall r (passed (if b then verdicts_on r d es n (kind_of g) (examined g) else []))
    by true = verdicts_small r d es n (kind_of g) (examined g)
    by false = refl

tellings_small : (r : Rules) (d : Delims) (es : List Event) (n : ℕ) (gs : List Group)
    → AreSmall r (told_events (tellings_on r d es n gs))
tellings_small r d es n [] = refl
tellings_small r d es n (g ∷ gs) =
    let told = events_told (telling_of r d es n g) in
    all_two (is_small_event r) told (told_events (tellings_on r d (es ++ told) n gs)) (telling_small r d es n g)
    (tellings_small r d (es ++ told) n gs)

-- Acts.

act_small : (r : Rules) (es : List Event) (n : ℕ) (act : Act) (e : Event) → performed es n act ≡ Ok e → is_small_event r e ≡ true
act_small r es n (Count shipment sheet) e h = ap (is_small_event r) ((of_performed es n (Count shipment sheet) e h).3)
act_small r es n (Pick number sheet) e h = ap (is_small_event r) ((of_performed es n (Pick number sheet) e h).3)
act_small r es n (Recount sheet) e h = ap (is_small_event r) (of_performed es n (Recount sheet) e h)

-- Entries in turn.

added_small : (r : Rules) (es : List Event) (n : ℕ) (d : Deed) → AreSmall r (events_added r es n d)
added_small r es n Enrolled = refl
added_small r es n (Received text) =
    tellings_small r (delims_of text) es n (groups_of ((cut (delims_of text) text).segments))
added_small r es n (Performed ticket act) = by (performed es n act) refl
  where
    by : (o : Result Event Refusal) → performed es n act ≡ o → AreSmall r (added_of o)
    by (Ok e) is = both_true (act_small r es n act e is) refl
    by (Err refusal) is = refl

-- whether rules follow those of each entry
abbrev pub follows_all : Rules → List Entry → Bool
follows_all r M = list_all (λ (e : Entry). may_follow e.rules r) M

after_small : (r : Rules) (h : History) (M : List Entry) → follows_all r M ≡ true → AreSmall r h.events
    → AreSmall r (fold after_entry h M).events
after_small r h [] follows small = small
after_small r h (e ∷ M) follows small =
    let p = both_parts (may_follow e.rules r) (follows_all r M) follows in
    let more = events_added e.rules h.events (h.numbered + 1) e.deed in
    after_small r (after_entry h e) M p.1
    (all_two (is_small_event r) h.events more small
    (all_so (is_small_event e.rules) (is_small_event r) more (event_later e.rules r p.0)
    (added_small e.rules h.events (h.numbered + 1) e.deed)))

pub events_small : (r : Rules) (M : List Entry) → follows_all r M ≡ true → AreSmall r (events M)
events_small r M follows = after_small r no_history M follows refl
