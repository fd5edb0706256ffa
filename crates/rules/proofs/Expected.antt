-- No more is ever expected of a pair than a line of it in each set of each numbered entry.
use Rattle.std.proofs.Common.{◌≡◌, ℕ, suc, ◌+◌, ◌*◌, ◌≤◌, Bool, true, false, List, [], ◌∷◌, ◌++◌, length, Option, Some, None, Ok, Err, refl, sym, subst, arith, append_assoc, append-nil}
use Rattle.std.specs.Prelude.{Result, is_none, sum_by, if◌then◌else◌, option_to_list}
use Rattle.std.specs.List.{cons_option}
use Rattle.std.proofs.lemmas.List.Sums.{sum_by-cons}
use Rattle.definitions.specs.declared.rules.Rules.{Rules}
use Rattle.definitions.specs.Limits.{most_entries, most_sets}
use Rattle.definitions.specs.Bytes.{Delims}
use Rattle.definitions.specs.Cut.{cut}
use Rattle.definitions.specs.Moments.{Moment}
use Rattle.definitions.specs.Header.{Who, delims_of}
use Rattle.definitions.specs.declared.set_kind.SetKind.{SetKind}
use Rattle.definitions.specs.Faults.{SetFault}
use Rattle.definitions.specs.Structure.{Set, Group, kind_of, group_fault, examined, groups_of}
use Rattle.definitions.specs.Means.{Advice}
use Rattle.definitions.specs.Events.{Event, Enrolment, Advised}
use Rattle.definitions.specs.Movements.{Expected, IsExpectedWithin}
use Rattle.definitions.specs.declared.refusals.Refusal.{Refusal}
use Rattle.definitions.specs.Clerk.{performed}
use Rattle.definitions.specs.Register.{Act, Count, Pick, Recount, Deed, Enrolled, Received, Performed, Entry, own}
use Rattle.definitions.specs.History.{Rejection, event_of, judged, by_segment, outcome_of, verdicts_on, telling_of, events_told, tellings_on, events_added, History, after_entry, history, events}
use Rattle.definitions.specs.Accepted.{IsLegal}
use Rattle.definitions.proofs.EventsLaws.{came_to-append}
use Rattle.definitions.proofs.HistoryLaws.{history_snoc}
use Rattle.set_effects.specs.Judging.{passed, told_events}
use Rattle.rules.specs.Played.{CanFollow, is_clean, no_history, number_after}
use Rattle.set_effects.proofs.Takes.{examined_length}
use Rattle.set_effects.proofs.Added.{of_performed}
use Rattle.rules.proofs.Plays.{added_of, clean_note}
use Rattle.rules.proofs.Content.{content}
use Rattle.rules.proofs.Registers.{Along1, follows_own}
use Rattle.rules.proofs.OnePair.{Bring, BringsOne, nothing_comes, judged_one}

-- Sets and groups, one after another.

segment_one : (o : Result Event SetFault) → BringsOne o → BringsOne (by_segment o)
segment_one (Ok e) one = one
segment_one (Err f) one = tt

outcome_one : (q : Rules) (d : Delims) (es : List Event) (n : ℕ) (kind : Option SetKind) (code : Option ℕ) (s : Set)
    → BringsOne (outcome_of q d es n kind code s)
outcome_one q d es n kind (Some code) s = tt
outcome_one q d es n None None s = tt
outcome_one q d es n (Some kind) None s =
    segment_one (judged q d es n kind s.segments) (judged_one q d es n kind s.segments)

nothing : (n : ℕ) → Bring n []
nothing n = λ a b. omega arith

both : (m n : ℕ) (es fs : List Event) → Bring m es → Bring n fs → Bring (m + n) (es ++ fs)
both m n es fs first second = λ a b. omega (arith, came_to-append es fs Expected a b, first a b, second a b)

one_set : (n : ℕ) (s : Set) (o : Result Event Rejection) (fs : List Event) → BringsOne o → Bring n fs
    → Bring (suc n) (cons_option (event_of (record { set = s; outcome = o })) fs)
one_set n s (Ok e) fs one more = λ a b. omega (arith, came_to-append (e ∷ []) fs Expected a b, one a b, more a b)
one_set n s (Err why) fs one more = λ a b. omega (arith, more a b)

verdicts_bring : (q : Rules) (d : Delims) (es : List Event) (n : ℕ) (kind : Option SetKind) (ps : List (Set × Option ℕ))
    → Bring (length ps) (passed (verdicts_on q d es n kind ps))
verdicts_bring q d es n kind [] = nothing 0
verdicts_bring q d es n kind (p ∷ ps) =
    let o = outcome_of q d es n kind p.1 p.0 in
    let before = es ++ option_to_list (event_of (record { set = p.0; outcome = o })) in
    one_set (length ps) p.0 o (passed (verdicts_on q d before n kind ps)) (outcome_one q d es n kind p.1 p.0)
    (verdicts_bring q d before n kind ps)

telling_brings : (q : Rules) (d : Delims) (es : List Event) (n : ℕ) (g : Group)
    → Bring (length g.sets) (events_told (telling_of q d es n g))
telling_brings q d es n g = by (is_none (group_fault g))
  where
    by : (v : Bool)
        → Bring (length g.sets) (passed (if v then verdicts_on q d es n (kind_of g) (examined g) else []))
    by true = subst (λ (k : ℕ). Bring k (passed (verdicts_on q d es n (kind_of g) (examined g))))
        (examined_length (kind_of g) [] g.sets) (verdicts_bring q d es n (kind_of g) (examined g))
    by false = nothing (length g.sets)

abbrev sets_in : List Group → ℕ
sets_in gs = sum_by (λ (g : Group). length g.sets) gs

tellings_bring : (q : Rules) (d : Delims) (es : List Event) (n : ℕ) (gs : List Group)
    → Bring (sets_in gs) (told_events (tellings_on q d es n gs))
tellings_bring q d es n [] = nothing 0
tellings_bring q d es n (g ∷ gs) =
    let told = events_told (telling_of q d es n g) in
    let rest = told_events (tellings_on q d (es ++ told) n gs) in
    subst (λ (k : ℕ). Bring k (told ++ rest)) (sym (sum_by-cons (λ (h : Group). length h.sets) g gs))
    (both (length g.sets) (sets_in gs) told rest (telling_brings q d es n g) (tellings_bring q d (es ++ told) n gs))

-- Acts.

no_advice : (es : List Event) (n : ℕ) (act : Act) (e : Event) → performed es n act ≡ Ok e → (a : Advice) → e ≡ Advised a → ⊥
no_advice es n (Count shipment sheet) e h a is = let made = (of_performed es n (Count shipment sheet) e h).3 in absurd (cc (made, is))
no_advice es n (Pick number sheet) e h a is = let made = (of_performed es n (Pick number sheet) e h).3 in absurd (cc (made, is))
no_advice es n (Recount sheet) e h a is = let made = of_performed es n (Recount sheet) e h in absurd (cc (made, is))

-- Entries in turn.

-- what a history's numbered entries, each of so many sets, can bring
record IsWithin (h : History) : Type 0 where
  few : h.numbered ≤ most_entries
  little : Bring (most_sets * h.numbered) h.events

act_brings : (es : List Event) (n : ℕ) (act : Act) (o : Result Event Refusal) → performed es n act ≡ o → Bring most_sets (added_of o)
act_brings es n act (Ok e) is = λ a b. omega (arith, nothing_comes e (no_advice es n act e is) a b)
act_brings es n act (Err refusal) is = nothing most_sets

received_brings : (q : Rules) (es : List Event) (n : ℕ) (text : List ℕ) → is_clean (Received text) ≡ true
    → Bring most_sets (events_added q es n (Received text))
received_brings q es n text clean =
    let groups = groups_of ((cut (delims_of text) text).segments) in
    let room = (content text (clean_note text clean)).1 in
    let brought = tellings_bring q (delims_of text) es n groups in
    λ a b. omega (arith, brought a b, room)

numbered_within : (h : History) (added : List Event) → IsWithin h → h.numbered + 1 ≤ most_entries → Bring most_sets added
    → IsWithin (record { numbered = h.numbered + 1; events = h.events ++ added })
numbered_within h added within few brought = record {
  few = few;
  little = λ a b. omega (arith, came_to-append h.events added Expected a b, within.little a b, brought a b);
}

after_within : (h : History) (w : Who) (t : Moment) (d : Deed) (q : Rules)
    → (let e : Entry = record { who = w; moment = t; deed = d; rules = q } in
    number_after h e ≤ most_entries → is_clean d ≡ true → IsWithin h → IsWithin (after_entry h e))
after_within h w t Enrolled q few clean within = record {
  few = omega (arith, within.few);
  little = λ a b. omega (arith, came_to-append h.events (Enrolment ∷ []) Expected a b, within.little a b);
}
after_within h w t (Received text) q few clean within =
    numbered_within h (events_added q h.events (h.numbered + 1) (Received text)) within few
    (received_brings q h.events (h.numbered + 1) text clean)
after_within h w t (Performed ticket act) q few clean within =
    numbered_within h (events_added q h.events (h.numbered + 1) (Performed ticket act)) within few
    (act_brings h.events (h.numbered + 1) act (performed h.events (h.numbered + 1) act) refl)

along_within : (before M : List Entry) → Along1 CanFollow before M → IsWithin (history before) → IsWithin (history (before ++ M))
along_within before [] f within = subst (λ (B : List Entry). IsWithin (history B)) (sym (append-nil before)) within
along_within before (e ∷ M) f within =
    subst (λ (B : List Entry). IsWithin (history B)) (append_assoc before (e ∷ []) M)
    (along_within (before ++ e ∷ []) M f.1
    (subst IsWithin (sym (history_snoc before e))
    (after_within (history before) e.who e.moment e.deed e.rules f.0.few f.0.clean within)))

pub expected_within : (r : Rules) (W : Who) (L : List Entry) (w : Who) → IsLegal r W L → IsExpectedWithin (events (own L w))
expected_within r W L w legal =
    let none : IsWithin no_history = record { few = omega arith; little = nothing 0 } in
    let all = along_within [] (own L w) (follows_own r W L w legal) none in
    λ a b. omega (arith, all.little a b, all.few)
