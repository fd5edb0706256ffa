-- Verdicts and tellings of lists put together.
use Rattle.std.proofs.Common.{◌≡◌, ℕ, List, [], ◌∷◌, ◌++◌, sym, ap, ◌∙◌, Option, Some, None}
use Rattle.std.specs.Prelude.{option_to_list}
use Rattle.std.specs.List.{cons_option}
use Rattle.std.proofs.lemmas.List.{append_assoc, append-nil}
use Rattle.definitions.specs.declared.rules.Rules.{Rules}
use Rattle.definitions.specs.Bytes.{Delims}
use Rattle.definitions.specs.Structure.{Set, Group}
use Rattle.definitions.specs.declared.set_kind.SetKind.{SetKind}
use Rattle.definitions.specs.Events.{Event}
use Rattle.set_effects.specs.Judging.{passed, told_events}
use Rattle.definitions.specs.History.{Verdict, event_of, outcome_of, verdicts_on, Telling, telling_of, events_told, tellings_on}

-- an event in front
in_front : (o : Option Event) (es more : List Event) → (es ++ option_to_list o) ++ more ≡ es ++ cons_option o more
in_front None es more = append_assoc es [] more
in_front (Some e) es more = append_assoc es (e ∷ []) more

pub verdicts_append : (r : Rules) (d : Delims) (es : List Event) (n : ℕ) (kind : Option SetKind) (ps qs : List (Set × Option ℕ))
    → verdicts_on r d es n kind (ps ++ qs) ≡ verdicts_on r d es n kind ps ++ verdicts_on r d (es ++ passed (verdicts_on r d es n kind ps)) n kind qs
verdicts_append r d es n kind [] qs = ap (λ (before : List Event). verdicts_on r d before n kind qs) (sym (append-nil es))
verdicts_append r d es n kind (p ∷ ps) qs =
    let v : Verdict = record { set = p.0; outcome = outcome_of r d es n kind p.1 p.0 } in
    let after = es ++ option_to_list (event_of v) in
    ap (λ (vs : List Verdict). v ∷ vs) (verdicts_append r d after n kind ps qs)
    ∙ ap (λ (before : List Event). v ∷ verdicts_on r d after n kind ps ++ verdicts_on r d before n kind qs) (in_front (event_of v) es (passed (verdicts_on r d after n kind ps)))

pub tellings_append : (r : Rules) (d : Delims) (es : List Event) (n : ℕ) (gs hs : List Group)
    → tellings_on r d es n (gs ++ hs) ≡ tellings_on r d es n gs ++ tellings_on r d (es ++ told_events (tellings_on r d es n gs)) n hs
tellings_append r d es n [] hs = ap (λ (before : List Event). tellings_on r d before n hs) (sym (append-nil es))
tellings_append r d es n (g ∷ gs) hs =
    let t = telling_of r d es n g in
    let after = es ++ events_told t in
    ap (λ (ts : List Telling). t ∷ ts) (tellings_append r d after n gs hs)
    ∙ ap (λ (before : List Event). t ∷ tellings_on r d after n gs ++ tellings_on r d before n hs) (append_assoc es (events_told t) (told_events (tellings_on r d after n gs)))
