-- Sets and groups that are taken one after another.
use Rattle.std.proofs.Common.{◌≡◌, ℕ, zero, suc, ◌+◌, ◌-◌, ◌<◌, Bool, true, false, not, cond, List, [], ◌∷◌, ◌++◌, Option, Some, None, Ok, Err, refl, sym, ap, ◌∙◌, subst, arith, take, length, map, get_or}
use Rattle.std.specs.Prelude.{codes, slice_get, unwrap_or}
use Rattle.std.proofs.lemmas.List.{append_assoc, append-nil, map-append, take_more, length-append}
use Rattle.std.proofs.lemmas.List.Elements.{filter_map-append}
use Rattle.definitions.specs.declared.rules.Rules.{Rules}
use Rattle.definitions.specs.Bytes.{Delims}
use Rattle.definitions.specs.declared.set_kind.SetKind.{SetKind}
use Rattle.definitions.specs.Cut.{Segment, Piece, AreOf, segments_of, element, has_id, last_segment}
use Rattle.std.specs.List.{position_or_len}
use Rattle.envelope.specs.Parts.{IsFramed}
use Rattle.definitions.specs.Structure.{Set, head_of, control_of, envelope_fault, examined_on}
use Rattle.definitions.specs.Events.{Event}
use Rattle.definitions.specs.History.{Rejection, Verdict, event_of, by_segment, judged, outcome_of, verdicts_on}
use Rattle.definitions.specs.Texts.{ToldSet, told_set}
use Rattle.stock.specs.Pages.{PageFacts}
use Rattle.stock.specs.Puts.{put}
use Rattle.stock.specs.Shows.{Shows}
use Rattle.stock.specs.declared.steps.Step.{Step}
use Rattle.tables.specs.Judged.{EndsInSE}
use Rattle.set_effects.specs.declared.judging.Verdict.{Verdict as Settled}
use Rattle.set_effects.specs.declared.judging.Verdict.TheVariants.{Passed, Rejected}
use Rattle.set_effects.specs.Proper.{AreProper}
use Rattle.stock.specs.declared.steps.Change.{Change}
use Rattle.stock.specs.Parts.{Named, IsPart}
use Rattle.set_effects.specs.SetNames.{NamesUnder}
use Rattle.set_effects.proofs.SetsNamed.{NamesPassed, sets_named}
use Rattle.set_effects.proofs.Led.{after_none, after_both, same_both, part_later, proper_later}
use Rattle.set_effects.specs.Judging.{after, passed, IsVerdict, AreTaken}
use Rattle.set_effects.proofs.Verdicts.{verdicts_append}

abbrev Examined : Type 0
Examined = Set × Option ℕ

abbrev told_as : Set → Option Rejection → ToldSet
told_as s why = record { number = element (head_of s) 1; control = control_of s; rejection = why }

-- nothing was taken yet
pub none_taken : (r : Rules) (d : Delims) (kind : Option SetKind) (p : PageFacts) → AreTaken r d kind [] p p [] []
none_taken r d kind p = record {
  same = refl;
  shows = λ n P es part names shows. subst (Shows (after [] p.recent P)) (sym (append-nil es)) (subst (λ (q : PageFacts). Shows q es) (after_none n p P part) shows);
  proper = λ n P es part names shows. tt;
  told = λ n P es part names shows. refl;
  entries = refl;
  recent = omega arith;
}

-- a set that is rejected leaves the page
pub taken_rejected : (r : Rules) (d : Delims) (kind : Option SetKind) (p : PageFacts) (s : Set) (fault : Option ℕ) (why : Rejection) (told : ToldSet)
    → ((n : Named) (P : PageFacts) (es : List Event) → IsPart n p P → NamesUnder d n kind (s, fault) → Shows P es → outcome_of r d es (p.entries + 1) kind fault s ≡ Err why) → told ≡ told_as s (Some why)
    → AreTaken r d kind ((s, fault) ∷ []) p p [] (told ∷ [])
taken_rejected r d kind p s fault why told outcome is = record {
  same = refl;
  shows = λ n P es part names shows. rw (outcome n P es part names.0 shows)
      (subst (Shows (after [] p.recent P)) (sym (append-nil es)) (subst (λ (q : PageFacts). Shows q es) (after_none n p P part) shows));
  proper = λ n P es part names shows. tt;
  told = λ n P es part names shows. rw (outcome n P es part names.0 shows) (ap (λ (x : ToldSet). x ∷ []) is);
  entries = refl;
  recent = omega arith;
}

-- a set that passes adds its event
pub taken_passed : (r : Rules) (d : Delims) (kind : Option SetKind) (p : PageFacts) (cs : List Change) (s : Set) (fault : Option ℕ) (told : ToldSet)
    → ((n : Named) (P : PageFacts) (es : List Event) → IsPart n p P → NamesUnder d n kind (s, fault) → Shows P es
    → (e : Event) × (outcome_of r d es (p.entries + 1) kind fault s ≡ Ok e) × Shows (put cs P) (es ++ e ∷ []) × AreProper P cs) → told ≡ told_as s None
    → AreTaken r d kind ((s, fault) ∷ []) p (put cs p) cs (told ∷ [])
taken_passed r d kind p cs s fault told outcome is = record {
  same = refl;
  shows = λ n P es part names shows.
      let o = outcome n P es part names.0 shows in
      rw o.1 (subst (λ (m : ℕ). Shows (after cs (m + 1) P) (es ++ o.0 ∷ [])) (sym part.recent) o.2);
  proper = λ n P es part names shows. (outcome n P es part names.0 shows).3;
  told = λ n P es part names shows. let o = outcome n P es part names.0 shows in rw o.1 (ap (λ (x : ToldSet). x ∷ []) is);
  entries = refl;
  recent = omega arith;
}

-- the events of verdicts put together
pub passed_append : (vs ws : List Verdict) → passed (vs ++ ws) ≡ passed vs ++ passed ws
passed_append vs ws = filter_map-append event_of vs ws

-- one list of sets after another
pub taken_both : (r : Rules) (d : Delims) (kind : Option SetKind) (ps qs : List Examined) (old mid new : PageFacts) (cs ds : List Change) (some more : List ToldSet)
    → AreTaken r d kind ps old mid cs some → AreTaken r d kind qs mid new ds more → AreTaken r d kind (ps ++ qs) old new (cs ++ ds) (some ++ more)
taken_both r d kind ps qs old mid new cs ds some more first second = record {
  same = same_both cs ds old mid new first.same second.same;
  shows = λ n P es part names shows.
      let both = sets_named d n kind ps qs names in
      let m = old.entries + 1 in
      let vs = verdicts_on r d es m kind ps in
      let ws = verdicts_on r d (es ++ passed vs) m kind qs in
      let q = after cs mid.recent P in
      let later : Shows (after ds new.recent q) ((es ++ passed vs) ++ passed ws) =
      subst (λ k. Shows (after ds new.recent q) ((es ++ passed vs) ++ passed (verdicts_on r d (es ++ passed vs) (k + 1) kind qs))) first.entries
      (second.shows n q (es ++ passed vs) (part_later n cs old mid P first.same part) both.1 (first.shows n P es part both.0 shows)) in
      let all : (es ++ passed vs) ++ passed ws ≡ es ++ passed (verdicts_on r d es m kind (ps ++ qs)) =
      append_assoc es (passed vs) (passed ws) ∙ ap (λ (x : List Event). es ++ x) (sym (ap passed (verdicts_append r d es m kind ps qs) ∙ passed_append vs ws)) in
      subst (λ (x : PageFacts). Shows x (es ++ passed (verdicts_on r d es m kind (ps ++ qs)))) (after_both cs ds mid.recent new.recent P) (subst (Shows (after ds new.recent q)) all later);
  proper = λ n P es part names shows.
      let both = sets_named d n kind ps qs names in
      let q = after cs mid.recent P in
      proper_later cs ds mid.recent P (first.proper n P es part both.0 shows)
      (second.proper n q (es ++ passed (verdicts_on r d es (old.entries + 1) kind ps)) (part_later n cs old mid P first.same part) both.1 (first.shows n P es part both.0 shows));
  told = λ n P es part names shows.
      let both = sets_named d n kind ps qs names in
      let m = old.entries + 1 in
      let vs = verdicts_on r d es m kind ps in
      let ws = verdicts_on r d (es ++ passed vs) m kind qs in
      let later : more ≡ map told_set ws =
      subst (λ k. more ≡ map told_set (verdicts_on r d (es ++ passed vs) (k + 1) kind qs)) first.entries
      (second.told n (after cs mid.recent P) (es ++ passed vs) (part_later n cs old mid P first.same part) both.1 (first.shows n P es part both.0 shows)) in
      ap (λ (x : List ToldSet). some ++ x) later ∙ ap (λ (x : List ToldSet). x ++ map told_set ws) (first.told n P es part both.0 shows)
      ∙ sym (ap (map told_set) (verdicts_append r d es m kind ps qs) ∙ map-append told_set vs ws);
  entries = second.entries ∙ first.entries;
  recent = omega (arith, first.recent, second.recent, length-append ps qs);
}

-- The examined sets of a group.

pub examined_length : (kind : Option SetKind) (earlier : List (List ℕ)) (ss : List Set) → length (examined_on kind earlier ss) ≡ length ss
examined_length kind earlier [] = refl
examined_length kind earlier (s ∷ ss) = ap suc (examined_length kind (control_of s ∷ earlier) ss)

-- the set and the fault at a place
pub examined_at : (kind : Option SetKind) (earlier : List (List ℕ)) (ss : List Set) (i : ℕ) (d : Set) (e : Examined) → i < length ss
    → get_or (examined_on kind earlier ss) i e ≡ (get_or ss i d, get_or (map (λ (p : Examined). p.1) (examined_on kind earlier ss)) i None)
examined_at kind earlier [] i d e within = absurd (omega (arith, within))
examined_at kind earlier (s ∷ ss) zero d e within = refl
examined_at kind earlier (s ∷ ss) (suc i) d e within = examined_at kind (control_of s ∷ earlier) ss i d e (omega (arith, within))

-- one place more
pub examined_more : (kind : Option SetKind) (ss : List Set) (i : ℕ) (d : Set) → i < length ss
    → take (i + 1) (examined_on kind [] ss)
    ≡ take i (examined_on kind [] ss) ++ (get_or ss i d, get_or (map (λ (p : Examined). p.1) (examined_on kind [] ss)) i None) ∷ []
examined_more kind ss i d within =
    take_more (examined_on kind [] ss) i (d, None) (omega (arith, within, examined_length kind [] ss))
    ∙ ap (λ (p : Examined). take i (examined_on kind [] ss) ++ p ∷ []) (examined_at kind [] ss i d (d, None) within)

-- a set without a fault of its envelope is closed
fault_closed : (kind : Option SetKind) (earlier : List (List ℕ)) (s : Set) → envelope_fault kind earlier s ≡ None → s.is_closed ≡ true
fault_closed kind earlier s none = by_test s.is_closed refl none
  where
    by_test : (b : Bool) → s.is_closed ≡ b → envelope_fault kind earlier s ≡ None → s.is_closed ≡ true
    by_test true is h = is
    by_test false is h = let e : envelope_fault kind earlier s ≡ Some 2 = rw is refl in absurd (cc (e, h))

pub examined_closed : (kind : Option SetKind) (earlier : List (List ℕ)) (ss : List Set) (i : ℕ) (d : Set) → i < length ss
    → get_or (map (λ (p : Examined). p.1) (examined_on kind earlier ss)) i None ≡ None → (get_or ss i d).is_closed ≡ true
examined_closed kind earlier [] i d within none = absurd (omega (arith, within))
examined_closed kind earlier (s ∷ ss) zero d within none = fault_closed kind earlier s none
examined_closed kind earlier (s ∷ ss) (suc i) d within none = examined_closed kind (control_of s ∷ earlier) ss i d (omega (arith, within)) none

-- SE stands last in a set that is closed
abbrev ends : Segment → Bool
ends s = has_id (codes "SE") s

last_later : (x y : Segment) (xs : List Segment) → last_segment (x ∷ y ∷ xs) ≡ last_segment (y ∷ xs)
last_later x y xs = let n : length (x ∷ y ∷ xs) - 1 ≡ suc (length (y ∷ xs) - 1) = omega arith in ap (λ k. unwrap_or (slice_get (x ∷ y ∷ xs) k) []) n

place_last : (xs : List Segment) → position_or_len ends xs + 1 ≡ length xs → ends (last_segment xs) ≡ true
place_last [] at = absurd (omega (arith, at))
place_last (x ∷ []) at = by_test (ends x) refl
  where
    by_test : (b : Bool) → ends x ≡ b → ends x ≡ true
    by_test true is = is
    by_test false is = let e : position_or_len ends (x ∷ []) ≡ 1 + 0 = ap (λ (b : Bool). cond (not b) (1 + 0) 0) is in absurd (omega (arith, e, at))
place_last (x ∷ y ∷ xs) at = by_test (ends x) refl (place_last (y ∷ xs))
  where
    by_test : (b : Bool) → ends x ≡ b → (position_or_len ends (y ∷ xs) + 1 ≡ length (y ∷ xs) → ends (last_segment (y ∷ xs)) ≡ true) → ends (last_segment (x ∷ y ∷ xs)) ≡ true
    by_test true is later =
        let e : position_or_len ends (x ∷ y ∷ xs) ≡ 0 = ap (λ (b : Bool). cond (not b) (1 + position_or_len ends (y ∷ xs)) 0) is in absurd (omega (arith, e, at))
    by_test false is later =
        let e : position_or_len ends (x ∷ y ∷ xs) ≡ 1 + position_or_len ends (y ∷ xs) = ap (λ (b : Bool). cond (not b) (1 + position_or_len ends (y ∷ xs)) 0) is in
        ap ends (last_later x y xs) ∙ later (omega (arith, e, at))

pub framed_ends : (s : Set) → IsFramed s → s.is_closed ≡ true → ends (last_segment s.segments) ≡ true
framed_ends s framed closed = place_last s.segments (rw closed at framed.ends)

pub pieces_closed : (ps : List Piece) (s : Set) (fault : Option ℕ) → segments_of ps ≡ s.segments → IsFramed s → (fault ≡ None → s.is_closed ≡ true) → fault ≡ None → EndsInSE ps
pieces_closed ps s fault same framed closed none = ap (λ (ss : List Segment). ends (last_segment ss)) same ∙ framed_ends s framed (closed none)

-- a set whose verdict is known, by the pieces that it holds
abbrev IsJudgedAs : (r : Rules) (d : Delims) (kind : SetKind) (p : PageFacts) (ps : List Piece) (v : Settled) → Type 0
IsJudgedAs r d kind p ps v = (e : Delims) → AreOf e ps → (n : Named) (P : PageFacts) (es : List Event) → IsPart n p P → NamesPassed r e n kind (segments_of ps) → Shows P es
    → IsVerdict P es (by_segment (judged r e es (p.entries + 1) kind (segments_of ps))) v

pub take_passed : (r : Rules) (d : Delims) (kind : SetKind) (p : PageFacts) (ps : List Piece) (s : Set) (fault : Option ℕ) (v : Settled) (step : Step) (page : PageFacts) (cs : List Change) (told : ToldSet)
    → segments_of ps ≡ s.segments → AreOf d ps → fault ≡ None → IsJudgedAs r d kind p ps v → v ≡ Passed step → page ≡ put step.changes.items p → cs ≡ step.changes.items → told ≡ told_as s None
    → AreTaken r d (Some kind) ((s, fault) ∷ []) p page cs (told ∷ [])
take_passed r d kind p ps s fault v step page cs told same of none is passes here changed shown =
    let all : AreTaken r d (Some kind) ((s, None) ∷ []) p (put step.changes.items p) step.changes.items (told ∷ []) = taken_passed r d (Some kind) p step.changes.items s None told
    (λ n P es part names shows. let w : IsVerdict P es (by_segment (judged r d es (p.entries + 1) kind (segments_of ps))) (Passed step) =
    subst (λ (x : Settled). IsVerdict P es (by_segment (judged r d es (p.entries + 1) kind (segments_of ps))) x) passes
    (is d of n P es part (subst (NamesPassed r d n kind) (sym same) (names r)) shows) in
    (w.0, ap (λ (ss : List Segment). by_segment (judged r d es (p.entries + 1) kind ss)) (sym same) ∙ w.1, w.2, w.3))
    shown in
    rw (none, here, changed) all

pub take_rejected : (r : Rules) (d : Delims) (kind : SetKind) (p : PageFacts) (ps : List Piece) (s : Set) (fault : Option ℕ) (v : Settled) (why : Rejection) (page : PageFacts) (cs : List Change) (told : ToldSet)
    → segments_of ps ≡ s.segments → AreOf d ps → fault ≡ None → IsJudgedAs r d kind p ps v → v ≡ Rejected why → page ≡ p → cs ≡ [] → told ≡ told_as s (Some why)
    → AreTaken r d (Some kind) ((s, fault) ∷ []) p page cs (told ∷ [])
take_rejected r d kind p ps s fault v why page cs told same of none is rejects here changed shown =
    let all : AreTaken r d (Some kind) ((s, None) ∷ []) p p [] (told ∷ []) = taken_rejected r d (Some kind) p s None why told
    (λ n P es part names shows. ap (λ (ss : List Segment). by_segment (judged r d es (p.entries + 1) kind ss)) (sym same)
    ∙ subst (λ (x : Settled). IsVerdict P es (by_segment (judged r d es (p.entries + 1) kind (segments_of ps))) x) rejects
    (is d of n P es part (subst (NamesPassed r d n kind) (sym same) (names r)) shows)) shown in
    rw (none, here, changed) all
