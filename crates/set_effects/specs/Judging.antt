-- What sets and groups come to over a page: for each list of events that the page stands for.
use Rattle.std.specs.Prelude.{ℕ, ◌≡◌, ◌+◌, ◌≤◌, List, [], ◌∷◌, ◌++◌, length, map, fold, sum_by, flat_map, filter_map, if◌then◌else◌, Bool, not, bytes_eq, codes, Option, Some, Result, Ok, Err}
use Rattle.definitions.specs.declared.rules.Rules.{Rules}
use Rattle.definitions.specs.Bytes.{Delims}
use Rattle.definitions.specs.declared.set_kind.SetKind.{SetKind}
use Rattle.definitions.specs.Cut.{Segment, element, segments_of}
use Rattle.definitions.specs.Structure.{Set, Group, group_fault}
use Rattle.definitions.specs.Faults.{SetFault}
use Rattle.definitions.specs.Events.{Event}
use Rattle.definitions.specs.History.{Rejection, Verdict as Told, event_of, traded, verdicts_on, Telling, telling_of, events_told, tellings_on}
use Rattle.definitions.specs.Texts.{ToldSet, Told as ToldGroup, told_set, told_of, stated_sets, answered}
use Rattle.sets_in.specs.Amounts.{IsAmount}
use Rattle.tables.specs.Judged.{Whole}
use Rattle.stock.specs.Pages.{PageFacts, IsSound}
use Rattle.stock.specs.Puts.{put, put_change}
use Rattle.stock.specs.declared.steps.Change.{Change}
use Rattle.stock.specs.Parts.{Named, IsPart}
use Rattle.stock.specs.Shows.{Shows}
use Rattle.set_effects.specs.SetNames.{NamesSet, NamesSets, NamesGroup, NamesGroups}
use Rattle.stock.specs.declared.steps.SetStop.{SetStop}
use Rattle.stock.specs.declared.steps.Step.{Step}
use Rattle.set_effects.specs.Proper.{AreProper}
use Rattle.stock.specs.declared.steps.SetStop.TheVariants as stopped
use Rattle.set_effects.specs.declared.judging.Verdict.{Verdict}
use Rattle.set_effects.specs.declared.judging.Verdict.TheVariants.{Passed, Rejected}

-- a step of this outcome: its changes are proper, and put in they are the page with the event
abbrev pub IsStep : PageFacts → List Event → Result Event SetFault → List Change → Type 0
IsStep p es outcome cs = (e : Event) × (outcome ≡ Ok e) × Shows (put cs p) (es ++ e ∷ [])
    × AreProper p cs

-- the trade fault of this outcome, or want of memory
abbrev pub IsStop : Result Event SetFault → SetStop → Type 0
IsStop outcome (stopped.Fault f) = outcome ≡ Err f
IsStop outcome stopped.OutOfMemory = Unit {0}

-- changes of this outcome are proper, and put in they are the page with its event
abbrev pub IsSetOutcome : PageFacts → List Event → Result Event Rejection → List Change → Type 0
IsSetOutcome p es outcome cs = (e : Event) × (outcome ≡ Ok e) × Shows (put cs p) (es ++ e ∷ [])
    × AreProper p cs

-- what is so of each page of which this one is a part that has what a checked set names, of each
-- list of events that it shows, and of what the set comes to there
abbrev pub OnPages : PageFacts → Whole → (PageFacts → List Event → Result Event SetFault → Type 0)
    → Type 0
OnPages part set IsSo =
    (n : Named) (P : PageFacts) (es : List Event) → IsPart n part P
    → NamesSet n set.kind (segments_of set.pieces) → Shows P es
    → IsSo P es (traded set.rules es (part.entries + 1) set.kind (segments_of set.pieces))

-- the step of a checked set, by a page that has what it names
abbrev pub IsStepOf : PageFacts → Whole → Step → Type 0
IsStepOf part set step =
    OnPages part set (λ P es outcome. IsStep P es outcome step.changes.items)

-- what stops it
abbrev pub IsStopOf : PageFacts → Whole → SetStop → Type 0
IsStopOf part set stop = OnPages part set (λ _ _ outcome. IsStop outcome stop)

-- the step can be put into the page
abbrev pub FitsOn : PageFacts → Step → Type 0
FitsOn p step = IsSound (put step.changes.items p)

-- what a judged set came to over a page
abbrev pub IsVerdict : PageFacts → List Event → Result Event Rejection → Verdict → Type 0
IsVerdict p es outcome (Passed step) = IsSetOutcome p es outcome step.changes.items
IsVerdict p es outcome (Rejected r) = outcome ≡ Err r

-- what a set came to can be put into the page: the step of one that passed, after which the page is
-- sound; one that is rejected puts nothing in
abbrev pub CanBePut : PageFacts → Verdict → Type 0
CanBePut p (Passed step) = FitsOn p step
CanBePut p (Rejected r) = Unit {0}

-- a page with changes put in, in the same entry, however many events they are of
abbrev pub after : List Change → ℕ → PageFacts → PageFacts
after cs m P = record (fold put_change P cs) { entries = P.entries; recent = m }

-- the events of verdicts, and of tellings
abbrev pub passed : List Told → List Event
passed vs = filter_map event_of vs

abbrev pub told_events : List Telling → List Event
told_events ts = flat_map events_told ts

-- examined sets were taken one after another by the rules, under the number of the next entry: what
-- holds for each page of which the old one is a part that has what the sets name
pub record AreTaken
    (r : Rules) (d : Delims) (kind : Option SetKind) (ps : List (Set × Option ℕ))
    (old new : PageFacts) (cs : List Change) (sets : List ToldSet) : Type 0 where
  pub same : new ≡ after cs new.recent old
  pub shows : (n : Named) (P : PageFacts) (es : List Event) → IsPart n old P → NamesSets d n kind ps
      → Shows P es → Shows (after cs new.recent P) (es
      ++ passed (verdicts_on r d es (old.entries + 1) kind ps))
  pub proper : (n : Named) (P : PageFacts) (es : List Event) → IsPart n old P
      → NamesSets d n kind ps → Shows P es → AreProper P cs
  pub told : (n : Named) (P : PageFacts) (es : List Event) → IsPart n old P → NamesSets d n kind ps
      → Shows P es → sets ≡ map told_set (verdicts_on r d es (old.entries + 1) kind ps)
  pub entries : new.entries ≡ old.entries
  pub recent : new.recent ≤ old.recent + length ps

-- a group was taken: its sets, or none of them where it has a fault
pub record IsGroupTaken
    (r : Rules) (d : Delims) (g : Group) (old new : PageFacts) (cs : List Change)
    (sets : List ToldSet) : Type 0 where
  pub same : new ≡ after cs new.recent old
  pub shows : (n : Named) (P : PageFacts) (es : List Event) → IsPart n old P → NamesGroup d n g
      → Shows P es → Shows (after cs new.recent P) (es
      ++ events_told (telling_of r d es (old.entries + 1) g))
  pub proper : (n : Named) (P : PageFacts) (es : List Event) → IsPart n old P → NamesGroup d n g
      → Shows P es → AreProper P cs
  pub told : (n : Named) (P : PageFacts) (es : List Event) → IsPart n old P → NamesGroup d n g
      → Shows P es → sets ≡ map told_set ((telling_of r d es (old.entries + 1) g).verdicts)
  pub entries : new.entries ≡ old.entries
  pub recent : new.recent ≤ old.recent + length g.sets

-- what a group is told with these sets
abbrev pub told_with : Group → List ToldSet → ToldGroup
told_with g sets = record {
  function = element g.head 1;
  number = element g.head 6;
  stated = stated_sets g;
  received = length g.sets;
  fault = group_fault g;
  sets = sets;
}

-- a group of acknowledgments isn't answered
abbrev pub is_answered : Group → Bool
is_answered g = not (bytes_eq (element g.head 1) (codes "FA"))

abbrev pub told_if : Group → List ToldSet → List ToldGroup
told_if g sets = if is_answered g then told_with g sets ∷ [] else []

-- GE01, where there is one, is a number of at most nine digits
abbrev pub IsSmall : Group → Type 0
IsSmall g = (ge : Segment) → g.tail ≡ Some ge → IsAmount 9 (element ge 1)

-- groups were taken one after another
pub record AreGroupsTaken
    (r : Rules) (d : Delims) (gs : List Group) (old new : PageFacts) (cs : List Change)
    (groups : List ToldGroup) : Type 0 where
  pub same : new ≡ after cs new.recent old
  pub shows : (n : Named) (P : PageFacts) (es : List Event) → IsPart n old P → NamesGroups d n gs
      → Shows P es → Shows (after cs new.recent P) (es
      ++ told_events (tellings_on r d es (old.entries + 1) gs))
  pub proper : (n : Named) (P : PageFacts) (es : List Event) → IsPart n old P → NamesGroups d n gs
      → Shows P es → AreProper P cs
  pub told : (n : Named) (P : PageFacts) (es : List Event) → IsPart n old P → NamesGroups d n gs
      → Shows P es → groups ≡ map told_of (answered (tellings_on r d es (old.entries + 1) gs))
  pub entries : new.entries ≡ old.entries
  pub recent : new.recent ≤ old.recent + sum_by (λ g. length g.sets) gs
