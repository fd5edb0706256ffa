-- What an entry of the register comes to, over the page of those before it.
use Rattle.std.specs.Prelude.{◌≡◌, ◌≤◌, ◌==◌, ℕ, ◌+◌, ◌++◌, List, [], length, not, ◌&&◌, is_none, Bool, true, false, if◌then◌else◌, Option, Some, None}
use Rattle.definitions.specs.Limits.{most_entries}
use Rattle.definitions.specs.Header.{Who, is_unreadable}
use Rattle.definitions.specs.Halt.{structure_note}
use Rattle.definitions.specs.Register.{Deed, Received, Entry, is_numbered}
use Rattle.definitions.specs.History.{History, events_added, after_entry, history}
use Rattle.definitions.specs.Readings.{is_entry}
use Rattle.definitions.specs.Decision.{out_by}
use Rattle.stock.specs.Pages.{PageFacts}
use Rattle.stock.specs.Shows.{Shows}
use Rattle.rules.specs.Decided.{IsPageOf}

-- before the first entry
abbrev pub no_history : History
no_history = record { numbered = 0; events = [] }

-- the number of an entry after a history: 0 of an enrolment
abbrev pub number_after : History → Entry → ℕ
number_after h e = if is_numbered e then h.numbered + 1 else 0

-- the page before an entry: none before an enrolment, and that of the history before any other
abbrev pub IsBefore : Option PageFacts → History → Entry → Type 0
IsBefore None h e = (h ≡ no_history) × (is_numbered e ≡ false)
IsBefore (Some p) h e = IsPageOf p h × (is_numbered e ≡ true)

-- an interchange that can be read, and of which no condition on the segments holds, as every
-- accepted one
abbrev pub is_clean : Deed → Bool
is_clean (Received text) = not (is_unreadable text) && is_none (structure_note text)
is_clean deed = true

-- a numbered entry's events are added to the page of a history, and its text went out; the entry
-- doesn't count yet
pub record IsPlayed
    (W : Who) (h : History) (e : Entry) (p : PageFacts) (text : List ℕ) : Type 0 where
  pub shows : Shows p (h.events ++ events_added e.rules h.events (h.numbered + 1) e.deed)
  pub entries : p.entries ≡ h.numbered
  pub outgoing : text ≡ out_by W h e

-- the page of a history with one entry more, and that entry's text
pub record IsReplayed
    (W : Who) (h : History) (e : Entry) (p : PageFacts) (text : List ℕ) : Type 0 where
  pub page : IsPageOf p (after_entry h e)
  pub outgoing : text ≡ out_by W h e

-- an entry that can be replayed after these of its depositor: the first is the enrolment, and no
-- other is one
pub record CanFollow (M : List Entry) (e : Entry) : Type 0 where
  pub numbered : is_numbered e ≡ not (length M == 0)
  pub few : number_after (history M) e ≤ most_entries
  pub good : is_entry e ≡ true
  pub clean : is_clean e.deed ≡ true
