-- What a page and what is known stand for, and the decision on a command.
use Rattle.std.specs.Prelude.{ℕ, ◌≡◌, ◌+◌, ◌++◌, ◌∷◌, List, [], Option, Some, None}
use Rattle.definitions.specs.declared.rules.Rules.{Rules}
use Rattle.definitions.specs.Moments.{Moment}
use Rattle.definitions.specs.Register as meant
use Rattle.definitions.specs.History.{History, after_entry}
use Rattle.definitions.specs.Need.{Need}
use Rattle.definitions.specs.Decision as known
use Rattle.definitions.specs.Accepted.{IsLegal, entry_of, depositor_of}
use Rattle.definitions.specs.Changes as tables
use Rattle.definitions.specs.Header.{Who}
use Rattle.set_effects.specs.Tabled.{table_changes}
use Rattle.stock.specs.Pages.{PageFacts, AreSorted, IsSound, next_entry}
use Rattle.stock.specs.Parts.{IsPart}
use Rattle.stock.specs.Puts.{put}
use Rattle.stock.specs.declared.steps.Change.{Change}
use Rattle.stock.specs.Shows.{Shows}
use Rattle.rules.specs.Naming.{named_of}
use Rattle.rules.specs.Needs.{HasNeeded}
use Rattle.set_effects.specs.Proper.{AreProper}
use Rattle.entries.specs.Replies.{IsEntry}
use Rattle.entries.specs.Written.{Recalled, written_as, unnumbered}
use Rattle.entries.specs.declared.decisions.Decision.{Decision}
use Rattle.entries.specs.declared.decisions.Decision.TheVariants.{Stored, Refused, Accepted}

-- a page of this history
pub record IsPageOf (p : PageFacts) (h : History) : Type 0 where
  pub shows : Shows p h.events
  pub entries : p.entries ≡ h.numbered

-- what a command needs of the page of a depositor with this history; a stranger has neither
abbrev pub StandsFor : meant.Command → Option PageFacts → Option History → Type 0
StandsFor c None None = Unit {0}
StandsFor c None (Some h) = ⊥
StandsFor c (Some p) None = ⊥
StandsFor c (Some p) (Some h) = (P : PageFacts) × HasNeeded c p P × IsPageOf P h

-- the part that is needed of the page of a depositor with this history
pub record IsHeldPart (need : Need) (p : PageFacts) (h : History) : Type 0 where
  pub whole : PageFacts
  pub sound : IsSound whole
  pub page : IsPageOf whole h
  pub part : IsPart (named_of need whole) p whole

-- what is known, if something is
abbrev pub IsRecalled : Option Recalled → Option known.Recalled → Type 0
IsRecalled None None = Unit {0}
IsRecalled None (Some k) = ⊥
IsRecalled (Some r) None = ⊥
IsRecalled (Some r) (Some k) = IsEntry r k

-- what is known is known under this mark
abbrev pub IsUnder : List ℕ → Option known.Recalled → Type 0
IsUnder mark None = Unit {0}
IsUnder mark (Some k) = meant.mark k.entry ≡ mark

-- what a decision on a command is given: the page of the depositor that it names, and what is known
-- under its mark
pub record IsGiven
    (held : Option PageFacts) (recalled : Option Recalled) (c : meant.Command) (h : Option History)
    (k : Option known.Recalled) : Type 0 where
  pub page : StandsFor c held h
  pub known : IsRecalled recalled k
  pub under : IsUnder (meant.command_mark c) k
  -- who is no partner has no history
  pub stranger : depositor_of c ≡ None → h ≡ None

-- how many numbered entries a page tells, and 0 without one
abbrev pub entries_of : Option PageFacts → ℕ
entries_of None = 0
entries_of (Some page) = page.entries

-- there is no event since the last entry
abbrev pub IsAtRest : Option PageFacts → Type 0
IsAtRest None = Unit {0}
IsAtRest (Some page) = page.recent ≡ 0

-- a page with changes put in, when the entry ends
abbrev pub led_to : List Change → PageFacts → PageFacts
led_to cs p = next_entry (put cs p)

-- proper changes lead from a page that stands in order to that of this history
pub record AreLeading (p : PageFacts) (cs : List Change) (h : History) : Type 0 where
  pub sorted : AreSorted p
  pub page : IsPageOf (led_to cs p) h
  pub proper : AreProper p cs

-- the changes of an accepted command lead from each page that p has the needed part of, the page of
-- a history, to that of the history with the command's entry
abbrev pub LeadsOn : Rules → PageFacts → meant.Command → Moment → Decision → Type 0
LeadsOn r p c t (Stored text) = Unit {0}
LeadsOn r p c t (Refused refusal text) = Unit {0}
LeadsOn r p c t (Accepted e changes text) = (h : History) (P : PageFacts) → HasNeeded c p P
    → IsPageOf P h → AreLeading P changes.items (after_entry h (entry_of r c t))

-- a depositor that enrols has no page, and nothing changes on one
abbrev pub ChangesNothing : Decision → Type 0
ChangesNothing (Stored text) = Unit {0}
ChangesNothing (Refused refusal text) = Unit {0}
ChangesNothing (Accepted e changes text) = changes.items ≡ []

abbrev pub LeadsFrom : Rules → Option PageFacts → meant.Command → Moment → Decision → Type 0
LeadsFrom r None c t d = ChangesNothing d
LeadsFrom r (Some p) c t d = LeadsOn r p c t d

-- the entry that an accepted command makes under the rules of the day, whatever its number
abbrev pub MakesEntry : Rules → meant.Command → Moment → Decision → Type 0
MakesEntry r c t (Stored text) = Unit {0}
MakesEntry r c t (Refused refusal text) = Unit {0}
MakesEntry r c t (Accepted e changes text) = unnumbered e ≡ written_as 0 (entry_of r c t)

-- the changes of a command that is accepted under these rules make of the tables of a legal
-- register, in the version of its book, those of the register with the command's entry, if that is
-- one
abbrev pub LeadsInTables : Rules → Who → List meant.Entry → meant.Command → Moment → Decision
    → Type 0
LeadsInTables r W L c t (Stored text) = Unit {0}
LeadsInTables r W L c t (Refused refusal text) = Unit {0}
LeadsInTables r W L c t (Accepted e changes text) =
    (v : Rules) → IsLegal v W L → IsLegal v W (L ++ entry_of r c t ∷ [])
    → tables.LeadOn v W L (entry_of r c t) (table_changes (entry_of r c t).who changes.items)
