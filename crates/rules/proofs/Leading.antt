-- The changes of accepted commands lead from the page of a history to that of one entry more.
use Rattle.std.proofs.Common.{◌≡◌, ℕ, ◌+◌, List, [], ◌∷◌, ◌++◌, Option, Some, None, Ok, false, sym, ap, subst, ◌∙◌}
use Rattle.std.specs.Prelude.{Result, is_some}
use Rattle.definitions.specs.declared.rules.Rules.{Rules}
use Rattle.definitions.specs.Moments.{Moment}
use Rattle.definitions.specs.Header.{Who, delims_of}
use Rattle.definitions.specs.Cut.{cut}
use Rattle.definitions.specs.Structure.{groups_of}
use Rattle.definitions.specs.Events.{Event}
use Rattle.definitions.specs.declared.refusals.Refusal.{Refusal}
use Rattle.definitions.specs.Clerk.{performed}
use Rattle.definitions.specs.History.{History, events_added, after_entry}
use Rattle.definitions.specs.Texts.{Told}
use Rattle.definitions.specs.Register.{Act, Command, Received, Performed}
use Rattle.definitions.specs.Reply.{interchange_entry, clerk_entry}
use Rattle.stock.specs.declared.steps.Change.{Change}
use Rattle.stock.specs.Pages.{PageFacts}
use Rattle.stock.specs.Puts.{put}
use Rattle.stock.specs.Shows.{Shows}
use Rattle.stock.proofs.PageLemmas.{next_shows}
use Rattle.stock.specs.Parts.{Named, IsPart}
use Rattle.set_effects.specs.SetNames.{NamesGroups}
use Rattle.rules.specs.Needs.{NamesAct}
use Rattle.set_effects.specs.Judging.{after, AreGroupsTaken}
use Rattle.set_effects.specs.Proper.{AreProper}
use Rattle.rules.specs.Decided.{MakesEntry, IsPageOf, AreLeading, LeadsOn, LeadsFrom, ChangesNothing}
use Rattle.entries.specs.Replies.{IsNoEntry}
use Rattle.entries.specs.declared.decisions.Decision.{Decision}
use Rattle.entries.specs.declared.decisions.Decision.TheVariants.{Stored, Refused, Accepted}
use Rattle.rules.proofs.Plays.{added_of}

pub interchange_leads : (r : Rules) (text : List ℕ) (t : Moment) (p new P : PageFacts) (told : List Told) (cs : List Change) (h : History) (n : Named)
    → AreGroupsTaken r (delims_of text) (groups_of ((cut (delims_of text) text).segments)) p new cs told → IsPart n p P → NamesGroups (delims_of text) n (groups_of ((cut (delims_of text) text).segments))
    → IsPageOf P h → AreLeading P cs (after_entry h (interchange_entry r text t))
interchange_leads r text t p new P told cs h n taken part names of =
    let events = h.events ++ events_added r h.events (h.numbered + 1) (Received text) in
    let there : Shows (after cs new.recent P) events =
    subst (λ (k : ℕ). Shows (after cs new.recent P) (h.events ++ events_added r h.events (k + 1) (Received text))) (part.entries ∙ of.entries) (taken.shows n P h.events part names of.shows) in
    record {
      sorted = part.sorted;
      page = record {
        shows = next_shows (after cs new.recent P) events there;
        entries = ap (λ n. n + 1) of.entries;
      };
      proper = taken.proper n P h.events part names of.shows;
    }

pub act_leads : (r : Rules) (w : Who) (ticket : List ℕ) (act : Act) (t : Moment) (p P : PageFacts) (cs : List Change) (h : History) (n : Named)
    → ((n : Named) (P : PageFacts) (es : List Event) → IsPart n p P → NamesAct n p act → Shows P es
    → (e : Event) × (performed es (p.entries + 1) act ≡ Ok e) × Shows (put cs P) (es ++ e ∷ []) × AreProper P cs)
    → IsPart n p P → NamesAct n p act → IsPageOf P h → AreLeading P cs (after_entry h (clerk_entry r w ticket act t))
act_leads r w ticket act t p P cs h n steps part names of =
    let found = steps n P h.events part names of.shows in
    let here : performed h.events (h.numbered + 1) act ≡ Ok found.0 = subst (λ (k : ℕ). performed h.events (k + 1) act ≡ Ok found.0) (part.entries ∙ of.entries) found.1 in
    let there : Shows (put cs P) (h.events ++ events_added r h.events (h.numbered + 1) (Performed ticket act)) =
    subst (λ (o : Result Event Refusal). Shows (put cs P) (h.events ++ added_of o)) (sym here) found.2 in
    record {
      sorted = part.sorted;
      page = record {
        shows = next_shows (put cs P) (h.events ++ events_added r h.events (h.numbered + 1) (Performed ticket act)) there;
        entries = ap (λ n. n + 1) of.entries;
      };
      proper = found.3;
    }

-- what makes no entry makes none
pub nothing_made : (r : Rules) (c : Command) (t : Moment) (d : Decision) → IsNoEntry d → MakesEntry r c t d
nothing_made r c t (Stored text) none = tt
nothing_made r c t (Refused refusal text) none = tt
nothing_made r c t (Accepted e cs text) none = absurd none

-- what makes no entry leads nowhere
pub nowhere : (r : Rules) (p : PageFacts) (c : Command) (t : Moment) (d : Decision) → IsNoEntry d → LeadsOn r p c t d
nowhere r p c t (Stored text) h = tt
nowhere r p c t (Refused refusal text) h = tt
nowhere r p c t (Accepted e changes text) h = absurd h

pub nowhere_from : (r : Rules) (held : Option PageFacts) (c : Command) (t : Moment) (d : Decision) → IsNoEntry d → LeadsFrom r held c t d
nowhere_from r None c t (Stored text) h = tt
nowhere_from r None c t (Refused refusal text) h = tt
nowhere_from r None c t (Accepted e changes text) h = absurd h
nowhere_from r (Some p) c t d h = nowhere r p c t d h

pub from_page : (r : Rules) (held : Option PageFacts) (p : PageFacts) (c : Command) (t : Moment) (d : Decision) → held ≡ Some p → LeadsOn r p c t d → LeadsFrom r held c t d
from_page r held p c t d is leads = subst (λ (o : Option PageFacts). LeadsFrom r o c t d) (sym is) leads

pub from_none : (r : Rules) (held : Option PageFacts) (c : Command) (t : Moment) (d : Decision) → is_some held ≡ false → ChangesNothing d → LeadsFrom r held c t d
from_none r None c t d is none = none
from_none r (Some p) c t d is none = absurd (cc (is))
