-- Entries that are played over a page, as the definitions have them.
use Rattle.std.proofs.Common.{◌≡◌, ℕ, ◌+◌, Bool, true, false, not, List, [], ◌∷◌, ◌++◌, Option, Some, None, Ok, Err, cond, refl, sym, ap, ◌∙◌, subst, append-nil, map}
use Rattle.std.specs.Prelude.{Result, codes, is_none, ◌==◌}
use Rattle.std.specs.List.{starts_with}
use Rattle.definitions.specs.declared.rules.Rules.{Rules}
use Rattle.definitions.specs.Moments.{Moment}
use Rattle.definitions.specs.Header.{Who, delims_of, is_unreadable}
use Rattle.definitions.specs.Cut.{cut}
use Rattle.definitions.specs.Structure.{groups_of}
use Rattle.definitions.specs.Halt.{structure_note}
use Rattle.definitions.specs.Events.{Event, Enrolment}
use Rattle.definitions.specs.declared.refusals.Refusal.{Refusal}
use Rattle.definitions.specs.Clerk.{performed, is_act}
use Rattle.definitions.specs.History.{History, tellings, events_added}
use Rattle.definitions.specs.Texts.{Told, told_of, answered, document_of}
use Rattle.definitions.specs.Register.{Act, Deed, Enrolled, Received, Performed, Entry, is_numbered, canonical}
use Rattle.definitions.specs.Readings.{is_entry, is_deed, act_of}
use Rattle.definitions.specs.Reply.{clerk_entry, written}
use Rattle.definitions.proofs.TextLaws.{both_parts}
use Rattle.definitions.proofs.ReadingLaws.{act_of-canonical}
use Rattle.sets_out.specs.Headings.{heading_of}
use Rattle.sets_out.specs.Interchanges.{answer_of}
use Rattle.sets_out.proofs.TextLaws.{answer-told}
use Rattle.stock.specs.Pages.{PageFacts, AreSorted, next_entry}
use Rattle.stock.specs.Parts.{all_named}
use Rattle.stock.specs.declared.steps.Change.{Change}
use Rattle.stock.proofs.PartLemmas.{part_of_self}
use Rattle.stock.specs.Shows.{Shows}
use Rattle.entries.specs.Written.{Written, written_as}
use Rattle.set_effects.specs.Judging.{AreGroupsTaken, after}
use Rattle.rules.proofs.Whole.{all_groups}
use Rattle.rules.specs.Decided.{IsPageOf}
use Rattle.rules.specs.Played.{number_after, IsBefore, IsPlayed, IsReplayed, is_clean}

-- Interchanges.

pub grouped_played : (r : Rules) (W w : Who) (t : Moment) (number : ℕ) (text : List ℕ) (p new : PageFacts) (cs : List Change) (told : List Told) (out : List ℕ) (h : History)
    → AreGroupsTaken r (delims_of text) (groups_of ((cut (delims_of text) text).segments)) p new cs told → AreSorted p
    → out ≡ answer_of (delims_of text) W w t number (heading_of text) told → IsPageOf p h → number ≡ h.numbered + 1
    → IsPlayed W h (record { who = w; moment = t; deed = Received text; rules = r }) new out
grouped_played r W w t number text p new cs told out h groups sorted made of is =
    let part = part_of_self all_named p sorted in
    let names = all_groups (delims_of text) (groups_of ((cut (delims_of text) text).segments)) in
    let n = h.numbered + 1 in
    let ts = tellings r h.events n text in
    let same : told ≡ map told_of (answered ts) = subst (λ (k : ℕ). told ≡ map told_of (answered (tellings r h.events (k + 1) text))) of.entries (groups.told all_named p h.events part names of.shows) in
    let there : Shows (after cs new.recent p) (h.events ++ events_added r h.events (h.numbered + 1) (Received text)) =
    subst (λ (k : ℕ). Shows (after cs new.recent p) (h.events ++ events_added r h.events (k + 1) (Received text))) of.entries (groups.shows all_named p h.events part names of.shows) in
    record {
      shows = subst (λ (q : PageFacts). Shows q (h.events ++ events_added r h.events (h.numbered + 1) (Received text))) (sym groups.same) there;
      entries = groups.entries ∙ of.entries;
      outgoing = made ∙ ap (λ k. answer_of (delims_of text) W w t k (heading_of text) told) is
          ∙ ap (λ (x : List Told). answer_of (delims_of text) W w t n (heading_of text) x) same
          ∙ sym (answer-told W w t n text ts);
    }

-- an interchange that is clean has no note, and can be read
pub clean_note : (text : List ℕ) → is_clean (Received text) ≡ true → structure_note text ≡ None
clean_note text h = none_is (structure_note text) ((both_parts (not (is_unreadable text)) (is_none (structure_note text)) h).1)
  where
    none_is : (o : Option ℕ) → is_none o ≡ true → o ≡ None
    none_is None e = refl
    none_is (Some n) e = absurd (cc)

pub clean_read : (text : List ℕ) → is_clean (Received text) ≡ true → is_unreadable text ≡ false
clean_read text h = by_test (is_unreadable text) ((both_parts (not (is_unreadable text)) (is_none (structure_note text)) h).0)
  where
    by_test : (b : Bool) → not b ≡ true → b ≡ false
    by_test true e = absurd (cc)
    by_test false e = refl

-- Acts.

abbrev pub added_of : Result Event Refusal → List Event
added_of (Ok e) = e ∷ []
added_of (Err refusal) = []

-- an act that was performed
pub done_played : (r : Rules) (W w : Who) (t : Moment) (number : ℕ) (ticket : List ℕ) (act : Act) (p new : PageFacts) (out : List ℕ) (h : History)
    → ((es : List Event) → Shows p es → (e : Event) × (performed es (p.entries + 1) act ≡ Ok e) × Shows new (es ++ e ∷ []))
    → new.entries ≡ p.entries
    → ((es : List Event) (e : Event) → Shows p es → performed es number act ≡ Ok e → out ≡ document_of W w t number e)
    → IsPageOf p h → number ≡ h.numbered + 1
    → IsPlayed W h (clerk_entry r w ticket act t) new out
done_played r W w t number ticket act p new out h steps entries made of is =
    let found = steps h.events of.shows in
    let here : performed h.events (h.numbered + 1) act ≡ Ok found.0 = subst (λ (k : ℕ). performed h.events (k + 1) act ≡ Ok found.0) of.entries found.1 in
    let there : performed h.events number act ≡ Ok found.0 = ap (λ k. performed h.events k act) is ∙ here in
    record {
      shows = subst (λ (o : Result Event Refusal). Shows new (h.events ++ added_of o)) (sym here) found.2;
      entries = entries ∙ of.entries;
      outgoing = made h.events found.0 of.shows there ∙ ap (λ k. document_of W w t k found.0) is
          ∙ subst (λ (o : Result Event Refusal). document_of W w t (h.numbered + 1) found.0 ≡ written W w t (h.numbered + 1) o) (sym here) refl;
    }

-- an act that was refused
pub stopped_played : (r : Rules) (W w : Who) (t : Moment) (ticket : List ℕ) (act : Act) (p new : PageFacts) (out : List ℕ) (h : History) (why : Refusal)
    → performed h.events (p.entries + 1) act ≡ Err why → new ≡ p → out ≡ [] → IsPageOf p h
    → IsPlayed W h (clerk_entry r w ticket act t) new out
stopped_played r W w t ticket act p new out h why is same none of =
    let here : performed h.events (h.numbered + 1) act ≡ Err why = subst (λ (k : ℕ). performed h.events (k + 1) act ≡ Err why) of.entries is in
    record {
      shows = subst (λ (o : Result Event Refusal). Shows new (h.events ++ added_of o)) (sym here)
          (subst (Shows new) (sym (append-nil h.events)) (subst (λ (q : PageFacts). Shows q h.events) (sym same) of.shows));
      entries = ap (λ (q : PageFacts). q.entries) same ∙ of.entries;
      outgoing = none ∙ subst (λ (o : Result Event Refusal). [] ≡ written W w t (h.numbered + 1) o) (sym here) refl;
    }

-- the act that is read from a canonical text
pub read_same : (r : Rules) (text : List ℕ) (act b : Act) (o : Option Act) → o ≡ act_of r text → o ≡ Some b → text ≡ canonical act → is_act r act ≡ true → b ≡ act
read_same r text act b o read some same good =
    let there : act_of r text ≡ Some act = ap (act_of r) same ∙ act_of-canonical r act good in
    cc (read, some, there)

pub read_none : (r : Rules) (text : List ℕ) (act : Act) (o : Option Act) → o ≡ act_of r text → o ≡ None → text ≡ canonical act → is_act r act ≡ true → ⊥
read_none r text act o read none same good =
    let there : act_of r text ≡ Some act = ap (act_of r) same ∙ act_of-canonical r act good in
    absurd (cc (read, none, there))

-- Entries.

-- a new page, of a depositor that enrols
pub enrolled : (W : Who) (h : History) (w : Who) (t : Moment) (d : Deed) (q : Rules) (p : PageFacts) (out : List ℕ) → Shows p (Enrolment ∷ []) → p.entries ≡ 0 → out ≡ []
    → IsBefore None h (record { who = w; moment = t; deed = d; rules = q }) → IsReplayed W h (record { who = w; moment = t; deed = d; rules = q }) p out
enrolled W h w t Enrolled q p out shows entries none before =
    subst (λ (g : History). IsReplayed W g (record { who = w; moment = t; deed = Enrolled; rules = q }) p out) (sym before.0)
    (record { page = record { shows = shows; entries = entries }; outgoing = none })
enrolled W h w t (Received text) q p out shows entries none before = absurd (cc (before.1))
enrolled W h w t (Performed ticket act) q p out shows entries none before = absurd (cc (before.1))

-- an entry that was played, and then counts
pub counted : (W : Who) (h : History) (e : Entry) (p q : PageFacts) (out : List ℕ) → IsPlayed W h e p out → is_numbered e ≡ true
    → q ≡ next_entry p → ((es : List Event) → Shows p es → Shows q es) → IsReplayed W h e q out
counted W h e p q out played numbered next shows = record {
  page = record {
    shows = shows (h.events ++ events_added e.rules h.events (h.numbered + 1) e.deed) played.shows;
    entries = ap (λ (x : PageFacts). x.entries) next ∙ ap (λ n. n + 1) played.entries ∙ ap (λ b. h.numbered + cond b 1 0) (sym numbered);
  };
  outgoing = played.outgoing;
}

-- what is known of an entry with a number, by what is written down of it
pub record IsNumbered (w : Written) (h : History) (e : Entry) : Type 0 where
  pub is : is_numbered e ≡ true
  pub entry : w ≡ written_as (number_after h e) e
  pub good : is_entry e ≡ true
  pub clean : is_clean e.deed ≡ true

number_is : (w : Written) (h : History) (e : Entry) → IsNumbered w h e → w.n ≡ h.numbered + 1
number_is w h e known = ap (λ (x : Written). x.n) known.entry ∙ ap (λ b. cond b (h.numbered + 1) 0) known.is

-- an entry whose key begins with `T` is an act's, any other an interchange's

pub act_played : (W V : Who) (w : Written) (h : History) (e : Entry) (p new : PageFacts) (out : List ℕ) (who : Who) (t : Moment) (n : ℕ) (text : List ℕ) (q : Rules)
    → V ≡ W → who ≡ w.who → t ≡ w.moment → n ≡ w.n → text ≡ w.body → q ≡ w.rules → starts_with (λ a b. a == b) w.key (codes "T") ≡ true → IsNumbered w h e → IsPageOf p h
    → ((g : History) (ticket : List ℕ) (act : Act) → IsPageOf p g → n ≡ g.numbered + 1 → is_act q act ≡ true → text ≡ canonical act
    → IsPlayed V g (clerk_entry q who ticket act t) new out)
    → IsPlayed W h e new out
act_played W V w h e p new out who t n text q house whose when under body ruled key known of each = by_deed e.deed known.entry known.good known.is
  where
    by_deed : (d : Deed) → w ≡ written_as (number_after h e) (record { who = e.who; moment = e.moment; deed = d; rules = e.rules }) → is_entry (record { who = e.who; moment = e.moment; deed = d; rules = e.rules }) ≡ true
        → is_numbered (record { who = e.who; moment = e.moment; deed = d; rules = e.rules }) ≡ true → IsPlayed W h (record { who = e.who; moment = e.moment; deed = d; rules = e.rules }) new out
    by_deed Enrolled is good numbered = absurd (cc (numbered))
    by_deed (Received bytes) is good numbered =
        let wrong : starts_with (λ a b. a == b) w.key (codes "T") ≡ false = ap (λ (x : Written). starts_with (λ a b. a == b) x.key (codes "T")) is in
        absurd (cc)
    by_deed (Performed ticket act) is good numbered =
        let act_good = (both_parts _ (is_act e.rules act) ((both_parts _ (is_deed e.rules (Performed ticket act)) good).1)).1 in
        let same : q ≡ e.rules = ruled ∙ ap (λ (x : Written). x.rules) is in
        let played = each h ticket act of (under ∙ number_is w h e known) (ap (λ (x : Rules). is_act x act) same ∙ act_good) (body ∙ ap (λ (x : Written). x.body) is) in
        subst (λ (x : Who). IsPlayed x h (clerk_entry e.rules e.who ticket act e.moment) new out) house
        (subst (λ (x : Rules). IsPlayed V h (clerk_entry x e.who ticket act e.moment) new out) same
        (subst (λ (x : Who). IsPlayed V h (clerk_entry q x ticket act e.moment) new out) (whose ∙ ap (λ (x : Written). x.who) is)
        (subst (λ (x : Moment). IsPlayed V h (clerk_entry q who ticket act x) new out) (when ∙ ap (λ (x : Written). x.moment) is) played)))

pub interchange_played : (W V : Who) (w : Written) (h : History) (e : Entry) (p new : PageFacts) (out : List ℕ) (who : Who) (t : Moment) (n : ℕ) (text : List ℕ) (q : Rules)
    → V ≡ W → who ≡ w.who → t ≡ w.moment → n ≡ w.n → text ≡ w.body → q ≡ w.rules → starts_with (λ a b. a == b) w.key (codes "T") ≡ false → IsNumbered w h e → IsPageOf p h
    → ((g : History) → IsPageOf p g → n ≡ g.numbered + 1 → is_clean (Received text) ≡ true
    → IsPlayed V g (record { who = who; moment = t; deed = Received text; rules = q }) new out)
    → IsPlayed W h e new out
interchange_played W V w h e p new out who t n text q house whose when under body ruled key known of each = by_deed e.deed known.entry known.clean known.is
  where
    by_deed : (d : Deed) → w ≡ written_as (number_after h e) (record { who = e.who; moment = e.moment; deed = d; rules = e.rules }) → is_clean d ≡ true
        → is_numbered (record { who = e.who; moment = e.moment; deed = d; rules = e.rules }) ≡ true → IsPlayed W h (record { who = e.who; moment = e.moment; deed = d; rules = e.rules }) new out
    by_deed Enrolled is clean numbered = absurd (cc (numbered))
    by_deed (Performed ticket act) is clean numbered =
        let wrong : starts_with (λ a b. a == b) w.key (codes "T") ≡ true = ap (λ (x : Written). starts_with (λ a b. a == b) x.key (codes "T")) is in
        absurd (cc)
    by_deed (Received bytes) is clean numbered =
        let same : text ≡ bytes = body ∙ ap (λ (x : Written). x.body) is in
        let played = each h of (under ∙ number_is w h e known) (ap (λ (x : List ℕ). is_clean (Received x)) same ∙ clean) in
        subst (λ (x : Who). IsPlayed x h (record { who = e.who; moment = e.moment; deed = Received bytes; rules = e.rules }) new out) house
        (subst (λ (x : Rules). IsPlayed V h (record { who = e.who; moment = e.moment; deed = Received bytes; rules = x }) new out) (ruled ∙ ap (λ (x : Written). x.rules) is)
        (subst (λ (x : Who). IsPlayed V h (record { who = x; moment = e.moment; deed = Received bytes; rules = q }) new out) (whose ∙ ap (λ (x : Written). x.who) is)
        (subst (λ (x : Moment). IsPlayed V h (record { who = who; moment = x; deed = Received bytes; rules = q }) new out) (when ∙ ap (λ (x : Written). x.moment) is)
        (subst (λ (x : List ℕ). IsPlayed V h (record { who = who; moment = t; deed = Received x; rules = q }) new out) same played))))
