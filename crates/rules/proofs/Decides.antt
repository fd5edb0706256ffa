-- Decisions on interchanges, as the definitions have them.
use Rattle.std.proofs.Common.{◌≡◌, ℕ, ◌+◌, ◌<◌, Bool, true, false, not, cond, List, Option, Some, None, refl, sym, ap, ◌∙◌, subst, arith}
use Rattle.std.specs.Prelude.{◌&&◌, nat_lt, if◌then◌else◌}
use Rattle.definitions.specs.declared.rules.Rules.{Rules}
use Rattle.definitions.specs.Accepted.{depositor_of}
use Rattle.std.proofs.lemmas.Bool.{le-ltb}
use Rattle.definitions.specs.Limits.{most_entries}
use Rattle.definitions.specs.Moments.{Moment}
use Rattle.definitions.specs.Header.{Who, is_partner, isa, sender, delims_of, is_unreadable}
use Rattle.definitions.specs.Cut.{cut}
use Rattle.definitions.specs.Structure.{groups_of}
use Rattle.definitions.specs.History.{History, tellings}
use Rattle.definitions.specs.Texts.{Told, answer}
use Rattle.definitions.specs.Register.{Command, Interchange, mark, interchange_mark}
use Rattle.definitions.specs.declared.refusals.Refusal.TheVariants.{Note}
use Rattle.definitions.specs.Reply.{Accepted, Refused, refusal_answer, interchange_entry}
use Rattle.definitions.specs.Decision as known
use Rattle.sets_out.specs.Headings.{heading_of}
use Rattle.sets_out.specs.Interchanges.{answer_of}
use Rattle.sets_out.proofs.TextLaws.{answer-told}
use Rattle.stock.specs.Pages.{PageFacts}
use Rattle.stock.specs.Parts.{Named, IsPart}
use Rattle.stock.specs.declared.steps.Change.{Change}
use Rattle.set_effects.specs.SetNames.{NamesGroups}
use Rattle.rules.specs.Needs.{HasNeeded}
use Rattle.definitions.specs.Lists.{or_else}
use Rattle.definitions.specs.Halt.{header_notes, structure_notes, structure_note}
use Rattle.envelope.specs.Conditions.{first_note}
use Rattle.envelope.specs.Halting.{first_appended}
use Rattle.entries.specs.Written.{Written, Recalled, written_as}
use Rattle.set_effects.specs.Judging.{AreGroupsTaken}
use Rattle.rules.specs.Decided.{IsPageOf, StandsFor, IsRecalled, IsUnder, IsGiven, entries_of}
use Rattle.entries.specs.Replies.{IsEntry, IsReply}
use Rattle.entries.specs.declared.decisions.Decision.{Decision}

-- an interchange that is accepted under the next number
pub accepted_out : (q : Rules) (W w : Who) (t : Moment) (number : ℕ) (text header : List ℕ) (p new P : PageFacts) (cs : List Change) (told : List Told) (out : List ℕ) (h : History) (n : Named)
    → header ≡ text → number ≡ p.entries + 1 → AreGroupsTaken q (delims_of text) (groups_of ((cut (delims_of text) text).segments)) p new cs told
    → out ≡ answer_of (delims_of header) W w t number (heading_of header) told → IsPart n p P → NamesGroups (delims_of text) n (groups_of ((cut (delims_of text) text).segments)) → IsPageOf P h → w ≡ sender text
    → out ≡ known.out_by W h (interchange_entry q text t)
accepted_out q W w t number text header p new P cs told out h n same is groups made part names of from =
    let m = p.entries + 1 in
    let ts = tellings q h.events m text in
    made ∙ ap (λ (x : List ℕ). answer_of (delims_of x) W w t number (heading_of x) told) same
    ∙ ap (λ k. answer_of (delims_of text) W w t k (heading_of text) told) is
    ∙ ap (λ (x : List Told). answer_of (delims_of text) W w t m (heading_of text) x) (groups.told n P h.events part names of.shows)
    ∙ sym (answer-told W w t m text ts)
    ∙ ap (λ (x : Who). answer W x t m text ts) from
    ∙ ap (λ k. answer W (sender text) t (k + 1) text (tellings q h.events (k + 1) text)) (part.entries ∙ of.entries)

pub accepted_reply : (q : Rules) (W w : Who) (t : Moment) (number : ℕ) (text header : List ℕ) (p new P : PageFacts) (cs : List Change) (told : List Told) (out : List ℕ) (e : Written) (h : History) (n : Named)
    → header ≡ text → number ≡ p.entries + 1 → p.entries < most_entries → AreGroupsTaken q (delims_of text) (groups_of ((cut (delims_of text) text).segments)) p new cs told
    → out ≡ answer_of (delims_of header) W w t number (heading_of header) told
    → e ≡ record { who = w; key = interchange_mark (isa header 13); n = number; moment = t; body = text; rules = q }
    → IsPart n p P → NamesGroups (delims_of text) n (groups_of ((cut (delims_of text) text).segments)) → IsPageOf P h → w ≡ sender text
    → (known.accepted_by W h (interchange_entry q text t) ≡ Accepted out) × (e ≡ written_as (p.entries + 1) (interchange_entry q text t))
accepted_reply q W w t number text header p new P cs told out e h n same is few groups made entered part names of from =
    let room : nat_lt most_entries (h.numbered + 1) ≡ false = le-ltb most_entries (h.numbered + 1) (omega (arith, few, part.entries, of.entries)) in (
      rw room (ap Accepted (sym (accepted_out q W w t number text header p new P cs told out h n same is groups made part names of from))),
      entered ∙ ap (λ (x : List ℕ). record { who = w; key = interchange_mark (isa x 13); n = number; moment = t; body = text; rules = q }) same
          ∙ ap (λ k. record { who = w; key = interchange_mark (isa text 13); n = k; moment = t; body = text; rules = q }) is
          ∙ ap (λ (x : Who). record { who = x; key = interchange_mark (isa text 13); n = p.entries + 1; moment = t; body = text; rules = q }) from,
    )

-- the first note of the header's conditions, else that of the conditions on the segments
pub noted_header : (W : Who) (text header : List ℕ) (o : Option ℕ) (code : ℕ) → header ≡ text → o ≡ first_note (header_notes W header) → o ≡ Some code → known.new_note W text ≡ Some code
noted_header W text header o code same is some =
    first_appended (header_notes W text) (structure_notes text)
    ∙ ap (λ (x : Option ℕ). or_else x (first_note (structure_notes text))) (ap (λ (x : List ℕ). first_note (header_notes W x)) (sym same) ∙ sym is ∙ some)

pub noted_segments : (W : Who) (text header : List ℕ) (o later : Option ℕ) → header ≡ text → o ≡ first_note (header_notes W header) → o ≡ None → structure_note text ≡ later → known.new_note W text ≡ later
noted_segments W text header o later same is none other =
    first_appended (header_notes W text) (structure_notes text)
    ∙ ap (λ (x : Option ℕ). or_else x (first_note (structure_notes text))) (ap (λ (x : List ℕ). first_note (header_notes W x)) (sym same) ∙ sym is ∙ none) ∙ other

-- a note's refusal is the reply to a new control number that has the note
pub noted_new : (q : Rules) (W : Who) (h : History) (text header : List ℕ) (t : Moment) (n code : ℕ) (found : Option ℕ) (d : Decision) → header ≡ text → found ≡ Some code
    → IsReply q n (Interchange text) t (Refused (Note code) (refusal_answer W header t (Note code))) d → IsReply q n (Interchange text) t (known.interchange_new q W h text t found) d
noted_new q W h text header t n code found d same is reply =
    subst (λ (o : Option ℕ). IsReply q n (Interchange text) t (known.interchange_new q W h text t o) d) (sym is)
    (subst (λ (x : List ℕ). IsReply q n (Interchange text) t (Refused (Note code) (refusal_answer W x t (Note code))) d) same reply)

pub accepted_new : (q : Rules) (W : Who) (h : History) (text : List ℕ) (t : Moment) (n : ℕ) (found : Option ℕ) (d : Decision) → found ≡ None
    → IsReply q n (Interchange text) t (known.accepted_by W h (interchange_entry q text t)) d → IsReply q n (Interchange text) t (known.interchange_new q W h text t found) d
accepted_new q W h text t n found d is reply = subst (λ (o : Option ℕ). IsReply q n (Interchange text) t (known.interchange_new q W h text t o) d) (sym is) reply

-- who has no page has no history
pub no_page : (c : Command) (held : Option PageFacts) (h : Option History) → held ≡ None → StandsFor c held h → h ≡ None
no_page c held None is stands = refl
no_page c held (Some x) is stands = absurd (subst (λ (o : Option PageFacts). StandsFor c o (Some x)) is stands)

-- a sender that is no partner names no depositor
both_no : (a : Bool) → (a && false) ≡ false
both_no true = refl
both_no false = refl

pub no_sender : (text header : List ℕ) (o : Option Who) → header ≡ text → o ≡ (if is_partner (sender header) then Some (sender header) else None) → o ≡ None
    → depositor_of (Interchange text) ≡ None
no_sender text header o same is none = by_test (is_partner (sender text)) refl (sym is ∙ none)
  where
    by_test : (b : Bool) → is_partner (sender text) ≡ b → (if is_partner (sender header) then Some (sender header) else None) ≡ None → depositor_of (Interchange text) ≡ None
    by_test true partner e =
        let there : (if is_partner (sender header) then Some (sender header) else None) ≡ Some (sender header) = rw (ap (λ (x : List ℕ). is_partner (sender x)) same ∙ partner) refl in
        absurd (cc (e, there))
    by_test false partner e =
        ap (λ (b : Bool). cond (not (is_unreadable text) && b) (Some (sender text)) None) partner
        ∙ ap (λ (b : Bool). cond b (Some (sender text)) None) (both_no (not (is_unreadable text)))

-- the reply to a stranger
pub sender_is : (text header : List ℕ) (o : Option Who) (w : Who) → header ≡ text → o ≡ (if is_partner (sender header) then Some (sender header) else None) → o ≡ Some w → w ≡ sender text
sender_is text header o w same is some = by (is_partner (sender header)) (sym is ∙ some)
  where
    by : (v : Bool) → (if v then Some (sender header) else None) ≡ Some w → w ≡ sender text
    by true e = let here : sender header ≡ w = cc (e) in sym here ∙ ap sender same
    by false e = absurd (cc (e))

pub stranger_reply : (q : Rules) (W : Who) (h : Option History) (k : Option known.Recalled) (text header : List ℕ) (t : Moment) (n : ℕ) (d : Decision) → header ≡ text → h ≡ None
    → IsReply q n (Interchange text) t (Refused (Note 6) (refusal_answer W header t (Note 6))) d → IsReply q n (Interchange text) t (known.interchange_known q W h k text t) d
stranger_reply q W h k text header t n d same is reply =
    subst (λ (o : Option History). IsReply q n (Interchange text) t (known.interchange_known q W o k text t) d) (sym is)
    (subst (λ (x : List ℕ). IsReply q n (Interchange text) t (Refused (Note 6) (refusal_answer W x t (Note 6))) d) same reply)

-- the reply to a known control number
again_given : (q : Rules) (W : Who) (h : Option History) (k : Option known.Recalled) (text : List ℕ) (t : Moment) (n : ℕ) (d : Decision) (p : PageFacts) (r : Recalled)
    → StandsFor (Interchange text) (Some p) h → IsRecalled (Some r) k → IsUnder (interchange_mark (isa text 13)) k
    → ((n : ℕ) (K : known.Recalled) → IsEntry r K → mark K.entry ≡ interchange_mark (isa text 13) → IsReply q n (Interchange text) t (known.interchange_again W text t K) d)
    → IsReply q n (Interchange text) t (known.interchange_known q W h k text t) d
again_given q W None k text t n d p r held is under reply = absurd held
again_given q W (Some h) None text t n d p r held is under reply = absurd is
again_given q W (Some h) (Some k) text t n d p r held is under reply = reply n k is under

pub given_again : (q : Rules) (W : Who) (held : Option PageFacts) (o : Option Recalled) (h : Option History) (k : Option known.Recalled) (text : List ℕ) (t : Moment) (d : Decision) (p : PageFacts) (r : Recalled)
    → held ≡ Some p → o ≡ Some r → IsGiven held o (Interchange text) h k
    → ((n : ℕ) (K : known.Recalled) → IsEntry r K → mark K.entry ≡ interchange_mark (isa text 13) → IsReply q n (Interchange text) t (known.interchange_again W text t K) d)
    → IsReply q (entries_of held) (Interchange text) t (known.interchange_known q W h k text t) d
given_again q W held o h k text t d p r page recalled given reply =
    again_given q W h k text t (entries_of held) d p r (subst (λ (x : Option PageFacts). StandsFor (Interchange text) x h) page given.page)
    (subst (λ (x : Option Recalled). IsRecalled x k) recalled given.known) given.under reply

-- the reply to a new control number
new_given : (q : Rules) (W : Who) (h : Option History) (k : Option known.Recalled) (text : List ℕ) (t : Moment) (d : Decision) (p : PageFacts)
    → StandsFor (Interchange text) (Some p) h → IsRecalled None k
    → ((H : History) (P : PageFacts) → HasNeeded (Interchange text) p P → IsPageOf P H → IsReply q p.entries (Interchange text) t (known.interchange_new q W H text t (known.new_note W text)) d)
    → IsReply q p.entries (Interchange text) t (known.interchange_known q W h k text t) d
new_given q W None k text t d p held is reply = absurd held
new_given q W (Some h) (Some k) text t d p held is reply = absurd is
new_given q W (Some h) None text t d p held is reply = reply h held.0 held.1 held.2

pub given_new : (q : Rules) (W : Who) (held : Option PageFacts) (o : Option Recalled) (h : Option History) (k : Option known.Recalled) (text : List ℕ) (t : Moment) (d : Decision) (p : PageFacts)
    → held ≡ Some p → o ≡ None → IsGiven held o (Interchange text) h k
    → ((H : History) (P : PageFacts) → HasNeeded (Interchange text) p P → IsPageOf P H → IsReply q p.entries (Interchange text) t (known.interchange_new q W H text t (known.new_note W text)) d)
    → IsReply q (entries_of held) (Interchange text) t (known.interchange_known q W h k text t) d
given_new q W held o h k text t d p page recalled given reply =
    subst (λ (x : Option PageFacts). IsReply q (entries_of x) (Interchange text) t (known.interchange_known q W h k text t) d) (sym page)
    (new_given q W h k text t d p (subst (λ (x : Option PageFacts). StandsFor (Interchange text) x h) page given.page) (subst (λ (x : Option Recalled). IsRecalled x k) recalled given.known) reply)
