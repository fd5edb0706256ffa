-- Replies to acts under new tickets.
use Rattle.std.proofs.Common.{◌≡◌, ℕ, ◌+◌, ◌<◌, false, List, Option, Some, None, Ok, refl, sym, ap, ◌∙◌, subst, arith}
use Rattle.std.specs.Prelude.{Result, nat_lt}
use Rattle.std.proofs.lemmas.Bool.{le-ltb}
use Rattle.definitions.specs.declared.rules.Rules.{Rules}
use Rattle.definitions.specs.Moments.{Moment}
use Rattle.definitions.specs.Header.{Who}
use Rattle.definitions.specs.Events.{Event}
use Rattle.definitions.specs.Clerk.{performed}
use Rattle.definitions.specs.Register.{Act, Command, Clerk, Entry, ticket_mark}
use Rattle.entries.specs.Written.{Recalled}
use Rattle.definitions.specs.History.{History}
use Rattle.definitions.specs.Decision as known
use Rattle.rules.specs.Decided.{IsPageOf, IsRecalled, IsUnder, IsGiven, StandsFor, entries_of}
use Rattle.entries.specs.Replies.{IsReply}
use Rattle.entries.specs.declared.decisions.Decision.{Decision}
use Rattle.definitions.specs.Limits.{most_entries}
use Rattle.definitions.specs.Reply.{Accepted, clerk_entry}
use Rattle.definitions.specs.declared.refusals.Refusal.{Refusal}
use Rattle.definitions.specs.Texts.{document_of}
use Rattle.sets_out.specs.declared.envelopes.Envelope.{Envelope}
use Rattle.stock.specs.Pages.{PageFacts}
use Rattle.rules.specs.Needs.{HasNeeded}

pub act_done : (q : Rules) (W : Who) (m : ℕ) (h : History) (en : Entry) (act : Act) (e : Event) (n : ℕ) (c : Command) (t : Moment) (d : Decision) → m ≡ h.numbered → performed h.events (m + 1) act ≡ Ok e
    → IsReply q n c t (known.accepted_by W h en) d → IsReply q n c t (known.act_new W h en act) d
act_done q W m h en act e n c t d same done reply =
    let there : performed h.events (h.numbered + 1) act ≡ Ok e = ap (λ k. performed h.events (k + 1) act) (sym same) ∙ done in
    subst (λ (o : Result Event Refusal). IsReply q n c t (known.act_told W h en o) d) (sym there) reply

pub act_told_of : (q : Rules) (W : Who) (m : ℕ) (h : History) (en : Entry) (act : Act) (n : ℕ) (c : Command) (t : Moment) (d : Decision) → m ≡ h.numbered
    → IsReply q n c t (known.act_told W h en (performed h.events (m + 1) act)) d → IsReply q n c t (known.act_new W h en act) d
act_told_of q W m h en act n c t d same reply =
    subst (λ (o : Result Event Refusal). IsReply q n c t (known.act_told W h en o) d) (ap (λ k. performed h.events (k + 1) act) same) reply

-- an act that was performed is accepted under the next number
pub act_accepted : (q : Rules) (w : Envelope) (m : ℕ) (ticket : List ℕ) (act : Act) (h : History) (e : Event) (out : List ℕ) → m ≡ h.numbered → m < most_entries
    → performed h.events (m + 1) act ≡ Ok e → w.number ≡ m + 1 → out ≡ document_of w.warehouse w.depositor w.moment w.number e
    → known.accepted_by w.warehouse h (clerk_entry q w.depositor ticket act w.moment) ≡ Accepted out
act_accepted q w m ticket act h e out same few done number made =
    let room : nat_lt most_entries (h.numbered + 1) ≡ false = le-ltb most_entries (h.numbered + 1) (omega (arith, few, same)) in
    let there : performed h.events (h.numbered + 1) act ≡ Ok e = ap (λ k. performed h.events (k + 1) act) (sym same) ∙ done in
    let is : out ≡ document_of w.warehouse w.depositor w.moment (h.numbered + 1) e = made ∙ ap (λ k. document_of w.warehouse w.depositor w.moment k e) (number ∙ ap (λ k. k + 1) same) in
    rw (room, there) (ap Accepted (sym is))

pub none_known : (o : Option Recalled) (k : Option known.Recalled) → o ≡ None → IsRecalled o k → k ≡ None
none_known None None is there = refl
none_known None (Some k) is there = absurd there
none_known (Some r) k is there = absurd (cc (is))

-- the reply to an act of a depositor with a page
clerk_stands : (q : Rules) (W w : Who) (ticket : List ℕ) (act : Act) (t : Moment) (d : Decision) (p : PageFacts) (o : Option Recalled) (h : Option History) (k : Option known.Recalled)
    → StandsFor (Clerk w ticket act) (Some p) h → IsRecalled o k → IsUnder (ticket_mark ticket) k
    → ((H : History) (P : PageFacts) (K : Option known.Recalled) → HasNeeded (Clerk w ticket act) p P → IsPageOf P H → IsRecalled o K → IsUnder (ticket_mark ticket) K
    → IsReply q p.entries (Clerk w ticket act) t (known.clerk_by q W (Some H) K w ticket act t) d)
    → IsReply q p.entries (Clerk w ticket act) t (known.clerk_by q W h k w ticket act t) d
clerk_stands q W w ticket act t d p o None k held is under reply = absurd held
clerk_stands q W w ticket act t d p o (Some h) k held is under reply = reply h held.0 k held.1 held.2 is under

pub clerk_given : (q : Rules) (V W w : Who) (ticket : List ℕ) (act : Act) (t : Moment) (d : Decision) (held : Option PageFacts) (p : PageFacts) (o : Option Recalled) (h : Option History) (k : Option known.Recalled)
    → V ≡ W → held ≡ Some p → IsGiven held o (Clerk w ticket act) h k
    → ((H : History) (P : PageFacts) (K : Option known.Recalled) → HasNeeded (Clerk w ticket act) p P → IsPageOf P H → IsRecalled o K → IsUnder (ticket_mark ticket) K
    → IsReply q p.entries (Clerk w ticket act) t (known.clerk_by q V (Some H) K w ticket act t) d)
    → IsReply q (entries_of held) (Clerk w ticket act) t (known.clerk_by q W h k w ticket act t) d
clerk_given q V W w ticket act t d held p o h k house page given reply =
    subst (λ (x : Option PageFacts). IsReply q (entries_of x) (Clerk w ticket act) t (known.clerk_by q W h k w ticket act t) d) (sym page)
    (clerk_stands q W w ticket act t d p o h k (subst (λ (x : Option PageFacts). StandsFor (Clerk w ticket act) x h) page given.page) given.known given.under
    (subst (λ (x : Who). (H : History) (P : PageFacts) (K : Option known.Recalled) → HasNeeded (Clerk w ticket act) p P → IsPageOf P H → IsRecalled o K → IsUnder (ticket_mark ticket) K
    → IsReply q p.entries (Clerk w ticket act) t (known.clerk_by q x (Some H) K w ticket act t) d) house reply))
