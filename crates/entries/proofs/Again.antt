-- What a repeat of an interchange comes to.
use Rattle.std.proofs.Common.{◌≡◌, ℕ, Bool, false, cond, List, [], Option, refl, sym, ap, ◌∙◌, subst}
use Rattle.std.specs.Prelude.{bytes_eq}
use Rattle.definitions.specs.declared.rules.Rules.{Rules}
use Rattle.definitions.specs.Moments.{Moment}
use Rattle.definitions.specs.Header.{Who, isa, is_unreadable}
use Rattle.definitions.specs.History.{History}
use Rattle.definitions.specs.Register.{Interchange, Deed, Enrolled, Received, Performed, Entry, mark, deed_mark, interchange_mark, body_of}
use Rattle.definitions.specs.declared.refusals.Refusal.TheVariants.{Unreadable, Duplicate}
use Rattle.definitions.specs.Reply.{Refused, refusal_answer}
use Rattle.definitions.specs.Decision as known
use Rattle.entries.specs.Written.{Recalled}
use Rattle.entries.specs.Replies.{IsEntry, IsReply}
use Rattle.entries.specs.declared.decisions.Decision.{Decision}

-- a known control number of other bytes
again_by : (W : Who) (text : List ℕ) (t : Moment) (e : Entry) (out : List ℕ) (d : Deed) → e.deed ≡ d → deed_mark d ≡ interchange_mark (isa text 13) → bytes_eq (body_of d) text ≡ false
    → known.interchange_again W text t (record { entry = record { who = e.who; moment = e.moment; deed = d; rules = e.rules }; outgoing = out }) ≡ Refused Duplicate (refusal_answer W text t Duplicate)
again_by W text t e out Enrolled is key other = refl
again_by W text t e out (Received bytes) is key other = rw other refl
again_by W text t e out (Performed ticket act) is key other = refl

pub again_other : (W : Who) (text : List ℕ) (t : Moment) (r : Recalled) (k : known.Recalled) → IsEntry r k → mark k.entry ≡ interchange_mark (isa text 13)
    → bytes_eq r.entry.body text ≡ false → known.interchange_again W text t k ≡ Refused Duplicate (refusal_answer W text t Duplicate)
again_other W text t r k entry key other =
    let body : r.entry.body ≡ body_of k.entry.deed = ap (λ (w : _). w.body) entry.1 in
    again_by W text t k.entry k.outgoing k.entry.deed refl key (ap (λ (b : List ℕ). bytes_eq b text) (sym body) ∙ other)

-- the reply to a text that can be read
pub readable_reply : (q : Rules) (W : Who) (h : Option History) (k : Option known.Recalled) (text : List ℕ) (t : Moment) (n : ℕ) (d : Decision) → is_unreadable text ≡ false
    → IsReply q n (Interchange text) t (known.interchange_known q W h k text t) d → IsReply q n (Interchange text) t (known.interchange_by q W h k text t) d
readable_reply q W h k text t n d readable reply =
    subst (λ (b : Bool). IsReply q n (Interchange text) t (cond b (Refused Unreadable []) (known.interchange_known q W h k text t)) d) (sym readable) reply
