-- requests for the health of the book, and servers that tell none
use Rattle.std.proofs.Common.{◌≡◌, ◌⊎◌, ℕ, ◌≤◌, ◌<◌, ◌-◌, ◌^◌, Bool, true, false, ◌&&◌, List, Option, Some, None, Result, Ok, Err, IfOk, OnOk, OnErr, MatchOption, refl, sym, ap, subst, arith, ◌∙◌, inl, inr, bytes_eq, codes}
use Rattle.httparse.specs.Grammar.{RequestHead}
use Rattle.request_guard.specs.declared.barred.Barred.{Barred}
use Rattle.definitions.specs.Header.{Who}
use Rattle.definitions.specs.Moments.{Moment}
use Rattle.definitions.specs.Register.{Entry}
use Rattle.definitions.specs.Response.{Response}
use Rattle.store.specs.Fault.{Fault}
use Rattle.store.specs.Standing.{Standing, IsUnchanged}
use Rattle.peers.specs.declared.listener.PeerAddress.{PeerAddress}
use Rattle.intake.specs.declared.audience.Access.{Access}
use Rattle.intake.specs.declared.served.Connection.{Connection}
use Rattle.intake.specs.declared.served.RequestLine.{RequestLine}
use Rattle.intake.specs.Admitting.{Admission, TurnedAway, ForHealth, LetIn, access_by, admission_by, admission_of, answer_by, answer_past, barred_at, command_by, command_past, is_health, is_health_by, without_health}
use Rattle.intake.specs.Connections.{HasCounted, HasTold, IsEnough, IsNotAccepted, IsServed, IsServedOn}
use Rattle.intake.specs.Health.{leads_to_health}
use Rattle.intake.specs.Serving.{IsExchange, IsResponseWritten, IsUnread, IsUnwritten}
use Rattle.intake.proofs.Counted.{all_count}
use Rattle.intake.proofs.ByDoor.{health_by}

-- no path leads to it, and no request is for it

pub no_path : (access : Access) (path : List ℕ) → access.tells_health ≡ false → leads_to_health access path ≡ false
no_path access path none = ap (λ (b : Bool). b && bytes_eq path (codes "/health")) none

pub no_health : (access : Access) (head : Option RequestHead) → access.tells_health ≡ false → is_health_by access head ≡ false
no_health access None none = refl
no_health access (Some h) none = ap (λ (b : Bool). is_health (admission_by (barred_at access.doors h) b)) (no_path access h.target none) ∙ by (barred_at access.doors h)
  where
    by : (o : Option Barred) → is_health (admission_by o false) ≡ false
    by None = refl
    by (Some why) = refl

-- and so none that is told is

module _ (access : Access) (old new : Standing) (c : Connection) (none : access.tells_health ≡ false) where
  plain_by : (known before later : Option (List ℕ)) (unread still unwritten more : ℕ) (o : Result ℕ Fault)
      → IfOk o (λ status. IsResponseWritten access old new known c.moment before later status c.served.line c.served.sender c.served.bytes c.served.is_health)
      → OnErr o (IsUnread old new known before later unread still c.served.line c.served.sender c.served.bytes c.served.is_health
      ⊎ IsUnwritten access old new known c.moment before later unwritten more c.served.line c.served.sender c.served.bytes c.served.is_health)
      → c.served.is_health ≡ false
  plain_by known before later unread still unwritten more (Ok status) written stopped = written.exchange.health ∙ no_health access written.exchange.head none
  plain_by known before later unread still unwritten more (Err fault) written stopped = elim stopped [
    | inl u ↦ u.health
    | inr u ↦ u.exchange.health ∙ no_health access u.exchange.head none
  ]

  plain_on : IsServedOn access old new c → c.served.is_health ≡ false
  plain_on is = plain_by is.known is.before is.later is.reads.0 is.reads.1 is.writes.0 is.writes.1 c.served.outcome is.written is.stopped

  plain_of : (peer : Option PeerAddress) → MatchOption peer (IsUnchanged old new × IsNotAccepted c) (λ p. IsServedOn access old new c) → c.served.is_health ≡ false
  plain_of None is = is.1.health
  plain_of (Some peer) is = plain_on is

pub plain : (access : Access) (old new : Standing) (c : Connection) → access.tells_health ≡ false → IsServed access old new c → c.served.is_health ≡ false
plain access old new c none is = plain_of (access_by access c.door) old new c (health_by access c.door ∙ none) c.peer is.became

-- so all that were told count

module _ {K C T : Type 0} (serves : K → Connection → K → Type 0) (gives : C → Moment → C → Type 0) (takes : T → Connection → T → Type 0)
    (each : (b : K) (c : Connection) (l : K) → serves b c l → c.served.is_health ≡ false) (book left : K) (clock : C) (first : T) where
  abbrev Counted : C → T → ℕ → ℕ → Type 0
  Counted after last total n = HasCounted serves gives takes book left clock after first last total n

  abbrev Told : C → T → ℕ → Type 0
  Told after last m = HasTold serves gives takes book left clock after first last m

  same : (after : C) (last : T) (total n : ℕ) → Counted after last total n → total ≡ n
  same after last total n h = sym h.told.counted ∙ sym (all_count serves each book h.told.connections left h.told.served) ∙ h.counted

  told_of : (after : C) (last : T) (total n : ℕ) → Counted after last total n → Told after last n
  told_of after last total n h = subst (Told after last) (same after last total n h) h.told

  told_enough : (after : C) (last : T) (total n wanted : ℕ) → wanted < 2 ^ 64 - 1 → IsEnough total n wanted → Counted after last total n → Told after last wanted
  told_enough after last total n wanted few enough h = subst (Told after last) (by enough) (told_of after last total n h)
    where
      by : IsEnough total n wanted → n ≡ wanted
      by (inl is) = is
      by (inr is) = let e : total ≡ n = same after last total n h in let t : total ≡ 2 ^ 64 - 1 = is.1 in let l : n ≤ wanted = is.0 in absurd (omega (arith, e, t, l, few))

  pub told_ok : {R E : Type 0} (r : Result R E) (wanted : ℕ) → wanted < 2 ^ 64 - 1
      → OnOk r ((total : ℕ) × (n : ℕ) × IsEnough total n wanted × ((after : C) × (last : T) × Counted after last total n)) → OnOk r ((after : C) × (last : T) × Told after last wanted)
  told_ok (Ok x) wanted few e = (e.3.0, e.3.1, told_enough e.3.0 e.3.1 e.0 e.1 wanted few e.2 e.3.2)
  told_ok (Err x) wanted few e = tt

  pub told_err : {R E : Type 0} (r : Result R E) (wanted : ℕ)
      → OnErr r ((total : ℕ) × (n : ℕ) × (n ≤ wanted) × ((after : C) × (last : T) × Counted after last total n)) → OnErr r ((n : ℕ) × (n ≤ wanted) × ((after : C) × (last : T) × Told after last n))
  told_err (Ok x) wanted e = tt
  told_err (Err x) wanted e = (e.1, e.2, (e.3.0, e.3.1, told_of e.3.0 e.3.1 e.0 e.1 e.3.2))

-- a request for it submits nothing, and leaves the book as it was

pub no_command : (access : Access) (head : Option RequestHead) (rest : List ℕ) → is_health_by access head ≡ true → command_by access head rest ≡ None
no_command access None rest is = absurd (cc)
no_command access (Some h) rest is = by (admission_of access h) is
  where
    by : (a : Admission) → is_health a ≡ true → command_past a access h rest ≡ None
    by LetIn e = absurd (cc)
    by ForHealth e = refl
    by (TurnedAway why) e = absurd (cc)

pub same_book : (access : Access) (old new : Standing) (known : Option (List ℕ)) (t : Moment) (r : Response) (line : Option RequestLine) (sender : Option Who)
    → IsExchange access old new known t r line sender true → IsUnchanged old new
same_book access old new known t r line sender is =
    let none = no_command access is.head is.rest (sym is.health) in
    elim is.answered [ inl a ↦ a.kept none | inr f ↦ f.kept none ]

-- and any other is answered, and submits, as where none is told

others : {B : Type 0} (f g : Admission → B) → f LetIn ≡ g LetIn → ((why : Barred) → f (TurnedAway why) ≡ g (TurnedAway why))
    → (o : Option Barred) (b : Bool) → is_health (admission_by o b) ≡ false → f (admission_by o b) ≡ g (admission_by o false)
others f g let_in away (Some why) b e = away why
others f g let_in away None false e = let_in
others f g let_in away None true e = absurd (cc)

pub same_command : (access : Access) (head : Option RequestHead) (rest : List ℕ) → is_health_by access head ≡ false → command_by access head rest ≡ command_by (without_health access) head rest
same_command access None rest e = refl
same_command access (Some h) rest e =
    others (λ a. command_past a access h rest) (λ a. command_past a (without_health access) h rest) refl (λ why. refl) (barred_at access.doors h) (leads_to_health access h.target) e

pub same_answer : (access : Access) (W : Who) (L : List Entry) (head : Option RequestHead) (rest : List ℕ) (t : Moment) → is_health_by access head ≡ false
    → answer_by access W L head rest t ≡ answer_by (without_health access) W L head rest t
same_answer access W L None rest t e = refl
same_answer access W L (Some h) rest t e =
    others (λ a. answer_past a access W L h rest t) (λ a. answer_past a (without_health access) W L h rest t) refl (λ why. refl) (barred_at access.doors h) (leads_to_health access h.target) e
