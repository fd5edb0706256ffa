-- what another depositor has isn't reached, and what another sent isn't handed in
use Rattle.std.proofs.Common.{◌≡◌, ℕ, Bool, true, false, List, Option, Some, None, Result, Err, Ok, refl, ap, ◌∙◌, subst, if◌then◌else◌}
use Rattle.httparse.specs.Grammar.{RequestHead}
use Rattle.definitions.specs.Header.{Who}
use Rattle.definitions.specs.Moments.{Moment}
use Rattle.definitions.specs.Register.{Command, Entry}
use Rattle.definitions.specs.Response.{Method, bare}
use Rattle.intake.specs.Admitting.{answer_for, command_for}
use Rattle.intake.specs.Reaching.{asked_for, may_reach, sent_for}
use Rattle.request_guard.specs.Askers.{may_send}
use Rattle.intake.specs.Fields.{head_of}
use Rattle.intake.specs.Lines.{sender_in}
use Rattle.intake.specs.Targets.{Target, ToRoute, ToCall, asked_with, command_with, interchange_with, response_with, target_command, target_of}
use Rattle.request_guard.specs.declared.askers.Asker.{Asker}
use Rattle.request_guard.specs.declared.askers.Asker.TheVariants.{Unnamed, Depositor, Unknown}
use Rattle.intake.specs.declared.audience.Audience.{Audience}
use Rattle.intake.proofs.Answering.{reached}
use Rattle.intake.proofs.Sent.{call_unsent}

module _ (h : RequestHead) (rest : List ℕ) (audience : Audience) where
  turned : (asker : Asker) → may_reach asker (target_of audience h.target) ≡ false → asked_for asker (head_of h) (target_of audience h.target) rest ≡ Err 403
  turned asker not = rw not refl

-- what names nobody may be sent
unnamed_may : (asker : Asker) → may_send asker None ≡ true
unnamed_may Unnamed = refl
unnamed_may (Depositor w) = refl
unnamed_may Unknown = refl

pub no_command : (asker : Asker) (audience : Audience) (h : RequestHead) (rest : List ℕ) → may_reach asker (target_of audience h.target) ≡ false → command_for asker audience h rest ≡ None
no_command Unnamed audience h rest not = absurd (cc)
no_command (Depositor w) audience h rest not = ap (command_with (head_of h).method (target_of audience h.target)) (turned h rest audience (Depositor w) not)
no_command Unknown audience h rest not = ap (command_with (head_of h).method (target_of audience h.target)) (turned h rest audience Unknown not)

pub a_403 : (asker : Asker) (audience : Audience) (h : RequestHead) (rest : List ℕ) → may_reach asker (target_of audience h.target) ≡ false
    → (W : Who) (L : List Entry) (t : Moment) → answer_for asker audience W L h rest t ≡ bare 403
a_403 Unnamed audience h rest not W L t = absurd (cc)
a_403 (Depositor w) audience h rest not W L t =
    ap (response_with W L (head_of h).method (target_of audience h.target) t) (turned h rest audience (Depositor w) not)
a_403 Unknown audience h rest not W L t =
    ap (response_with W L (head_of h).method (target_of audience h.target) t) (turned h rest audience Unknown not)

-- what another sent is 403, and is no command, handed in or tried out

module _ (h : RequestHead) (rest body : List ℕ) (audience : Audience) (asked : asked_with (head_of h) (target_of audience h.target) rest ≡ Ok body) where
  abbrev At : Target
  At = target_of audience h.target

  sent_away : (asker : Asker) → may_send asker (sender_in (interchange_with (head_of h).method At body)) ≡ false → asked_for asker (head_of h) At rest ≡ Err 403
  sent_away asker not = by (may_reach asker At) refl
    where
      by : (b : Bool) → may_reach asker At ≡ b → asked_for asker (head_of h) At rest ≡ Err 403
      by true e = reached asker (head_of h) At rest e (Ok body) asked ∙ rw not refl
      by false e = rw e refl

  pub foreign_command : (asker : Asker) → may_send asker (sender_in (interchange_with (head_of h).method At body)) ≡ false → command_for asker audience h rest ≡ None
  foreign_command Unnamed not = absurd (cc)
  foreign_command (Depositor w) not = ap (command_with (head_of h).method At) (sent_away (Depositor w) not)
  foreign_command Unknown not = absurd (cc)

  pub foreign_403 : (asker : Asker) → may_send asker (sender_in (interchange_with (head_of h).method At body)) ≡ false
      → (W : Who) (L : List Entry) (t : Moment) → answer_for asker audience W L h rest t ≡ bare 403
  foreign_403 Unnamed not W L t = absurd (cc)
  foreign_403 (Depositor w) not W L t = ap (response_with W L (head_of h).method At t) (sent_away (Depositor w) not)
  foreign_403 Unknown not W L t = absurd (cc)

-- a command has no other sender than the interchange that comes with its request
own_command : (asker : Asker) (m : Method) (to : Target) (body : List ℕ) → may_send asker (sender_in (interchange_with m to body)) ≡ true
    → may_send asker (sender_in (target_command m to body)) ≡ true
own_command asker m (ToRoute route) body e = e
own_command asker m (ToCall call) body e = ap (may_send asker) (call_unsent m call body) ∙ unnamed_may asker

-- what is handed in for its asker names it, if it names anybody
module _ (asker : Asker) (m : Method) (to : Target) (c : Command) where
  sent_whole : (body : List ℕ) (b : Bool) → may_send asker (sender_in (interchange_with m to body)) ≡ b
      → command_with m to (if b then Ok body else Err 403) ≡ Some c → may_send asker (sender_in (Some c)) ≡ true
  sent_whole body true e is = subst (λ (k : Option Command). may_send asker (sender_in k) ≡ true) is (own_command asker m to body e)
  sent_whole body false e is = absurd (cc)

  sent_by : (q : Result (List ℕ) ℕ) → command_with m to (sent_for asker m to q) ≡ Some c → may_send asker (sender_in (Some c)) ≡ true
  sent_by (Err status) is = absurd (cc)
  sent_by (Ok body) is = sent_whole body (may_send asker (sender_in (interchange_with m to body))) refl is

  sent_from : (h : RequestHead) (rest : List ℕ) (audience : Audience) (b : Bool) → to ≡ target_of audience h.target → m ≡ (head_of h).method → may_reach asker to ≡ b
      → command_with m to (if b then sent_for asker m to (asked_with (head_of h) to rest) else Err 403) ≡ Some c → may_send asker (sender_in (Some c)) ≡ true
  sent_from h rest audience true same by reach is = sent_by (asked_with (head_of h) to rest) is
  sent_from h rest audience false same by reach is = absurd (cc)

pub own_sender : (asker : Asker) (audience : Audience) (h : RequestHead) (rest : List ℕ) (c : Command) → command_for asker audience h rest ≡ Some c → may_send asker (sender_in (Some c)) ≡ true
own_sender Unnamed audience h rest c is = refl
own_sender (Depositor w) audience h rest c is =
    let to = target_of audience h.target in
    sent_from (Depositor w) (head_of h).method to c h rest audience (may_reach (Depositor w) to) refl refl refl is
own_sender Unknown audience h rest c is = refl
