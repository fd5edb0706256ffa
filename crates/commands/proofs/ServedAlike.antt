-- What is served is the same wherever the names of a server lie.
use Rattle.std.proofs.Common.{◌≡◌, ◌⊎◌, ◌∙◌, ◌&&◌, ℕ, Bool, List, Option, None, Some, Result, OnErr, refl, sym, ap, ap₂, subst, inl, inr, map, codes, bytes_eq}
use Rattle.std.specs.Prelude.{MatchOption, flat_map}
use Rattle.std.specs.Borrow.{Bor}
use Rattle.std.proofs.lemmas.Result.{IfOk-weaker, on_err_weaker}
use Rattle.httparse.specs.Grammar.{RequestHead}
use Rattle.httparse.specs.Spans.{name_and_value}
use Rattle.definitions.specs.Moments.{Moment}
use Rattle.definitions.specs.Header.{Who}
use Rattle.definitions.specs.Register.{Command, Entry}
use Rattle.definitions.specs.Response.{Response}
use Rattle.store.specs.Standing.{Standing, IsUnchanged}
use Rattle.request_guard.specs.Askers.{asker_of}
use Rattle.request_guard.specs.Doors.{barred_of, names_in}
use Rattle.peers.specs.declared.entrances.Door.{Door}
use Rattle.peers.specs.declared.entrances.Door.TheVariants.{First, Second}
use Rattle.peers.specs.declared.listener.PeerAddress.{PeerAddress}
use Rattle.intake.specs.Admitting.{Admission, TurnedAway, ForHealth, LetIn, access_beside, access_by, admission_by, admission_of, answer_by, answer_for, answer_of, answer_past, asks_by, asks_for, asks_past, barred_at, command_by, command_for, command_in, command_past, is_health, is_health_by}
use Rattle.intake.specs.Asking.{IsShutAnswer, asks_in}
use Rattle.intake.specs.Connections.{IsConnection, IsNotAccepted, IsServed, IsServedOn}
use Rattle.intake.specs.Lines.{TellsSender}
use Rattle.intake.specs.Serving.{IsAnswered, IsExchange, IsResponseWritten, IsUnwritten}
use Rattle.intake.specs.declared.audience.Access.{Access}
use Rattle.intake.specs.declared.audience.Audience.{Audience}
use Rattle.intake.specs.declared.audience.Audience.TheVariants.{Partners, Testers, Clerks}
use Rattle.intake.specs.declared.served.Connection.{Connection}
use Rattle.intake.specs.declared.served.RequestLine.{RequestLine}
use Rattle.command_line.specs.declared.words.Service.{Service}
use Rattle.commands.specs.Serving as serving

-- both turn the same requests away, and are the same else
record IsAlike (a b : Access) : Type 0 where
  audience : a.audience ≡ b.audience
  from : a.from ≡ b.from
  tells : a.tells_health ≡ b.tells_health
  barred : (h : RequestHead) → barred_at a.doors h ≡ barred_at b.doors h

module _ (a b : Access) (alike : IsAlike a b) where
  admitted : (h : RequestHead) → admission_of a h ≡ admission_of b h
  admitted h = ap₂ admission_by (alike.barred h) (ap (λ (t : Bool). t && bytes_eq h.target (codes "/health")) alike.tells)

  command_after : (m : Admission) (h : RequestHead) (rest : List ℕ) → command_past m a h rest ≡ command_past m b h rest
  command_after LetIn h rest =
      ap₂ (λ (f : Option (Bor (List ℕ))) (u : Audience). command_for (asker_of f (map name_and_value h.fields)) u h rest) alike.from alike.audience
  command_after ForHealth h rest = refl
  command_after (TurnedAway why) h rest = refl

  command : (head : Option RequestHead) (rest : List ℕ) → command_by a head rest ≡ command_by b head rest
  command None rest = ap (λ (u : Audience). command_in u None rest) alike.audience
  command (Some h) rest = ap (λ (m : Admission). command_past m a h rest) (admitted h) ∙ command_after (admission_of b h) h rest

  answer_after : (m : Admission) (W : Who) (L : List Entry) (h : RequestHead) (rest : List ℕ) (t : Moment)
      → answer_past m a W L h rest t ≡ answer_past m b W L h rest t
  answer_after LetIn W L h rest t =
      ap₂ (λ (f : Option (Bor (List ℕ))) (u : Audience). answer_for (asker_of f (map name_and_value h.fields)) u W L h rest t) alike.from alike.audience
  answer_after ForHealth W L h rest t = refl
  answer_after (TurnedAway why) W L h rest t = refl

  answer : (W : Who) (head : Option RequestHead) (rest : List ℕ) (t : Moment) (L : List Entry) → answer_by a W L head rest t ≡ answer_by b W L head rest t
  answer W None rest t L = ap (λ (u : Audience). answer_of u W L None rest t) alike.audience
  answer W (Some h) rest t L = ap (λ (m : Admission). answer_past m a W L h rest t) (admitted h) ∙ answer_after (admission_of b h) W L h rest t

  asks_after : (m : Admission) (h : RequestHead) (rest : List ℕ) → asks_past m a h rest ≡ asks_past m b h rest
  asks_after LetIn h rest =
      ap₂ (λ (f : Option (Bor (List ℕ))) (u : Audience). asks_for (asker_of f (map name_and_value h.fields)) u h rest) alike.from alike.audience
  asks_after ForHealth h rest = refl
  asks_after (TurnedAway why) h rest = refl

  asks : (head : Option RequestHead) (rest : List ℕ) → asks_by a head rest ≡ asks_by b head rest
  asks None rest = ap (λ (u : Audience). asks_in u None rest) alike.audience
  asks (Some h) rest = ap (λ (m : Admission). asks_past m a h rest) (admitted h) ∙ asks_after (admission_of b h) h rest

  health : (head : Option RequestHead) → is_health_by a head ≡ is_health_by b head
  health None = refl
  health (Some h) = ap is_health (admitted h)

  exchanged : (old new : Standing) (known : Option (List ℕ)) (t : Moment) (r : Response) (line : Option RequestLine) (sender : Option Who) (is_well : Bool)
      → IsExchange a old new known t r line sender is_well → IsExchange b old new known t r line sender is_well
  exchanged old new known t r line sender is_well x = record {
    input = x.input;
    is_input = x.is_input;
    head = x.head;
    rest = x.rest;
    begins = x.begins;
    told = x.told;
    sent = subst (λ (c : Option Command). TellsSender sender c r) (command x.head x.rest) x.sent;
    answered = subst (λ (p : Option Command × (List Entry → Response)). IsAnswered old new t p.0 p.1 r)
        (λ i. (command x.head x.rest i, λ L. answer old.warehouse x.head x.rest t L i)) x.answered;
    shut = subst (λ (q : Bool). IsShutAnswer old q r) (asks x.head x.rest) x.shut;
    health = x.health ∙ health x.head;
  }

  served_on : (old new : Standing) (c : Connection) → IsServedOn a old new c → IsServedOn b old new c
  served_on old new c s = record {
    known = s.known;
    before = s.before;
    later = s.later;
    reads = s.reads;
    writes = s.writes;
    written = IfOk-weaker c.served.outcome _ _ (λ status w. record {
      response = w.response;
      exchange = exchanged old new s.known c.moment w.response c.served.line c.served.sender c.served.is_health w.exchange;
      status_of = w.status_of;
      whole = w.whole;
      counted = w.counted;
    }) s.written;
    stopped = on_err_weaker c.served.outcome (λ stop. elim stop [
      | inl unread ↦ inl unread
      | inr w ↦ inr (record {
        response = w.response;
        exchange = exchanged old new s.known c.moment w.response c.served.line c.served.sender c.served.is_health w.exchange;
        beginning = w.beginning;
        grew = w.grew;
      })
    ]) s.stopped;
  }

  became : (old new : Standing) (c : Connection) (peer : Option PeerAddress)
      → MatchOption peer (IsUnchanged old new × IsNotAccepted c) (λ _. IsServedOn a old new c)
      → MatchOption peer (IsUnchanged old new × IsNotAccepted c) (λ _. IsServedOn b old new c)
  became old new c None is = is
  became old new c (Some peer) is = served_on old new c is

  beside : (u : Audience) → IsAlike (access_beside u a) (access_beside u b)
  beside Partners = alike
  beside Testers = record { audience = refl; from = refl; tells = alike.tells; barred = alike.barred }
  beside Clerks = record { audience = refl; from = refl; tells = alike.tells; barred = alike.barred }

  by_door : (door : Door) → IsAlike (access_by a door) (access_by b door)
  by_door First = alike
  by_door Second = subst (λ (u : Audience). IsAlike (access_beside a.audience a) (access_beside u b)) alike.audience (beside a.audience)

served : (a b : Access) → IsAlike a b → (old new : Standing) (c : Connection) → IsServed a old new c → IsServed b old new c
served a b alike old new c s = record {
  serves = s.serves;
  goes = s.goes;
  became = became (access_by a c.door) (access_by b c.door) (by_door a b alike c.door) old new c c.peer s.became;
}

-- the names lie there, or where the definition has them
alike_by : (service : Service) (names : Bor (List (Bor (List ℕ)))) → names.now ≡ service.hosts → IsAlike (serving.access_by names service) (serving.access_of service)
alike_by service names same = record {
  audience = refl;
  from = refl;
  tells = refl;
  barred = λ h. ap (λ (hosts : List (Bor (List ℕ))). barred_of (flat_map (λ text. names_in text.now) hosts) h.method (map name_and_value h.fields)) same;
}

-- those are served whom the service answers
pub served_alike : (service : Service) (access : Access) → serving.IsAccessOf service access
    → (old new : Standing) (c : Connection) → IsServed access old new c → IsServed (serving.access_of service) old new c
served_alike service access is = served access (serving.access_of service)
    (subst (λ (a : Access). IsAlike a (serving.access_of service)) (sym is.2) (alike_by service is.0 is.1))
