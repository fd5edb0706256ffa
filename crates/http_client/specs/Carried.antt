-- Which requests a command makes of a server, and what it tells of the answers.
use Rattle.std.specs.Prelude.{◌≡◌, ◌⊎◌, ◌∷◌, ℕ, true, false, List, [], Option, Some, None, codes}
use Rattle.http_client.specs.declared.remote.answers.ServerAnswer.{ServerAnswer}
use Rattle.http_client.specs.declared.remote.requests.Verb.{Verb}
use Rattle.http_client.specs.declared.remote.requests.Verb.TheVariants.{Get, Post}
use Rattle.store.specs.Fault.TheVariants.{OutOfMemory}
use Rattle.commands.specs.Stops.{HasDeviceFault, fault_in}
use Rattle.commands.specs.declared.told.CommandError.{CommandError}
use Rattle.commands.specs.declared.told.ExitStatus.{ExitStatus}
use Rattle.command_line.specs.declared.words.Show.{Show}
use Rattle.command_line.specs.declared.words.Show.TheVariants as show
use Rattle.intake.specs.declared.audience.Audience.{Audience}
use Rattle.intake.specs.declared.audience.Audience.TheVariants.{Partners, Clerks}
use Rattle.http_client.specs.Heard.{IsAnswerHalted, IsAnswerTold, TellsNothing, heard, heard_query, printed_document, printed_report}
use Rattle.http_client.specs.Paths.{deed_path, look_path, path_text, tried_at}
use Rattle.http_client.specs.declared.answers.HeardAs.{HeardAs}
use Rattle.http_client.specs.declared.errand.Errand.{Errand}
use Rattle.http_client.specs.declared.errand.Errand.TheVariants as errand

-- the answer was told as that to a command, and as that to a query of what these are shown
abbrev pub TellsAsDocument : ServerAnswer → Option (List ℕ) → Option (List ℕ) → ExitStatus → Type 0
TellsAsDocument a before after status =
    IsAnswerTold (printed_document a.is_interchange a.body.items)
    (heard a.status a.is_interchange a.body.items) before after status

abbrev pub TellsAsReport : Audience → ServerAnswer → Option (List ℕ) → Option (List ℕ) → ExitStatus
    → Type 0
TellsAsReport shown a before after status =
    IsAnswerTold (printed_report a.status a.body.items)
    (heard_query shown a.status a.is_interchange a.body.items) before after status

-- how a courier, a request (its verb, path and body) and an answer belong together, and how a
-- courier and a request without one do
abbrev pub Brings : Type 0 → Type 1
Brings C = C → Verb → List ℕ → List ℕ → ServerAnswer → C → Type 0

abbrev pub Loses : Type 0 → Type 1
Loses C = C → Verb → List ℕ → List ℕ → C → Type 0

-- of a network nothing is said: any answer may come to any request, or none
abbrev pub brings_any : Brings (Unit {0})
brings_any old verb path body answer new = Unit {0}

abbrev pub loses_any : Loses (Unit {0})
loses_any old verb path body new = Unit {0}

-- an answer is heard so as that to a command, or to a query of what some are shown
abbrev pub IsHeardAs : ServerAnswer → HeardAs → Type 0
IsHeardAs a h =
    (heard a.status a.is_interchange a.body.items ≡ h)
    ⊎ ((shown : Audience) × (heard_query shown a.status a.is_interchange a.body.items ≡ h))

module _ {C : Type 0} (brings : Brings C) (loses : Loses C) (stop : CommandError) where
  -- What stopped a command that makes one request: no memory was left before it was made; or just
  -- this one was made, and it had no answer, or one that is heard as what stops a command so.
  abbrev pub IsHaltedAt : C → C → Verb → List ℕ → List ℕ → Type 0
  IsHaltedAt old new verb path body =
      ((new ≡ old) × (fault_in stop ≡ Some OutOfMemory))
      ⊎ ((loses old verb path body new × HasDeviceFault stop)
      ⊎ ((a : ServerAnswer) × (h : HeardAs) × brings old verb path body a new × IsHeardAs a h
      × IsAnswerHalted h stop))

  -- the same of one that makes another request, which says why, where what it asks for isn't there
  abbrev pub IsHaltedAfter : C → C → List ℕ → List ℕ → Type 0
  IsHaltedAfter old new path other =
      IsHaltedAt old new Get path []
      ⊎ ((a : ServerAnswer) × (mid : C) × (a.status ≡ 404) × brings old Get path [] a mid
      × IsHaltedAt mid new Get other [])

  abbrev pub IsShowHalted : C → C → Show → Type 0
  IsShowHalted old new (show.Outbox who (Some n)) =
      IsHaltedAfter old new (look_path (show.Outbox who (Some n)))
      (path_text (codes "outbox" ∷ who.now ∷ []))
  IsShowHalted old new (show.Stock who true) =
      IsHaltedAfter old new (look_path (show.Stock who true))
      (path_text (codes "stock" ∷ who.now ∷ []))
  IsShowHalted old new s = IsHaltedAt old new Get (look_path s) []

  -- what stopped a command, by what it asks of a server
  abbrev pub IsCarryHalted : C → C → Errand → Type 0
  IsCarryHalted old new (errand.Send bytes) = IsHaltedAt old new Post (codes "/x12") bytes.items
  IsCarryHalted old new (errand.Deed words sheet) =
      IsHaltedAt old new Post (deed_path words) sheet.items
  IsCarryHalted old new (errand.TrySend bytes) =
      IsHaltedAt old new Post (tried_at (codes "/x12")) bytes.items
  IsCarryHalted old new (errand.TryDeed words sheet) =
      IsHaltedAt old new Post (tried_at (deed_path words)) sheet.items
  IsCarryHalted old new (errand.Look s) = IsShowHalted old new s

-- at most one request was made, a question, whatever came of it
abbrev pub AsksAtMostOnce : {C : Type 0} → Brings C → Loses C → C → C → Type 0
AsksAtMostOnce brings loses old new =
    (new ≡ old)
    ⊎ ((path : List ℕ) × (((a : ServerAnswer) × brings old Get path [] a new)
    ⊎ loses old Get path [] new))

module _ {C : Type 0} (brings : Brings C) (old new : C) (before after : Option (List ℕ))
    (status : ExitStatus) where
  -- a body was posted, and the answer told
  abbrev pub IsPosted : List ℕ → List ℕ → Type 0
  IsPosted path body = (a : ServerAnswer) × brings old Post path body a new
      × TellsAsDocument a before after status

  -- what these are shown was asked for, and told
  abbrev pub IsReported : Audience → Show → Type 0
  IsReported shown s = (a : ServerAnswer) × brings old Get (look_path s) [] a new
      × TellsAsReport shown a before after status

  -- what was asked for is told; where it isn't there, another request was made, which says why
  abbrev pub IsAskedTwice : Show → List ℕ → (ServerAnswer → ServerAnswer → Type 0) → Type 0
  IsAskedTwice s other tells =
      (a b : ServerAnswer) × (mid : C) × (a.status ≡ 404) × brings old Get (look_path s) [] a mid
      × brings mid Get other [] b new × tells a b

  abbrev pub IsTextShown : Show → List ℕ → Type 0
  IsTextShown s who =
      ((a : ServerAnswer) × brings old Get (look_path s) [] a new × TellsAsDocument a before after
      status)
      ⊎ IsAskedTwice s (path_text (codes "outbox" ∷ who ∷ []))
      (λ a b. TellsAsReport Partners b before after status ⊎ TellsNothing before after status)

  abbrev pub IsExported : Show → List ℕ → Type 0
  IsExported s who =
      IsReported Partners s ⊎ IsAskedTwice s (path_text (codes "stock" ∷ who ∷ []))
      (λ a b. TellsAsReport Partners a before after status)

  abbrev pub IsShowDone : Show → Type 0
  IsShowDone (show.Outbox who (Some n)) = IsTextShown (show.Outbox who (Some n)) who.now
  IsShowDone (show.Outbox who None) = IsReported Partners (show.Outbox who None)
  IsShowDone (show.Stock who true) = IsExported (show.Stock who true) who.now
  IsShowDone (show.Stock who false) = IsReported Partners (show.Stock who false)
  IsShowDone s = IsReported Clerks s

  -- an interchange is posted to /x12, a clerk's sheet to the path of the act; what is tried, to
  -- that path below /try
  abbrev pub IsCarried : Errand → Type 0
  IsCarried (errand.Send bytes) = IsPosted (codes "/x12") bytes.items
  IsCarried (errand.Deed words sheet) = IsPosted (deed_path words) sheet.items
  IsCarried (errand.TrySend bytes) = IsPosted (tried_at (codes "/x12")) bytes.items
  IsCarried (errand.TryDeed words sheet) = IsPosted (tried_at (deed_path words)) sheet.items
  IsCarried (errand.Look s) = IsShowDone s

-- the same, where nothing is said of what carries requests
abbrev pub IsCarriedByAny : Option (List ℕ) → Option (List ℕ) → ExitStatus → Errand → Type 0
IsCarriedByAny before after status e = IsCarried brings_any tt tt before after status e

abbrev pub IsHaltedByAny : CommandError → Errand → Type 0
IsHaltedByAny stop e = IsCarryHalted brings_any loses_any stop tt tt e
