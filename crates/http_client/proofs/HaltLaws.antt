-- What stops a command at a server.
use Rattle.std.proofs.Common.{◌≡◌, ℕ, List, [], None, Result, Ok, Err, IfErr, IfOk, IsErrAnd, ap, inl, inr, refl, subst, sym}
use Rattle.commands.specs.Stops.{HasDeviceFault, IsDeviceStop, fault_in}
use Rattle.commands.specs.declared.told.CommandError.{CommandError}
use Rattle.commands.specs.declared.told.ExitStatus.{ExitStatus}
use Rattle.http_client.specs.declared.remote.answers.ServerAnswer.{ServerAnswer}
use Rattle.http_client.specs.declared.remote.requests.Verb.{Verb}
use Rattle.http_client.specs.declared.remote.requests.Verb.TheVariants.{Get}
use Rattle.http_client.specs.declared.answers.HeardAs.{HeardAs}
use Rattle.http_client.specs.declared.answers.HeardAs.TheVariants.{Done, Refused, Stopped}
use Rattle.http_client.specs.Carried.{AsksAtMostOnce, Brings, Loses, IsHeardAs, IsHaltedAt}
use Rattle.http_client.specs.Heard.{IsAnswerHalted, IsStatus, stop_of}

-- an answer that was brought, by what it is heard as
pub halted_by : {C : Type 0} (brings : Brings C) (loses : Loses C) (stop : CommandError) {old new : C} {verb : Verb} {path body : List ℕ} (a : ServerAnswer) (h : HeardAs)
    → brings old verb path body a new → IsHeardAs a h → IsAnswerHalted h stop → IsHaltedAt brings loses stop old new verb path body
halted_by brings loses stop {old} {new} {verb} {path} {body} a h brought heard halts = inr (inr (a, h, brought, heard, halts))

-- what answers that tell no fault are stopped by is the same
pub halted_alike : (stop : CommandError) (h k : HeardAs) → stop_of h ≡ None → stop_of k ≡ None → IsAnswerHalted h stop → IsAnswerHalted k stop
halted_alike stop h k none other halts = rw other (rw none at halts)

-- a question was asked once, whatever came of it
pub asked_once : {C : Type 0} (brings : Brings C) (loses : Loses C) (old new : C) (path : List ℕ) (result : Result ServerAnswer CommandError)
    → IfOk result (λ a. brings old Get path [] a new) → IfErr result (λ stop. loses old Get path [] new × HasDeviceFault stop) → AsksAtMostOnce brings loses old new
asked_once brings loses old new path (Ok a) brought lost = inr (path, inl (a, brought))
asked_once brings loses old new path (Err stop) brought lost = inr (path, inr lost.0)

-- what holds of an error holds of the one that is handed on
pub err_of : {T : Type 0} (P : CommandError → Type 0) (r : Result T CommandError) (e : CommandError) → IsErrAnd r (λ s. s ≡ e) → P e → IfErr r P
err_of P (Ok x) e h p = tt
err_of P (Err s) e h p = subst P (sym h) p

-- of what a status was told, no fault was heard
none_told : (h : HeardAs) (status : ExitStatus) → IsStatus h status → stop_of h ≡ None
none_told Done status is = refl
none_told (Refused r) status is = refl
none_told (Stopped f) status is = absurd is

has_fault : (stop : CommandError) → IsDeviceStop stop → HasDeviceFault stop
has_fault stop (inl is) = inl (ap fault_in is)
has_fault stop (inr is) = inr (ap fault_in is)

-- a device that stops a command after its answer was told
pub device_halts : (stop : CommandError) (h : HeardAs) (status : ExitStatus) → IsStatus h status → IsDeviceStop stop → IsAnswerHalted h stop
device_halts stop h status is device = rw (none_told h status is) (has_fault stop device)
