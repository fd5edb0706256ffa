-- What is open under a number, of events and of a page, and a text of it.
use Rattle.std.specs.Prelude.{ℕ, List, if◌then◌else◌, Option, Some, None, Result, Ok, Err}
use Rattle.definitions.specs.Means.{Advice}
use Rattle.definitions.specs.Events.{Event, Reserved, advice_under, order_under, is_advice_open, is_order_open}
use Rattle.definitions.specs.Page.{PageAdvice, PageOrder}
use Rattle.definitions.specs.declared.refusals.Refusal.{Refusal}
use Rattle.definitions.specs.declared.refusals.Refusal.TheVariants.{UnknownAdvice, AdviceClosed, UnknownOrder, OrderClosed}

-- a text of what was found, or why nothing was
abbrev pub told : {X : Type 0} → (X → List ℕ) → Result X Refusal → Result (List ℕ) Refusal
told text (Ok x) = Ok (text x)
told text (Err refusal) = Err refusal

-- Of events.

-- the advice under a shipment number: 22 where there is none, and 23 where it was counted
abbrev pub open_advice : List Event → List ℕ → Result Advice Refusal
open_advice es shipment = of_advice (advice_under shipment es)
  where
    of_advice : Option Advice → Result Advice Refusal
    of_advice None = Err UnknownAdvice
    of_advice (Some a) = if is_advice_open shipment es then Ok a else Err AdviceClosed

-- the order under its number: 24 where there is none, and 25 where it was picked
abbrev pub open_order : List Event → List ℕ → Result Reserved Refusal
open_order es number = of_order (order_under number es)
  where
    of_order : Option Reserved → Result Reserved Refusal
    of_order None = Err UnknownOrder
    of_order (Some r) = if is_order_open number es then Ok r else Err OrderClosed

-- Of what a page has under a number.

abbrev pub advice_opened : Option PageAdvice → Result PageAdvice Refusal
advice_opened None = Err UnknownAdvice
advice_opened (Some k) = if k.is_open then Ok k else Err AdviceClosed

abbrev pub order_opened : Option PageOrder → Result PageOrder Refusal
order_opened None = Err UnknownOrder
order_opened (Some k) = if k.is_open then Ok k else Err OrderClosed
