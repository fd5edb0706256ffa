-- For whom a request is asked, where a server stands behind one that says it.
use Rattle.std.specs.Prelude.{ℕ, Bool, true, List, [], ◌∷◌, Option, Some, None}
use Rattle.std.specs.Borrow.{Bor}
use Rattle.head_fields.specs.Fields.{values}
use Rattle.definitions.specs.Header.{Who, who_eq, who_of}
use Rattle.request_guard.specs.declared.askers.Asker.{Asker}
use Rattle.request_guard.specs.declared.askers.Asker.TheVariants.{Unnamed, Depositor, Unknown}

abbrev pub asker_by : Option Who → Asker
asker_by (Some w) = Depositor w
asker_by None = Unknown

-- by the values of a field: it is there once, and names a depositor
abbrev pub asker_in : List (List ℕ) → Asker
asker_in (text ∷ []) = asker_by (who_of text)
asker_in texts = Unknown

-- by the fields of a head, where one is named that is to say it
abbrev pub asker_of : Option (Bor (List ℕ)) → List (List ℕ × List ℕ) → Asker
asker_of None fields = Unnamed
asker_of (Some name) fields = asker_in (values name.now fields)

-- an interchange of this sender may be handed in; one that names none is refused for that
abbrev pub may_send : Asker → Option Who → Bool
may_send (Depositor w) (Some sender) = who_eq w sender
may_send asker sender = true
