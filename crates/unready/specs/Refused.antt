-- What is refused, where something isn't made ready.
use Rattle.std.specs.Prelude.{⊤}
use Rattle.definitions.specs.declared.refusals.Refusal.{Refusal}
use Rattle.unready.specs.declared.Unready.{Unready}
use Rattle.unready.specs.declared.Unready.TheVariants.{Refused, OutOfMemory}

-- what is so of the refusal, where there is one
abbrev pub IfRefused : (Refusal → Type 0) → Unready → Type 0
IfRefused P (Refused refusal) = P refusal
IfRefused P OutOfMemory = ⊤
