-- The head of an input.
use Rattle.std.specs.Prelude.{ℕ, ◌<◌, ◌≤◌, Bool, true, false, List, length}
use Rattle.httparse.specs.Grammar.{RequestHead, ReadsRequest, print_request}
use Rattle.head_fields.specs.Fields.{most_head, most_fields}
use Rattle.counted_io.specs.Inputs.{IsFront}
use Rattle.intake.specs.declared.reading.Content.{Content}
use Rattle.intake.specs.declared.reading.Content.TheVariants.{Whole, CutOff, NoMemory}

-- the input begins with that head, within the room, and then has rest
pub record HasRequestHead (input : List ℕ) (h : RequestHead) (rest : List ℕ) : Type 0 where
  pub reads : ReadsRequest input h rest
  pub size : length (print_request h) ≤ most_head
  pub fields : length h.fields ≤ most_fields

-- the input begins with no head within the room
abbrev pub HasNoHead : List ℕ → Type 0
HasNoHead input = (h : RequestHead) (rest : List ℕ) → ¬ (HasRequestHead input h rest)

-- the first bytes of the rest, or the end where there are too few
abbrev pub IsBody : Content → ℕ → List ℕ → Type 0
IsBody (Whole body) size rest = IsFront body.items size rest
IsBody CutOff size rest = length rest < size
IsBody NoMemory size rest = Unit {0}

-- the buffer is full of the first bytes, or there are too few
abbrev pub FillsBuffer : Bool → List ℕ → List ℕ → Type 0
FillsBuffer true buf bytes = IsFront buf (length buf) bytes
FillsBuffer false buf bytes = length bytes < length buf
