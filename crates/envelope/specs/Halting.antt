-- The two notes that this crate tells decide the end of the Halt definition's conditions.
use Rattle.std.specs.Prelude.{◌≡◌, ℕ, Bool, true, false, List, [], ◌∷◌, ◌++◌, map, refl, if◌then◌else◌, Option, Some, None, option_map}
use Rattle.std.proofs.Common.{ap, ◌∙◌}
use Rattle.definitions.specs.Lists.{first_of, or_else}
use Rattle.definitions.specs.Header.{Who}
use Rattle.definitions.specs.declared.refusals.Refusal.TheVariants.{Note}
use Rattle.definitions.specs.Halt.{Halt, Refuses, header_notes, structure_notes, structure_note}
use Rattle.envelope.specs.Conditions.{first_note}

-- the outcome of a note
abbrev pub noted : ℕ → Halt
noted code = Refuses (Note code)

first_noted : (ps : List (Bool × ℕ))
    → first_of None (map (λ p. (p.0, Some (noted p.1))) ps) ≡ option_map noted (first_note ps)
first_noted [] = refl
first_noted (p ∷ ps) =
    by_test p.0 (first_note ps) (first_of None (map (λ p. (p.0, Some (noted p.1))) ps))
    (first_noted ps)
  where
    by_test : (b : Bool) (o : Option ℕ) (h : Option Halt) → h ≡ option_map noted o
        → (if b then Some (noted p.1) else h) ≡ option_map noted (if b then Some p.1 else o)
    by_test true o h e = refl
    by_test false o h e = e

pub first_appended : (ps qs : List (Bool × ℕ))
    → first_note (ps ++ qs) ≡ or_else (first_note ps) (first_note qs)
first_appended [] qs = refl
first_appended (p ∷ ps) qs =
    by_test p.0 (first_note (ps ++ qs)) (first_note ps) (first_appended ps qs)
  where
    by_test : (b : Bool) (whole front : Option ℕ) → whole ≡ or_else front (first_note qs)
        → (if b then Some p.1 else whole) ≡ or_else (if b then Some p.1 else front) (first_note qs)
    by_test true whole front e = refl
    by_test false whole front e = e

-- the note of the header's conditions, else that of the conditions on the segments
pub notes_decide : (W : Who) (text : List ℕ)
    → first_of None (map (λ p. (p.0, Some (Refuses (Note p.1)))) (header_notes W text
    ++ structure_notes text))
    ≡ option_map noted (or_else (first_note (header_notes W text)) (structure_note text))
notes_decide W text = first_noted (header_notes W text ++ structure_notes text)
    ∙ ap (option_map noted) (first_appended (header_notes W text) (structure_notes text))
