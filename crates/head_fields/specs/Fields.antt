-- The fields of a head, as names with values (RFC 9110, section 5), and the room for a head.
use Rattle.std.specs.Prelude.{◌≡◌, ℕ, Bool, false, ◌||◌, List, [], ◌∷◌, map, if◌then◌else◌, bytes_eq}
use Rattle.std.specs.Char.{to_ascii_lowercase}
use Rattle.head_fields.specs.declared.limits.TheConstants.{MOST_HEAD, MOST_FIELDS}
use Rattle.head_fields.specs.declared.values.Values.{Values}
use Rattle.head_fields.specs.declared.values.Values.TheVariants.{Absent, Single, Several}

-- the room for a head: bytes, and fields
abbrev pub most_head : ℕ
most_head = MOST_HEAD

abbrev pub most_fields : ℕ
most_fields = MOST_FIELDS

-- whether the field has this name, in letters of either case
abbrev pub is_named : List ℕ → List ℕ × List ℕ → Bool
is_named name field = bytes_eq (map to_ascii_lowercase field.0) (map to_ascii_lowercase name)

-- whether there is a field of this name
abbrev pub has_field : List ℕ → List (List ℕ × List ℕ) → Bool
has_field name [] = false
has_field name (field ∷ fields) = is_named name field || has_field name fields

-- the values of the fields of this name
abbrev pub values : List ℕ → List (List ℕ × List ℕ) → List (List ℕ)
values name [] = []
values name (field ∷ fields) =
    if is_named name field then field.1 ∷ values name fields else values name fields

-- these are the values
abbrev pub IsValues : Values → List (List ℕ) → Type 0
IsValues Absent texts = texts ≡ []
IsValues (Single text) texts = texts ≡ text.now ∷ []
IsValues Several texts = (first : List ℕ) × (second : List ℕ) × (more : List (List ℕ))
    × (texts ≡ first ∷ second ∷ more)
