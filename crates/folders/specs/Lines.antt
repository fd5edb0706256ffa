-- The lines that tell what became of a file, and what was passed over.
use Rattle.std.specs.Prelude.{◌≡◌, ⊤, ℕ, ◌+◌, ◌-◌, ◌/◌, ◌%◌, ◌==◌, nat_lt, Bool, ◌&&◌, ◌||◌, if◌then◌else◌, List, [], ◌∷◌, ◌++◌, get_or, codes, decimal, Option, None, Some, String, string_bytes}
use Rattle.std.specs.Global.{Global}
use Rattle.definitions.specs.declared.widths.TheConstants.{NOTE_DIGITS}
use Rattle.definitions.specs.Bytes.{is_between, zero_filled}
use Rattle.definitions.specs.Refusals.{refusal_number}
use Rattle.definitions.specs.declared.refusals.Refusal.{Refusal}
use Rattle.definitions.specs.declared.refusals.Refusal.TheVariants.{Unreadable, Note, Duplicate}
use Rattle.definitions.specs.Reports.{ended}
use Rattle.folders.specs.Claims.{reason_text as stays_text}
use Rattle.folders.specs.Folders.{Became, WasAccepted, WasStored, WasRefused}
use Rattle.folders.specs.Passing.{reason_text}
use Rattle.folders.specs.declared.passing.PassedOver.{PassedOver}
use Rattle.folders.specs.declared.staying.Staying.{Staying}

-- a note's code in three digits, that of a repeated control number for a duplicate, and another
-- refusal's number
abbrev pub refused_as : Refusal → List ℕ
refused_as (Note code) = zero_filled NOTE_DIGITS code
refused_as Duplicate = codes "025"
refused_as refusal = decimal (refusal_number refusal)

abbrev pub refused_text : Refusal → List ℕ
refused_text Unreadable = codes "unreadable"
refused_text refusal = codes "refused " ++ refused_as refusal

abbrev pub became_text : Became → List ℕ
became_text WasAccepted = codes "accepted"
became_text WasStored = codes "stored"
became_text (WasRefused refusal) = refused_text refusal

-- a hex digit, in lower case
abbrev pub hex_digit : ℕ → ℕ
hex_digit n = if nat_lt n 10 then 48 + n else 87 + n

-- a byte by its number, as `\x0a`
abbrev pub numbered : ℕ → List ℕ
numbered b = codes "\\x" ++ hex_digit (b / 16) ∷ hex_digit (b % 16) ∷ []

-- a control in one byte: one below 20 (hexadecimal), as a line feed, and 7F
abbrev pub is_control : ℕ → Bool
is_control a = is_between 0 31 a || a == 127

-- a control in two bytes, U+0080 to U+009F, or the mark U+061C, which changes the direction of text
abbrev pub is_control_of_two : ℕ → ℕ → Bool
is_control_of_two a b = (a == 194 && is_between 128 159 b) || (a == 216 && b == 156)

-- a mark in three bytes that changes the direction of text: U+200E, U+200F, U+202A to U+202E, and
-- U+2066 to U+2069
abbrev pub is_control_of_three : ℕ → ℕ → ℕ → Bool
is_control_of_three a b c = a == 226
    && ((b == 128 && (is_between 142 143 c || is_between 170 174 c))
    || (b == 129 && is_between 166 169 c))

-- how many bytes the control or the mark has that begins with these three bytes; 0 where none does
abbrev pub control_length : ℕ → ℕ → ℕ → ℕ
control_length a b c =
    if is_control a then 1
    else if is_control_of_two a b then 2
    else if is_control_of_three a b c then 3 else 0

-- a byte as it stands, or by its number
abbrev pub told_byte : Bool → ℕ → List ℕ
told_byte is_numbered b = if is_numbered then numbered b else b ∷ []

-- how many bytes of a control or a mark begin with this byte, before these others: so many as are
-- left of one that began before it, and else the bytes of one that begins with it
abbrev pub control_left : ℕ → ℕ → List ℕ → ℕ
control_left left b bs =
    if left == 0 then control_length b (get_or bs 0 0) (get_or bs 1 0) else left

-- what is told of the rest of a name, of which so many bytes are left of a control or a mark
abbrev pub told_rest : ℕ → List ℕ → List ℕ
told_rest left [] = []
told_rest left (b ∷ bs) = told_byte (nat_lt 0 (control_left left b bs)) b
    ++ told_rest (control_left left b bs - 1) bs

-- A name as it is told, on a line of its own that no name can end: each byte of a control or of a
-- mark that changes the direction of text by its number, and all others as they stand.
abbrev pub told_name : List ℕ → List ℕ
told_name = told_rest 0

-- no control and no mark that changes the direction of text begins anywhere in a name
abbrev pub IsPlain : List ℕ → Type 0
IsPlain [] = ⊤
IsPlain (b ∷ bs) = (control_length b (get_or bs 0 0) (get_or bs 1 0) ≡ 0) × IsPlain bs

-- the file's name, a space and what became of it
abbrev pub taken_line : List ℕ → Became → List ℕ
taken_line name told = ended (told_name name ++ codes " " ++ became_text told)

-- the name of an entry that was passed over, as it is told
abbrev pub told_entry : Option (String Global) → List ℕ
told_entry None = codes "an entry"
told_entry (Some name) = told_name (string_bytes name)

-- what tells an entry that was passed over, and why
abbrev pub passed_line : PassedOver → List ℕ
passed_line entry =
    ended (told_entry entry.name ++ codes " passed over: " ++ reason_text entry.why)

-- what tells an interchange that stays, and why
abbrev pub staying_line : Staying → List ℕ
staying_line entry =
    ended (told_name (string_bytes entry.name) ++ codes " stays: " ++ stays_text entry.why)
