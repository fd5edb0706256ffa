-- Worked rows of names as they are told.
use Rattle.std.specs.Prelude.{◌≡◌, ◌++◌, ◌∷◌, [], ℕ, List, String, codes, string_bytes}
use Rattle.std.specs.Global.{Global}
use Rattle.std.proofs.Common.{ap, refl}
use Rattle.folders.specs.Folders.{WasAccepted}
use Rattle.folders.specs.Lines.{told_name, staying_line, taken_line}
use Rattle.folders.specs.declared.staying.WhyStays.TheVariants.{Link}

plain : told_name (codes "a.x12") ≡ codes "a.x12"
plain = refl

-- a line feed, so that the name forges no line
forged : taken_line (codes "a.x12 accepted" ++ 10 ∷ codes "b.x12") WasAccepted
    ≡ codes "a.x12 accepted\\x0ab.x12 accepted" ++ 10 ∷ []
forged = refl

-- the escape of a terminal's sequences, and 7F
escape : told_name (27 ∷ codes "[2J" ++ 127 ∷ codes ".x12") ≡ codes "\\x1b[2J\\x7f.x12"
escape = refl

-- `é`, C3 A9, stays
accent : told_name (codes "caf" ++ 195 ∷ 169 ∷ codes ".x12") ≡ codes "caf" ++ 195 ∷ 169 ∷ codes ".x12"
accent = refl

-- C2 85, a C1 control; C2 A0, which is none, stays
next_line : told_name (194 ∷ 133 ∷ 194 ∷ 160 ∷ codes ".x12") ≡ codes "\\xc2\\x85" ++ 194 ∷ 160 ∷ codes ".x12"
next_line = refl

-- E2 80 AE turns what follows round; E2 80 93, a dash, stays, as does E2 82 AC, the sign of a euro
turned : told_name (codes "a" ++ 226 ∷ 128 ∷ 174 ∷ codes "21x." ++ 226 ∷ 128 ∷ 147 ∷ 226 ∷ 130 ∷ 172 ∷ [])
    ≡ codes "a\\xe2\\x80\\xae21x." ++ 226 ∷ 128 ∷ 147 ∷ 226 ∷ 130 ∷ 172 ∷ []
turned = refl

-- D8 9C and E2 81 A9, at the end
ends : told_name (216 ∷ 156 ∷ 226 ∷ 129 ∷ 169 ∷ []) ≡ codes "\\xd8\\x9c\\xe2\\x81\\xa9"
ends = refl

-- an interchange that stays
stays : (name : String Global) → string_bytes name ≡ codes "a.x12"
    → staying_line (record { name = name; why = Link }) ≡ codes "a.x12 stays: it is a symbolic link" ++ 10 ∷ []
stays name is = ap (λ (bytes : List ℕ). (told_name bytes ++ codes " stays: " ++ codes "it is a symbolic link") ++ 10 ∷ []) is
