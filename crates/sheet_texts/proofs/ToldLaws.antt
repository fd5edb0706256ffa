-- An item and a lot that can be read are text.
use Rattle.std.proofs.Common.{◌≡◌, ℕ, ◌<◌, true, List, [], ◌∷◌, ◌++◌, Result, Ok, Err, IsUtf8, codes, arith, append_assoc, append-nil, Bor}
use Rattle.std.specs.Prelude.{MatchResult}
use Rattle.std.specs.Result.{result_unwrap_or}
use Rattle.std.specs.List.{list_all}
use Rattle.std.proofs.lemmas.Bool.Decides.{nat_tests}
use Rattle.std.proofs.lemmas.Str.{IsUtf8-from_ascii}
use Rattle.std.proofs.lemmas.Str.Ascii.{IsAscii-from_all}
use Rattle.std.proofs.lemmas.List.Elements.{All-nil, All-cons}
use Rattle.std.specs.List.{All}
use Rattle.definitions.specs.Bytes.{is_identifier, is_identifier_byte}
use Rattle.definitions.specs.Limits.{most_item, most_lot}
use Rattle.definitions.proofs.TextLaws.{both_parts}
use Rattle.sheet_texts.specs.Texts.{field_of}
use Rattle.sheet_texts.specs.Reasons.{told}

ident_byte : (b : ℕ) → is_identifier_byte b ≡ true → b < 128
ident_byte b h = grind (arith, nat_tests)

ident_bytes : (bs : List ℕ) → list_all is_identifier_byte bs ≡ true → All (λ b. b < 128) bs
ident_bytes [] h = All-nil (λ b. b < 128)
ident_bytes (b ∷ bs) h =
    let p = both_parts (is_identifier_byte b) (list_all is_identifier_byte bs) h in
    All-cons (λ b. b < 128) b bs (ident_byte b p.0) (ident_bytes bs p.1)

pub ident_text : (bs : List ℕ) → list_all is_identifier_byte bs ≡ true → IsUtf8 bs
ident_text bs h = IsUtf8-from_ascii bs (IsAscii-from_all bs (ident_bytes bs h))

-- what can be read as text is read
pub read_text : {E : Type 0} (bytes : List ℕ) (Fails : E → Type 0) (read : Result (Bor (List ℕ)) E) (otherwise : Bor (List ℕ)) → IsUtf8 bytes
    → MatchResult read (λ text. (text.now ≡ bytes) × IsUtf8 bytes) (λ e. ¬ (IsUtf8 bytes) × Fails e) → (result_unwrap_or read otherwise).now ≡ bytes
read_text bytes Fails (Ok text) otherwise utf8 h = h.0
read_text bytes Fails (Err e) otherwise utf8 h = absurd (h.0 utf8)

-- a reason after its pair, put together
pub told_with : (fields : List (List ℕ)) (why item lot : List ℕ) → is_identifier 1 most_item (field_of fields 0) ≡ true → is_identifier 1 most_lot (field_of fields 1) ≡ true
    → item ≡ field_of fields 0 → lot ≡ field_of fields 1 → item ++ (codes " " ++ (lot ++ (codes ": " ++ (why ++ [])))) ≡ told fields why
told_with fields why item lot f g h k = rw (f, g) (rw (h, k) (simp (append_assoc, append-nil)))
