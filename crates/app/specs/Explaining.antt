-- Whether a line of words asks that a refusal and a fault are explained.
use Rattle.std.specs.Prelude.{ℕ, Bool, List, [], ◌∷◌, if◌then◌else◌, Option, Some, None, option_map, codes, bytes_eq}
use Rattle.std.specs.Borrow.{Bor}

-- after this word all words are values
abbrev pub ends_options : Bor (List ℕ) → Bool
ends_options word = bytes_eq word.now (codes "--")

-- this word asks for it, unless it is a value
abbrev pub asks : Bor (List ℕ) → Bool
asks word = bytes_eq word.now (codes "--explain")

-- the words without the first that asks for it, if one does
abbrev pub without_asking : List (Bor (List ℕ)) → Option (List (Bor (List ℕ)))
without_asking [] = None
without_asking (word ∷ words) =
    if asks word then Some words
    else (if ends_options word then None
    else option_map (λ line. word ∷ line) (without_asking words))
