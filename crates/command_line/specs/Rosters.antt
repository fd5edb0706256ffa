-- Lists of depositors: TOML texts with the key `depositors`.
use Rattle.std.specs.Prelude.{◌≡◌, ℕ, List, [], ◌∷◌, Option, Some, None, codes, option_and_then, IsUtf8}
use Rattle.toml.specs.Data.{Data, Items, string, array, no_items, item, get_member}
use Rattle.toml.specs.Parse.{parse_document}
use Rattle.definitions.specs.Header.{Who, who_of}

-- the partner that a value names
abbrev pub partner_in : Data → Option Who
partner_in (string text) = who_of text
partner_in d = None

abbrev pub led_by : Option Who → Option (List Who) → Option (List Who)
led_by (Some w) (Some ws) = Some (w ∷ ws)
led_by w ws = None

-- the partners that the values name, where each names one
abbrev pub partners_in : Items → Option (List Who)
partners_in no_items = Some []
partners_in (item d ds) = led_by (partner_in d) (partners_in ds)

abbrev pub listed : Option Data → Option (List Who)
listed (Some (array ds)) = partners_in ds
listed d = None

-- the depositors that a text lists, if it is such a list
abbrev pub depositors_of : List ℕ → Option (List Who)
depositors_of text =
    option_and_then (λ ms. listed (get_member (codes "depositors") ms)) (parse_document text)

-- what was read of a text; what is no UTF-8 lists nobody
abbrev pub IsRosterRead : List ℕ → Option (List Who) → Type 0
IsRosterRead text (Some ws) = IsUtf8 text × (depositors_of text ≡ Some ws)
IsRosterRead text None = IsUtf8 text → depositors_of text ≡ None
