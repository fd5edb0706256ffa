-- Rows of segments as the program finds them: by an id, and whether a W04 or a W01 stands directly
-- before.
use Rattle.std.specs.Prelude.{ℕ, Bool, true, false, List, [], ◌∷◌, codes, bytes_eq}
use Rattle.definitions.specs.Bytes.{is_one_of}
use Rattle.tables.specs.declared.rows.After.{After}
use Rattle.tables.specs.declared.rows.After.TheVariants.{Advised, Ordered, Else}

abbrev pub is_goods : List ℕ → Bool
is_goods id = is_one_of (codes "W04" ∷ codes "W01" ∷ []) id

abbrev pub after_goods : After → Bool
after_goods Advised = true
after_goods Ordered = true
after_goods Else = false

abbrev pub is_advised : List ℕ → Bool
is_advised id = bytes_eq id (codes "W04")

abbrev pub after_advised : After → Bool
after_advised Advised = true
after_advised Ordered = false
after_advised Else = false
