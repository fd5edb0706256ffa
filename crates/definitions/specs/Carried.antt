-- A book of version 1 that is carried over to version 2: what becomes of its tables.
use Rattle.std.specs.Prelude.{[], ◌∷◌, map, if◌then◌else◌, codes, bytes_eq}
use Rattle.definitions.specs.declared.rules.Rules.TheVariants.{One, Two}
use Rattle.definitions.specs.Rules.{rules_number}
use Rattle.definitions.specs.Tables.{Number, TableRow}
use Rattle.definitions.specs.Schema.{Contents}

-- a row of `book` with version 2
abbrev pub with_version : TableRow → TableRow
with_version (Number version ∷ cells) = Number (rules_number Two) ∷ cells
with_version row = row

-- the row of `entry_rules` for a row of `entry`: rules 1
abbrev pub first_rules_row : TableRow → TableRow
first_rules_row (Number seq ∷ cells) = Number seq ∷ Number (rules_number One) ∷ []
first_rules_row row = row

-- The rows of the tables after it: no pair has an expiry, and all other tables stay as they are.
abbrev pub carried : Contents → Contents
carried rows name =
    if bytes_eq name (codes "book") then map with_version (rows name)
    else (if bytes_eq name (codes "entry_rules") then map first_rules_row (rows (codes "entry"))
    else (if bytes_eq name (codes "lot_expiry") then [] else rows name))
