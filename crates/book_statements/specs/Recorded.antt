-- What the rows that queries answer stand for.
use Rattle.std.specs.Prelude.{◌≡◌, ◌<◌, ◌^◌, ℕ, zero, suc, pos, true, List, [], ◌∷◌, Option, None, codes, slice_get}
use Rattle.sqlite.specs.Order.{Row, column}
use Rattle.sqlite.specs.declared.types.Value.TheVariants.{Int, Text, Blob}
use Rattle.definitions.specs.declared.rules.Rules.{Rules}
use Rattle.definitions.specs.Rules.{rules_number}
use Rattle.definitions.specs.Header.{Who, is_partner, who_text}
use Rattle.definitions.specs.Moments.{is_moment, stamp}
use Rattle.rules.specs.Written.{Written}

-- an entry as its row shows it: who, mark, n, moment and body
abbrev pub numbered_shown : Written → Row
numbered_shown w = Text (who_text w.who) ∷ Text w.key ∷ Int (pos w.n) ∷ Text (stamp w.moment)
    ∷ Blob w.body ∷ []

-- the text that asks for it under a number
abbrev pub numbered_text : List ℕ
numbered_text = codes "SELECT who, mark, n, moment, body FROM entry WHERE seq = ?1"

-- its rules as their row shows them, and the text that asks for them under a number
abbrev pub rules_shown : Written → Row
rules_shown w = Int (pos (rules_number w.rules)) ∷ []

abbrev pub rules_text : List ℕ
rules_text = codes "SELECT rules FROM entry_rules WHERE seq = ?1"

-- the entry under a number, of those that are written down from 1 on
abbrev pub written_at : List Written → ℕ → Option Written
written_at ws zero = None
written_at ws (suc i) = slice_get ws i

-- an entry of the depositor that can be read back
pub record IsRecorded (who : Who) (w : Written) : Type 0 where
  pub whose : w.who ≡ who
  pub few : w.n < 2 ^ 32
  pub good : is_moment w.moment ≡ true

-- the rows of `book` name the version and the warehouse: there is one, with the version's number
-- and a partner
pub record IsHouse (q : Rules) (rows : List Row) (W : Who) : Type 0 where
  pub row : Row
  pub one : rows ≡ row ∷ []
  pub version : column row 0 ≡ Int (pos (rules_number q))
  pub qualifier : column row 1 ≡ Text W.qualifier
  pub id : column row 2 ≡ Text W.id
  pub partner : is_partner W ≡ true

-- an entry of some depositor that can be read back
pub record IsOfPartner (w : Written) : Type 0 where
  pub partner : is_partner w.who ≡ true
  pub recorded : IsRecorded w.who w
