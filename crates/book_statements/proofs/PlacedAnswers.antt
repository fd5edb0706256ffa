-- An answer that is read from one tree is what another tree with the same rows gives.
use Rattle.std.proofs.Common.{◌≡◌, ℕ, List, [], ◌∷◌, subst}
use Rattle.sqlite.specs.declared.types.Value.{Value}
use Rattle.sqlite.specs.Order.{Row}
use Rattle.sqlite.specs.Query.{Query, inner, end, IsAnswerAs}
use Rattle.sqlite_sql.specs.Query.{matches_as}
use Rattle.sqlite_sql.specs.Group.{IsGrouped}
use Rattle.sqlite.specs.Tree.{Trees}

-- the query over the rows of this tree
abbrev pub from_tree : ℕ → Query → Query
from_tree tree q = record q { from = inner tree end }

pub answer_moved : (q : Query) (m n : ℕ) (db its : Trees) → db m ≡ its n → (lost : Value) (params : Row) (rows : List Row) → IsAnswerAs lost (from_tree m q) db params rows → IsAnswerAs lost (from_tree n q) its params rows
answer_moved q m n db its same lost params rows a = record {
  staged = a.staged;
  grouped = subst (λ (src : List Row). IsGrouped q.group params (matches_as lost (λ _. src) q.filter (inner m end) (params ∷ [])) a.staged) same a.grouped;
  kept = a.kept;
  distinct = a.distinct;
  ordered = a.ordered;
  same = a.same;
  sorted = a.sorted;
  shown = a.shown;
}
