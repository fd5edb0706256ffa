use Rattle.std.proofs.Common.{rules, ◌≡◌, length, sym, subst, List, MatchOption}
use Rattle.definitions.specs.declared.rules.Rules.{Rules}
use Rattle.definitions.specs.Header.{Who}
use Rattle.sqlite.specs.Order.{Row}
use Rattle.book_statements.specs.Recorded.{IsHouse}
use Rattle.book_tables.proofs.ReadLemmas.{one_row}
use Rattle.book_tables.proofs.reading.house_of.Goals as goal

pub returns-in-len1 : goal.returns-in-len1
returns-in-len1 c =
    let one : length c.args.rows.now ≡ 1 = search rules in
    subst (λ (rows : List Row). MatchOption c.house_in.result ((q : Rules) (W : Who) → IsHouse q rows W → ⊥) (λ h. IsHouse h.0 rows h.1)) (sym (one_row c.args.rows.now c.row-item.result one c.row-item.is)) c.house_in.ensures
