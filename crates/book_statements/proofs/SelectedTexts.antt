-- What the parser reads of the five texts that choose rows.
use Rattle.std.proofs.Common.{◌≡◌, codes, ℕ, List, [], ◌∷◌, refl, Some, None, Option, Ok, false, map, length}
use Rattle.sqlite_tied.specs.Compute.{everything}
use Rattle.sqlite_resolve.specs.Scope.{Name}
use Rattle.sqlite_resolve.specs.Compile.{first}
use Rattle.sqlite_syntax.specs.declared.statement.Parsed.{Parsed}
use Rattle.sqlite_ast.specs.declared.Statement.TheVariants as written
use Rattle.sqlite_ast.specs.declared.Select.{Select, roll-Select}
use Rattle.sqlite_ast.specs.declared.Core.{Core, roll-Core}
use Rattle.sqlite_ast.specs.declared.Sort.{Sort, roll-Sort}
use Rattle.sqlite_ast.specs.declared.Source.{Source, roll-Source}
use Rattle.sqlite_ast.specs.declared.Shown.{Shown}
use Rattle.sqlite_ast.specs.declared.Shown.TheVariants as shown
use Rattle.sqlite_ast.specs.declared.Origin.TheVariants as origin
use Rattle.sqlite_ast.specs.declared.Expr.{Expr}
use Rattle.sqlite_ast.specs.declared.Expr.TheVariants as expr
use Rattle.sqlite_ast.specs.declared.Binary.TheVariants as binary
use Rattle.book_statements.specs.Whole.{whole_text}
use Rattle.book_statements.specs.declared.names.TableName.TheVariants.{EntryRules, LotExpiry}
use Rattle.book_statements.specs.Recorded.{rules_text}
use Rattle.book_statements.proofs.NeedTexts.{dates_text}
use Rattle.book_statements.proofs.ShowingTexts.{all_dates_text}

abbrev pub bare : Name → Expr
bare name = expr.Column None name

abbrev pub equals : Name → ℕ → Expr
equals name n = expr.Binary binary.Eq (bare name) (expr.Parameter n)

abbrev pub shows : List Name → List Shown
shows names = map (λ (name : Name). shown.One (bare name) None name) names

abbrev pub sorts : List Name → List Sort
sorts names = map (λ (name : Name). roll-Sort (record { key = bare name; descending = false; nulls_first = None })) names

abbrev pub from_table : Name → Source
from_table name = roll-Source (record { is_left = false; origin = origin.Table name; alias = None; on = None; using = [] })

abbrev pub core_from : Name → List Name → Option Expr → Core
core_from table names filter = roll-Core (record {
  distinct = false;
  shown = shows names;
  from = from_table table ∷ [];
  filter = filter;
  group = [];
  having = None;
})

abbrev pub select_from : Name → List Name → Option Expr → List Name → Select
select_from table names filter order = roll-Select (record {
  with = [];
  first = core_from table names filter;
  others = [];
  order = sorts order;
  limit = None;
  offset = None;
})

abbrev pub parsed_as : Select → List Name → ℕ → Parsed
parsed_as s names end = record { statement = written.Select s; names = names; formats = []; start = 0; end = end; tail = end }

abbrev pub rules_select : Select
rules_select = select_from (codes "entry_rules") (codes "rules" ∷ []) (Some (equals (codes "seq") 1)) []

pub rules_first : first rules_text ≡ Ok (parsed_as rules_select (codes "?1" ∷ []) (length rules_text))
unfolding everything
rules_first = refl

abbrev pub all_rules_text : List ℕ
all_rules_text = whole_text EntryRules

abbrev pub all_rules_select : Select
all_rules_select = select_from (codes "entry_rules") (codes "seq" ∷ codes "rules" ∷ []) None (codes "seq" ∷ [])

pub all_rules_first : first all_rules_text ≡ Ok (parsed_as all_rules_select [] (length all_rules_text))
unfolding everything
all_rules_first = refl

abbrev pub whole_dates_text : List ℕ
whole_dates_text = whole_text LotExpiry

abbrev pub whole_dates_select : Select
whole_dates_select = select_from (codes "lot_expiry") (codes "who" ∷ codes "item" ∷ codes "lot" ∷ codes "expiry" ∷ []) None (codes "who" ∷ codes "item"
    ∷ codes "lot" ∷ [])

pub whole_dates_first : first whole_dates_text ≡ Ok (parsed_as whole_dates_select [] (length whole_dates_text))
unfolding everything
whole_dates_first = refl

abbrev pub dates_select : Select
dates_select = select_from (codes "lot_expiry") (codes "item" ∷ codes "lot" ∷ codes "expiry" ∷ [])
    (Some (expr.Binary binary.And (equals (codes "who") 1) (equals (codes "item") 2))) (codes "item" ∷ codes "lot" ∷ [])

pub dates_first : first dates_text ≡ Ok (parsed_as dates_select (codes "?1" ∷ codes "?2" ∷ []) (length dates_text))
unfolding everything
dates_first = refl

abbrev pub all_dates_select : Select
all_dates_select = select_from (codes "lot_expiry") (codes "item" ∷ codes "lot" ∷ codes "expiry" ∷ []) (Some (equals (codes "who") 1)) (codes "item"
    ∷ codes "lot" ∷ [])

pub all_dates_first : first all_dates_text ≡ Ok (parsed_as all_dates_select (codes "?1" ∷ []) (length all_dates_text))
unfolding everything
all_dates_first = refl
