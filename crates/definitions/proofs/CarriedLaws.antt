-- What is carried over of a book of version 1 stands for the same register in version 2.
use Rattle.std.proofs.Common.{◌≡◌, ℕ, ◌+◌, Bool, true, false, ◌&&◌, List, [], ◌∷◌, ◌++◌, map, length, refl, sym, ap, ◌∙◌, None}
use Rattle.std.specs.Prelude.{flat_map, option_to_list}
use Rattle.std.specs.List.{list_all}
use Rattle.std.specs.Cmp.Derive.{both_true}
use Rattle.std.proofs.lemmas.List.Folds.{list_all-append}
use Rattle.std.proofs.lemmas.List.Concat.{flat_map-cons}
use Rattle.definitions.specs.declared.rules.Rules.{Rules}
use Rattle.definitions.specs.declared.rules.Rules.TheVariants.{One, Two}
use Rattle.definitions.specs.Rules.{rules_number}
use Rattle.definitions.specs.Moments.{Moment, is_moment}
use Rattle.definitions.specs.Header.{Who, who_eq, who_text}
use Rattle.definitions.specs.Lists.{in_order}
use Rattle.definitions.specs.Means.{Line}
use Rattle.definitions.specs.Register.{Command, Entry, own, is_first}
use Rattle.definitions.specs.Events.{pair_before, expiry}
use Rattle.definitions.specs.History.{events}
use Rattle.definitions.specs.Rows.{named, lot_row, running_rows}
use Rattle.definitions.specs.Accepted.{is_command, IsLegal}
use Rattle.definitions.specs.Tables.{Number, Text, TableRow, depositors, entries_on, entry_table, entry_rules_on, entry_rules_table, expiry_cells, lot_expiry_table}
use Rattle.definitions.specs.Schema.{Contents, Stands}
use Rattle.definitions.specs.Carried.{with_version, first_rules_row, carried}
use Rattle.definitions.proofs.TextLaws.{both_parts}
use Rattle.definitions.proofs.HistoryLaws.{accepted_on-append}
use Rattle.definitions.proofs.RegisterLaws.{first_is, legal-first}
use Rattle.definitions.proofs.UndatedLaws.{expiry-first}

-- ---- rules

rules_rows : (before L : List Entry) → list_all is_first L ≡ true → map first_rules_row (entries_on before L) ≡ entry_rules_on before L
rules_rows before [] h = refl
rules_rows before (e ∷ L) h =
    let p = both_parts (is_first e) (list_all is_first L) h in
    λ i. rules_row (sym (first_is e.rules p.0) i) ∷ rules_rows (before ++ e ∷ []) L p.1 i
  where
    rules_row : Rules → TableRow
    rules_row r = Number (length before + 1) ∷ Number (rules_number r) ∷ []

-- entries under rules 1 have the rows of rules that are made of theirs
pub entry_rules-first : (L : List Entry) → list_all is_first L ≡ true → entry_rules_table L ≡ map first_rules_row (entry_table L)
entry_rules-first L h = sym (rules_rows [] L h)

-- ---- expiries

pub own_first : (L : List Entry) (w : Who) → list_all is_first L ≡ true → list_all is_first (own L w) ≡ true
own_first [] w h = refl
own_first (e ∷ L) w h =
    let p = both_parts (is_first e) (list_all is_first L) h in by_test (who_eq e.who w) refl p.0 (own_first L w p.1)
  where
    by_test : (b : Bool) → who_eq e.who w ≡ b → is_first e ≡ true → list_all is_first (own L w) ≡ true → list_all is_first (own (e ∷ L) w) ≡ true
    by_test true e f more = rw e (both_true f more)
    by_test false e f more = rw e more

no_cells : (M : List Entry) (ls : List Line) → list_all is_first M ≡ true → flat_map expiry_cells (map (lot_row (events M)) ls) ≡ []
no_cells M [] h = refl
no_cells M (l ∷ ls) h =
    flat_map-cons expiry_cells (lot_row (events M) l) (map (lot_row (events M)) ls)
    ∙ (λ i. map (λ date. Text l.item ∷ Text l.lot ∷ Text date ∷ []) (option_to_list (expiry-first M l.item l.lot h i)) ++ no_cells M ls h i)

no_rows : (ws : List Who) (L : List Entry) → list_all is_first L ≡ true
    → flat_map (λ w. map (λ (r : TableRow). Text (who_text w) ∷ r) (flat_map expiry_cells (running_rows (events (own L w))))) ws ≡ []
no_rows [] L h = refl
no_rows (w ∷ ws) L h =
    flat_map-cons (λ w. map (λ (r : TableRow). Text (who_text w) ∷ r) (flat_map expiry_cells (running_rows (events (own L w))))) w ws
    ∙ (λ i. map (λ (r : TableRow). Text (who_text w) ∷ r) (no_cells (own L w) (in_order pair_before (flat_map named (events (own L w)))) (own_first L w h) i) ++ no_rows ws L h i)

-- no pair of a depositor in a register of version 1 has an expiry
pub expiry-legal : (W : Who) (L : List Entry) (w : Who) (item lot : List ℕ) → IsLegal One W L → expiry (events (own L w)) item lot ≡ None
expiry-legal W L w item lot l = expiry-first (own L w) item lot (own_first L w (legal-first W L l))

-- entries under rules 1 have no rows of expiries
pub lot_expiry-first : (L : List Entry) → list_all is_first L ≡ true → lot_expiry_table L ≡ []
lot_expiry-first L h = no_rows (depositors L) L h

-- ---- registers

-- a legal register of version 1 is one of version 2
pub legal-carried : (W : Who) (L : List Entry) → IsLegal One W L → IsLegal Two W L
legal-carried W L l = record {
  first = l.first ++ l.commands;
  commands = [];
  of_a_partner = l.of_a_partner;
  first_given = list_all-append (λ (c : Command × Moment). is_command One c.0 && is_moment c.1) l.first l.commands ∙ both_true l.first_given l.given;
  given = refl;
  left = l.left ∙ sym (accepted_on-append One W [] l.first l.commands);
}

-- and what is carried over stands for it
pub stands-carried : (rows : Contents) (W : Who) (L : List Entry) → Stands One W L rows → Stands Two W L (carried rows)
stands-carried rows W L s =
    let first = legal-first W L s.legal in
    let t = s.same in
    record {
      legal = legal-carried W L s.legal;
      same = (
        ap (map with_version) t.0,
        (
          t.1.0,
          (
            t.1.1.0,
            (
              t.1.1.1.0,
              (
                t.1.1.1.1.0,
                (
                  t.1.1.1.1.1.0,
                  (
                    t.1.1.1.1.1.1.0,
                    (
                      t.1.1.1.1.1.1.1.0,
                      (
                        t.1.1.1.1.1.1.1.1.0,
                        (ap (map first_rules_row) t.1.0 ∙ sym (entry_rules-first L first), (sym (lot_expiry-first L first), tt)),
                      ),
                    ),
                  ),
                ),
              ),
            ),
          ),
        ),
      );
    }
