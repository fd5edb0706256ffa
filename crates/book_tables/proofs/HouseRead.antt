-- What the row of `book` names.
use Rattle.std.proofs.Common.{◌≡◌, ℕ, pos, List, [], ◌∷◌, get_or, Bool, true, false, Some, None, Option, refl, sym, ap, subst, ◌∙◌}
use Rattle.std.specs.Prelude.{if◌then◌else◌}
use Rattle.sqlite.specs.Order.{Row, column}
use Rattle.sqlite.specs.declared.types.Value.TheVariants.{Int, Text}
use Rattle.definitions.specs.declared.rules.Rules.{Rules}
use Rattle.definitions.specs.Header.{Who, is_partner}
use Rattle.definitions.specs.Rules.{rules_number}
use Rattle.book_statements.specs.Recorded.{IsHouse}
use Rattle.book_tables.proofs.ReadLemmas.{none_some, same_some, same_text_value}

same_single : (a b : Row) → ◌≡◌ {A = List Row} (a ∷ []) (b ∷ []) → a ≡ b
same_single a b e = ap (λ (rs : List Row). get_or rs 0 a) e

abbrev named : List ℕ → List ℕ → Who
named qualifier id = record { qualifier = qualifier; id = id }

abbrev partner_by : List ℕ → List ℕ → Option Who
partner_by qualifier id = if is_partner (named qualifier id) then Some (named qualifier id) else None

module _ (row : Row) where
  pub no_version : ((q : Rules) → column row 0 ≡ Int (pos (rules_number q)) → ⊥) → (q : Rules) (W : Who) → IsHouse q (row ∷ []) W → ⊥
  no_version none q W h = none q (ap (λ (r : Row). column r 0) (same_single row h.row h.one) ∙ h.version)

  pub no_qualifier : ((text : List ℕ) → column row 1 ≡ Text text → ⊥) → (q : Rules) (W : Who) → IsHouse q (row ∷ []) W → ⊥
  no_qualifier none q W h = none W.qualifier (ap (λ (r : Row). column r 1) (same_single row h.row h.one) ∙ h.qualifier)

  pub no_id : ((text : List ℕ) → column row 2 ≡ Text text → ⊥) → (q : Rules) (W : Who) → IsHouse q (row ∷ []) W → ⊥
  no_id none q W h = none W.id (ap (λ (r : Row). column r 2) (same_single row h.row h.one) ∙ h.id)

  pub no_partner : (qualifier id : List ℕ) → column row 1 ≡ Text qualifier → column row 2 ≡ Text id → None ≡ partner_by qualifier id → (q : Rules) (W : Who) → IsHouse q (row ∷ []) W → ⊥
  no_partner qualifier id one two none q W h = by (is_partner (named qualifier id)) (ap is_partner (λ i. named (first i) (second i)) ∙ h.partner) none
    where
      its : row ≡ h.row
      its = same_single row h.row h.one

      first : qualifier ≡ W.qualifier
      first = same_text_value qualifier W.qualifier (sym one ∙ ap (λ (r : Row). column r 1) its ∙ h.qualifier)

      second : id ≡ W.id
      second = same_text_value id W.id (sym two ∙ ap (λ (r : Row). column r 2) its ∙ h.id)

      by : (b : Bool) → b ≡ true → None ≡ (if b then Some (named qualifier id) else None) → ⊥
      by true e g = none_some None (named qualifier id) refl g
      by false e g = none_some None (named qualifier id) refl (ap (λ (b : Bool). if b then Some (named qualifier id) else None) e)

  pub its_house : (q : Rules) (qualifier id : List ℕ) (who W : Who) → column row 0 ≡ Int (pos (rules_number q)) → column row 1 ≡ Text qualifier → column row 2 ≡ Text id → Some who ≡ partner_by qualifier id → W ≡ who
      → IsHouse q (row ∷ []) W
  its_house q qualifier id who W version one two some same = by (is_partner (named qualifier id)) refl some
    where
      by : (b : Bool) → is_partner (named qualifier id) ≡ b → Some who ≡ (if b then Some (named qualifier id) else None) → IsHouse q (row ∷ []) W
      by true e g =
          let is : W ≡ named qualifier id = same ∙ same_some who (named qualifier id) g in
          let whole : IsHouse q (row ∷ []) (named qualifier id) = record { row = row; one = refl; version = version; qualifier = one; id = two; partner = e } in
          subst (IsHouse q (row ∷ [])) (sym is) whole
      by false e g = absurd (none_some (Some who) who g refl)
