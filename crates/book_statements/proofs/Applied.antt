-- What the changes of rows, of advices and of orders come to.
use Rattle.std.proofs.Common.{◌≡◌, ℕ, List, [], ◌∷◌, ◌++◌, codes, Bool, true, false, None, Some, Option, map, sym, ap, subst}
use Rattle.std.specs.Prelude.{if◌then◌else◌, option_to_list}
use Rattle.sqlite.specs.Effect.{Database}
use Rattle.definitions.specs.Header.{Who, who_text}
use Rattle.definitions.specs.Rows.{LotRow}
use Rattle.definitions.specs.Page.{PageAdvice, PageOrder}
use Rattle.definitions.specs.Tables.{Text, stock_cells, advice_cells, advice_line_cells, orders_cells, order_line_cells, reservation_cells}
use Rattle.definitions.specs.Changes.{Change, Puts, SetsState, Frees}
use Rattle.rules.specs.Tabled.{puts_into, row_changes, advice_changes, order_changes}
use Rattle.book_statements.specs.Leading.{Leads, puts_of}
use Rattle.book_statements.proofs.LeadingLemmas.{leads_on}

module _ (w : Who) (who : List ℕ) (is : who ≡ who_text w) (a b c d : Database) where
  pub row_dated : (r : LotRow) (date : List ℕ) → Some date ≡ r.expiry → Leads (Puts (codes "stock") (Text who ∷ stock_cells r) ∷ []) a b
      → Leads (Puts (codes "lot_expiry") (Text who ∷ Text r.item ∷ Text r.lot ∷ Text date ∷ []) ∷ []) b c → Leads (row_changes w r) a c
  row_dated r date dated p q =
      subst (λ (o : Option (List ℕ)). Leads (puts_into (codes "stock") w (stock_cells r ∷ []) ++ puts_into (codes "lot_expiry") w (map (λ d. Text r.item ∷ Text r.lot ∷ Text d ∷ []) (option_to_list o))) a c) dated
      (leads_on (puts_into (codes "stock") w (stock_cells r ∷ [])) (Puts (codes "lot_expiry") (Text (who_text w) ∷ Text r.item ∷ Text r.lot ∷ Text date ∷ []) ∷ []) a b c
      (subst (λ (t : List ℕ). Leads (Puts (codes "stock") (Text t ∷ stock_cells r) ∷ []) a b) is p)
      (subst (λ (t : List ℕ). Leads (Puts (codes "lot_expiry") (Text t ∷ Text r.item ∷ Text r.lot ∷ Text date ∷ []) ∷ []) b c) is q))

  pub row_undated : (r : LotRow) → None ≡ r.expiry → Leads (Puts (codes "stock") (Text who ∷ stock_cells r) ∷ []) a b → Leads (row_changes w r) a b
  row_undated r undated p =
      subst (λ (o : Option (List ℕ)). Leads (puts_into (codes "stock") w (stock_cells r ∷ []) ++ puts_into (codes "lot_expiry") w (map (λ d. Text r.item ∷ Text r.lot ∷ Text d ∷ []) (option_to_list o))) a b) undated
      (subst (λ (t : List ℕ). Leads (Puts (codes "stock") (Text t ∷ stock_cells r) ∷ []) a b) is p)

  pub state_set : (n : ℕ) (accepts : Bool) → Leads (SetsState who n (Some accepts) ∷ []) a b → Leads (SetsState (who_text w) n (Some accepts) ∷ []) a b
  state_set n accepts h = subst (λ (t : List ℕ). Leads (SetsState t n (Some accepts) ∷ []) a b) is h

  pub advice_opened : (k : PageAdvice) → k.is_open ≡ true → Leads (Puts (codes "advice") (Text who ∷ advice_cells k) ∷ []) a b → Leads (puts_of (codes "advice_line") who (advice_line_cells k)) b c
      → Leads (advice_changes w k) a c
  advice_opened k opened p q =
      subst (λ (cs : List Change). Leads (puts_into (codes "advice") w (advice_cells k ∷ []) ++ cs) a c) (sym (ap (λ (t : Bool). if t then puts_into (codes "advice_line") w (advice_line_cells k) else []) opened))
      (leads_on (puts_into (codes "advice") w (advice_cells k ∷ [])) (puts_into (codes "advice_line") w (advice_line_cells k)) a b c
      (subst (λ (t : List ℕ). Leads (Puts (codes "advice") (Text t ∷ advice_cells k) ∷ []) a b) is p)
      (subst (λ (t : List ℕ). Leads (puts_of (codes "advice_line") t (advice_line_cells k)) b c) is q))

  pub advice_closed : (k : PageAdvice) → k.is_open ≡ false → Leads (Puts (codes "advice") (Text who ∷ advice_cells k) ∷ []) a b → Leads (advice_changes w k) a b
  advice_closed k shut p =
      subst (λ (cs : List Change). Leads (puts_into (codes "advice") w (advice_cells k ∷ []) ++ cs) a b) (sym (ap (λ (t : Bool). if t then puts_into (codes "advice_line") w (advice_line_cells k) else []) shut))
      (subst (λ (t : List ℕ). Leads (Puts (codes "advice") (Text t ∷ advice_cells k) ∷ []) a b) is p)

  abbrev rest : PageOrder → Bool → List Change
  rest k opened = if opened then puts_into (codes "order_line") w (order_line_cells k) ++ puts_into (codes "reservation") w (reservation_cells k) else Frees (who_text w) k.number ∷ []

  pub order_opened : (k : PageOrder) → k.is_open ≡ true → Leads (Puts (codes "orders") (Text who ∷ orders_cells k) ∷ []) a b → Leads (puts_of (codes "order_line") who (order_line_cells k)) b c
      → Leads (puts_of (codes "reservation") who (reservation_cells k)) c d → Leads (order_changes w k) a d
  order_opened k opened p q r =
      subst (λ (cs : List Change). Leads (puts_into (codes "orders") w (orders_cells k ∷ []) ++ cs) a d) (sym (ap (rest k) opened))
      (leads_on (puts_into (codes "orders") w (orders_cells k ∷ [])) (rest k true) a b d
      (subst (λ (t : List ℕ). Leads (Puts (codes "orders") (Text t ∷ orders_cells k) ∷ []) a b) is p)
      (leads_on (puts_into (codes "order_line") w (order_line_cells k)) (puts_into (codes "reservation") w (reservation_cells k)) b c d
      (subst (λ (t : List ℕ). Leads (puts_of (codes "order_line") t (order_line_cells k)) b c) is q)
      (subst (λ (t : List ℕ). Leads (puts_of (codes "reservation") t (reservation_cells k)) c d) is r)))

  pub order_closed : (k : PageOrder) → k.is_open ≡ false → Leads (Puts (codes "orders") (Text who ∷ orders_cells k) ∷ []) a b → Leads (Frees who k.number ∷ []) b c → Leads (order_changes w k) a c
  order_closed k shut p q =
      subst (λ (cs : List Change). Leads (puts_into (codes "orders") w (orders_cells k ∷ []) ++ cs) a c) (sym (ap (rest k) shut))
      (leads_on (puts_into (codes "orders") w (orders_cells k ∷ [])) (rest k false) a b c
      (subst (λ (t : List ℕ). Leads (Puts (codes "orders") (Text t ∷ orders_cells k) ∷ []) a b) is p)
      (subst (λ (t : List ℕ). Leads (Frees t k.number ∷ []) b c) is q))
