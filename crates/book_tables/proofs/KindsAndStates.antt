-- A row of what went out shows a kind and a state that it can have, where it is that of a document or
-- of an answer.
use Rattle.std.proofs.Common.{◌≡◌, ◌≢◌, ◌∙◌, ℕ, Bool, true, false, None, Some, Option, refl, ap}
use Rattle.sqlite.specs.Order.{Row, column}
use Rattle.sqlite.specs.declared.types.Value.TheVariants.{Text}
use Rattle.definitions.specs.Page.{PageDocument}
use Rattle.definitions.specs.Rows.{OutRow, state_text}
use Rattle.rules.specs.Function.{Function}
use Rattle.rules.specs.Kinds.{kind_text}
use Rattle.rules.specs.OutKind.{OutKind}
use Rattle.rules.specs.OutKind.TheVariants.{Answer}
use Rattle.store.specs.Sent.{state_name}
use Rattle.store.specs.declared.rows.DocumentState.{DocumentState}
use Rattle.store.specs.declared.rows.DocumentState.TheVariants.{Unasked, Open, Accepted, Refused}
use Rattle.book_tables.specs.Looking.{IsRowOf, function_as}
use Rattle.book_tables.specs.Showing.{IsSentAs, is_state_of, sent_shown}
use Rattle.book_tables.proofs.ReadLemmas.{none_some}

-- something is asked about what is no answer
asked : (k : OutKind) (s : DocumentState) → k ≢ Answer → s ≢ Unasked → is_state_of k s ≡ true
asked Answer s other said = absurd (other refl)
asked k Unasked other said = absurd (said refl)
asked k s other said = refl

no_answer : (k : OutKind) (f : Function) → function_as k ≡ Some f → k ≢ Answer
no_answer k f is e = none_some (function_as k) f (ap function_as e) is

state_said : (o : Option Bool) → (s : DocumentState) × (state_text o ≡ state_name s) × (s ≢ Unasked)
state_said None = (Open, refl, λ e. let f : ◌≡◌ {A = DocumentState} Open Unasked = e in cc)
state_said (Some true) = (Accepted, refl, λ e. let f : ◌≡◌ {A = DocumentState} Accepted Unasked = e in cc)
state_said (Some false) = (Refused, refl, λ e. let f : ◌≡◌ {A = DocumentState} Refused Unasked = e in cc)

words_of : (n : ℕ) (r : OutRow) (d : Option PageDocument) → IsRowOf n r d → (k : OutKind) × (s : DocumentState) × (r.kind ≡ kind_text k) × (r.state ≡ state_name s) × (is_state_of k s ≡ true)
words_of n r None h = (Answer, Unasked, h.0, h.1, refl)
words_of n r (Some d) h = let it = state_said d.said in (h.0, it.0, h.3, h.4 ∙ it.1, asked h.0 it.0 (no_answer h.0 h.1 h.2) it.2)

module _ (n : ℕ) (row : Row) (r : OutRow) (d : Option PageDocument) (of : IsRowOf n r d) (shows : row ≡ sent_shown r) where
  kind_at : column row 0 ≡ Text r.kind
  kind_at = ap (λ (x : Row). column x 0) shows

  state_at : column row 1 ≡ Text r.state
  state_at = ap (λ (x : Row). column x 1) shows

  -- the row shows some kind and state
  pub not_read : ((k : OutKind) (s : DocumentState) → IsSentAs row 0 1 k s → ⊥) → ⊥
  not_read none = let it = words_of n r d of in none it.0 it.1 (record { kind_is = kind_at ∙ ap Text it.2; state_is = state_at ∙ ap Text it.3; fits = it.4 })
