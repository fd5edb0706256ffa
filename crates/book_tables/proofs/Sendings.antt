-- Every text that went out to a depositor of a legal register has a number of 32 bits, a kind and a
-- state that there are.
use Rattle.std.proofs.Common.{◌≡◌, ◌<◌, ◌≤◌, ◌+◌, ◌^◌, ℕ, Bool, true, false, cond, List, [], ◌∷◌, ◌++◌, Option, Some, None, refl, sym, ap, subst, ◌∙◌, inl, inr, arith}
use Rattle.std.specs.Prelude.{if◌then◌else◌}
use Rattle.sqlite.specs.Order.{Row, column}
use Rattle.sqlite.specs.declared.types.Value.TheVariants as value
use Rattle.sqlite_rules.specs.Lists.{Has}
use Rattle.definitions.specs.declared.rules.Rules.{Rules}
use Rattle.definitions.specs.Rules.{Today}
use Rattle.definitions.specs.Moments.{Moment}
use Rattle.definitions.specs.Header.{Who}
use Rattle.definitions.specs.Limits.{most_entries}
use Rattle.definitions.specs.Register.{Act, Count, Pick, Recount, Deed, Enrolled, Received, Performed, Entry, own, is_numbered, next_number}
use Rattle.definitions.specs.Events.{Event}
use Rattle.definitions.specs.History.{history, events}
use Rattle.definitions.specs.Accepted.{IsLegal}
use Rattle.definitions.specs.Rows.{OutRow, act_kind, act_function, said_of, state_text, out_row, outgoing_on, outgoing_rows}
use Rattle.definitions.proofs.HistoryLaws.{history-numbered}
use Rattle.rules.specs.Played.{CanFollow}
use Rattle.rules.proofs.Registers.{Along1, follows_own}
use Rattle.rules.specs.OutKind.{OutKind}
use Rattle.rules.specs.OutKind.TheVariants.{Answer, Receipt, Shipment, Adjustment}
use Rattle.store.specs.declared.rows.DocumentState.{DocumentState}
use Rattle.store.specs.declared.rows.DocumentState.TheVariants.{Unasked, Open, Accepted, Refused}
use Rattle.rules.specs.Kinds.{kind_text}
use Rattle.store.specs.Sent.{state_name}
use Rattle.book_tables.specs.Showing.{HasKindAndState, IsSent, content_shown, is_state_of}

-- the kind of an act's text, and a state that it can have
sent_act : (act : Act) (said : Option Bool) → (kind : OutKind) × (state : DocumentState) × (act_kind act ≡ kind_text kind) × (state_text said ≡ state_name state) × (is_state_of kind state ≡ true)
sent_act (Count shipment sheet) None = (Receipt, Open, refl, refl, refl)
sent_act (Count shipment sheet) (Some true) = (Receipt, Accepted, refl, refl, refl)
sent_act (Count shipment sheet) (Some false) = (Receipt, Refused, refl, refl, refl)
sent_act (Pick order sheet) None = (Shipment, Open, refl, refl, refl)
sent_act (Pick order sheet) (Some true) = (Shipment, Accepted, refl, refl, refl)
sent_act (Pick order sheet) (Some false) = (Shipment, Refused, refl, refl, refl)
sent_act (Recount sheet) None = (Adjustment, Open, refl, refl, refl)
sent_act (Recount sheet) (Some true) = (Adjustment, Accepted, refl, refl, refl)
sent_act (Recount sheet) (Some false) = (Adjustment, Refused, refl, refl, refl)

-- what a row shows of a text that went out can be read
pub is_read : (row : Row) (r : OutRow) → row ≡ content_shown r → IsSent r → HasKindAndState row 1 2
is_read row r is sent = (sent.kind, sent.state, record { kind_is = ap (λ (x : Row). column x 1) is ∙ ap value.Text sent.kind_is; state_is = ap (λ (x : Row). column x 2) is ∙ ap value.Text sent.state_is; fits = sent.fits })

-- the row of an entry after so few
row_sent : (W : Who) (es : List Event) (before : List Entry) (e : Entry) → next_number before < 2 ^ 32 → IsSent (out_row W es before e)
row_sent W es before e few = by e.who e.moment e.rules e.deed
  where
    by : (w : Who) (t : Moment) (q : Rules) (d : Deed) → IsSent (out_row W es before (record { who = w; moment = t; deed = d; rules = q }))
    by w t q Enrolled = record { few = few; kind = Answer; kind_is = refl; state = Unasked; state_is = refl; fits = refl }
    by w t q (Received text) = record { few = few; kind = Answer; kind_is = refl; state = Unasked; state_is = refl; fits = refl }
    by w t q (Performed ticket act) =
        let it = sent_act act (said_of es (next_number before) (act_function act)) in
        record { few = few; kind = it.0; kind_is = it.2; state = it.1; state_is = it.3; fits = it.4 }

rows_sent : (W : Who) (es : List Event) (before M : List Entry) → Along1 CanFollow before M → (r : OutRow) → Has (outgoing_on W es before M) r → IsSent r
rows_sent W es before [] follows r h = absurd h
rows_sent W es before (e ∷ M) follows r h = by (is_numbered e) refl h (rows_sent W es (before ++ e ∷ []) M follows.1 r)
  where
    by : (b : Bool) → is_numbered e ≡ b → Has ((if b then out_row W es before e ∷ [] else []) ++ outgoing_on W es (before ++ e ∷ []) M) r
        → (Has (outgoing_on W es (before ++ e ∷ []) M) r → IsSent r) → IsSent r
    by false is there later = later there
    by true is there later = elim there [
      | inl same ↦
          let number : next_number before ≤ most_entries =
          let few = follows.0.few in omega (arith, few, ap (λ (b : Bool). cond {A = ℕ} b ((history before).numbered + 1) 0) is, history-numbered before) in
          subst IsSent (sym same) (row_sent W es before e (omega (arith, number)))
      | inr more ↦ later more
    ]

pub legal_sent : (W : Who) (L : List Entry) (who : Who) → IsLegal Today W L → (r : OutRow) → Has (outgoing_rows W (own L who)) r → IsSent r
legal_sent W L who legal = rows_sent W (events (own L who)) [] (own L who) (follows_own Today W L who legal)
