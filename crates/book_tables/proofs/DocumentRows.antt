-- The rows of `outgoing` tell the documents of a page: the row of a number is the document's, or
-- that of an answer.
use Rattle.std.proofs.Common.{◌≡◌, ◌<◌, ℕ, ◌+◌, Bool, true, false, cond, List, [], ◌∷◌, ◌++◌, Option, None, Some, refl, sym, ap, subst, ◌∙◌, arith}
use Rattle.std.specs.Prelude.{find, if◌then◌else◌, ◌==◌}
use Rattle.std.proofs.lemmas.Bool.{ne_eqb, eqb-true}
use Rattle.definitions.specs.declared.rules.Rules.{Rules}
use Rattle.definitions.specs.Moments.{Moment}
use Rattle.definitions.specs.Header.{Who}
use Rattle.definitions.specs.Events.{Event}
use Rattle.definitions.specs.History.{events}
use Rattle.definitions.specs.Page.{PageDocument, sent_by, sent_on, documents_of, page_of}
use Rattle.definitions.specs.Register.{Act, Count, Pick, Recount, Deed, Enrolled, Received, Performed, Entry, is_numbered, next_number}
use Rattle.definitions.specs.Rows.{OutRow, act_kind, act_function, said_of, state_text, out_row, outgoing_on, outgoing_rows}
use Rattle.rules.specs.Pages.{document_at}
use Rattle.rules.specs.Functions.{function_text}
use Rattle.rules.specs.Function.{Function}
use Rattle.rules.specs.Function.TheVariants as functions
use Rattle.rules.specs.OutKind.{OutKind}
use Rattle.rules.specs.OutKind.TheVariants.{Receipt, Shipment, Adjustment}
use Rattle.rules.specs.Kinds.{kind_text}
use Rattle.rules.proofs.SentRows.{next_snoc}
use Rattle.book_tables.specs.Looking.{IsRowOf, function_as}

abbrev is_under : ℕ → OutRow → Bool
is_under n r = r.n == n

-- what is found among the rows and among the documents agree
abbrev pub Agrees : ℕ → Option OutRow → Option PageDocument → Type 0
Agrees n None None = Unit {0}
Agrees n None (Some d) = ⊥
Agrees n (Some r) d = IsRowOf n r d

-- the documents of later entries have higher numbers
none_later : (es : List Event) (n k : ℕ) (M : List Entry) → n < k → document_at n (documents_of es (sent_on k M)) ≡ None
none_later es n k [] lt = refl
none_later es n k (e ∷ M) lt = by e.deed (none_later es n (k + (if is_numbered e then 1 else 0)) M (more (is_numbered e)))
  where
    more : (b : Bool) → n < k + (if b then 1 else 0)
    more true = omega (arith, lt)
    more false = omega (arith, lt)

    by : (d : Deed) → document_at n (documents_of es (sent_on (k + (if is_numbered e then 1 else 0)) M)) ≡ None
        → document_at n (documents_of es (sent_by k d ++ sent_on (k + (if is_numbered e then 1 else 0)) M)) ≡ None
    by Enrolled h = h
    by (Received text) h = h
    by (Performed ticket act) h =
        ap (λ (b : Bool). cond b (Some (record { n = k; function = act_function act; said = said_of es k (act_function act) })) (document_at n (documents_of es (sent_on (k + (if is_numbered e then 1 else 0)) M))))
        (ne_eqb k n (λ same. absurd (omega (arith, same, lt)))) ∙ h

-- the kind of an act's text, and of its document
kind_of_act : (act : Act) → (kind : OutKind) × (function : Function) × (function_as kind ≡ Some function) × (act_kind act ≡ kind_text kind) × (act_function act ≡ function_text function)
kind_of_act (Count shipment sheet) = (Receipt, functions.Receipt, refl, refl, refl)
kind_of_act (Pick order sheet) = (Shipment, functions.Shipment, refl, refl, refl)
kind_of_act (Recount sheet) = (Adjustment, functions.Adjustment, refl, refl, refl)

module _ (W : Who) (es : List Event) (n : ℕ) where
  -- one entry more in front
  first : (before : List Entry) (w : Who) (t : Moment) (q : Rules) (d : Deed) (k j : ℕ) (rows : List OutRow) (M : List Entry) → k ≡ next_number before → j ≡ k + (if is_numbered (record { who = w; moment = t; deed = d; rules = q }) then 1 else 0)
      → Agrees n (find (is_under n) rows) (document_at n (documents_of es (sent_on j M)))
      → Agrees n (find (is_under n) ((if is_numbered (record { who = w; moment = t; deed = d; rules = q }) then out_row W es before (record { who = w; moment = t; deed = d; rules = q }) ∷ [] else []) ++ rows)) (document_at n (documents_of es (sent_by k d ++ sent_on j M)))
  first before w t q Enrolled k j rows M number is later = later
  first before w t q (Received text) k j rows M number is later = by (k == n) refl
    where
      its : OutRow
      its = out_row W es before (record { who = w; moment = t; deed = Received text; rules = q })

      by : (b : Bool) → (k == n) ≡ b → Agrees n (find (is_under n) (its ∷ rows)) (document_at n (documents_of es (sent_on j M)))
      by true e =
          let here : find (is_under n) (its ∷ rows) ≡ Some its = ap (λ (b : Bool). cond b (Some its) (find (is_under n) rows)) (ap (λ (m : ℕ). m == n) (sym number) ∙ e) in
          let none : document_at n (documents_of es (sent_on j M)) ≡ None = none_later es n j M (omega (arith, is, eqb-true k n e)) in
          subst (λ (o : Option OutRow). Agrees n o (document_at n (documents_of es (sent_on j M)))) (sym here) (subst (IsRowOf n its) (sym none) (refl, refl))
      by false e =
          let there : find (is_under n) (its ∷ rows) ≡ find (is_under n) rows = ap (λ (b : Bool). cond b (Some its) (find (is_under n) rows)) (ap (λ (m : ℕ). m == n) (sym number) ∙ e) in
          subst (λ (o : Option OutRow). Agrees n o (document_at n (documents_of es (sent_on j M)))) (sym there) later
  first before w t q (Performed ticket act) k j rows M number is later = by (k == n) refl
    where
      its : OutRow
      its = out_row W es before (record { who = w; moment = t; deed = Performed ticket act; rules = q })

      document : PageDocument
      document = record { n = k; function = act_function act; said = said_of es k (act_function act) }

      back : Option PageDocument
      back = document_at n (documents_of es (sent_on j M))

      by : (b : Bool) → (k == n) ≡ b → Agrees n (find (is_under n) (its ∷ rows)) (cond (k == n) (Some document) back)
      by true e =
          let here : find (is_under n) (its ∷ rows) ≡ Some its = ap (λ (b : Bool). cond b (Some its) (find (is_under n) rows)) (ap (λ (m : ℕ). m == n) (sym number) ∙ e) in
          let one : cond (k == n) (Some document) back ≡ Some document = ap (λ (b : Bool). cond b (Some document) back) e in
          let kind = kind_of_act act in
          let same : k ≡ n = eqb-true k n e in
          let state : its.state ≡ state_text document.said = ap (λ (m : ℕ). state_text (said_of es m (act_function act))) (sym number) in
          let is_it : document ≡ record { n = n; function = function_text kind.1; said = document.said } = λ i. record { n = same i; function = kind.4 i; said = document.said } in
          subst (λ (o : Option OutRow). Agrees n o (cond (k == n) (Some document) back)) (sym here) (subst (IsRowOf n its) (sym one) (kind.0, kind.1, kind.2, kind.3, state, is_it))
      by false e =
          let there : find (is_under n) (its ∷ rows) ≡ find (is_under n) rows = ap (λ (b : Bool). cond b (Some its) (find (is_under n) rows)) (ap (λ (m : ℕ). m == n) (sym number) ∙ e) in
          let none : cond (k == n) (Some document) back ≡ back = ap (λ (b : Bool). cond b (Some document) back) e in
          subst (λ (o : Option OutRow). Agrees n o (cond (k == n) (Some document) back)) (sym there) (subst (Agrees n (find (is_under n) rows)) (sym none) later)

  agree_on : (before M : List Entry) → Agrees n (find (is_under n) (outgoing_on W es before M)) (document_at n (documents_of es (sent_on (next_number before) M)))
  agree_on before [] = tt
  agree_on before (e ∷ M) =
      let k = next_number before in
      first before e.who e.moment e.rules e.deed k (k + (if is_numbered e then 1 else 0)) (outgoing_on W es (before ++ e ∷ []) M) M refl refl
      (subst (λ (j : ℕ). Agrees n (find (is_under n) (outgoing_on W es (before ++ e ∷ []) M)) (document_at n (documents_of es (sent_on j M)))) (next_snoc before e) (agree_on (before ++ e ∷ []) M))

pub rows_agree : (W : Who) (n : ℕ) (M : List Entry) → Agrees n (find (λ r. r.n == n) (outgoing_rows W M)) (document_at n (page_of M).documents)
rows_agree W n M = agree_on W (events M) n [] M

pub no_document : (W : Who) (n : ℕ) (M : List Entry) → find (λ r. r.n == n) (outgoing_rows W M) ≡ None → document_at n (page_of M).documents ≡ None
no_document W n M is = by (document_at n (page_of M).documents) refl
  where
    by : (d : Option PageDocument) → document_at n (page_of M).documents ≡ d → document_at n (page_of M).documents ≡ None
    by None e = e
    by (Some d) e = absurd (subst (Agrees n None) e (subst (λ (o : Option OutRow). Agrees n o (document_at n (page_of M).documents)) is (rows_agree W n M)))

pub its_document : (W : Who) (n : ℕ) (M : List Entry) (r : OutRow) → find (λ r. r.n == n) (outgoing_rows W M) ≡ Some r → IsRowOf n r (document_at n (page_of M).documents)
its_document W n M r is = subst (λ (o : Option OutRow). Agrees n o (document_at n (page_of M).documents)) is (rows_agree W n M)
