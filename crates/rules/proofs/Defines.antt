-- A page that stands for the own entries of a legal register is the one that the definitions give
-- for them.
use Rattle.std.proofs.Common.{◌≡◌, ℕ, ◌+◌, ◌<◌, ◌≤◌, Bool, true, false, cond, List, [], ◌∷◌, ◌++◌, Option, Some, None, refl, sym, ap, ◌∙◌, inl, inr, arith, append_assoc, append-nil}
use Rattle.std.specs.Prelude.{find, flat_map, option_map, if◌then◌else◌, ◌==◌, nat_lt}
use Rattle.std.specs.List.{list_all}
use borrow.Author.Tests.{eqb-true}
use Rattle.std.proofs.lemmas.Bool.{cases_lt, ne_eqb, eq-eqb, lt-ltb}
use Rattle.definitions.specs.declared.rules.Rules.{Rules}
use Rattle.definitions.specs.Moments.{Moment}
use Rattle.definitions.specs.Header.{Who}
use Rattle.definitions.specs.Events.{Event, pair_before}
use Rattle.definitions.specs.Rows.{act_function, lot_row, named, running_rows, said_of}
use Rattle.definitions.specs.Means.{Line}
use Rattle.definitions.specs.Lists.{in_order}
use Rattle.definitions.specs.Page.{Page, PageDocument, sent_by, sent_on, documents_of, page_of}
use Rattle.definitions.specs.Register.{Deed, Enrolled, Received, Performed, Entry, is_numbered, own, next_number}
use Rattle.definitions.specs.History.{history, events}
use Rattle.definitions.specs.Accepted.{IsLegal}
use Rattle.stock.specs.Keyed.{IsSorted, entry_of, key_before, rises_by, row_key}
use Rattle.stock.specs.Pages.{PageFacts, AreSorted, is_document, document_at}
use Rattle.stock.specs.Shows.{Shows, sent_under, document_of}
use Rattle.stock.proofs.KeyLemmas.{numbers_strict, pairs_strict, document_test}
use Rattle.rules.specs.Decided.{IsPageOf}
use Rattle.rules.specs.Played.{no_history}
use Rattle.rules.specs.Defined.{IsDefined}
use Rattle.rules.specs.Naming.{facts_of}
use Rattle.set_effects.proofs.KeyedLists.{both, order_rises, rises_map, same_found}
use Rattle.rules.proofs.Registers.{Along1, IsDone, done_own}
use Rattle.rules.proofs.SentUnder.{sent_of, sent_at, sent_above, sent_kept}
use Rattle.rules.proofs.SentRows.{next_snoc}
use Rattle.set_effects.proofs.Rowed.{rows_in_order}
use Rattle.rules.proofs.Once.{advices_once, orders_once}
use Rattle.rules.proofs.Paged.{advices_are_page, advices_rise, orders_are_page, orders_rise}

abbrev SentOne : Type 0
SentOne = ℕ × List ℕ

abbrev is_sent : ℕ → SentOne → Bool
is_sent n d = d.0 == n

-- Documents that were sent stand by their numbers.

-- each has at least this number
sent_later : (n k : ℕ) (M : List Entry) → n < k → list_all (λ (d : SentOne). nat_lt n d.0) (sent_on k M) ≡ true
sent_later n k [] lt = refl
sent_later n k (e ∷ M) lt = by e.deed (sent_later n (k + (if is_numbered e then 1 else 0)) M (more (is_numbered e)))
  where
    more : (b : Bool) → n < k + (if b then 1 else 0)
    more true = omega (arith, lt)
    more false = omega (arith, lt)

    by : (d : Deed) → list_all (λ (x : SentOne). nat_lt n x.0) (sent_on (k + (if is_numbered e then 1 else 0)) M) ≡ true
        → list_all (λ (x : SentOne). nat_lt n x.0) (sent_by k d ++ sent_on (k + (if is_numbered e then 1 else 0)) M) ≡ true
    by Enrolled h = h
    by (Received text) h = h
    by (Performed ticket act) h = both (nat_lt n k) _ (lt-ltb n k lt) h

sent_rises : (k : ℕ) (M : List Entry) → rises_by nat_lt (λ (d : SentOne). d.0) (sent_on k M) ≡ true
sent_rises k [] = refl
sent_rises k (e ∷ M) = by e.who e.moment e.deed e.rules (sent_rises (k + (if is_numbered e then 1 else 0)) M) refl
  where
    by : (w : Who) (t : Moment) (d : Deed) (q : Rules) → rises_by nat_lt (λ (x : SentOne). x.0) (sent_on (k + (if is_numbered e then 1 else 0)) M) ≡ true
        → is_numbered e ≡ is_numbered (record { who = w; moment = t; deed = d; rules = q })
        → rises_by nat_lt (λ (x : SentOne). x.0) (sent_by k d ++ sent_on (k + (if is_numbered e then 1 else 0)) M) ≡ true
    by w t Enrolled q h same = h
    by w t (Received text) q h same = h
    by w t (Performed ticket act) q h same =
        let lt : k < k + (if is_numbered e then 1 else 0) = omega (arith, ap (λ (b : Bool). cond {A = ℕ} b 1 0) same) in
        both (list_all (λ (x : SentOne). nat_lt k x.0) (sent_on (k + (if is_numbered e then 1 else 0)) M)) _ (sent_later k (k + (if is_numbered e then 1 else 0)) M lt) h

-- What is found among them is what the events say.

none_sent : (n k : ℕ) (M : List Entry) → n < k → find (is_sent n) (sent_on k M) ≡ None
none_sent n k [] lt = refl
none_sent n k (e ∷ M) lt = by e.deed (none_sent n (k + (if is_numbered e then 1 else 0)) M (more (is_numbered e)))
  where
    more : (b : Bool) → n < k + (if b then 1 else 0)
    more true = omega (arith, lt)
    more false = omega (arith, lt)

    by : (d : Deed) → find (is_sent n) (sent_on (k + (if is_numbered e then 1 else 0)) M) ≡ None
        → find (is_sent n) (sent_by k d ++ sent_on (k + (if is_numbered e then 1 else 0)) M) ≡ None
    by Enrolled h = h
    by (Received text) h = h
    by (Performed ticket act) h =
        ap (λ (b : Bool). cond b (Some (k, act_function act)) (find (is_sent n) (sent_on (k + (if is_numbered e then 1 else 0)) M))) (ne_eqb k n (λ same. absurd (omega (arith, same, lt)))) ∙ h

abbrev function_sent : Option SentOne → Option (List ℕ)
function_sent o = option_map (λ (d : SentOne). d.1) o

-- one entry more in front
entry_sent : (n k j : ℕ) (w : Who) (t : Moment) (d : Deed) (q : Rules) (M : List Entry) (o : Option (List ℕ)) → k ≤ n → j ≡ k + (if is_numbered (record { who = w; moment = t; deed = d; rules = q }) then 1 else 0)
    → (j ≤ n → function_sent (find (is_sent n) (sent_on j M)) ≡ o) → (n ≡ k → is_numbered (record { who = w; moment = t; deed = d; rules = q }) ≡ true → o ≡ sent_of d)
    → function_sent (find (is_sent n) (sent_by k d ++ sent_on j M)) ≡ o
entry_sent n k j w t Enrolled q M o le is later here = later (omega (arith, is, le))
entry_sent n k j w t (Received text) q M o le is later here = elim (cases_lt k n) [
  | inl lt ↦ later (omega (arith, is, lt))
  | inr ge ↦ ap function_sent (none_sent n j M (omega (arith, is, ge, le))) ∙ sym (here (omega (arith, ge, le)) refl)
]
entry_sent n k j w t (Performed ticket act) q M o le is later here = elim (cases_lt k n) [
  | inl lt ↦
      ap (λ (b : Bool). function_sent (cond b (Some (k, act_function act)) (find (is_sent n) (sent_on j M)))) (ne_eqb k n (λ same. absurd (omega (arith, same, lt))))
      ∙ later (omega (arith, is, lt))
  | inr ge ↦
      let same : n ≡ k = omega (arith, ge, le) in
      ap (λ (b : Bool). function_sent (cond b (Some (k, act_function act)) (find (is_sent n) (sent_on j M)))) (eq-eqb k n (sym same)) ∙ sym (here same refl)
]

found_sent : (n : ℕ) (before M : List Entry) → Along1 (λ (N : List Entry) (e : Entry). IsDone N e.deed) before M → next_number before ≤ n
    → function_sent (find (is_sent n) (sent_on (next_number before) M)) ≡ sent_under n (events (before ++ M))
found_sent n before [] done le = sym (sent_above before n le) ∙ ap (λ (N : List Entry). sent_under n (events N)) (sym (append-nil before))
found_sent n before (e ∷ M) done le =
    let k = next_number before in
    let j = k + (if is_numbered e then 1 else 0) in
    entry_sent n k j e.who e.moment e.deed e.rules M (sent_under n (events (before ++ e ∷ M))) le refl
    (λ l. ap (λ (i : ℕ). function_sent (find (is_sent n) (sent_on i M))) (sym (next_snoc before e))
    ∙ found_sent n (before ++ e ∷ []) M done.1 (omega (arith, next_snoc before e, l))
    ∙ ap (λ (N : List Entry). sent_under n (events N)) (append_assoc before (e ∷ []) M))
    (λ same numbered. ap (λ (m : ℕ). sent_under m (events (before ++ e ∷ M))) same ∙ sent_at before e M numbered done.0)

all_sent : (n : ℕ) (M : List Entry) → Along1 (λ (N : List Entry) (e : Entry). IsDone N e.deed) [] M → function_sent (find (is_sent n) (sent_on 1 M)) ≡ sent_under n (events M)
all_sent n M done = elim (cases_lt 0 n) [
  | inl lt ↦ found_sent n [] M done (omega (arith, lt))
  | inr ge ↦
      let zero_is : n ≡ 0 = omega (arith, ge) in
      ap function_sent (none_sent n 1 M (omega (arith, ge))) ∙ sym (sent_kept no_history M n (omega (arith, ge)))
]

-- Documents.

abbrev document_said : List Event → SentOne → PageDocument
document_said es d = record { n = d.0; function = d.1; said = said_of es d.0 d.1 }

document_found : (es : List Event) (n : ℕ) (sent : List SentOne) → document_at n (documents_of es sent) ≡ option_map (document_of es n) (function_sent (find (is_sent n) sent))
document_found es n [] = refl
document_found es n (d ∷ sent) = by (d.0 == n) refl (document_found es n sent)
  where
    by : (b : Bool) → (d.0 == n) ≡ b → document_at n (documents_of es sent) ≡ option_map (document_of es n) (function_sent (find (is_sent n) sent))
        → cond b (Some (document_said es d)) (document_at n (documents_of es sent)) ≡ option_map (document_of es n) (function_sent (cond b (Some d) (find (is_sent n) sent)))
    by true e later = ap (λ (m : ℕ). Some (document_of es m d.1)) (eqb-true d.0 n e)
    by false e later = later

documents_rise : (M : List Entry) → rises_by nat_lt entry_of (documents_of (events M) (sent_on 1 M)) ≡ true
documents_rise M = rises_map nat_lt (document_said (events M)) (λ (d : SentOne). d.0) entry_of (λ d. refl) (sent_on 1 M) ∙ sent_rises 1 M

documents_are : (p : PageFacts) (M : List Entry) → AreSorted p → Shows p (events M) → Along1 (λ (N : List Entry) (e : Entry). IsDone N e.deed) [] M
    → p.documents ≡ documents_of (events M) (sent_on 1 M)
documents_are p M sorted shows done =
    same_found nat_lt numbers_strict entry_of is_document document_test p.documents (documents_of (events M) (sent_on 1 M)) sorted.documents (documents_rise M)
    (λ n. shows.documents n ∙ ap (option_map (document_of (events M) n)) (sym (all_sent n M done)) ∙ sym (document_found (events M) n (sent_on 1 M)))

-- a page in order, of own entries of a legal register
pub page_is_defined : (r : Rules) (W : Who) (L : List Entry) (w : Who) (p : PageFacts) → IsLegal r W L → AreSorted p → IsPageOf p (history (own L w)) → IsDefined p (page_of (own L w))
page_is_defined r W L w p legal sorted of =
    let M = own L w in
    record {
      rows = rows_in_order p (events M) sorted.rows of.shows;
      advices = advices_are_page p (events M) sorted of.shows (advices_once M);
      orders = orders_are_page p (events M) sorted of.shows (orders_once M);
      documents = documents_are p M sorted of.shows (done_own r W L w legal);
      entries = of.entries;
    }

-- The page of any entries stands in order.

abbrev line_key : Line → List ℕ × List ℕ
line_key l = (l.item, l.lot)

rows_rise : (es : List Event) → IsSorted (running_rows es)
rows_rise es =
    rises_map key_before (lot_row es) line_key row_key (λ l. refl) (in_order pair_before (flat_map named es))
    ∙ order_rises key_before pairs_strict line_key (flat_map named es)

pub page_in_order : (M : List Entry) → AreSorted (facts_of (page_of M))
page_in_order M = record { rows = rows_rise (events M); advices = advices_rise (events M); orders = orders_rise (events M); documents = documents_rise M }

-- a page that is the defined one, at rest
pub defined_is : (p : PageFacts) (P : Page) → p.recent ≡ 0 → IsDefined p P → p ≡ facts_of P
defined_is p P rest is = λ i. record { rows = is.rows i; advices = is.advices i; orders = is.orders i; documents = is.documents i; entries = is.entries i; recent = rest i }
