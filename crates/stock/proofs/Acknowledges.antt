-- A page after an acknowledgment.
use Rattle.std.proofs.Common.{◌≡◌, ℕ, ◌+◌, ◌<◌, Bool, true, false, ◌&&◌, ◌||◌, cond, eqb, ltb, leb, List, [], ◌∷◌, ◌++◌, refl, ap, sym, ◌∙◌, subst, arith, inl, inr, Option, Some, None}
use Rattle.std.proofs.lemmas.Bool.{cases_Bool, and_parts, eqb-true, eqb-false, eq-eqb, leb-true, leb-false, lt-ltb, le-ltb}
use Rattle.std.proofs.lemmas.List.{append-nil}
use Rattle.std.proofs.lemmas.Grind.{flat_map-append}
use Rattle.std.specs.Prelude.{bytes_eq, option_map, flat_map, find, is_none, nat_lt}
use Rattle.std.specs.List.{list_any, list_all}
use Rattle.definitions.specs.Limits.{most_sets}
use Rattle.definitions.specs.Bytes.{comes_before}
use Rattle.definitions.specs.Lists.{or_else}
use Rattle.definitions.specs.Means.{Line, Acknowledgment}
use Rattle.definitions.specs.Rows.{LotRow, named, said_of, acknowledges}
use Rattle.definitions.specs.Page.{PageAdvice, PageOrder, PageDocument}
use Rattle.definitions.specs.Events.{Event, Acknowledged, count_naming, date_naming}
use Rattle.definitions.specs.Movements.{OnHand, Expected, Reservation}
use Rattle.stock.specs.declared.steps.Change.TheVariants as change
use Rattle.page_rows.specs.OfPairs.{of_pair, date_of_pair, one, amount, since, named_by, positive}
use Rattle.page_rows.specs.Keyed.{rises_by, key_before, row_key, shipment_of, number_of, entry_of}
use Rattle.page_rows.specs.Pages.{PageFacts, is_document, advice_at, order_at, document_at, awaited, held, IsSound, AreSorted, is_in_lines}
use Rattle.stock.specs.Puts.{put}
use Rattle.stock.specs.Parts.{Named, IsPart}
use Rattle.stock.specs.Shows.{Shows, sent_if, sent_under, document_of, is_numbered_within}
use Rattle.page_rows.specs.Steps.{decides, heard, said_of_found, IsAcknowledged}
use Rattle.stock.specs.Stops.{document_changes}
use Rattle.page_rows.proofs.Finds.{first_found_push, found_says}
use Rattle.page_rows.proofs.Keys.{find_above}
use Rattle.page_rows.proofs.KeyLemmas.{numbers_strict, document_test, document_put, said_sorted, sorted_distinct, advices_once, orders_once, documents_once}
use Rattle.stock.proofs.Moves.{came_push, went_push}
use Rattle.stock.proofs.PageLemmas.{all_numbered_same, own_number}
use Rattle.stock.proofs.Events.{found_kept, all_push, advice_kept, order_kept, shares_kept, counted_kept, picked_kept}

pub acknowledged_sound : (a : Acknowledgment) (old new : PageFacts) → IsAcknowledged a old new → old.recent < most_sets → IsSound old → IsSound new
acknowledged_sound a old new step room sound = record {
  sorted = sorted;
  distinct = sorted_distinct new.rows sorted.rows;
  expected = λ x y. omega (arith, ap (of_pair (amount Expected) x y) step.rows, sound.expected x y, ap (λ (ks : List PageAdvice). awaited ks x y) step.advices);
  reserved = λ x y. omega (arith, ap (of_pair (amount Reservation) x y) step.rows, sound.reserved x y, ap (λ (ks : List PageOrder). held ks x y) step.orders);
  in_lines = ap (list_all is_in_lines) step.orders ∙ sound.in_lines;
  covered = λ x y. omega (arith, ap (of_pair (amount Reservation) x y) step.rows, ap (of_pair (amount OnHand) x y) step.rows, sound.covered x y);
  bounded = λ c x y. omega (arith, ap (of_pair (amount c) x y) step.rows, sound.bounded c x y, step.next.entries, step.next.recent);
  numbered = omega (arith, sound.numbered, step.next.entries);
  few = omega (arith, step.next.recent);
  advices_once = advices_once new.advices sorted.advices;
  orders_once = orders_once new.orders sorted.orders;
  documents_once = documents_once new.documents sorted.documents;
}
  where
    sorted : AreSorted new
    sorted = record {
      rows = ap (rises_by key_before row_key) step.rows ∙ sound.sorted.rows;
      advices = ap (rises_by comes_before shipment_of) step.advices ∙ sound.sorted.advices;
      orders = ap (rises_by comes_before number_of) step.orders ∙ sound.sorted.orders;
      documents = step.sorted;
    }

-- What an acknowledgment decides.

-- no document decides another
any_none : {X : Type 0} (p q : X → Bool) (xs : List X) → ((x : X) → q x ≡ true → p x ≡ true) → find p xs ≡ None → list_any q xs ≡ false
any_none p q [] within none = refl
any_none {X} p q (x ∷ xs) within none = elim (cases_Bool (p x)) [
  | inl e ↦ let g : Some x ≡ None = ap (λ (v : Bool). cond v (Some x) (find p xs)) (sym e) ∙ none in absurd (cc)
  | inr e ↦ elim (cases_Bool (q x)) [
    | inl f ↦ let d : true ≡ false = sym (within x f) ∙ e in absurd (cc)
    | inr f ↦ rw f (any_none p q xs within (ap (λ (v : Bool). cond v (Some x) (find p xs)) (sym e) ∙ none))
  ]
]

decides_that : (k : ℕ) (a : Acknowledgment) (d : PageDocument) → decides k a d ≡ true → is_document a.document d ≡ true
decides_that k a d h =
    let b = and_parts (leb d.n k && eqb a.document d.n && bytes_eq a.function d.function) (is_none d.said) h in
    let c = and_parts (leb d.n k && eqb a.document d.n) (bytes_eq a.function d.function) b.0 in
    let e = and_parts (leb d.n k) (eqb a.document d.n) c.0 in
    eq-eqb d.n a.document (sym (eqb-true a.document d.n e.1))

pub decides_none : (k : ℕ) (a : Acknowledgment) (ds : List PageDocument) → document_at a.document ds ≡ None → list_any (decides k a) ds ≡ false
decides_none k a ds none = any_none (is_document a.document) (decides k a) ds (λ d. decides_that k a d) none

pub decides_some : (k : ℕ) (a : Acknowledgment) (ds : List PageDocument) (d : PageDocument) → rises_by nat_lt entry_of ds ≡ true → document_at a.document ds ≡ Some d
    → list_any (decides k a) ds ≡ decides k a d
decides_some k a [] d sorted found = absurd (cc)
decides_some k a (x ∷ xs) d sorted found =
    let parts = and_parts (list_all (λ (y : PageDocument). ltb x.n y.n) xs) (rises_by nat_lt entry_of xs) sorted in
    elim (cases_Bool (is_document a.document x)) [
      | inl e ↦
          let g : Some x ≡ Some d = ap (λ (v : Bool). cond v (Some x) (document_at a.document xs)) (sym e) ∙ found in
          let same : x ≡ d = cc in
          let none : document_at a.document xs ≡ None = find_above nat_lt numbers_strict entry_of a.document (is_document a.document) (document_test a.document) xs
          (ap (λ (n : ℕ). list_all (λ (y : PageDocument). ltb n y.n) xs) (sym (eqb-true x.n a.document e)) ∙ parts.0) in
          ap (λ (v : Bool). decides k a x || v) (decides_none k a xs none) ∙ or_false (decides k a x) ∙ ap (decides k a) same
      | inr e ↦
          let no : decides k a x ≡ false = elim (cases_Bool (decides k a x)) [ inl f ↦ let d : true ≡ false = sym (decides_that k a x f) ∙ e in absurd (cc) | inr f ↦ f ] in
          ap (λ (v : Bool). v || list_any (decides k a) xs) no
          ∙ decides_some k a xs d parts.1 (ap (λ (v : Bool). cond v (Some x) (document_at a.document xs)) (sym e) ∙ found)
    ]
  where
    or_false : (v : Bool) → (v || false) ≡ v
    or_false true = refl
    or_false false = refl

not_heard : (k : ℕ) (a : Acknowledgment) (d : PageDocument) → decides k a d ≡ false → heard k a d ≡ d
not_heard k a d h = ap (λ (v : Bool). record d { said = cond v (Some a.accepts) d.said }) h

-- a document under another number hears nothing
other_heard : (k n : ℕ) (a : Acknowledgment) (ds : List PageDocument) → eqb a.document n ≡ false → option_map (heard k a) (document_at n ds) ≡ document_at n ds
other_heard k n a ds apart = by (document_at n ds) refl
  where
    by : (o : Option PageDocument) → document_at n ds ≡ o → option_map (heard k a) o ≡ o
    by None h = refl
    by (Some x) h =
        let number : x.n ≡ n = eqb-true x.n n (found_says (is_document n) ds x h) in
        let no : decides k a x ≡ false = elim (cases_Bool (decides k a x)) [
          | inl f ↦ absurd (eqb-false a.document n apart (sym (eqb-true x.n a.document (decides_that k a x f)) ∙ number))
          | inr f ↦ f
        ] in
        ap Some (not_heard k a x no)

unheard : (k : ℕ) (a : Acknowledgment) (ds : List PageDocument) → option_map (heard k a) (document_at a.document ds) ≡ document_at a.document ds
    → (n : ℕ) → document_at n ds ≡ option_map (heard k a) (document_at n ds)
unheard k a ds own n = elim (cases_Bool (eqb a.document n)) [
  | inl e ↦ subst (λ (m : ℕ). document_at m ds ≡ option_map (heard k a) (document_at m ds)) (eqb-true a.document n e) (sym own)
  | inr e ↦ sym (other_heard k n a ds e)
]

quiet : (a : Acknowledgment) (p : PageFacts) → AreSorted p → option_map (heard p.entries a) (document_at a.document p.documents) ≡ document_at a.document p.documents
    → IsAcknowledged a p (put [] p)
quiet a p sorted own = record {
  rows = refl;
  advices = refl;
  orders = refl;
  documents = unheard p.entries a p.documents own;
  sorted = sorted.documents;
  next = record { entries = refl; recent = refl };
}

decided : (a : Acknowledgment) (p : PageFacts) (d : PageDocument) → AreSorted p → document_at a.document p.documents ≡ Some d → decides p.entries a d ≡ true
    → IsAcknowledged a p (put (change.Document a.document a.accepts ∷ []) p)
decided a p d sorted found yes_it = record {
  rows = refl;
  advices = refl;
  orders = refl;
  documents = λ n. ap (λ (o : Option PageDocument). document_at n (said_of_found o a.accepts p.documents)) found ∙ document_put n said p.documents ∙ at n (eqb d.n n) refl;
  sorted = said_sorted a.document a.accepts p.documents sorted.documents;
  next = record { entries = refl; recent = refl };
}
  where
    said : PageDocument
    said = record d { said = Some a.accepts }

    number : d.n ≡ a.document
    number = eqb-true d.n a.document (found_says (is_document a.document) p.documents d found)

    now : heard p.entries a d ≡ said
    now = ap (λ (v : Bool). record d { said = cond v (Some a.accepts) d.said }) yes_it

    at : (n : ℕ) (v : Bool) → eqb d.n n ≡ v → cond v (Some said) (document_at n p.documents) ≡ option_map (heard p.entries a) (document_at n p.documents)
    at n true e =
        let here : document_at n p.documents ≡ Some d = ap (λ (m : ℕ). document_at m p.documents) (sym (eqb-true d.n n e) ∙ number) ∙ found in
        ap Some (sym now) ∙ ap (option_map (heard p.entries a)) (sym here)
    at n false e = sym (other_heard p.entries n a p.documents (ap (λ (m : ℕ). eqb m n) (sym number) ∙ e))

-- the changes of an acknowledgment make the page that heard it
pub acknowledged_put : (a : Acknowledgment) (p : PageFacts) → AreSorted p → IsAcknowledged a p (put (document_changes p a) p)
acknowledged_put a p sorted = by (document_at a.document p.documents) refl
  where
    made : (v : Bool) → list_any (decides p.entries a) p.documents ≡ v → IsAcknowledged a p (put (cond v (change.Document a.document a.accepts ∷ []) []) p)
        → IsAcknowledged a p (put (document_changes p a) p)
    made v e h = subst (λ (u : Bool). IsAcknowledged a p (put (cond u (change.Document a.document a.accepts ∷ []) []) p)) (sym e) h

    with_it : (d : PageDocument) (v : Bool) → document_at a.document p.documents ≡ Some d → decides p.entries a d ≡ v → IsAcknowledged a p (put (document_changes p a) p)
    with_it d true h e = made true (decides_some p.entries a p.documents d sorted.documents h ∙ e) (decided a p d sorted h e)
    with_it d false h e = made false (decides_some p.entries a p.documents d sorted.documents h ∙ e)
        (quiet a p sorted (ap (option_map (heard p.entries a)) h ∙ ap Some (not_heard p.entries a d e) ∙ sym h))

    by : (o : Option PageDocument) → document_at a.document p.documents ≡ o → IsAcknowledged a p (put (document_changes p a) p)
    by None h = made false (decides_none p.entries a p.documents h) (quiet a p sorted (ap (option_map (heard p.entries a)) h ∙ sym h))
    by (Some d) h = with_it d (decides p.entries a d) h refl

-- what an acknowledgment changes on a part
pub document_part : (n : Named) (p P : PageFacts) (a : Acknowledgment) → IsPart n p P → AreSorted p → n.documents a.document ≡ true → document_changes p a ≡ document_changes P a
document_part n p P a part sorted is = ap (λ (v : Bool). cond v (change.Document a.document a.accepts ∷ []) []) (by (document_at a.document p.documents) refl)
  where
    by : (o : Option PageDocument) → document_at a.document p.documents ≡ o → list_any (decides p.entries a) p.documents ≡ list_any (decides P.entries a) P.documents
    by None h = decides_none p.entries a p.documents h ∙ sym (decides_none P.entries a P.documents (sym (part.documents a.document is) ∙ h))
    by (Some d) h = decides_some p.entries a p.documents d sorted.documents h ∙ ap (λ (m : ℕ). decides m a d) part.entries
        ∙ sym (decides_some P.entries a P.documents d part.sorted.documents (sym (part.documents a.document is) ∙ h))

lt_le : (m k : ℕ) → ltb m (k + 1) ≡ leb m k
lt_le m k = elim (cases_Bool (leb m k)) [
  | inl e ↦ lt-ltb m (k + 1) (omega (arith, leb-true m k e)) ∙ sym e
  | inr e ↦ le-ltb m (k + 1) (omega (arith, leb-false m k e)) ∙ sym e
]

first_said : (v accepts : Bool) (o : Option Bool) → cond (v && is_none o) (Some accepts) o ≡ or_else o (cond v (Some accepts) None)
first_said true accepts (Some x) = refl
first_said false accepts (Some x) = refl
first_said true accepts None = refl
first_said false accepts None = refl

heard_shown : (es : List Event) (k : ℕ) (a : Acknowledgment) (m : ℕ) (f : List ℕ) → heard k a (document_of es m f) ≡ document_of (es ++ Acknowledged (k + 1) a ∷ []) m f
heard_shown es k a m f = ap (λ (o : Option Bool). record { n = m; function = f; said = o })
    (first_said (leb m k && eqb a.document m && bytes_eq a.function f) a.accepts (said_of es m f)
    ∙ ap (λ (v : Bool). or_else (said_of es m f) (cond (v && eqb a.document m && bytes_eq a.function f) (Some a.accepts) None)) (sym (lt_le m k))
    ∙ sym (first_found_push (acknowledges m f) es (Acknowledged (k + 1) a)))

pub acknowledged_shows : (a : Acknowledgment) (old new : PageFacts) (es : List Event) → IsAcknowledged a old new → Shows old es → Shows new (es ++ Acknowledged (old.entries + 1) a ∷ [])
acknowledged_shows a old new es step shows = let e = Acknowledged (old.entries + 1) a in record {
  amounts = λ c x y. omega (arith, ap (of_pair (amount c) x y) step.rows, shows.amounts c x y, came_push es e c x y, went_push es e c x y);
  sinces = λ x y. found_kept (count_naming x y) es e refl ∙ shows.sinces x y ∙ ap (λ (rows : List LotRow). positive (of_pair since x y rows)) (sym step.rows);
  expiries = λ x y. found_kept (date_naming x y) es e refl ∙ shows.expiries x y ∙ ap (date_of_pair x y) (sym step.rows);
  pairs = λ x y. omega (
    arith,
    ap (of_pair one x y) step.rows,
    shows.pairs x y,
    ap (λ (ls : List Line). named_by ls x y) (flat_map-append named es (e ∷ []) ∙ append-nil (flat_map named es)),
  );
  advices = λ s. ap (advice_at s) step.advices ∙ shows.advices s ∙ advice_kept es e s refl refl;
  orders = λ s. ap (order_at s) step.orders ∙ shows.orders s ∙ order_kept es e s refl refl;
  documents = λ m. step.documents m
      ∙ ap (option_map (heard old.entries a)) (shows.documents m) ∙ by m (sent_under m es)
      ∙ ap (option_map (document_of (es ++ e ∷ []) m)) (sym (found_kept (sent_if m) es e refl));
  counted = λ s. counted_kept es e s refl (shows.counted s);
  picked = λ s. picked_kept es e s refl (shows.picked s);
  shares = λ s. shares_kept es e s refl (shows.shares s);
  numbers = all_push (is_numbered_within (new.entries + 1)) es e (all_numbered_same old.entries new.entries es step.next.entries shows.numbers) (own new step.next.entries);
}
  where
    by : (m : ℕ) (o : Option (List ℕ)) → option_map (heard old.entries a) (option_map (document_of es m) o) ≡ option_map (document_of (es ++ Acknowledged (old.entries + 1) a ∷ []) m) o
    by m (Some f) = ap Some (heard_shown es old.entries a m f)
    by m None = refl

    own : (p : PageFacts) → p.entries ≡ old.entries → is_numbered_within (p.entries + 1) (Acknowledged (old.entries + 1) a) ≡ true
    own p same = own_number (old.entries + 1) (p.entries + 1) (omega (arith, same), omega (arith, same))
