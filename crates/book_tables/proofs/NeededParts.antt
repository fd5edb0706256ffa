-- The part that is needed of a page is put together of what is sought.
use Rattle.std.proofs.Common.{◌≡◌, ◌==◌, ◌||◌, ◌++◌, ℕ, Bool, true, false, not, List, [], ◌∷◌, Some, None, length, refl, sym, ap, ◌∙◌, subst, arith, inl, inr}
use Rattle.std.specs.Prelude.{bytes_eq, if◌then◌else◌}
use Rattle.std.proofs.lemmas.Bool.{cases_Bool, eqb-true}
use Rattle.std.proofs.lemmas.List.Folds.{list_any-append}
use Rattle.std.proofs.lemmas.Slice.Eq.{bytes_eq-Decides}
use Rattle.definitions.specs.Rules.{Today}
use Rattle.definitions.specs.Accepted.{IsLegal}
use Rattle.definitions.specs.Bytes.{is_one_of}
use Rattle.definitions.specs.Decision.{standing}
use Rattle.definitions.specs.Header.{Who}
use Rattle.definitions.specs.History.{History, history}
use Rattle.definitions.specs.Need.{Need, is_number_of, part}
use Rattle.definitions.specs.Page.{page_of}
use Rattle.definitions.specs.Register.{Entry, own}
use Rattle.rules.specs.Pages.{IsSound, PageFacts}
use Rattle.rules.specs.Parts.{Named}
use Rattle.rules.proofs.PageLemmas.{blank_sound}
use Rattle.rules.proofs.PartLaws.{part_is_part, part_sound}
use Rattle.rules.specs.Decided.{IsHeldPart, IsPageOf}
use Rattle.rules.specs.LegalPages.{IsLegalPage}
use Rattle.rules.specs.Naming.{facts_of, named_of}
use Rattle.rules.proofs.Defines.{defined_is, page_in_order, page_is_defined}
use Rattle.rules.proofs.LegalPages.{legal_page}
use Rattle.rules.proofs.NeedNames.{closed}
use Rattle.store.specs.Held.{IsHeld}
use Rattle.book_tables.specs.Needed.{needed_part, with_number, with_numbers, with_text, with_texts}
use Rattle.book_tables.specs.declared.needed.Sought.{Sought}
use Rattle.book_tables.specs.declared.needed.Sought.TheVariants.{Advice, Order, Lots}

-- What is named, one after another.

same_both : (s t : List ℕ) → bytes_eq s t ≡ bytes_eq t s
same_both s t = elim (cases_Bool (bytes_eq s t)) [
  | inl e ↦ e ∙ sym ((bytes_eq-Decides t s).1 (sym ((bytes_eq-Decides s t).0 e)))
  | inr e ↦ elim (cases_Bool (bytes_eq t s)) [
    | inl f ↦ let back = (bytes_eq-Decides s t).1 (sym ((bytes_eq-Decides t s).0 f)) in absurd (cc (e, back))
    | inr f ↦ e ∙ sym f
  ]
]

or_false : (a : Bool) → (a || false) ≡ a
or_false true = refl
or_false false = refl

or_later : (a b c d : Bool) → d ≡ (b || (c || false)) → ((a || b) || c) ≡ (a || d)
or_later true b c d h = refl
or_later false true c d h = sym h
or_later false false c d h = sym (h ∙ or_false c)

text_more : (p : List ℕ → Bool) (ss : List (List ℕ)) (s t : List ℕ) → ((p t || is_one_of ss t) || bytes_eq s t) ≡ (p t || is_one_of (ss ++ s ∷ []) t)
text_more p ss s t =
    ap (λ (b : Bool). (p t || is_one_of ss t) || b) (same_both s t)
    ∙ or_later (p t) (is_one_of ss t) (bytes_eq t s) (is_one_of (ss ++ s ∷ []) t) (list_any-append (bytes_eq t) ss (s ∷ []))

pub texts_more : (sought : Sought) (ss : List (List ℕ)) (s : List ℕ) (n : Named) → with_text sought s (with_texts sought ss n) ≡ with_texts sought (ss ++ s ∷ []) n
texts_more Advice ss s n = λ i. record n { shipments = λ t. text_more n.shipments ss s t i }
texts_more Order ss s n = λ i. record n { orders = λ t. text_more n.orders ss s t i }
texts_more Lots ss s n = λ i. record n { items = λ t. text_more n.items ss s t i }

pub texts_none : (sought : Sought) (n : Named) → with_texts sought [] n ≡ n
texts_none Advice n = λ i. record n { shipments = λ t. or_false (n.shipments t) i }
texts_none Order n = λ i. record n { orders = λ t. or_false (n.orders t) i }
texts_none Lots n = λ i. record n { items = λ t. or_false (n.items t) i }

number_last : (ms : List ℕ) (m j : ℕ) → is_number_of (ms ++ m ∷ []) j ≡ (is_number_of ms j || ((m == j) || false))
number_last [] m j = refl
number_last (k ∷ ms) m j = by (k == j) (number_last ms m j)
  where
    by : (b : Bool) → is_number_of (ms ++ m ∷ []) j ≡ (is_number_of ms j || ((m == j) || false))
        → (b || is_number_of (ms ++ m ∷ []) j) ≡ ((b || is_number_of ms j) || ((m == j) || false))
    by true h = refl
    by false h = h

pub numbers_more : (ms : List ℕ) (m : ℕ) (n : Named) → with_number m (with_numbers ms n) ≡ with_numbers (ms ++ m ∷ []) n
numbers_more ms m n = λ i. record n { documents = λ j. or_later (n.documents j) (is_number_of ms j) (m == j) (is_number_of (ms ++ m ∷ []) j) (number_last ms m j) i }

pub numbers_none : (n : Named) → with_numbers [] n ≡ n
numbers_none n = λ i. record n { documents = λ j. or_false (n.documents j) i }

-- The page of a depositor of a legal register.

legal_is : (W : Who) (L : List Entry) (w : Who) (h : History) → IsLegal Today W L → standing (own L w) ≡ Some h → h ≡ history (own L w) → IsLegalPage (facts_of (page_of (own L w))) h
legal_is W L w h legal is same =
    let page = legal_page Today W L w h legal is in
    let defined = page_is_defined Today W L w page.0 legal page.1.sound.sorted (subst (IsPageOf page.0) same page.1.page) in
    subst (λ (p : PageFacts). IsLegalPage p h) (defined_is page.0 (page_of (own L w)) page.1.rest defined) page.1

some_entries : (k : Entry) (M : List Entry) → (length (k ∷ M) == 0) ≡ false
some_entries k M = elim (cases_Bool (length (k ∷ M) == 0)) [
  | inl e ↦ absurd (omega (arith, eqb-true (length (k ∷ M)) 0 e))
  | inr e ↦ e
]

pub sound_page : (W : Who) (L : List Entry) (w : Who) → IsLegal Today W L → IsSound (facts_of (page_of (own L w)))
sound_page W L w legal = by (own L w) refl
  where
    by : (M : List Entry) → own L w ≡ M → IsSound (facts_of (page_of (own L w)))
    by [] e = subst (λ (N : List Entry). IsSound (facts_of (page_of N))) (sym e) blank_sound
    by (k ∷ M) e =
        let none : (length (own L w) == 0) ≡ false = ap (λ (N : List Entry). length N == 0) e ∙ some_entries k M in
        let some : standing (own L w) ≡ Some (history (own L w)) = ap (λ (b : Bool). if b then None else Some (history (own L w))) none in
        (legal_is W L w (history (own L w)) legal some refl).sound

-- what is needed of it is a page
pub sound_part : (W : Who) (L : List Entry) (w : Who) (need : Need) → IsLegal Today W L → IsSound (facts_of (part (page_of (own L w)) need))
sound_part W L w need legal =
    let P = facts_of (page_of (own L w)) in
    let sound = sound_page W L w legal in
    part_sound (named_of need P) P (closed P sound need) sound

held_by : (need : Need) (p : PageFacts) (h : History) (b : Bool) → b ≡ false → IsHeldPart need p h → IsHeld need (if b then None else Some p) (if b then None else Some h)
held_by need p h true e held = absurd (cc (e))
held_by need p h false e held = held

-- and just what a book hands out
pub held_needed : (W : Who) (L : List Entry) (w : Who) (need : Need) → IsLegal Today W L → IsHeld need (needed_part need L w) (standing (own L w))
held_needed W L w need legal = by (own L w) refl
  where
    by : (M : List Entry) → own L w ≡ M → IsHeld need (needed_part need L w) (standing (own L w))
    by [] e = subst (λ (N : List Entry). IsHeld need (if length N == 0 then None else Some (facts_of (part (page_of N) need))) (standing N)) (sym e) tt
    by (k ∷ M) e =
        let P = facts_of (page_of (own L w)) in
        let none : (length (own L w) == 0) ≡ false = ap (λ (N : List Entry). length N == 0) e ∙ some_entries k M in
        let some : standing (own L w) ≡ Some (history (own L w)) = ap (λ (b : Bool). if b then None else Some (history (own L w))) none in
        let page = legal_is W L w (history (own L w)) legal some refl in
        let held : IsHeldPart need (facts_of (part (page_of (own L w)) need)) (history (own L w)) =
        record { whole = P; sound = page.sound; page = page.page; part = part_is_part (named_of need P) P (page_in_order (own L w)) } in
        held_by need (facts_of (part (page_of (own L w)) need)) (history (own L w)) (length (own L w) == 0) none held

-- of a stranger there is none

pub none_needed : (need : Need) (L : List Entry) (w : Who) → not (length (own L w) == 0) ≡ false → None ≡ needed_part need L w
none_needed need L w h = by (length (own L w) == 0) h
  where
    by : (b : Bool) → not b ≡ false → None ≡ (if b then None else Some (facts_of (part (page_of (own L w)) need)))
    by true g = refl
    by false g = absurd (cc (g))

pub some_needed : (need : Need) (L : List Entry) (w : Who) → not (length (own L w) == 0) ≡ true → Some (facts_of (part (page_of (own L w)) need)) ≡ needed_part need L w
some_needed need L w h = by (length (own L w) == 0) h
  where
    by : (b : Bool) → not b ≡ true → Some (facts_of (part (page_of (own L w)) need)) ≡ (if b then None else Some (facts_of (part (page_of (own L w)) need)))
    by true g = absurd (cc (g))
    by false g = refl
