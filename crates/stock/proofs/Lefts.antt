-- What is left of rows' amounts, as lines are taken one by one.
use Rattle.std.proofs.Common.{◌≡◌, ℕ, zero, suc, ◌+◌, ◌<◌, ◌≤◌, Bool, true, false, cond, eqb, List, [], ◌∷◌, length, get_or, set, take, map, refl, sym, ap, ◌∙◌, arith, inl, inr, le-leb}
use Rattle.std.proofs.lemmas.Bool.{cases_Bool, cases_eq, both_ways, eqb-true, eqb-false}
use Rattle.std.proofs.lemmas.List.{get_or-map, get_or-set_same, get_or-set_other, length-set, length-map}
use Rattle.std.specs.Prelude.{nat_le}
use Rattle.definitions.specs.Events.{is_pair, quantity_of}
use Rattle.definitions.specs.Means.{Line}
use Rattle.definitions.specs.Rows.{LotRow}
use Rattle.page_rows.specs.Keyed.{IsSorted}
use Rattle.stock.specs.Left.{IsLeft, IsLess}
use Rattle.page_rows.specs.Moved.{IsPlace}
use Rattle.page_rows.specs.OfPairs.{blank, is_row, one, of_pair}
use Rattle.page_rows.proofs.KeyLemmas.{sorted_distinct}
use Rattle.page_rows.proofs.Pairs.{quantity_no, quantity_yes}
use Rattle.stock.proofs.SoundLaws.{all_open, at_most, every_open, open_pass, opens, taken_next, taken_sum}
use Rattle.page_rows.proofs.Sums.{own_pair, quantity_as, share}
use Rattle.page_rows.proofs.OfPairLemmas.{part_no, part_yes, pair_is, row_as_line, of_pair_absent, of_pair_cons, of_pair_here, of_pair_there}

-- a pair that is told of has a row
pub place_found : (a b : List ℕ) (rows : List LotRow) → 1 ≤ of_pair one a b rows → (i : ℕ) × IsPlace a b rows i
place_found a b [] h = absurd (omega (arith, h))
place_found a b (r ∷ rows) h = elim (cases_Bool (is_row a b r)) [
  | inl e ↦ (0, record { within = omega arith; here = λ d. e })
  | inr e ↦
      let m = place_found a b rows (omega (arith, h, of_pair_cons one a b r rows, part_no one a b r e)) in
      (suc m.0, record { within = omega (arith, m.1.within); here = m.1.here })
]

-- and one row where pairs are distinct
pub place_once : (a b : List ℕ) (rows : List LotRow) (i j : ℕ) → IsPlace a b rows i → IsPlace a b rows j → of_pair one a b rows ≤ 1 → i ≡ j
place_once a b [] i j p q few = absurd (omega (arith, p.within))
place_once a b (r ∷ rows) zero zero p q few = refl
place_once a b (r ∷ rows) zero (suc j) p q few =
    absurd (omega (arith, few, of_pair_cons one a b r rows, part_yes one a b r (p.here r), of_pair_there a b rows j r (omega (arith, q.within)) (q.here r)))
place_once a b (r ∷ rows) (suc i) zero p q few =
    absurd (omega (arith, few, of_pair_cons one a b r rows, part_yes one a b r (q.here r), of_pair_there a b rows i r (omega (arith, p.within)) (p.here r)))
place_once a b (r ∷ rows) (suc i) (suc j) p q few =
    ap suc (place_once a b rows i j (record { within = omega (arith, p.within); here = p.here }) (record { within = omega (arith, q.within); here = q.here })
    (omega (arith, few, of_pair_cons one a b r rows)))

-- at first all is left
pub left_first : (f : LotRow → ℕ) (rows : List LotRow) (left : List ℕ) → IsSorted rows → left ≡ map f rows → IsLeft f (λ a b. 0) rows left
left_first f rows left sorted is = record {
  beside = ap length is ∙ length-map rows f;
  here = λ a b i d place.
      let r : LotRow = blank (record { item = a; lot = b; quantity = 0 }) in
      omega (
        arith,
        ap (λ (l : List ℕ). get_or l i d) is,
        get_or-map f rows i r d place.within,
        of_pair_here f a b rows i r place.within (place.here r) (sorted_distinct rows sorted a b),
      );
  absent = λ a b none. refl;
}

-- what was taken was there
pub left_most : (f : LotRow → ℕ) (taken : List ℕ → List ℕ → ℕ) (rows : List LotRow) (left : List ℕ) → IsLeft f taken rows left → (a b : List ℕ) → taken a b ≤ of_pair f a b rows
left_most f taken rows left is a b = elim (cases_eq (of_pair one a b rows) 0) [
  | inl none ↦ omega (arith, is.absent a b none)
  | inr some ↦ let m = place_found a b rows (omega (arith, some)) in omega (arith, is.here a b m.0 0 m.1)
]

-- ---- one line

given_yes : (a b : List ℕ) (line : Line) → is_pair a b line ≡ true → quantity_of (line ∷ []) a b ≡ line.quantity
given_yes a b line e = omega (arith, quantity_yes a b line [] e)

given_no : (a b : List ℕ) (line : Line) → is_pair a b line ≡ false → quantity_of (line ∷ []) a b ≡ 0
given_no a b line e = quantity_no a b line [] e

given_nothing : (a b : List ℕ) (line : Line) → line.quantity ≡ 0 → quantity_of (line ∷ []) a b ≡ 0
given_nothing a b line none = elim (cases_Bool (is_pair a b line)) [ inl e ↦ given_yes a b line e ∙ none | inr e ↦ given_no a b line e ]

-- of a pair without a row only nothing can be taken
pub less_none : (line : Line) (rows : List LotRow) (left : List ℕ) (enough : Bool) → of_pair one line.item line.lot rows ≡ 0 → enough ≡ eqb line.quantity 0
    → IsLess rows (quantity_of (line ∷ [])) left left enough
less_none line rows left enough none is = record {
  beside = refl;
  went = λ e f taken l.
      let nothing : line.quantity ≡ 0 = eqb-true line.quantity 0 (sym is ∙ e) in record {
        beside = l.beside;
        here = λ a b i d place. omega (arith, l.here a b i d place, given_nothing a b line nothing);
        absent = λ a b gone. omega (arith, l.absent a b gone, given_nothing a b line nothing);
      };
  short = λ e f taken l all.
      let some : line.quantity ≡ 0 → ⊥ = eqb-false line.quantity 0 (sym is ∙ e) in
      absurd (some (omega (
        arith,
        all line.item line.lot,
        of_pair_absent f line.item line.lot rows none,
        given_yes line.item line.lot line (own_pair line),
      )));
}

-- less is left of its row than the line is of
pub less_short : (line : Line) (rows : List LotRow) (left : List ℕ) (i d : ℕ) → IsPlace line.item line.lot rows i → get_or left i d < line.quantity
    → IsLess rows (quantity_of (line ∷ [])) left left false
less_short line rows left i d place less = record {
  beside = refl;
  went = λ e. let no : false ≡ true = e in absurd (cc (no));
  short = λ e f taken l all. absurd (omega (
    arith,
    all line.item line.lot,
    l.here line.item line.lot i d place,
    given_yes line.item line.lot line (own_pair line),
    less,
  ));
}

-- a line is taken from what is left of its row
pub less_taken : (line : Line) (rows : List LotRow) (left : List ℕ) (i d less : ℕ) → IsSorted rows → length left ≡ length rows → IsPlace line.item line.lot rows i
    → less + line.quantity ≡ get_or left i d → IsLess rows (quantity_of (line ∷ [])) left (set left i less) true
less_taken line rows left i d less sorted same place is = record {
  beside = length-set left i less;
  went = λ e f taken l. record {
    beside = length-set left i less ∙ l.beside;
    here = λ a b j z at. elim (cases_Bool (is_pair a b line)) [
      | inl e ↦
          let t = pair_is a b line e in
          let own : IsPlace a b rows i = record { within = place.within; here = λ r. row_as_line a b line (get_or rows i r) (place.here r) ∙ e } in
          let one_place : j ≡ i = place_once a b rows j i at own (sorted_distinct rows sorted a b) in
          omega (
            arith,
            ap (λ (n : ℕ). get_or (set left i less) n z) one_place,
            get_or-set_same left i less z (omega (arith, same, place.within)),
            l.here a b i d own,
            given_yes a b line e,
            is,
          )
      | inr e ↦
          let apart : j ≡ i → ⊥ = λ w.
          let r = blank line in
          let here : is_row a b (get_or rows i r) ≡ true = ap (λ (n : ℕ). is_row a b (get_or rows n r)) (sym w) ∙ at.here r in
          both_ways (is_pair a b line) e (sym (row_as_line a b line (get_or rows i r) (place.here r)) ∙ here) in
          omega (arith, get_or-set_other left i j less z apart, l.here a b j z at, given_no a b line e)
    ];
    absent = λ a b none. elim (cases_Bool (is_pair a b line)) [
      | inl e ↦
          let r = blank line in
          absurd (omega (arith, none, of_pair_there a b rows i r place.within (row_as_line a b line (get_or rows i r) (place.here r) ∙ e)))
      | inr e ↦ omega (arith, l.absent a b none, given_no a b line e)
    ];
  };
  short = λ e. let no : true ≡ false = e in absurd (cc (no));
}

-- ---- one after another

-- nothing is taken
pub less_nothing : (rows : List LotRow) (given : List ℕ → List ℕ → ℕ) (left : List ℕ) → ((a b : List ℕ) → given a b ≡ 0) → IsLess rows given left left true
less_nothing rows given left none = record {
  beside = refl;
  went = λ e f taken l. record {
    beside = l.beside;
    here = λ a b i d place. omega (arith, l.here a b i d place, none a b);
    absent = λ a b gone. omega (arith, l.absent a b gone, none a b);
  };
  short = λ e. let no : true ≡ false = e in absurd (cc (no));
}

-- what is taken, and then something more
pub less_more : (rows : List LotRow) (before next given : List ℕ → List ℕ → ℕ) (old mid new : List ℕ) → ((a b : List ℕ) → given a b ≡ before a b + next a b)
    → IsLess rows before old mid true → IsLess rows next mid new true → IsLess rows given old new true
less_more rows before next given old mid new is first then = record {
  beside = then.beside ∙ first.beside;
  went = λ e f taken l.
      let m = then.went refl f (λ a b. taken a b + before a b) (first.went refl f taken l) in record {
        beside = m.beside;
        here = λ a b i d place. omega (arith, m.here a b i d place, is a b);
        absent = λ a b gone. omega (arith, m.absent a b gone, is a b);
      };
  short = λ e. let no : true ≡ false = e in absurd (cc (no));
}

-- what is taken, and then more than is left
pub less_end : (rows : List LotRow) (before next given : List ℕ → List ℕ → ℕ) (old mid new : List ℕ) → ((a b : List ℕ) → before a b + next a b ≤ given a b)
    → IsLess rows before old mid true → IsLess rows next mid new false → IsLess rows given old new false
less_end rows before next given old mid new is first then = record {
  beside = then.beside ∙ first.beside;
  went = λ e. let no : false ≡ true = e in absurd (cc (no));
  short = λ e f taken l all.
      then.short refl f (λ a b. taken a b + before a b) (first.went refl f taken l) (λ a b. omega (arith, all a b, is a b));
}

-- ---- lines, and what is open

line_share : (a b : List ℕ) (l : Line) → quantity_of (l ∷ []) a b ≡ share a b l
line_share a b l = omega (arith, quantity_as (l ∷ []) a b)

pub line_next : (ls : List Line) (i : ℕ) (l : Line) → i < length ls → l ≡ get_or ls i l → (a b : List ℕ)
    → quantity_of (take (i + 1) ls) a b ≡ quantity_of (take i ls) a b + quantity_of (l ∷ []) a b
line_next ls i l within is a b = omega (
  arith,
  quantity_as (take (i + 1) ls) a b,
  quantity_as (take i ls) a b,
  taken_next (share a b) ls i l within,
  ap (share a b) is,
  line_share a b l,
)

pub line_least : (ls : List Line) (i : ℕ) (l : Line) → i < length ls → l ≡ get_or ls i l → (a b : List ℕ)
    → quantity_of (take i ls) a b + quantity_of (l ∷ []) a b ≤ quantity_of ls a b
line_least ls i l within is a b = omega (
  arith,
  quantity_as ls a b,
  quantity_as (take i ls) a b,
  taken_sum (share a b) ls i l within,
  ap (share a b) is,
  line_share a b l,
)

module _ {X : Type 0} (is_open : X → Bool) (lines : X → List Line) where
  abbrev open_part : List ℕ → List ℕ → X → ℕ
  open_part a b k = cond (is_open k) (quantity_of (lines k) a b) 0

  part_open : (a b : List ℕ) (k : X) → is_open k ≡ true → open_part a b k ≡ quantity_of (lines k) a b
  part_open a b k e = ap (λ (v : Bool). cond v (quantity_of (lines k) a b) 0) e

  part_closed : (a b : List ℕ) (k : X) → is_open k ≡ false → open_part a b k ≡ 0
  part_closed a b k e = ap (λ (v : Bool). cond v (quantity_of (lines k) a b) 0) e

  -- one more that is open
  pub open_more : (rows : List LotRow) (ks : List X) (i : ℕ) (k : X) (old mid new : List ℕ) → i < length ks → k ≡ get_or ks i k → is_open k ≡ true
      → IsLess rows (opens is_open lines (take i ks)) old mid true → IsLess rows (quantity_of (lines k)) mid new true
      → IsLess rows (opens is_open lines (take (i + 1) ks)) old new true
  open_more rows ks i k old mid new within is e first then =
      less_more rows (opens is_open lines (take i ks)) (quantity_of (lines k)) (opens is_open lines (take (i + 1) ks)) old mid new
      (λ a b. omega (arith, taken_next (open_part a b) ks i k within, ap (open_part a b) is, part_open a b k e)) first then

  -- one of which not enough was left
  pub open_end : (rows : List LotRow) (ks : List X) (i : ℕ) (k : X) (old mid new : List ℕ) → i < length ks → k ≡ get_or ks i k → is_open k ≡ true
      → IsLess rows (opens is_open lines (take i ks)) old mid true → IsLess rows (quantity_of (lines k)) mid new false
      → IsLess rows (opens is_open lines ks) old new false
  open_end rows ks i k old mid new within is e first then =
      less_end rows (opens is_open lines (take i ks)) (quantity_of (lines k)) (opens is_open lines ks) old mid new
      (λ a b. omega (arith, taken_sum (open_part a b) ks i k within, ap (open_part a b) is, part_open a b k e)) first then

  -- one that is closed
  pub open_none : (rows : List LotRow) (ks : List X) (i : ℕ) (k : X) (old new : List ℕ) → i < length ks → k ≡ get_or ks i k → is_open k ≡ false
      → IsLess rows (opens is_open lines (take i ks)) old new true → IsLess rows (opens is_open lines (take (i + 1) ks)) old new true
  open_none rows ks i k old new within is e first =
      less_more rows (opens is_open lines (take i ks)) (λ a b. 0) (opens is_open lines (take (i + 1) ks)) old new new
      (λ a b. omega (arith, taken_next (open_part a b) ks i k within, ap (open_part a b) is, part_closed a b k e)) first
      (less_nothing rows (λ a b. 0) new (λ a b. refl))

  -- from the amounts of the rows all can be taken just where each line of what is open passes
  pub taken_once : (f : LotRow → ℕ) (rows : List LotRow) (ks : List X) (left new : List ℕ) (enough : Bool) → IsSorted rows → left ≡ map f rows
      → IsLess rows (opens is_open lines ks) left new enough
      → enough ≡ all_open is_open lines (λ l. nat_le (opens is_open lines ks l.item l.lot) (of_pair f l.item l.lot rows)) ks
  taken_once f rows ks left new true sorted is less =
      let l = less.went refl f (λ a b. 0) (left_first f rows left sorted is) in
      sym (every_open is_open lines (λ l. nat_le (opens is_open lines ks l.item l.lot) (of_pair f l.item l.lot rows))
      (λ m. le-leb _ _ (omega (arith, left_most f (λ a b. 0 + opens is_open lines ks a b) rows new l m.item m.lot))) ks)
  taken_once f rows ks left new false sorted is less =
      let passes : Line → Bool = λ l. nat_le (opens is_open lines ks l.item l.lot) (of_pair f l.item l.lot rows) in
      elim (cases_Bool (all_open is_open lines passes ks)) [
        | inr e ↦ sym e
        | inl e ↦ absurd (less.short refl f (λ a b. 0) (left_first f rows left sorted is) (λ a b. omega (
          arith,
          at_most (opens is_open lines ks a b) (of_pair f a b rows)
              (open_pass is_open lines passes (λ a b. nat_le (opens is_open lines ks a b) (of_pair f a b rows)) (λ l. refl) a b ks e),
        )))
      ]
