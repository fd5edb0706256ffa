-- A depositor's part of a table: the rows that begin with its text are those of its own entries,
-- and a stranger has none.
use Rattle.std.proofs.Common.{◌≡◌, ℕ, Bool, true, false, not, List, [], ◌∷◌, ◌++◌, map, filter, flat_map, length, bytes_eq, refl, sym, ap, ◌∙◌, inl, inr, arith}
use Rattle.std.specs.Prelude.{◌==◌, if◌then◌else◌}
use Rattle.std.specs.List.{list_all}
use Rattle.std.proofs.lemmas.Bool.{and_parts, both_ways, eqb-true}
use Rattle.std.proofs.lemmas.List.Elements.{filter-append}
use Rattle.std.proofs.lemmas.Grind.{flat_map-append}
use Rattle.sqlite_rules.specs.Lists.{Has}
use Rattle.sqlite_rules.proofs.ListLemmas.{test_has}
use Rattle.definitions.specs.Rules.{Today}
use Rattle.definitions.specs.Bytes.{comes_before}
use Rattle.definitions.specs.Header.{Who, is_partner, who_text}
use Rattle.definitions.specs.Register.{Enrolled, Received, Entry, own, is_numbered}
use Rattle.definitions.specs.History.{events}
use Rattle.definitions.specs.Accepted.{IsLegal}
use Rattle.definitions.specs.Rows.{running_rows, outgoing_rows}
use Rattle.definitions.specs.Tables.{Text, TableRow, for_each, outgoing_cells, outgoing_table, stock_cells, stock_table, expiry_cells, lot_expiry_table}
use Rattle.definitions.proofs.TextLaws.{same_text}
use Rattle.rules.specs.Keyed.{rises_by}
use Rattle.rules.proofs.Orders.{IsStrict}
use Rattle.rules.proofs.Blocks.{prefixed, blocks}
use Rattle.rules.proofs.Depositors.{IsAmong, among}
use Rattle.rules.proofs.TableSteps.{text_apart}

-- a row of the depositor with this text
abbrev pub begins : List ℕ → TableRow → Bool
begins t (Text s ∷ cells) = bytes_eq s t
begins t row = false

others_gone : (t s : List ℕ) (rs : List TableRow) → bytes_eq s t ≡ false → filter (begins t) (prefixed s rs) ≡ []
others_gone t s [] h = refl
others_gone t s (r ∷ rs) h = ap (λ (b : Bool). if b then (Text s ∷ r) ∷ filter (begins t) (prefixed s rs) else filter (begins t) (prefixed s rs)) h ∙ others_gone t s rs h

own_kept : (t : List ℕ) (rs : List TableRow) → filter (begins t) (prefixed t rs) ≡ prefixed t rs
own_kept t [] = refl
own_kept t (r ∷ rs) = λ i. if same_text t i then (Text t ∷ r) ∷ own_kept t rs i else filter (begins t) (prefixed t rs)

-- depositors before or after another have none of its rows
below_gone : (t : List ℕ) (rows : Who → List TableRow) (ws : List Who) → list_all (λ (w : Who). comes_before (who_text w) t) ws ≡ true → filter (begins t) (blocks who_text rows ws) ≡ []
below_gone t rows [] h = refl
below_gone t rows (w ∷ ws) h =
    let a = and_parts (comes_before (who_text w) t) (list_all (λ (v : Who). comes_before (who_text v) t) ws) h in
    filter-append (begins t) (prefixed (who_text w) (rows w)) (blocks who_text rows ws)
    ∙ (λ i. others_gone t (who_text w) (rows w) (text_apart (who_text w) t (inl a.0)) i ++ below_gone t rows ws a.1 i)

above_gone : (t : List ℕ) (rows : Who → List TableRow) (ws : List Who) → list_all (λ (w : Who). comes_before t (who_text w)) ws ≡ true → filter (begins t) (blocks who_text rows ws) ≡ []
above_gone t rows [] h = refl
above_gone t rows (w ∷ ws) h =
    let a = and_parts (comes_before t (who_text w)) (list_all (λ (v : Who). comes_before t (who_text v)) ws) h in
    filter-append (begins t) (prefixed (who_text w) (rows w)) (blocks who_text rows ws)
    ∙ (λ i. others_gone t (who_text w) (rows w) (text_apart (who_text w) t (inr a.0)) i ++ above_gone t rows ws a.1 i)

-- an entry that the depositor could have next
next_of : Who → Bool → Entry
next_of who none = record { who = who; moment = record { year = 2000; month = 1; day = 1; hour = 0; minute = 0 }; deed = if none then Enrolled else Received []; rules = Today }

numbered_next : (who : Who) (none : Bool) → is_numbered (next_of who none) ≡ not none
unfolding next_of
numbered_next who true = refl
numbered_next who false = refl

none_empty : (M : List Entry) → (length M == 0) ≡ true → M ≡ []
none_empty [] h = refl
none_empty (e ∷ M) h = absurd (omega (arith, eqb-true (length (e ∷ M)) 0 h))

nil_right : {X : Type 0} (xs : List X) → xs ++ [] ≡ xs
nil_right [] = refl
nil_right {X} (x ∷ xs) = ap (λ (ys : List X). x ∷ ys) (nil_right xs)

-- the rows of a partner in a table that has none for no entries
pub part_of : (W : Who) (L : List Entry) (who : Who) (rows : List Entry → List TableRow) → IsLegal Today W L → is_partner who ≡ true → rows [] ≡ []
    → filter (begins (who_text who)) (for_each L rows) ≡ prefixed (who_text who) (rows (own L who))
unfolding next_of
part_of W L who rows legal partner nothing = by (length (own L who) == 0) refl
  where
    t : List ℕ
    t = who_text who

    its : Who → List TableRow
    its w = rows (own L w)

    -- what is left of three parts
    middle : (front old back : List Who) → list_all (λ (w : Who). comes_before (who_text w) t) front ≡ true → list_all (λ (w : Who). comes_before t (who_text w)) back ≡ true
        → filter (begins t) (blocks who_text its (front ++ (old ++ back))) ≡ filter (begins t) (blocks who_text its old)
    middle front old back below above =
        ap (filter (begins t)) (flat_map-append (λ (w : Who). prefixed (who_text w) (its w)) front (old ++ back))
        ∙ filter-append (begins t) (blocks who_text its front) (blocks who_text its (old ++ back))
        ∙ (λ i. below_gone t its front below i ++ filter (begins t) (flat_map-append (λ (w : Who). prefixed (who_text w) (its w)) old back i))
        ∙ filter-append (begins t) (blocks who_text its old) (blocks who_text its back)
        ∙ (λ i. filter (begins t) (blocks who_text its old) ++ above_gone t its back above i)
        ∙ nil_right (filter (begins t) (blocks who_text its old))

    by : (none : Bool) → (length (own L who) == 0) ≡ none → filter (begins t) (for_each L rows) ≡ prefixed t (rows (own L who))
    by none is =
        let e = next_of who none in
        let at : IsAmong L e = among Today W L e legal partner (numbered_next who none ∙ ap not (sym is)) in
        ap (λ (ws : List Who). filter (begins t) (blocks who_text its ws)) at.here ∙ middle at.front at.old at.back at.below at.above
        ∙ ap (λ (ws : List Who). filter (begins t) (blocks who_text its ws)) at.old_is ∙ last none is
      where
        last : (none : Bool) → (length (own L who) == 0) ≡ none → filter (begins t) (blocks who_text its (if is_numbered (next_of who none) then who ∷ [] else [])) ≡ prefixed t (rows (own L who))
        last true h = sym (ap (λ (M : List Entry). prefixed t (rows M)) (none_empty (own L who) h) ∙ ap (prefixed t) nothing)
        last false h = ap (filter (begins t)) (nil_right (prefixed t (its who))) ∙ own_kept t (its who)

-- a partner's rows of stock are the running rows of its own entries
pub stock_part : (W : Who) (L : List Entry) (who : Who) → IsLegal Today W L → is_partner who ≡ true
    → filter (begins (who_text who)) (stock_table L) ≡ prefixed (who_text who) (map stock_cells (running_rows (events (own L who))))
stock_part W L who legal partner = part_of W L who (λ M. map stock_cells (running_rows (events M))) legal partner refl

-- and so its dates
pub dates_part : (W : Who) (L : List Entry) (who : Who) → IsLegal Today W L → is_partner who ≡ true
    → filter (begins (who_text who)) (lot_expiry_table L) ≡ prefixed (who_text who) (flat_map expiry_cells (running_rows (events (own L who))))
dates_part W L who legal partner = part_of W L who (λ M. flat_map expiry_cells (running_rows (events M))) legal partner refl

-- and what went out
pub outgoing_part : (W : Who) (L : List Entry) (who : Who) → IsLegal Today W L → is_partner who ≡ true
    → filter (begins (who_text who)) (outgoing_table W L) ≡ prefixed (who_text who) (map outgoing_cells (outgoing_rows W (own L who)))
outgoing_part W L who legal partner = part_of W L who (λ M. map outgoing_cells (outgoing_rows W M)) legal partner refl

-- two lists that rise strictly by one key and hold the same are equal
module _ {X K : Type 0} (less : K → K → Bool) (strict : IsStrict less) (key : X → K) where
  both_before : (x y : X) → less (key x) (key y) ≡ true → less (key y) (key x) ≡ true → ⊥
  both_before x y h g = both_ways (less (key x) (key x)) (strict.never (key x)) (strict.through (key x) (key y) (key x) h g)

  -- what stands in a list after x isn't x
  back : (x y : X) (xs : List X) → list_all (λ z. less (key x) (key z)) xs ≡ true → Has xs y → x ≡ y → ⊥
  back x y xs h there same =
      let later = test_has (λ z. less (key x) (key z)) xs y h there in
      both_ways (less (key x) (key x)) (strict.never (key x)) (ap (λ (z : X). less (key x) (key z)) same ∙ later)

  pub same_rising : (xs ys : List X) → rises_by less key xs ≡ true → rises_by less key ys ≡ true → ((x : X) → Has xs x → Has ys x) → ((x : X) → Has ys x → Has xs x) → xs ≡ ys
  same_rising [] [] p q f g = refl
  same_rising [] (y ∷ ys) p q f g = absurd (g y (inl refl))
  same_rising (x ∷ xs) [] p q f g = absurd (f x (inl refl))
  same_rising (x ∷ xs) (y ∷ ys) p q f g =
      let a = and_parts (list_all (λ z. less (key x) (key z)) xs) (rises_by less key xs) p in
      let b = and_parts (list_all (λ z. less (key y) (key z)) ys) (rises_by less key ys) q in
      let same : x ≡ y = elim (f x (inl refl)) [
        | inl e ↦ e
        | inr here ↦ elim (g y (inl refl)) [
          | inl e ↦ sym e
          | inr there ↦ absurd (both_before x y (test_has (λ z. less (key x) (key z)) xs y a.0 there) (test_has (λ z. less (key y) (key z)) ys x b.0 here))
        ]
      ] in
      let tails : xs ≡ ys = same_rising xs ys a.1 b.1
      (λ z h. elim (f z (inr h)) [ inl e ↦ absurd (back x z xs a.0 h (same ∙ sym e)) | inr k ↦ k ])
      (λ z h. elim (g z (inr h)) [ inl e ↦ absurd (back y z ys b.0 h (sym same ∙ sym e)) | inr k ↦ k ]) in
      λ i. same i ∷ tails i
