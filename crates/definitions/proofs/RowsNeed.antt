-- Worked examples of what a command needs of a page.
use Rattle.std.specs.Prelude.{◌≡◌, ℕ, ◌+◌, ◌*◌, List, [], ◌∷◌, ◌++◌, map, take, codes, decimal, flat_map}
use Rattle.std.specs.List.{range_with_len}
use Rattle.std.proofs.Common.{refl}
use Rattle.std.specs.Fmt.{digits}
use Rattle.definitions.specs.declared.rules.Rules.{Rules}
use Rattle.definitions.specs.declared.rules.Rules.TheVariants.{One, Two}
use Rattle.definitions.specs.Moments.{Moment}
use Rattle.definitions.specs.Register.{Count, Command, Interchange, own}
use Rattle.definitions.specs.Page.{Page, page_of}
use Rattle.definitions.specs.Need.{nothing, need_of, need_of_number, part, pairs}
use Rattle.definitions.proofs.Sample.{ACME, received, sends, line, does, book}
use Rattle.definitions.proofs.RowsTrade.{first_order, last_acknowledgment, until_count, until_order, until_pick, second_advice, second_count}

abbrev page_after : Rules → List (Command × Moment) → Page
page_after r cs = page_of (own (book r cs) ACME)

-- what a command loads
abbrev loaded : Rules → List (Command × Moment) → Command × Moment → Page
loaded r cs c = part (page_after r cs) (need_of c.0)

needs : map need_of (Interchange first_order ∷ Interchange last_acknowledgment ∷ second_count.0 ∷ [])
    ≡ record { items = codes "BOLT" ∷ []; shipments = []; orders = codes "ORD1" ∷ []; documents = [] }
    ∷ record { items = []; shipments = []; orders = []; documents = 4 ∷ [] }
    ∷ record { items = codes "BOLT" ∷ codes "BOLT" ∷ []; shipments = codes "SHP2" ∷ []; orders = []; documents = [] }
    ∷ []
unfolding digits
needs = refl

-- a set that is rejected names what stands in it, and one without W06 no shipment; so does a halted
-- text, as far as it goes
faulty_need : need_of (Interchange (received (codes "000000001") (codes "0") (codes "AR") (codes "1") (codes "ST*943*0001~W04*1*EA**SK*NUT~SE*3*0001~")))
    ≡ record { items = codes "NUT" ∷ []; shipments = []; orders = []; documents = [] }
unfolding digits
faulty_need = refl

halted_need : need_of (Interchange (take 106 first_order)) ≡ nothing
unfolding digits
halted_need = refl

-- an advice of n items, and its count
abbrev other_advice : ℕ → ℕ → Command × Moment
other_advice n k = sends (received (codes "00000090" ++ decimal k) (codes "0") (codes "AR") (codes "9")
    (codes "ST*943*0001~W06*F*PO9*20250303*OTHER" ++ decimal k ++ codes "~"
    ++ flat_map (λ i. codes "W04*1*EA**SK*NUT" ++ decimal i ++ codes "~N9*LT*L1~") (range_with_len 1 n)
    ++ codes "W03*" ++ decimal n ++ codes "~SE*" ++ decimal (2 * n + 4) ++ codes "*0001~"))

abbrev other_count : ℕ → ℕ → Command × Moment
other_count n k = does (codes "OTHER" ++ decimal k)
    (Count (codes "OTHER" ++ decimal k) (map (λ i. line (codes "NUT" ++ decimal i) (codes "L1") 1) (range_with_len 1 n)))

abbrev others : ℕ → List (Command × Moment)
others n = flat_map (λ k. other_advice n k ∷ other_count n k ∷ []) (range_with_len 1 3)

-- an order loads the lots of its items alone
one_pair : (r : Rules) → pairs (page_after r (others 9 ++ until_count)) ∷ pairs (loaded r (others 9 ++ until_count) (sends first_order)) ∷ [] ≡ 10 ∷ 1 ∷ []
unfolding digits
one_pair One = refl
one_pair Two = refl

-- a count loads the lots of its advice, also those that its sheet doesn't name
advised_lots : (r : Rules) → map (λ l. l.item ++ codes " " ++ l.lot) (loaded r (others 2 ++ sends second_advice ∷ []) second_count).rows
    ≡ codes "BOLT L1" ∷ codes "NUT L9" ∷ []
unfolding digits
advised_lots One = refl
advised_lots Two = refl

-- an acknowledgment loads its document, and no lots
document_alone : (r : Rules) → (loaded r until_pick (sends last_acknowledgment)).rows ≡ []
unfolding digits
document_alone One = refl
document_alone Two = refl

numbers_loaded : (r : Rules) → map (λ d. d.n) (loaded r until_pick (sends last_acknowledgment)).documents ≡ 4 ∷ []
unfolding digits
numbers_loaded One = refl
numbers_loaded Two = refl

-- a picking sheet's order alone comes with its lots
order_alone : (r : Rules) → map (λ o. o.number) (part (page_after r until_order) (need_of_number (codes "ORD1"))).orders ≡ codes "ORD1" ∷ []
unfolding digits
order_alone One = refl
order_alone Two = refl
