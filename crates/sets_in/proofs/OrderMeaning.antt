-- The segments of an order's tree mean what the tree says.
use Rattle.std.proofs.Common.{◌≡◌, ℕ, ◌+◌, Bool, true, false, List, [], ◌∷◌, ◌++◌, length, map, refl, sym, ◌∙◌, ap, cond, Option, option_map, Some, None, arith, append_assoc, length-append}
use Rattle.std.specs.Prelude.{codes, bytes_eq, slice_get, unwrap_or, flat_map, find, IfSome, option_to_list, ◌||◌, ◌&&◌}
use Rattle.std.specs.List.{AllByRecursion, take_while}
use Rattle.std.proofs.lemmas.List.Sums.{take_while-cons}
use Rattle.definitions.specs.Bytes.{value}
use Rattle.definitions.specs.Cut.{Segment, element, id_of, has_id, segment_with, segments_of}
use Rattle.definitions.specs.declared.set_kind.SetKind.TheVariants.{ShippingOrder}
use Rattle.definitions.specs.Means.{Order, OrderLine, Address, order_of, order_line, pin_of, is_ship_to, address_of, ship_to, spaced, segment_at, place_of}
use Rattle.tables.specs.Judged.{Whole, IsUnfaulted}
use Rattle.sets_in.specs.Places.{places_from}
use Rattle.sets_in.specs.SaidOrder.{Party, OrderedGoods, OrderSet, in_party, in_goods, printed, IsParty, IsGoods, IsOrderSet, address_in, lines_at, meaning, SaysOrder}
use Rattle.sets_in.proofs.Places.{with_yes, with_no, from_yes, from_no, first_ship_to, later_ship_to}
use Rattle.sets_in.proofs.Parse.{all_both}
use Rattle.sets_in.proofs.Meaning.{Lacks, is_no, with_skip, from_skip, at}
use Rattle.sets_in.proofs.OrderParse.{Parsed, whole_order, other_if_there, other_in_address, other_in_parties, other_in_goods, other_in_header}
use Rattle.sets_in.proofs.Counted.{passes}

-- Where the order goes.

abbrev belongs : Segment → Bool
belongs s = has_id (codes "N3") s || has_id (codes "N4") s

abbrev Parties : Type 0
Parties = List (Party Segment)

-- segments that are there or not

if_with : (id : List ℕ) (o : Option Segment) (ss : List Segment) → bytes_eq id id ≡ true → IfSome o (λ s. id_of s ≡ id) → segment_with id ss ≡ []
    → segment_with id (option_to_list o ++ ss) ≡ unwrap_or o []
if_with id None ss same h none = none
if_with id (Some s) ss same h none = with_yes id s ss (ap (λ x. bytes_eq x id) h ∙ same)

if_alone : (id : List ℕ) (o : Option Segment) → bytes_eq id id ≡ true → IfSome o (λ s. id_of s ≡ id) → segment_with id (option_to_list o) ≡ unwrap_or o []
if_alone id None same h = refl
if_alone id (Some s) same h = with_yes id s [] (ap (λ x. bytes_eq x id) h ∙ same)

with_none : (id : List ℕ) (ss : List Segment) → Lacks id ss → segment_with id ss ≡ []
with_none id [] h = refl
with_none id (s ∷ ss) h = with_no id s ss h.0 ∙ with_none id ss h.1

if_belongs : (o : Option Segment) (ss : List Segment) → IfSome o (λ s. belongs s ≡ true) → take_while belongs (option_to_list o ++ ss) ≡ option_to_list o ++ take_while belongs ss
if_belongs None ss h = refl
if_belongs (Some s) ss h = take_while-cons belongs s ss ∙ ap (λ (b : Bool). cond b (s ∷ take_while belongs ss) []) h

third_belongs : (o : Option Segment) → IfSome o (λ s. id_of s ≡ codes "N3") → IfSome o (λ s. belongs s ≡ true)
third_belongs None h = tt
third_belongs (Some s) h = ap (λ x. bytes_eq x (codes "N3") || bytes_eq x (codes "N4")) h

fourth_belongs : (o : Option Segment) → IfSome o (λ s. id_of s ≡ codes "N4") → IfSome o (λ s. belongs s ≡ true)
fourth_belongs None h = tt
fourth_belongs (Some s) h = ap (λ x. bytes_eq x (codes "N3") || bytes_eq x (codes "N4")) h

-- nothing in front belongs to the N1 before it
abbrev Closes : List Segment → Type 0
Closes ss = take_while belongs ss ≡ []

closes : (ss : List Segment) → Lacks (codes "N3") ss → Lacks (codes "N4") ss → Closes ss
closes [] h k = refl
closes (s ∷ ss) h k =
    let none : belongs s ≡ false = ap (λ (b : Bool). b || has_id (codes "N4") s) h.0 ∙ k.0 in
    take_while-cons belongs s ss ∙ ap (λ (b : Bool). cond b (s ∷ take_while belongs ss) []) none

parties_close : (ps : Parties) (rest : List Segment) → AllByRecursion (IsParty id_of) ps → Closes rest → Closes (flat_map in_party ps ++ rest)
parties_close [] rest h c = c
parties_close (p ∷ ps) rest h c =
    let after : List Segment = (option_to_list p.n3 ++ option_to_list p.n4 ++ flat_map in_party ps) ++ rest in
    let none : belongs p.n1 ≡ false = ap (λ x. bytes_eq x (codes "N3") || bytes_eq x (codes "N4")) h.0.0 in
    take_while-cons belongs p.n1 after ∙ ap (λ (b : Bool). cond b (p.n1 ∷ take_while belongs after) []) none

address_taken : (p : Party Segment) (ss : List Segment) → IsParty id_of p → Closes ss
    → take_while belongs ((option_to_list p.n3 ++ option_to_list p.n4) ++ ss) ≡ option_to_list p.n3 ++ option_to_list p.n4
address_taken p ss h c =
    let three : List Segment = option_to_list p.n3 in
    let four : List Segment = option_to_list p.n4 in
    ap (take_while belongs) (append_assoc three four ss)
    ∙ if_belongs p.n3 (four ++ ss) (third_belongs p.n3 h.1)
    ∙ ap (λ (x : List Segment). three ++ x) (if_belongs p.n4 ss (fourth_belongs p.n4 h.2) ∙ ap (λ (x : List Segment). four ++ x) c)
    ∙ ap (λ (x : List Segment). three ++ x) (all_of p.n4)
  where
    all_of : (o : Option Segment) → option_to_list o ++ [] ≡ option_to_list o
    all_of None = refl
    all_of (Some s) = refl

abbrev address_by : Segment → Segment → Segment → Address
address_by n1 n3 n4 = record { name = element n1 2; one = element n3 1; two = element n3 2; place = spaced (element n4 1 ∷ element n4 2 ∷ element n4 3 ∷ []) }

address_means : (p : Party Segment) → IsParty id_of p → address_of p.n1 (option_to_list p.n3 ++ option_to_list p.n4) ≡ address_in p
address_means p h =
    let three : List Segment = option_to_list p.n3 in
    let four : List Segment = option_to_list p.n4 in
    let n3 : segment_with (codes "N3") (three ++ four) ≡ unwrap_or p.n3 [] =
    if_with (codes "N3") p.n3 four refl h.1 (with_none (codes "N3") four (other_if_there id_of (codes "N3") (codes "N4") p.n4 refl h.2)) in
    let n4 : segment_with (codes "N4") (three ++ four) ≡ unwrap_or p.n4 [] =
    with_skip (codes "N4") three four (other_if_there id_of (codes "N4") (codes "N3") p.n3 refl h.1) ∙ if_alone (codes "N4") p.n4 refl h.2 in
    ap (λ (s : Segment). address_by p.n1 s (segment_with (codes "N4") (three ++ four))) n3 ∙ ap (λ (s : Segment). address_by p.n1 (unwrap_or p.n3 []) s) n4

no_ship_to : (s : Segment) → has_id (codes "N1") s ≡ false → is_ship_to s ≡ false
no_ship_to s h = ap (λ (b : Bool). b && bytes_eq (element s 1) (codes "ST")) h

ship_to_skip : (xs ys : List Segment) → Lacks (codes "N1") xs → ship_to (xs ++ ys) ≡ ship_to ys
ship_to_skip [] ys h = refl
ship_to_skip (x ∷ xs) ys h = later_ship_to x (xs ++ ys) (no_ship_to x h.0) ∙ ship_to_skip xs ys h.1

no_ship_to_in : (xs : List Segment) → Lacks (codes "N1") xs → ship_to xs ≡ None
no_ship_to_in [] h = refl
no_ship_to_in (x ∷ xs) h = later_ship_to x xs (no_ship_to x h.0) ∙ no_ship_to_in xs h.1

abbrev find_ship_to : Parties → Option (Party Segment)
find_ship_to ps = find (λ p. is_ship_to p.n1) ps

party_means : (p : Party Segment) (ps : Parties) (ss : List Segment) (b : Bool) → is_ship_to p.n1 ≡ b → IsParty id_of p → Closes ss → ship_to ss ≡ option_map address_in (find_ship_to ps)
    → ship_to (p.n1 ∷ (option_to_list p.n3 ++ option_to_list p.n4) ++ ss) ≡ option_map address_in (find_ship_to (p ∷ ps))
party_means p ps ss true t h c more =
    let address : List Segment = option_to_list p.n3 ++ option_to_list p.n4 in
    first_ship_to p.n1 (address ++ ss) t
    ∙ ap (λ (x : List Segment). Some (address_of p.n1 x)) (address_taken p ss h c)
    ∙ ap Some (address_means p h)
    ∙ sym (ap (λ (b : Bool). option_map address_in (cond b (Some p) (find_ship_to ps))) t)
party_means p ps ss false t h c more =
    let address : List Segment = option_to_list p.n3 ++ option_to_list p.n4 in
    later_ship_to p.n1 (address ++ ss) t
    ∙ ship_to_skip address ss (other_in_address id_of (codes "N1") p refl refl h)
    ∙ more
    ∙ sym (ap (λ (b : Bool). option_map address_in (cond b (Some p) (find_ship_to ps))) t)

parties_mean : (ps : Parties) (rest : List Segment) → AllByRecursion (IsParty id_of) ps → Closes rest → ship_to rest ≡ None
    → ship_to (flat_map in_party ps ++ rest) ≡ option_map address_in (find_ship_to ps)
parties_mean [] rest h c none = none
parties_mean (p ∷ ps) rest h c none =
    let address : List Segment = option_to_list p.n3 ++ option_to_list p.n4 in
    ap (λ (x : List Segment). ship_to (p.n1 ∷ x)) (append_assoc address (flat_map in_party ps) rest)
    ∙ party_means p ps (flat_map in_party ps ++ rest) (is_ship_to p.n1) refl h.0 (parties_close ps rest h.1 c) (parties_mean ps rest h.1 c none)

-- The lines.

abbrev AllGoods : Type 0
AllGoods = List (OrderedGoods Segment)

-- the positions of the W01
w01s : ℕ → AllGoods → List ℕ
w01s n [] = []
w01s n (g ∷ gs) = (n + 1) ∷ w01s (n + length (in_goods g)) gs

goods_places : (n : ℕ) (gs : AllGoods) (w76 se : Segment) → AllByRecursion (IsGoods id_of) gs → has_id (codes "W01") w76 ≡ false → has_id (codes "W01") se ≡ false
    → places_from (codes "W01") n (flat_map in_goods gs ++ w76 ∷ se ∷ []) ≡ w01s n gs
unfolding w01s
goods_places n [] w76 se h a b = from_no (codes "W01") n w76 (se ∷ []) a ∙ from_no (codes "W01") (n + 1) se [] b
goods_places n (g ∷ gs) w76 se h a b =
    let pin : List Segment = option_to_list g.n9 in
    let rest : List Segment = flat_map in_goods gs ++ w76 ∷ se ∷ [] in
    let after : List Segment = (pin ++ flat_map in_goods gs) ++ w76 ∷ se ∷ [] in
    let next : n + 1 + 1 + length pin ≡ n + length (in_goods g) = omega arith in
    from_no (codes "W01") n g.lx (g.w01 ∷ after) (is_no (codes "W01") (codes "LX") g.lx h.0.0 refl)
    ∙ from_yes (codes "W01") (n + 1) g.w01 after (ap (λ y. bytes_eq y (codes "W01")) h.0.1)
    ∙ ap (λ y. (n + 1) ∷ y) (ap (places_from (codes "W01") (n + 1 + 1)) (append_assoc pin (flat_map in_goods gs) (w76 ∷ se ∷ []))
    ∙ from_skip (codes "W01") (n + 1 + 1) pin rest (other_if_there id_of (codes "W01") (codes "N9") g.n9 refl h.0.2)
    ∙ ap (λ k. places_from (codes "W01") k rest) next ∙ goods_places (n + length (in_goods g)) gs w76 se h.1 a b)

-- pins

no_pin : (s : Segment) → has_id (codes "N9") s ≡ false → pin_of s ≡ None
no_pin s h = ap (λ (b : Bool). cond b (Some (element s 2)) None) h

pin_there : (s : Segment) → has_id (codes "N9") s ≡ true → pin_of s ≡ Some (element s 2)
pin_there s h = ap (λ (b : Bool). cond b (Some (element s 2)) None) h

-- what stands after a line is no pin
unpinned : (ss front : List Segment) (gs : AllGoods) (w76 se : Segment) (k : ℕ) → ss ≡ front ++ (flat_map in_goods gs ++ w76 ∷ se ∷ []) → k ≡ length front + 1
    → AllByRecursion (IsGoods id_of) gs → has_id (codes "N9") w76 ≡ false → pin_of (segment_at ss k) ≡ None
unpinned ss front [] w76 se k e p h a = ap pin_of (at ss front w76 (se ∷ []) k e p) ∙ no_pin w76 a
unpinned ss front (g ∷ gs) w76 se k e p h a =
    let after : List Segment = (option_to_list g.n9 ++ flat_map in_goods gs) ++ w76 ∷ se ∷ [] in
    ap pin_of (at ss front g.lx (g.w01 ∷ after) k e p) ∙ no_pin g.lx (is_no (codes "N9") (codes "LX") g.lx h.0.0 refl)

pin_means : (ss front : List Segment) (o : Option Segment) (after : List Segment) (k : ℕ) → ss ≡ front ++ (option_to_list o ++ after) → k ≡ length front + 1
    → IfSome o (λ s. id_of s ≡ codes "N9") → (ss ≡ front ++ after → pin_of (segment_at ss k) ≡ None) → pin_of (segment_at ss k) ≡ option_map (λ s. element s 2) o
pin_means ss front None after k e p h none = none e
pin_means ss front (Some s) after k e p h none = ap pin_of (at ss front s after k e p) ∙ pin_there s (ap (λ y. bytes_eq y (codes "N9")) h)

abbrev made_line : Segment → Option (List ℕ) → ℕ → OrderLine
made_line w01 pin position = record { item = element w01 5; pin = pin; quantity = value (element w01 1); position = position }

lines_mean : (ss front : List Segment) (gs : AllGoods) (w76 se : Segment) (n : ℕ) → ss ≡ front ++ (flat_map in_goods gs ++ w76 ∷ se ∷ []) → n ≡ length front + 1
    → AllByRecursion (IsGoods id_of) gs → has_id (codes "N9") w76 ≡ false → map (order_line ss) (w01s n gs) ≡ lines_at n gs
unfolding w01s
lines_mean ss front [] w76 se n e p h a = refl
lines_mean ss front (g ∷ gs) w76 se n e p h a =
    let pin : List Segment = option_to_list g.n9 in
    let rest : List Segment = flat_map in_goods gs ++ w76 ∷ se ∷ [] in
    let after : List Segment = pin ++ rest in
    let parts : ss ≡ front ++ (g.lx ∷ g.w01 ∷ after) = e ∙ ap (λ (x : List Segment). front ++ (g.lx ∷ g.w01 ∷ x)) (append_assoc pin (flat_map in_goods gs) (w76 ∷ se ∷ [])) in
    let numbered : ss ≡ (front ++ g.lx ∷ []) ++ g.w01 ∷ after = parts ∙ sym (append_assoc front (g.lx ∷ []) (g.w01 ∷ after)) in
    let w01 : segment_at ss (n + 1) ≡ g.w01 = at ss (front ++ g.lx ∷ []) g.w01 after (n + 1) numbered (omega (arith, length-append front (g.lx ∷ []))) in
    let two : List Segment = front ++ g.lx ∷ g.w01 ∷ [] in
    let place : n + 1 + 1 ≡ length two + 1 = omega (arith, length-append front (g.lx ∷ g.w01 ∷ [])) in
    let ordered : ss ≡ two ++ after = parts ∙ sym (append_assoc front (g.lx ∷ g.w01 ∷ []) after) in
    let pinned : pin_of (segment_at ss (n + 1 + 1)) ≡ option_map (λ s. element s 2) g.n9 =
    pin_means ss two g.n9 rest (n + 1 + 1) ordered place h.0.2 (λ k. unpinned ss two gs w76 se (n + 1 + 1) k place h.1 a) in
    let whole : ss ≡ (front ++ in_goods g) ++ rest = parts ∙ sym (append_assoc front (in_goods g) rest) in
    let more = lines_mean ss (front ++ in_goods g) gs w76 se (n + length (in_goods g)) whole (omega (arith, length-append front (in_goods g))) h.1 a in
    ap (λ (s : Segment). made_line s (pin_of (segment_at ss (n + 1 + 1))) (n + 1) ∷ map (order_line ss) (w01s (n + length (in_goods g)) gs)) w01
    ∙ ap (λ (o : Option (List ℕ)). made_line g.w01 o (n + 1) ∷ map (order_line ss) (w01s (n + length (in_goods g)) gs)) pinned
    ∙ ap (λ (ls : List OrderLine). made_line g.w01 (option_map (λ s. element s 2) g.n9) (n + 1) ∷ ls) more

-- The whole.

abbrev made : Segment → Option Address → List OrderLine → Segment → ℕ → Order
made w05 address lines w76 position = record { number = element w05 2; address = address; lines = lines; total = value (element w76 1); total_position = position }

-- what stands after the parties
back : OrderSet Segment → List Segment
back t = t.header ++ (flat_map in_goods t.goods ++ t.w76 ∷ t.se ∷ [])

back_lacks : (id : List ℕ) (t : OrderSet Segment) → IsOrderSet id_of t → bytes_eq (codes "N9") id ≡ false → bytes_eq (codes "G62") id ≡ false → bytes_eq (codes "LX") id ≡ false
    → bytes_eq (codes "W01") id ≡ false → bytes_eq (codes "W76") id ≡ false → bytes_eq (codes "SE") id ≡ false → Lacks id (back t)
unfolding back
back_lacks id t h n9 g62 lx w01 w76 se =
    let goods : List Segment = flat_map in_goods t.goods in
    let end : List Segment = t.w76 ∷ t.se ∷ [] in
    let P : Segment → Type 0 = λ s. has_id id s ≡ false in
    all_both P t.header (goods ++ end) (other_in_header id_of id t.header n9 g62 h.header)
    (all_both P goods end (other_in_goods id_of id t.goods lx w01 n9 h.goods) (is_no id (codes "W76") t.w76 h.w76 w76, (is_no id (codes "SE") t.se h.se se, tt)))

address_said : (t : OrderSet Segment) → IsOrderSet id_of t → ship_to (printed t) ≡ option_map address_in (find_ship_to t.parties)
unfolding back
address_said t h =
    let after : List Segment = flat_map in_party t.parties ++ back t in
    later_ship_to t.st (t.w05 ∷ after) (no_ship_to t.st (is_no (codes "N1") (codes "ST") t.st h.st refl))
    ∙ later_ship_to t.w05 after (no_ship_to t.w05 (is_no (codes "N1") (codes "W05") t.w05 h.w05 refl))
    ∙ parties_mean t.parties (back t) h.parties
    (closes (back t) (back_lacks (codes "N3") t h refl refl refl refl refl refl) (back_lacks (codes "N4") t h refl refl refl refl refl refl))
    (no_ship_to_in (back t) (back_lacks (codes "N1") t h refl refl refl refl refl refl))

abbrev first_line : OrderSet Segment → ℕ
first_line t = length (flat_map in_party t.parties) + length t.header + 3

lines_said : (t : OrderSet Segment) → IsOrderSet id_of t → map (order_line (printed t)) (places_from (codes "W01") 1 (printed t)) ≡ lines_at (first_line t) t.goods
lines_said t h =
    let parties : List Segment = flat_map in_party t.parties in
    let goods : List Segment = flat_map in_goods t.goods in
    let end : List Segment = t.w76 ∷ t.se ∷ [] in
    let after : List Segment = parties ++ (t.header ++ (goods ++ end)) in
    let begin : 1 + 1 + 1 + length parties + length t.header ≡ first_line t = omega arith in
    let places : places_from (codes "W01") 1 (printed t) ≡ w01s (first_line t) t.goods =
    from_no (codes "W01") 1 t.st (t.w05 ∷ after) (is_no (codes "W01") (codes "ST") t.st h.st refl)
    ∙ from_no (codes "W01") (1 + 1) t.w05 after (is_no (codes "W01") (codes "W05") t.w05 h.w05 refl)
    ∙ from_skip (codes "W01") (1 + 1 + 1) parties (t.header ++ (goods ++ end)) (other_in_parties id_of (codes "W01") t.parties refl refl refl h.parties)
    ∙ from_skip (codes "W01") (1 + 1 + 1 + length parties) t.header (goods ++ end) (other_in_header id_of (codes "W01") t.header refl refl h.header)
    ∙ ap (λ n. places_from (codes "W01") n (goods ++ end)) begin
    ∙ goods_places (first_line t) t.goods t.w76 t.se h.goods (is_no (codes "W01") (codes "W76") t.w76 h.w76 refl) (is_no (codes "W01") (codes "SE") t.se h.se refl) in
    let front : List Segment = t.st ∷ t.w05 ∷ parties ++ t.header in
    let whole : printed t ≡ front ++ (goods ++ end) = ap (λ (x : List Segment). t.st ∷ t.w05 ∷ x) (sym (append_assoc parties t.header (goods ++ end))) in
    ap (map (order_line (printed t))) places
    ∙ lines_mean (printed t) front t.goods t.w76 t.se (first_line t) whole (omega (arith, length-append parties t.header)) h.goods (is_no (codes "N9") (codes "W76") t.w76 h.w76 refl)

total_placed : (t : OrderSet Segment) → IsOrderSet id_of t → place_of (codes "W76") (printed t) ≡ first_line t + length (flat_map in_goods t.goods)
total_placed t h =
    let parties : List Segment = flat_map in_party t.parties in
    let goods : List Segment = flat_map in_goods t.goods in
    let end : List Segment = t.w76 ∷ t.se ∷ [] in
    let after : List Segment = parties ++ (t.header ++ (goods ++ end)) in
    let place : 1 + 1 + 1 + length parties + length t.header + length goods ≡ first_line t + length goods = omega arith in
    ap (λ (ns : List ℕ). unwrap_or (slice_get ns 0) 0)
    (from_no (codes "W76") 1 t.st (t.w05 ∷ after) (is_no (codes "W76") (codes "ST") t.st h.st refl)
    ∙ from_no (codes "W76") (1 + 1) t.w05 after (is_no (codes "W76") (codes "W05") t.w05 h.w05 refl)
    ∙ from_skip (codes "W76") (1 + 1 + 1) parties (t.header ++ (goods ++ end)) (other_in_parties id_of (codes "W76") t.parties refl refl refl h.parties)
    ∙ from_skip (codes "W76") (1 + 1 + 1 + length parties) t.header (goods ++ end) (other_in_header id_of (codes "W76") t.header refl refl h.header)
    ∙ from_skip (codes "W76") (1 + 1 + 1 + length parties + length t.header) goods end (other_in_goods id_of (codes "W76") t.goods refl refl refl h.goods)
    ∙ from_yes (codes "W76") (1 + 1 + 1 + length parties + length t.header + length goods) t.w76 (t.se ∷ []) (ap (λ y. bytes_eq y (codes "W76")) h.w76))
    ∙ place

means : (t : OrderSet Segment) → IsOrderSet id_of t → order_of (printed t) ≡ meaning t
means t h =
    let parties : List Segment = flat_map in_party t.parties in
    let goods : List Segment = flat_map in_goods t.goods in
    let end : List Segment = t.w76 ∷ t.se ∷ [] in
    let after : List Segment = parties ++ (t.header ++ (goods ++ end)) in
    let w05 : segment_with (codes "W05") (printed t) ≡ t.w05 =
    with_no (codes "W05") t.st (t.w05 ∷ after) (is_no (codes "W05") (codes "ST") t.st h.st refl)
    ∙ with_yes (codes "W05") t.w05 after (ap (λ y. bytes_eq y (codes "W05")) h.w05) in
    let w76 : segment_with (codes "W76") (printed t) ≡ t.w76 =
    with_no (codes "W76") t.st (t.w05 ∷ after) (is_no (codes "W76") (codes "ST") t.st h.st refl)
    ∙ with_no (codes "W76") t.w05 after (is_no (codes "W76") (codes "W05") t.w05 h.w05 refl)
    ∙ with_skip (codes "W76") parties (t.header ++ (goods ++ end)) (other_in_parties id_of (codes "W76") t.parties refl refl refl h.parties)
    ∙ with_skip (codes "W76") t.header (goods ++ end) (other_in_header id_of (codes "W76") t.header refl refl h.header)
    ∙ with_skip (codes "W76") goods end (other_in_goods id_of (codes "W76") t.goods refl refl refl h.goods)
    ∙ with_yes (codes "W76") t.w76 (t.se ∷ []) (ap (λ y. bytes_eq y (codes "W76")) h.w76) in
    let address : Option Address = option_map address_in (find_ship_to t.parties) in
    let lines : List OrderLine = map (order_line (printed t)) (places_from (codes "W01") 1 (printed t)) in
    let place : ℕ = place_of (codes "W76") (printed t) in
    ap (λ (s : Segment). made s (ship_to (printed t)) lines (segment_with (codes "W76") (printed t)) place) w05
    ∙ ap (λ (a : Option Address). made t.w05 a lines (segment_with (codes "W76") (printed t)) place) (address_said t h)
    ∙ ap (λ (ls : List OrderLine). made t.w05 address ls (segment_with (codes "W76") (printed t)) place) (lines_said t h)
    ∙ ap (λ (s : Segment). made t.w05 address (lines_at (first_line t) t.goods) s place) w76
    ∙ ap (made t.w05 address (lines_at (first_line t) t.goods) t.w76) (total_placed t h)

of_parts : (ss : List Segment) → Parsed id_of ss → SaysOrder ss (order_of ss)
of_parts ss (t, parts, is) = (t, parts, is, ap order_of parts ∙ means t is)

-- a set without a fault prints a tree, and what is read of it is what that says
pub says_order : (w : Whole) → IsUnfaulted w → w.kind ≡ ShippingOrder → SaysOrder (segments_of w.pieces) (order_of (segments_of w.pieces))
says_order w s k = let p = passes w ShippingOrder s k in of_parts (segments_of w.pieces) (whole_order p.0 (segments_of w.pieces) p.1 s.closed)
