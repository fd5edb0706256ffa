-- What a command names is all that it needs of a page.
use Rattle.std.proofs.Common.{◌≡◌, ℕ, true, List, [], ◌∷◌, ◌++◌, map, refl, sym, ap, ◌∙◌, Option, Some, None}
use Rattle.std.specs.Prelude.{flat_map}
use Rattle.std.specs.List.{list_all}
use Rattle.definitions.specs.declared.rules.Rules.{Rules}
use Rattle.definitions.specs.Bytes.{Delims, is_one_of}
use Rattle.definitions.specs.Cut.{cut}
use Rattle.definitions.specs.Header.{delims_of}
use Rattle.definitions.specs.Words.{kind_words}
use Rattle.definitions.specs.declared.set_kind.SetKind.{SetKind}
use Rattle.definitions.specs.declared.set_kind.SetKind.TheVariants.{ShippingOrder, ShipmentAdvice, FunctionalAcknowledgment}
use Rattle.definitions.specs.Faults.{set_fault}
use Rattle.definitions.specs.Structure.{Set, Group, control_of, envelope_fault, examined_on, groups_of, kind_of}
use Rattle.definitions.specs.Means.{Line, advised, advice_of, order_of}
use Rattle.definitions.specs.Register.{Act, Count, Pick, Recount, Command, Interchange, Enrol, Clerk}
use Rattle.definitions.specs.Page.{PageAdvice, PageOrder}
use Rattle.definitions.specs.Need.{Need, advices_in, all_together, items_in, items_of, need_of, need_of_act, need_of_text, orders_in}
use Rattle.definitions.proofs.NeedLaws.{Within, alone, in_left, in_right, within_left, within_right}
use Rattle.definitions.proofs.NamesLaws.{TwoAtLeast, advice_items, document_named, names_groups, need_of_group, need_of_groups, need_of_set, order_items, order_named, shipment_named, two_segments}
use Rattle.stock.specs.Pages.{PageFacts, IsSound, advice_at, is_in_lines, is_number, order_at}
use Rattle.stock.specs.Parts.{IsClosed, IsPart, Named, are_items}
use Rattle.rules.specs.Needs.{NamesAct, NamesFor}
use Rattle.set_effects.specs.SetNames.{NamesGroups, NamesJudged, NamesSet, NamesSets, NamesUnder}
use Rattle.rules.specs.Naming.{as_page, named_of}
use Rattle.set_effects.proofs.KeyedLists.{all_found}
use Rattle.rules.proofs.NamesFound.{all_among, found_among, mapped, one_of_all, others_closed, those_closed}

module _ (need : Need) (P : PageFacts) where
  abbrev n : Named
  n = named_of need P

  abbrev of_advices : List (List ℕ)
  of_advices = flat_map (λ (k : PageAdvice). items_of k.lines) (advices_in need (as_page P))

  abbrev of_orders : List (List ℕ)
  of_orders = flat_map (λ (o : PageOrder). map (λ l. l.item) o.lines) (orders_in need (as_page P))

  item_named : (t : List ℕ) → is_one_of need.items t ≡ true → n.items t ≡ true
  item_named t h = in_left need.items (of_advices ++ of_orders) t h

  -- ---- sets

  module _ (d : Delims) where
    names_set : (r : Rules) (kind : SetKind) (s : Set) → Within (need_of_set s) need → TwoAtLeast s.segments → set_fault r d (kind_words r kind) s.segments ≡ None → NamesSet n kind s.segments
    names_set r ShipmentAdvice s w two h = record {
      shipment = w.shipments ((advice_of s.segments).shipment) (shipment_named r d s.segments two h);
      items = all_among (λ (l : Line). l.item) (items_in need (as_page P)) (advised (advice_of s.segments))
          (λ t k. item_named t (w.items t (advice_items s.segments t (ap (λ xs. is_one_of xs t) (sym (mapped (λ (l : Line). l.item) (λ l. l.line) ((advice_of s.segments).lines))) ∙ k))));
    }
    names_set r ShippingOrder s w two h = record {
      number = w.orders ((order_of s.segments).number) (order_named r d s.segments two h);
      items = all_among (λ l. l.item) (items_in need (as_page P)) ((order_of s.segments).lines) (λ t k. item_named t (w.items t (order_items s.segments t k)));
    }
    names_set r FunctionalAcknowledgment s w two h = w.documents _ (document_named r d s.segments two h)

    names_judged : (kind : SetKind) (earlier : List (List ℕ)) (s : Set) → Within (need_of_set s) need → (o : Option ℕ) → envelope_fault (Some kind) earlier s ≡ o → NamesJudged d n kind s o
    names_judged kind earlier s w (Some code) e = tt
    names_judged kind earlier s w None e = λ r h. names_set r kind s w (two_segments kind earlier s e) h

    names_under : (kind : Option SetKind) (earlier : List (List ℕ)) (s : Set) → Within (need_of_set s) need → NamesUnder d n kind (s, envelope_fault kind earlier s)
    names_under None earlier s w = tt
    names_under (Some kind) earlier s w = names_judged kind earlier s w (envelope_fault (Some kind) earlier s) refl

    names_sets : (kind : Option SetKind) (earlier : List (List ℕ)) (ss : List Set) → Within (all_together (map need_of_set ss)) need → NamesSets d n kind (examined_on kind earlier ss)
    names_sets kind earlier [] w = tt
    names_sets kind earlier (s ∷ ss) w = (
      names_under kind earlier s (within_left (need_of_set s) (all_together (map need_of_set ss)) need w),
      names_sets kind (control_of s ∷ earlier) ss (within_right (need_of_set s) (all_together (map need_of_set ss)) need w),
    )

    group_named : (gs : List Group) → Within (need_of_groups gs) need → NamesGroups d n gs
    group_named [] w = tt
    group_named (g ∷ gs) w = (
      names_sets (kind_of g) [] g.sets (within_left (need_of_group g) (need_of_groups gs) need w),
      group_named gs (within_right (need_of_group g) (need_of_groups gs) need w),
    )

  -- ---- acts

  sheet_named : (sheet : List Line) → ((t : List ℕ) → is_one_of (items_of sheet) t ≡ true → is_one_of need.items t ≡ true) → are_items n sheet ≡ true
  sheet_named sheet within = all_among (λ (l : Line). l.item) (items_in need (as_page P)) sheet (λ t k. item_named t (within t k))

  -- with a named advice the items of its lines
  lines_named : (s : List ℕ) → is_one_of need.shipments s ≡ true → (k : PageAdvice) → advice_at s P.advices ≡ Some k → are_items n k.lines ≡ true
  lines_named s named k h = all_among (λ (l : Line). l.item) (items_in need (as_page P)) k.lines
      (λ t i. in_right need.items (of_advices ++ of_orders) t (in_left of_advices of_orders t
      (found_among (λ (a : PageAdvice). a.shipment) (λ (a : PageAdvice). items_of a.lines) need.shipments s named P.advices k h t i)))

  -- with a named order the items of its lines
  ordered_named : (s : List ℕ) → is_one_of need.orders s ≡ true → (k : PageOrder) → order_at s P.orders ≡ Some k → list_all (λ l. n.items l.item) k.lines ≡ true
  ordered_named s named k h = all_among (λ l. l.item) (items_in need (as_page P)) k.lines
      (λ t i. in_right need.items (of_advices ++ of_orders) t (in_right of_advices of_orders t
      (found_among (λ (o : PageOrder). o.number) (λ (o : PageOrder). map (λ l. l.item) o.lines) need.orders s named P.orders k h t i)))

-- a need names with an advice or order the items of its lines
module _ (need : Need) (P : PageFacts) where
  abbrev all_items : List (List ℕ)
  all_items = items_in need (as_page P)

  advices_closed : list_all (λ k. are_items (named_of need P) k.lines) (advices_in need (as_page P)) ≡ true
  advices_closed = those_closed (λ (k : PageAdvice). k.shipment) (λ (k : PageAdvice). k.lines) (λ (l : Line). l.item) need.shipments all_items P.advices
      (λ t h. in_right need.items (of_advices need P ++ of_orders need P) t (in_left (of_advices need P) (of_orders need P) t h))

  orders_lines : list_all (λ (k : PageOrder). list_all (λ l. is_one_of all_items l.item) k.lines) (orders_in need (as_page P)) ≡ true
  orders_lines = those_closed (λ (k : PageOrder). k.number) (λ (k : PageOrder). k.lines) (λ l. l.item) need.orders all_items P.orders
      (λ t h. in_right need.items (of_advices need P ++ of_orders need P) t (in_right (of_advices need P) (of_orders need P) t h))

  orders_closed : list_all (λ (k : PageOrder). list_all (λ (l : Line). is_one_of (map (λ m. m.item) k.lines) l.item) k.reserved) P.orders ≡ true
      → list_all (λ k. are_items (named_of need P) k.reserved) (orders_in need (as_page P)) ≡ true
  orders_closed inside = others_closed (λ (k : PageOrder). is_one_of need.orders k.number) (λ (k : PageOrder). k.lines) (λ l. l.item) (λ (k : PageOrder). k.reserved) (λ (l : Line). l.item)
      (is_one_of all_items) P.orders inside orders_lines

  need_closed : list_all is_in_lines P.orders ≡ true → IsClosed (named_of need P) P
  need_closed inside = record { advices = advices_closed; orders = orders_closed inside }

-- what is reserved for an order is of items of its lines
abbrev pub ReservedInLines : PageFacts → Type 0
ReservedInLines P = (s : List ℕ) (k : PageOrder) → order_at s P.orders ≡ Some k → (t : List ℕ) → is_one_of (items_of k.reserved) t ≡ true → is_one_of (map (λ l. l.item) k.lines) t ≡ true

module _ (p P : PageFacts) (inside : ReservedInLines P) where
  act_named : (act : Act) → IsPart (named_of (need_of_act act) P) p P → NamesAct (named_of (need_of_act act) P) p act
  act_named (Count shipment sheet) part =
      let need = need_of_act (Count shipment sheet) in
      record {
        shipment = alone shipment;
        sheet = sheet_named need P sheet (λ t h. h);
        lines = λ k h. lines_named need P shipment (alone shipment) k (sym (part.advices shipment (alone shipment)) ∙ h);
      }
  act_named (Pick number sheet) part =
      let need = need_of_act (Pick number sheet) in
      record {
        number = alone number;
        sheet = sheet_named need P sheet (λ t h. h);
        reserved = λ k h.
            let there = sym (part.orders number (alone number)) ∙ h in
            all_among (λ (l : Line). l.item) (items_in need (as_page P)) k.reserved
            (λ t i. one_of_all (λ l. l.item) ((named_of need P).items) k.lines (ordered_named need P number (alone number) k there) t (inside number k there t i));
      }
  act_named (Recount sheet) part = sheet_named (need_of_act (Recount sheet)) P sheet (λ t h. h)

  -- what a command names is what it needs
  command_named : (c : Command) → IsPart (named_of (need_of c) P) p P → NamesFor (named_of (need_of c) P) p c
  command_named (Interchange text) part = λ readable passes. group_named (need_of_text text) P (delims_of text) (groups_of ((cut (delims_of text) text).segments)) (names_groups text readable passes)
  command_named (Enrol w) part = tt
  command_named (Clerk w ticket act) part = act_named act part

-- so it is of every sound page
module _ (P : PageFacts) (sound : IsSound P) where
  in_lines : ReservedInLines P
  in_lines s k h t i =
      one_of_all (λ (l : Line). l.item) (is_one_of (map (λ m. m.item) k.lines)) k.reserved (all_found is_in_lines (is_number s) P.orders k sound.in_lines h) t i

  pub needed : (p : PageFacts) (c : Command) → IsPart (named_of (need_of c) P) p P → NamesFor (named_of (need_of c) P) p c
  needed p c part = command_named p P in_lines c part

  pub closed : (need : Need) → IsClosed (named_of need P) P
  closed need = need_closed need P sound.in_lines
