-- The page with the events of a set, a group, an interchange or an act more exists.
use Rattle.std.proofs.Common.{◌≡◌, inl, inr, ℕ, ◌+◌, ◌<◌, ◌≤◌, Bool, true, false, suc, List, [], ◌∷◌, ◌++◌, length, refl, sym, ap, ◌∙◌, subst, arith, append_assoc, append-nil, length-append, Option, Some, None, Ok, Err}
use Rattle.std.specs.Prelude.{All, Result, codes, if◌then◌else◌, option_to_list, is_none, sum_by, flat_map, filter_map, nat_le, ◌&&◌}
use Rattle.std.specs.List.{cons_option, list_all}
use Rattle.std.proofs.lemmas.Bool.{cases_Bool, and_parts, leb-true, le-leb}
use Rattle.std.proofs.lemmas.List.Sums.{sum_by-cons}
use Rattle.std.specs.Cmp.Derive.{both_true}
use Rattle.std.proofs.lemmas.List.{length-map}
use Rattle.std.proofs.lemmas.List.Elements.{All-cons, All-nil, All-map}
use Rattle.definitions.specs.declared.rules.Rules.{Rules}
use Rattle.definitions.specs.declared.rules.Rules.TheVariants.{One, Two}
use Rattle.definitions.specs.declared.widths.TheConstants.{QUANTITY_DIGITS_TWO}
use Rattle.definitions.specs.Allotment.{order_shares}
use Rattle.definitions.specs.Bytes.{Delims, value, is_identifier}
use Rattle.definitions.specs.Cut.{Segment, cut, element, has_id, places_of}
use Rattle.definitions.specs.Events.{Event, Advised, Ordered, Acknowledged, advice_fault, order_fault}
use Rattle.definitions.specs.Faults.{SetFault, set_fault}
use Rattle.definitions.specs.History.{Rejection, unless, traded, judged, by_segment, outcome_of, event_of, verdicts_on, telling_of, events_told, tellings_on, events_added}
use Rattle.definitions.specs.Limits.{most_lines, most_quantity, most_recounted, most_item, most_lot, most_number, most_sets}
use Rattle.definitions.specs.Header.{delims_of}
use Rattle.definitions.specs.declared.refusals.Refusal.{Refusal}
use Rattle.definitions.specs.Register.{Act, Count, Pick, Recount, Received, Performed}
use Rattle.definitions.specs.Clerk.{quantity_limit, least_quantity, is_sheet_line, is_sheet, is_ascending, is_act, performed}
use Rattle.definitions.specs.declared.sheet_kind.SheetKind.{SheetKind as Sheets}
use Rattle.definitions.specs.declared.sheet_kind.SheetKind.TheVariants.{Count as CountSheet, Pick as PickSheet, Recount as RecountSheet}
use Rattle.definitions.specs.declared.set_kind.SetKind.{SetKind}
use Rattle.definitions.specs.declared.set_kind.SetKind.TheVariants.{ShipmentAdvice, ShippingOrder, FunctionalAcknowledgment}
use Rattle.definitions.specs.Means.{Line, AdviceLine, advice_of, advice_line, order_of, acknowledgment_of, segment_at}
use Rattle.definitions.specs.Structure.{Set, Group, kind_of, group_fault, examined, examined_on, groups_of, control_of}
use Rattle.definitions.specs.Words.{kind_words, words_943}
use Rattle.definitions.proofs.FaultsLaws.{set_fault-from}
use Rattle.definitions.proofs.LaterLaws.{set_fault-later}
use Rattle.sets_in.specs.Amounts.{HaveAmounts}
use Rattle.sets_in.specs.Places.{places_from}
use Rattle.sets_in.proofs.Meaning.{at}
use Rattle.sets_in.proofs.Most.{few_goods}
use Rattle.sets_in.proofs.Places.{from_yes, from_no}
use Rattle.sets_in.proofs.Sound.{goods_amounts}
use Rattle.sets_in.proofs.Values.{amount_bound}
use Rattle.page_rows.specs.Pages.{PageFacts, IsSound}
use Rattle.stock.specs.Shows.{Shows}
use Rattle.stock.proofs.OneAct.{counted_more, picked_more, recounted_more}
use Rattle.stock.proofs.OneMore.{IsOneMore, announced_more, ordered_more, acknowledged_more}
use Rattle.page_rows.proofs.Pairs.{IsSheet, sheet_facts}

-- What an advice without a fault says is little.

quantities_small : (whole front ss : List Segment) (n : ℕ) → whole ≡ front ++ ss → n ≡ length front + 1
    → HaveAmounts (codes "W04") 1 QUANTITY_DIGITS_TWO ss
    → All (λ (k : ℕ). value (element (segment_at whole k) 1) ≤ most_quantity Two) (places_from (codes "W04") n ss)
quantities_small whole front [] n is here h = All-nil _
quantities_small whole front (s ∷ ss) n is here h =
    let there : n + 1 ≡ length (front ++ s ∷ []) + 1 = omega (arith, here, length-append front (s ∷ [])) in
    let later = quantities_small whole (front ++ s ∷ []) ss (n + 1) (is ∙ sym (append_assoc front (s ∷ []) ss)) there h.1 in
    let P : ℕ → Type 0 = λ (k : ℕ). value (element (segment_at whole k) 1) ≤ most_quantity Two in
    elim (cases_Bool (has_id (codes "W04") s)) [
      | inl e ↦
          let bound = amount_bound QUANTITY_DIGITS_TWO (element s 1) (h.0 e) in
          let small : value (element s 1) ≤ most_quantity Two = omega (arith, bound) in
          subst (All P) (sym (from_yes (codes "W04") n s ss e))
          (All-cons P n (places_from (codes "W04") (n + 1) ss)
          (subst (λ (x : Segment). value (element x 1) ≤ most_quantity Two) (sym (at whole front s ss n is here)) small) later)
      | inr e ↦ subst (All P) (sym (from_no (codes "W04") n s ss e)) later
    ]

advice_few : (d : Delims) (ss : List Segment) → set_fault Two d (words_943 Two) ss ≡ None
    → length (advice_of ss).lines ≤ most_lines Two
advice_few d ss none =
    omega (arith, length-map (places_of (codes "W04") ss) (advice_line ss), few_goods Two d ss (sym (set_fault-from Two d (words_943 Two) ss) ∙ none))

advice_small : (d : Delims) (ss : List Segment) → set_fault Two d (words_943 Two) ss ≡ None
    → All (λ (l : AdviceLine). l.line.quantity ≤ most_quantity Two) (advice_of ss).lines
advice_small d ss none = All-map (λ (l : AdviceLine). l.line.quantity ≤ most_quantity Two) (advice_line ss) (places_of (codes "W04") ss)
    (quantities_small ss [] ss 1 refl (omega arith) (goods_amounts Two d (words_943 Two) ss (sym (set_fault-from Two d (words_943 Two) ss) ∙ none)))

-- what has no fault by some rules has none by rules 2
later : (r : Rules) (d : Delims) (kind : SetKind) (ss : List Segment) → set_fault r d (kind_words r kind) ss ≡ None → set_fault Two d (kind_words Two kind) ss ≡ None
later One d kind ss none = set_fault-later d kind ss none
later Two d kind ss none = none

-- One set.

event_is : (o : Option SetFault) (e f : Event) → unless o f ≡ Ok e → (o ≡ None) × (f ≡ e)
event_is None e f h = (refl, cc (h))
event_is (Some x) e f h = absurd (cc (h))

traded_more : (r : Rules) (d : Delims) (p : PageFacts) (es : List Event) (n : ℕ) (kind : SetKind) (ss : List Segment) (e : Event)
    → IsSound p → Shows p es → p.recent < most_sets → n ≡ p.entries + 1
    → set_fault r d (kind_words r kind) ss ≡ None → traded r es n kind ss ≡ Ok e → (q : PageFacts) × IsOneMore p es e q
traded_more r d p es n ShipmentAdvice ss e sound shows room follows none is =
    let a = advice_of ss in
    let two = later r d ShipmentAdvice ss none in
    let o = event_is (advice_fault es a) e (Advised a) is in
    subst (λ (x : Event). (q : PageFacts) × IsOneMore p es x q) o.1
    (announced_more p es a sound shows room (advice_few d ss two) (advice_small d ss two) o.0)
traded_more r d p es n ShippingOrder ss e sound shows room follows none is =
    let a = order_of ss in
    let o = event_is (order_fault es a) e (Ordered a (order_shares r es a)) is in
    subst (λ (x : Event). (q : PageFacts) × IsOneMore p es x q) o.1 (ordered_more r p es a sound shows room o.0)
traded_more r d p es n FunctionalAcknowledgment ss e sound shows room follows none is =
    let a = acknowledgment_of ss in
    let same : Acknowledged (p.entries + 1) a ≡ e = ap (λ (k : ℕ). Acknowledged k a) (sym follows) ∙ cc (is) in
    subst (λ (x : Event). (q : PageFacts) × IsOneMore p es x q) same (acknowledged_more p es a sound shows room)

judged_more : (r : Rules) (d : Delims) (p : PageFacts) (es : List Event) (n : ℕ) (kind : SetKind) (ss : List Segment) (e : Event)
    → IsSound p → Shows p es → p.recent < most_sets → n ≡ p.entries + 1
    → judged r d es n kind ss ≡ Ok e → (q : PageFacts) × IsOneMore p es e q
judged_more r d p es n kind ss e sound shows room follows is = by (set_fault r d (kind_words r kind) ss) refl
  where
    by : (o : Option SetFault) → set_fault r d (kind_words r kind) ss ≡ o → (q : PageFacts) × IsOneMore p es e q
    by None h =
        let same : judged r d es n kind ss ≡ traded r es n kind ss = rw h refl in
        traded_more r d p es n kind ss e sound shows room follows h (sym same ∙ is)
    by (Some f) h = let same : judged r d es n kind ss ≡ Err f = rw h refl in absurd (cc (same, is))

segment_ok : (r : Result Event SetFault) (e : Event) → by_segment r ≡ Ok e → r ≡ Ok e
segment_ok (Ok f) e h = ap Ok (cc (h))
segment_ok (Err f) e h = absurd (cc (h))

set_more : (r : Rules) (d : Delims) (p : PageFacts) (es : List Event) (n : ℕ) (kind : Option SetKind) (code : Option ℕ) (s : Set) (e : Event)
    → IsSound p → Shows p es → p.recent < most_sets
    → n ≡ p.entries + 1 → outcome_of r d es n kind code s ≡ Ok e → (q : PageFacts) × IsOneMore p es e q
set_more r d p es n kind (Some code) s e sound shows room follows is = absurd (cc (is))
set_more r d p es n None None s e sound shows room follows is = absurd (cc (is))
set_more r d p es n (Some kind) None s e sound shows room follows is =
    judged_more r d p es n kind s.segments e sound shows room follows (segment_ok (judged r d es n kind s.segments) e is)

-- Sets and groups, one after another.

-- a page that stands for these events more, at most so many
pub record IsMore (p : PageFacts) (es fs : List Event) (most : ℕ) (q : PageFacts) : Type 0 where
  pub sound : IsSound q
  pub shows : Shows q (es ++ fs)
  pub entries : q.entries ≡ p.entries
  pub recent : q.recent ≤ p.recent + most

pub none_more : (p : PageFacts) (es : List Event) (most : ℕ) → IsSound p → Shows p es → IsMore p es [] most p
none_more p es most sound shows = record {
  sound = sound;
  shows = subst (Shows p) (sym (append-nil es)) shows;
  entries = refl;
  recent = omega arith;
}

both_more : (p q r : PageFacts) (es fs gs : List Event) (a b : ℕ) → IsMore p es fs a q → IsMore q (es ++ fs) gs b r
    → IsMore p es (fs ++ gs) (a + b) r
both_more p q r es fs gs a b first second = record {
  sound = second.sound;
  shows = subst (Shows r) (append_assoc es fs gs) second.shows;
  entries = second.entries ∙ first.entries;
  recent = omega (arith, first.recent, second.recent);
}

outcome_more : (r : Rules) (d : Delims) (p : PageFacts) (es : List Event) (n : ℕ) (kind : Option SetKind) (code : Option ℕ) (s : Set)
    (o : Result Event Rejection) → IsSound p → Shows p es → p.recent < most_sets → n ≡ p.entries + 1 → outcome_of r d es n kind code s ≡ o
    → (q : PageFacts) × IsMore p es (option_to_list (event_of (record { set = s; outcome = o }))) 1 q
outcome_more r d p es n kind code s (Ok e) sound shows room follows is =
    let m = set_more r d p es n kind code s e sound shows room follows is in
    (m.0, record { sound = m.1.sound; shows = m.1.shows; entries = m.1.entries; recent = omega (arith, m.1.recent) })
outcome_more r d p es n kind code s (Err f) sound shows room follows is = (p, none_more p es 1 sound shows)

cons_same : (o : Option Event) (fs : List Event) → cons_option o fs ≡ option_to_list o ++ fs
cons_same None fs = refl
cons_same (Some e) fs = refl

sets_more : (r : Rules) (d : Delims) (p : PageFacts) (es : List Event) (n : ℕ) (kind : Option SetKind) (ps : List (Set × Option ℕ))
    → IsSound p → Shows p es
    → p.recent + length ps ≤ most_sets → n ≡ p.entries + 1
    → (q : PageFacts) × IsMore p es (filter_map event_of (verdicts_on r d es n kind ps)) (length ps) q
sets_more r d p es n kind [] sound shows room follows = (p, none_more p es 0 sound shows)
sets_more r d p es n kind (s ∷ ps) sound shows room follows =
    let made = outcome_of r d es n kind s.1 s.0 in
    let o : Option Event = event_of (record { set = s.0; outcome = made }) in
    let one = outcome_more r d p es n kind s.1 s.0 made sound shows (omega (arith, room)) follows refl in
    let rest = sets_more r d one.0 (es ++ option_to_list o) n kind ps one.1.sound one.1.shows
    (omega (arith, room, one.1.recent)) (omega (arith, follows, one.1.entries)) in
    let fs : List Event = filter_map event_of (verdicts_on r d (es ++ option_to_list o) n kind ps) in
    let both = both_more p one.0 rest.0 es (option_to_list o) fs 1 (length ps) one.1 rest.1 in (
      rest.0,
      record {
        sound = both.sound;
        shows = subst (λ (xs : List Event). Shows rest.0 (es ++ xs)) (sym (cons_same o fs)) both.shows;
        entries = both.entries;
        recent = omega (arith, both.recent);
      },
    )

examined_length : (kind : Option SetKind) (earlier : List (List ℕ)) (ss : List Set)
    → length (examined_on kind earlier ss) ≡ length ss
examined_length kind earlier [] = refl
examined_length kind earlier (s ∷ ss) = ap (λ (k : ℕ). suc k) (examined_length kind (control_of s ∷ earlier) ss)

group_more : (r : Rules) (d : Delims) (p : PageFacts) (es : List Event) (n : ℕ) (g : Group) → IsSound p → Shows p es
    → p.recent + length g.sets ≤ most_sets → n ≡ p.entries + 1
    → (q : PageFacts) × IsMore p es (events_told (telling_of r d es n g)) (length g.sets) q
group_more r d p es n g sound shows room follows = by (is_none (group_fault g))
  where
    many : length (examined g) ≡ length g.sets
    many = examined_length (kind_of g) [] g.sets

    by : (b : Bool)
        → (q : PageFacts) × IsMore p es (filter_map event_of (if b then verdicts_on r d es n (kind_of g) (examined g) else [])) (length g.sets) q
    by true =
        let m = sets_more r d p es n (kind_of g) (examined g) sound shows (omega (arith, room, many)) follows in
        (m.0, subst (λ (k : ℕ). IsMore p es (filter_map event_of (verdicts_on r d es n (kind_of g) (examined g))) k m.0) many m.1)
    by false = (p, none_more p es (length g.sets) sound shows)

groups_more : (r : Rules) (d : Delims) (p : PageFacts) (es : List Event) (n : ℕ) (gs : List Group) → IsSound p → Shows p es
    → p.recent + sum_by (λ g. length g.sets) gs ≤ most_sets → n ≡ p.entries + 1
    → (q : PageFacts) × IsMore p es (flat_map events_told (tellings_on r d es n gs)) (sum_by (λ g. length g.sets) gs) q
groups_more r d p es n [] sound shows room follows = (p, none_more p es 0 sound shows)
groups_more r d p es n (g ∷ gs) sound shows room follows =
    let size = sum_by-cons (λ (x : Group). length x.sets) g gs in
    let fs : List Event = events_told (telling_of r d es n g) in
    let first = group_more r d p es n g sound shows (omega (arith, room, size)) follows in
    let rest = groups_more r d first.0 (es ++ fs) n gs first.1.sound first.1.shows
    (omega (arith, room, size, first.1.recent)) (omega (arith, follows, first.1.entries)) in
    let more : List Event = flat_map events_told (tellings_on r d (es ++ fs) n gs) in
    let both = both_more p first.0 rest.0 es fs more (length g.sets) (sum_by (λ g. length g.sets) gs) first.1 rest.1 in
    (rest.0, record { sound = both.sound; shows = both.shows; entries = both.entries; recent = omega (arith, both.recent, size) })

-- the events of an interchange
pub received_more : (r : Rules) (p : PageFacts) (es : List Event) (n : ℕ) (text : List ℕ) → IsSound p → Shows p es
    → p.recent + sum_by (λ g. length g.sets) (groups_of ((cut (delims_of text) text).segments)) ≤ most_sets
    → n ≡ p.entries + 1
    → (q : PageFacts) × IsMore p es (events_added r es n (Received text)) (sum_by (λ g. length g.sets) (groups_of ((cut (delims_of text) text).segments))) q
received_more r p es n text sound shows room follows =
    groups_more r (delims_of text) p es n (groups_of ((cut (delims_of text) text).segments)) sound shows room follows

-- An act.

-- a sheet of any kind keeps the limits of a recount by rules 2

small : (r : Rules) → most_quantity r ≤ most_recounted
small One = omega arith
small Two = omega arith

few : (r : Rules) → most_lines r ≤ most_lines Two
few One = omega arith
few Two = omega arith

widened_line : (r : Rules) (kind : Sheets) (l : Line) → is_sheet_line r kind l ≡ true → is_sheet_line Two RecountSheet l ≡ true
widened_line r kind l h =
    let p = and_parts
    (is_identifier 1 most_item l.item && is_identifier 1 most_lot l.lot && nat_le (least_quantity kind) l.quantity)
    (nat_le l.quantity (quantity_limit r kind)) h in
    let q = and_parts
    (is_identifier 1 most_item l.item && is_identifier 1 most_lot l.lot) (nat_le (least_quantity kind) l.quantity) p.0 in
    both_true (both_true q.0 (le-leb 0 l.quantity (omega arith))) (by_kind kind p.1)
  where
    by_kind : (kind : Sheets) → nat_le l.quantity (quantity_limit r kind) ≡ true → nat_le l.quantity most_recounted ≡ true
    by_kind CountSheet e = le-leb l.quantity most_recounted (omega (arith, leb-true l.quantity (most_quantity r) e, small r))
    by_kind PickSheet e = le-leb l.quantity most_recounted (omega (arith, leb-true l.quantity (most_quantity r) e, small r))
    by_kind RecountSheet e = e

widened_lines : (r : Rules) (kind : Sheets) (ls : List Line) → list_all (is_sheet_line r kind) ls ≡ true
    → list_all (is_sheet_line Two RecountSheet) ls ≡ true
widened_lines r kind [] h = refl
widened_lines r kind (l ∷ ls) h =
    let p = and_parts (is_sheet_line r kind l) (list_all (is_sheet_line r kind) ls) h in
    both_true (widened_line r kind l p.0) (widened_lines r kind ls p.1)

sheet_is : (r : Rules) (kind : Sheets) (ls : List Line) → is_sheet r kind ls ≡ true → IsSheet ls
sheet_is r kind ls h =
    let p = and_parts (nat_le (length ls) (most_lines r) && list_all (is_sheet_line r kind) ls) (is_ascending ls) h in
    let q = and_parts (nat_le (length ls) (most_lines r)) (list_all (is_sheet_line r kind) ls) p.0 in
    sheet_facts ls (both_true (both_true (le-leb (length ls) (most_lines Two) (omega (arith, leb-true (length ls) (most_lines r) q.0, few r))) (widened_lines r kind ls q.1)) p.1)

act_more : (r : Rules) (p : PageFacts) (es : List Event) (n : ℕ) (act : Act) (e : Event) → IsSound p → Shows p es → p.recent < most_sets
    → n ≡ p.entries + 1 → is_act r act ≡ true
    → performed es n act ≡ Ok e → (q : PageFacts) × IsOneMore p es e q
act_more r p es n (Count shipment sheet) e sound shows room follows good is =
    let g = and_parts (is_identifier 1 most_number shipment) (is_sheet r CountSheet sheet) good in
    counted_more p es n shipment sheet e sound shows room follows (sheet_is r CountSheet sheet g.1) is
act_more r p es n (Pick number sheet) e sound shows room follows good is =
    let g = and_parts (is_identifier 1 most_number number) (is_sheet r PickSheet sheet) good in
    picked_more p es n number sheet e sound shows room follows (sheet_is r PickSheet sheet g.1) is
act_more r p es n (Recount sheet) e sound shows room follows good is =
    recounted_more p es n sheet e sound shows room follows (sheet_is r RecountSheet sheet good) is

abbrev added_of : Result Event Refusal → List Event
added_of (Ok e) = e ∷ []
added_of (Err r) = []

-- the event of an act, if it was performed
pub performed_more : (r : Rules) (p : PageFacts) (es : List Event) (n : ℕ) (ticket : List ℕ) (act : Act) → IsSound p → Shows p es
    → p.recent < most_sets → n ≡ p.entries + 1 → is_act r act ≡ true
    → (q : PageFacts) × IsMore p es (events_added r es n (Performed ticket act)) 1 q
performed_more r p es n ticket act sound shows room follows good = by (performed es n act) refl
  where
    by : (o : Result Event Refusal) → performed es n act ≡ o → (q : PageFacts) × IsMore p es (added_of o) 1 q
    by (Ok e) is =
        let m = act_more r p es n act e sound shows room follows good is in
        (m.0, record { sound = m.1.sound; shows = m.1.shows; entries = m.1.entries; recent = omega (arith, m.1.recent) })
    by (Err r) is = (p, none_more p es 1 sound shows)
