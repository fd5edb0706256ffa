-- The page with one event more exists: with an advice, an order or an acknowledgment that a set
-- brings.
use Rattle.std.proofs.Common.{◌≡◌, ℕ, ◌+◌, ◌-◌, ◌<◌, ◌≤◌, ◌^◌, max, Bool, true, false, ◌||◌, List, [], ◌∷◌, ◌++◌, refl, ap, sym, ◌∙◌, subst, arith, Option, None}
use Rattle.std.specs.Prelude.{length, All, map}
use Rattle.std.proofs.lemmas.List.{length-map}
use Rattle.std.proofs.lemmas.List.Elements.{All-map}
use Rattle.std.specs.List.{list_any}
use Rattle.definitions.specs.declared.rules.Rules.{Rules}
use Rattle.definitions.specs.Rules.{Today}
use Rattle.definitions.specs.Events.{Event, Advised, Ordered, Acknowledged, is_pair, quantity_of, date_given, advice_fault, order_fault}
use Rattle.definitions.specs.Allotment.{order_shares}
use Rattle.definitions.specs.Lists.{or_else}
use Rattle.definitions.specs.Limits.{most_lines, most_quantity, most_sets}
use Rattle.definitions.specs.Means.{Line, AdviceLine, Advice, advised, Order, Acknowledgment}
use Rattle.definitions.specs.Movements.{Column, Expected, Reservation}
use Rattle.definitions.specs.Page.{reserved_lines}
use Rattle.definitions.specs.Rows.{LotRow}
use Rattle.sets_in.specs.Limits.{HasFewLines}
use Rattle.page_rows.specs.Keyed.{put_advice, put_order}
use Rattle.page_rows.specs.Lots.{all_shares_in}
use Rattle.page_rows.specs.Moved.{IsAdded, IsAdvised}
use Rattle.page_rows.specs.Pages.{PageFacts, IsSound, advice_at, order_at}
use Rattle.stock.specs.Puts.{put}
use Rattle.stock.specs.Shows.{Shows}
use Rattle.page_rows.specs.Steps.{opened, opened_order, IsAnnounced, IsReserved, IsAcknowledged}
use Rattle.stock.specs.Stops.{document_changes}
use Rattle.page_rows.specs.OfPairs.{of_pair, date_of_pair, one, since, amount, given, named_by, date_of}
use Rattle.stock.proofs.Acknowledges.{acknowledged_put, acknowledged_sound, acknowledged_shows}
use Rattle.stock.proofs.Allots.{IsAllotted, allotted}
use Rattle.stock.proofs.Announces.{announced_sound, announced_shows, advice_fault_shown, advice_unknown}
use Rattle.stock.proofs.Dated.{no_date}
use Rattle.page_rows.proofs.Dates.{date_absent}
use Rattle.stock.proofs.Existing.{rows_made}
use Rattle.stock.proofs.PartShares.{opened_in_lines}
use Rattle.page_rows.proofs.Pairs.{quantity_no}
use Rattle.stock.proofs.Receives.{given_at_most}
use Rattle.stock.proofs.Reserves.{reserved_sound, reserved_shows, order_fault_shown, order_unknown, order_items_once}
use Rattle.stock.proofs.ShownShares.{all_shares_shown}
use Rattle.page_rows.proofs.OfPairLemmas.{of_pair_absent}

-- a page that stands for one event more
pub record IsOneMore (p : PageFacts) (es : List Event) (e : Event) (q : PageFacts) : Type 0 where
  pub sound : IsSound q
  pub shows : Shows q (es ++ e ∷ [])
  pub entries : q.entries ≡ p.entries
  pub recent : q.recent ≡ p.recent + 1

-- An advice and an order.

pub neither : (v w : Bool) → (v || w) ≡ false → (v ≡ false) × (w ≡ false)
neither true w h = absurd (cc)
neither false w h = (refl, h)

pub unnamed : (a b : List ℕ) (ls : List Line) → list_any (is_pair a b) ls ≡ false → quantity_of ls a b ≡ 0
unnamed a b [] h = refl
unnamed a b (l ∷ ls) h =
    let u = neither (is_pair a b l) (list_any (is_pair a b) ls) h in quantity_no a b l ls u.0 ∙ unnamed a b ls u.1

rows_added : (column : Column) (lines : List Line) (p : PageFacts) → IsSound p
    → (new : List LotRow) × IsAdded column lines p.rows new
rows_added column lines p sound =
    let date : List ℕ → List ℕ → Option (List ℕ) = λ a b. date_of_pair a b p.rows in
    let number : List ℕ → List ℕ → ℕ = λ a b. of_pair since a b p.rows in
    let more : Column → List ℕ → List ℕ → ℕ = λ c a b. of_pair (amount c) a b p.rows + given column lines c a b in
    let m = rows_made date number more lines p.rows sound.sorted.rows nothing in
    (m.0, record { sorted = m.1.sorted; amounts = m.1.amounts; sinces = m.1.sinces; expiries = m.1.expiries; named = m.1.named })
  where
    nothing : (a b : List ℕ) → of_pair one a b p.rows ≡ 0 → list_any (is_pair a b) lines ≡ false
        → (of_pair since a b p.rows ≡ 0) × ((c : Column) → of_pair (amount c) a b p.rows + given column lines c a b ≡ 0) × (date_of_pair a b p.rows ≡ None)
    nothing a b none unnamed_it = (
      of_pair_absent since a b p.rows none,
      λ c. omega (arith, of_pair_absent (amount c) a b p.rows none, given_at_most column lines c a b, unnamed a b lines unnamed_it),
      date_absent a b p.rows sound.sorted.rows none,
    )

rows_advised : (lines : List AdviceLine) (p : PageFacts) → IsSound p → (new : List LotRow) × IsAdvised lines p.rows new
rows_advised lines p sound =
    let m = rows_made date number more goods p.rows sound.sorted.rows nothing in
    (m.0, record { sorted = m.1.sorted; amounts = m.1.amounts; sinces = m.1.sinces; expiries = m.1.expiries; named = m.1.named })
  where
    goods : List Line
    goods = map (λ l. l.line) lines

    date : List ℕ → List ℕ → Option (List ℕ)
    date a b = or_else (date_of_pair a b p.rows) (date_of lines a b)

    number : List ℕ → List ℕ → ℕ
    number a b = of_pair since a b p.rows

    more : Column → List ℕ → List ℕ → ℕ
    more c a b = of_pair (amount c) a b p.rows + given Expected goods c a b

    nothing : (a b : List ℕ) → of_pair one a b p.rows ≡ 0 → list_any (is_pair a b) goods ≡ false
        → (number a b ≡ 0) × ((c : Column) → more c a b ≡ 0) × (date a b ≡ None)
    nothing a b none unnamed_it = (
      of_pair_absent since a b p.rows none,
      λ c. omega (arith, of_pair_absent (amount c) a b p.rows none, given_at_most Expected goods c a b, unnamed a b goods unnamed_it),
      ap (λ (o : Option (List ℕ)). or_else o (date_of lines a b)) (date_absent a b p.rows sound.sorted.rows none) ∙ no_date lines a b unnamed_it,
    )

-- an advice with its lines at no place brings as much, and the same dates
placeless : AdviceLine → AdviceLine
placeless l = record l { position = 0 }

same_lines : (ls : List AdviceLine) → map (λ l. l.line) (map placeless ls) ≡ map (λ l. l.line) ls
unfolding placeless
same_lines [] = refl
same_lines (l ∷ ls) = ap (λ xs. l.line ∷ xs) (same_lines ls)

same_dates : (ls : List AdviceLine) (a b : List ℕ) → date_of (map placeless ls) a b ≡ date_of ls a b
unfolding placeless
same_dates [] a b = refl
same_dates (l ∷ ls) a b = ap (or_else (date_given a b l)) (same_dates ls a b)

advised_placeless : (ls : List AdviceLine) (old new : List LotRow) → IsAdvised ls old new → IsAdvised (map placeless ls) old new
advised_placeless ls old new step = record {
  sorted = step.sorted;
  amounts = λ c a b. step.amounts c a b ∙ ap (λ (goods : List Line). of_pair (amount c) a b old + given Expected goods c a b) (sym (same_lines ls));
  sinces = step.sinces;
  expiries = λ a b. step.expiries a b ∙ ap (or_else (date_of_pair a b old)) (sym (same_dates ls a b));
  named = λ a b. step.named a b ∙ ap (λ (goods : List Line). max (of_pair one a b old) (named_by goods a b)) (sym (same_lines ls));
}

little : (ls : List AdviceLine) → length ls ≤ most_lines Today → All (λ (l : AdviceLine). l.line.quantity ≤ most_quantity Today) ls
    → HasFewLines (map placeless ls)
unfolding placeless
little ls few small = record {
  few = omega (arith, few, length-map ls placeless);
  small = All-map (λ (l : AdviceLine). l.line.quantity ≤ most_quantity Today) placeless ls small;
  placed = All-map (λ (l : AdviceLine). l.position < 2 ^ 32 - 1) placeless ls (λ i d within. omega arith);
}

pub announced_more : (p : PageFacts) (es : List Event) (a : Advice) → IsSound p → Shows p es → p.recent < most_sets
    → length a.lines ≤ most_lines Today → All (λ (l : AdviceLine). l.line.quantity ≤ most_quantity Today) a.lines
    → advice_fault es a ≡ None
    → (q : PageFacts) × IsOneMore p es (Advised a) q
announced_more p es a sound shows room few small none =
    let rows = rows_advised a.lines p sound in
    let q : PageFacts = record p { rows = rows.0; advices = put_advice (opened a) p.advices; recent = p.recent + 1 } in
    let unknown = advice_unknown (advice_at a.shipment p.advices) (λ i l. date_of_pair i l p.rows) a (advice_fault_shown p es a shows ∙ none) in
    let step : IsAnnounced a p q = record {
      rows = rows.1;
      advices = refl;
      orders = refl;
      documents = refl;
      next = record { entries = refl; recent = refl };
    } in
    let b : Advice = record a { lines = map placeless a.lines } in
    let same : advised b ≡ advised a = same_lines a.lines in
    let like : IsAnnounced b p q = record {
      rows = advised_placeless a.lines p.rows q.rows rows.1;
      advices = ap (λ (ls : List Line). put_advice (record (opened a) { lines = ls }) p.advices) (sym same);
      orders = refl;
      documents = refl;
      next = record { entries = refl; recent = refl };
    } in (
      q,
      record {
        sound = announced_sound b p q like (little a.lines few small) unknown room sound;
        shows = announced_shows a p q es step unknown shows;
        entries = refl;
        recent = refl;
      },
    )

pub ordered_more : (r : Rules) (p : PageFacts) (es : List Event) (o : Order) → IsSound p → Shows p es → p.recent < most_sets
    → order_fault es o ≡ None
    → (q : PageFacts) × IsOneMore p es (Ordered o (order_shares r es o)) q
ordered_more r p es o sound shows room none =
    let shares = all_shares_in r p.rows o.lines in
    let rows = rows_added Reservation (reserved_lines shares) p sound in
    let q : PageFacts = record p {
      rows = rows.0;
      orders = put_order (opened_order o shares) p.orders;
      recent = p.recent + 1;
    } in
    let fault = order_fault_shown p es o shows ∙ none in
    let unknown = order_unknown (order_at o.number p.orders) o fault in
    let facts : IsAllotted p.rows shares = allotted r p.rows o.lines sound.distinct (order_items_once _ o fault) in
    let step : IsReserved o shares p q = record {
      rows = rows.1;
      advices = refl;
      orders = refl;
      documents = refl;
      next = record { entries = refl; recent = refl };
    } in (
      q,
      record {
        sound = reserved_sound o shares p q step facts (opened_in_lines r o p) unknown room sound;
        shows = subst (λ (ls : List Line). Shows q (es ++ Ordered o ls ∷ [])) (all_shares_shown r p es o shows sound.distinct)
            (reserved_shows o shares p q es step facts unknown shows);
        entries = refl;
        recent = refl;
      },
    )

-- An acknowledgment.

pub acknowledged_more : (p : PageFacts) (es : List Event) (a : Acknowledgment) → IsSound p → Shows p es
    → p.recent < most_sets
    → (q : PageFacts) × IsOneMore p es (Acknowledged (p.entries + 1) a) q
acknowledged_more p es a sound shows room =
    let q = put (document_changes p a) p in
    let step : IsAcknowledged a p q = acknowledged_put a p sound.sorted in (
      q,
      record {
        sound = acknowledged_sound a p q step room sound;
        shows = acknowledged_shows a p q es step shows;
        entries = refl;
        recent = refl;
      },
    )
