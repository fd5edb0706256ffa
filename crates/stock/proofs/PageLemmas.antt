-- The first page, and the page when an entry ends.
use Rattle.std.proofs.Common.{◌≡◌, ◌∙◌, ℕ, ◌+◌, ◌<◌, ◌≤◌, true, ◌&&◌, List, [], ◌∷◌, refl, ap, arith}
use Rattle.std.proofs.lemmas.Bool.{and_parts, le-leb, leb-true, lt-ltb}
use Rattle.std.specs.List.{list_all}
use Rattle.std.specs.Prelude.{nat_le, nat_lt}
use Rattle.definitions.specs.Limits.{most_entries}
use Rattle.definitions.specs.Events.{Event, Enrolment, Advised, Ordered, Acknowledged, Counted, Picked, Recounted}
use Rattle.definitions.specs.Movements.{OnHand, balance}
use Rattle.page_rows.specs.OfPairs.{of_pair, amount}
use Rattle.page_rows.specs.Pages.{PageFacts, IsSound, next_entry}
use Rattle.stock.specs.Shows.{Shows, is_numbered_within}

pub blank_sound : IsSound (record { rows = []; advices = []; orders = []; documents = []; entries = 0; recent = 0 })
blank_sound = record {
  sorted = record { rows = refl; advices = refl; orders = refl; documents = refl };
  distinct = λ a b. omega arith;
  expected = λ a b. omega arith;
  reserved = λ a b. omega arith;
  in_lines = refl;
  covered = λ a b. omega arith;
  bounded = λ c a b. omega arith;
  numbered = omega arith;
  few = omega arith;
  advices_once = λ s. omega arith;
  orders_once = λ n. omega arith;
  documents_once = λ n. omega arith;
}

pub blank_shows : Shows (record { rows = []; advices = []; orders = []; documents = []; entries = 0; recent = 0 }) (Enrolment ∷ [])
blank_shows = record {
  amounts = λ c a b. refl;
  sinces = λ a b. refl;
  expiries = λ a b. refl;
  pairs = λ a b. refl;
  advices = λ s. refl;
  orders = λ n. refl;
  documents = λ n. refl;
  counted = λ s h. refl;
  picked = λ n h. refl;
  shares = λ n. tt;
  numbers = refl;
}

pub next_sound : (p : PageFacts) → p.entries < most_entries → IsSound p → IsSound (next_entry p)
next_sound p room sound = record {
  sorted = record { rows = sound.sorted.rows; advices = sound.sorted.advices; orders = sound.sorted.orders; documents = sound.sorted.documents };
  distinct = sound.distinct;
  expected = sound.expected;
  reserved = sound.reserved;
  in_lines = sound.in_lines;
  covered = sound.covered;
  bounded = λ c i l. omega (arith, sound.bounded c i l, sound.few);
  numbered = omega (arith, room);
  few = omega arith;
  advices_once = sound.advices_once;
  orders_once = sound.orders_once;
  documents_once = sound.documents_once;
}

-- what is on hand of a pair
pub on_hand_shown : (p : PageFacts) (es : List Event) (i l : List ℕ) → Shows p es → of_pair (amount OnHand) i l p.rows ≡ balance es OnHand i l
on_hand_shown p es i l shows = omega (arith, shows.amounts OnHand i l)

-- numbers from 1 to the most
pub within_more : (a b m : ℕ) → a ≤ b → (nat_lt 0 m && nat_le m a) ≡ true → (nat_lt 0 m && nat_le m b) ≡ true
within_more a b m h e =
    let p = and_parts (nat_lt 0 m) (nat_le m a) e in
    rw (p.0, le-leb m b (omega (arith, leb-true m a p.1, h))) refl

pub numbered_more : (a b : ℕ) (e : Event) → a ≤ b → is_numbered_within a e ≡ true → is_numbered_within b e ≡ true
numbered_more a b Enrolment h t = refl
numbered_more a b (Advised x) h t = refl
numbered_more a b (Ordered o shares) h t = refl
numbered_more a b (Acknowledged m x) h t = within_more a b m h t
numbered_more a b (Counted m x sheet) h t = within_more a b m h t
numbered_more a b (Picked m o shares sheet) h t = within_more a b m h t
numbered_more a b (Recounted m before sheet) h t = within_more a b m h t

pub all_numbered_more : (a b : ℕ) (es : List Event) → a ≤ b → list_all (is_numbered_within a) es ≡ true → list_all (is_numbered_within b) es ≡ true
all_numbered_more a b [] h t = refl
all_numbered_more a b (e ∷ es) h t =
    let p = and_parts (is_numbered_within a e) (list_all (is_numbered_within a) es) t in
    rw (numbered_more a b e h p.0, all_numbered_more a b es h p.1) refl

pub next_shows : (p : PageFacts) (es : List Event) → Shows p es → Shows (next_entry p) es
next_shows p es shows = record {
  amounts = shows.amounts;
  sinces = shows.sinces;
  expiries = shows.expiries;
  pairs = shows.pairs;
  advices = shows.advices;
  orders = shows.orders;
  documents = shows.documents;
  counted = shows.counted;
  picked = shows.picked;
  shares = shows.shares;
  numbers = all_numbered_more (p.entries + 1) (p.entries + 1 + 1) es (omega arith) shows.numbers;
}

pub all_numbered_same : (a b : ℕ) (es : List Event) → b ≡ a → list_all (is_numbered_within (a + 1)) es ≡ true → list_all (is_numbered_within (b + 1)) es ≡ true
all_numbered_same a b es h t = ap (λ (n : ℕ). list_all (is_numbered_within (n + 1)) es) h ∙ t

-- the number of the next entry
pub own_number : (n m : ℕ) → (0 < n) × (n ≤ m) → (nat_lt 0 n && nat_le n m) ≡ true
own_number n m h = rw (lt-ltb 0 n h.0, le-leb n m h.1) refl
