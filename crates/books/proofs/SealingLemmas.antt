-- What is noted of the first entries that are written down.
use Rattle.std.proofs.Common.{◌≡◌, ◌<◌, ◌≤◌, ℕ, ◌+◌, zero, suc, Bool, true, false, List, [], ◌∷◌, ◌++◌, length, take, slice_get, min, Option, Some, None, refl, sym, ap, ◌∙◌, arith, length-take}
use Rattle.std.specs.Prelude.{option_map, nat_le, if◌then◌else◌}
use Rattle.definitions.specs.Moments.{Moment}
use Rattle.definitions.specs.Register.{Entry}
use Rattle.rules.specs.Written.{Written, written}
use Rattle.store.specs.Replayed.{all_written, written_on}
use Rattle.store.proofs.Entries.{there_on}
use Rattle.book_statements.specs.Recorded.{written_at}
use Rattle.seals.specs.Noted.{noted_after, noted_of, noted_of_first}
use Rattle.seals.proofs.Chains.{length-written_on}
use Rattle.seals.proofs.Notings.{noted_added}
use Rattle.books.proofs.GivenLemmas.{got}

-- there are so many entries, and this is noted of the first of them
pub record IsNoted (i : ℕ) (n : ℕ × List ℕ × Option Moment) (L : List Entry) : Type 0 where
  pub fits : i ≤ length L
  pub is : n ≡ noted_of (take i L)

pub none_noted : (L : List Entry) (n : ℕ × List ℕ × Option Moment) → n ≡ noted_of [] → IsNoted 0 n L
none_noted L n h = record { fits = omega arith; is = h }

-- as many as were counted
counted : (L : List Entry) (i : ℕ) (n : ℕ × List ℕ × Option Moment) → IsNoted i n L → n.0 ≡ i
counted L i n h =
    let same : n.0 ≡ length (take i L) = ap (λ (m : ℕ × List ℕ × Option Moment). m.0) h.is in
    omega (arith, same, length-take i L, h.fits)

-- one more
one_more : (L : List Entry) (i : ℕ) (n next : ℕ × List ℕ × Option Moment) → IsNoted i n L → (o : Option Written) → slice_get (all_written L) i ≡ o
    → Some next ≡ option_map (noted_after n) o → IsNoted (suc i) next L
one_more L i n next was None at h = absurd (let e : ◌≡◌ {A = Option (ℕ × List ℕ × Option Moment)} (Some next) None = h in cc)
one_more L i n next was (Some w) at h =
    let there = got (all_written L) i w at in
    let t = there_on [] L i w there.0 there.1 in
    let e : next ≡ noted_after n w = cc in
    record {
      fits = omega (arith, there.0, length-written_on [] L);
      is = e
          ∙ (λ j. noted_after (was.is j) (t.1.row j))
          ∙ sym (noted_added (take i L) t.0)
          ∙ ap noted_of (sym t.1.more);
    }

-- the entry under the number that follows on those that were counted
at_next : (L : List Entry) (i : ℕ) (n : ℕ × List ℕ × Option Moment) → IsNoted i n L → n.0 + 1 ≡ suc i
at_next L i n was = omega (arith, counted L i n was)

pub next_noted : (L : List Entry) (i : ℕ) (n next : ℕ × List ℕ × Option Moment) → IsNoted i n L
    → Some next ≡ option_map (noted_after n) (written_at (all_written L) (n.0 + 1)) → IsNoted (i + 1) next L
next_noted L i n next was h =
    let up : i + 1 ≡ suc i = omega arith in
    let more = one_more L i n next was (slice_get (all_written L) i) refl (h ∙ ap (λ (k : ℕ). option_map (noted_after n) (written_at (all_written L) k)) (at_next L i n was)) in
    record { fits = omega (arith, more.fits); is = more.is ∙ ap (λ (k : ℕ). noted_of (take k L)) (sym up) }

-- what is noted of the first entries
test_true : (b : Bool) (n : ℕ × List ℕ × Option Moment) → b ≡ true → (if b then Some n else None) ≡ Some n
test_true b n h = rw h refl

test_false : (b : Bool) (n : ℕ × List ℕ × Option Moment) → b ≡ false → (if b then Some n else None) ≡ None
test_false b n h = rw h refl

pub first_noted : (L : List Entry) (count : ℕ) (n : ℕ × List ℕ × Option Moment) → IsNoted count n L → Some n ≡ noted_of_first count L
first_noted L count n h =
    let fits : nat_le count (length L) ≡ true = grind (arith, h.fits) in
    ap Some h.is ∙ sym (test_true (nat_le count (length L)) (noted_of (take count L)) fits)

-- there are fewer
pub none_first : (L : List Entry) (count : ℕ) → length L < count → None ≡ noted_of_first count L
none_first L count lt =
    let short : nat_le count (length L) ≡ false = grind (arith, lt) in
    sym (test_false (nat_le count (length L)) (noted_of (take count L)) short)

past : (ws : List Written) (i : ℕ) → slice_get ws i ≡ None → length ws ≤ i
past [] i h = omega arith
past (w ∷ ws) zero h = absurd (let e : ◌≡◌ {A = Option Written} (Some w) None = h in cc)
past (w ∷ ws) (suc i) h = omega (arith, past ws i h)

none_next : (o : Option Written) (n : ℕ × List ℕ × Option Moment) → None ≡ option_map (noted_after n) o → o ≡ None
none_next None n h = refl
none_next (Some w) n h = absurd (let e : ◌≡◌ {A = Option (ℕ × List ℕ × Option Moment)} None (Some (noted_after n w)) = h in cc)

pub none_more : (L : List Entry) (i count : ℕ) (n : ℕ × List ℕ × Option Moment) → i < count → IsNoted i n L
    → None ≡ option_map (noted_after n) (written_at (all_written L) (n.0 + 1)) → None ≡ noted_of_first count L
none_more L i count n lt was h =
    let none : slice_get (all_written L) i ≡ None = ap (written_at (all_written L)) (sym (at_next L i n was)) ∙ none_next (written_at (all_written L) (n.0 + 1)) n h in
    none_first L count (omega (arith, past (all_written L) i none, length-written_on [] L, lt))

pub never_some : {A : Type 0} (o : Option A) → ((a : A) → o ≡ Some a → ⊥) → o ≡ None
never_some None not = refl
never_some (Some a) not = absurd (not a refl)
