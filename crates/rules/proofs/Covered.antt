-- The goods of each depositor of a legal register: covered, and each balance within 64 bits.
use Rattle.std.proofs.Common.{◌≡◌, ℕ, ◌<◌, ◌^◌, Bool, List, [], ◌∷◌, None, Some, refl, ap, ◌∙◌, arith}
use Rattle.std.specs.Prelude.{if◌then◌else◌}
use Rattle.definitions.specs.declared.rules.Rules.{Rules}
use Rattle.definitions.specs.Header.{Who}
use Rattle.definitions.specs.Register.{Entry, own}
use Rattle.definitions.specs.Events.{Event}
use Rattle.definitions.specs.History.{events, history}
use Rattle.definitions.specs.Movements.{Column, IsCovered, balance}
use Rattle.definitions.specs.Accepted.{IsLegal}
use Rattle.stock.proofs.PageLaws.{balance_shows, covered_events, small_amounts}
use Rattle.rules.specs.LegalPages.{IsLegalPage}
use Rattle.definitions.specs.Decision.{standing}
use Rattle.rules.proofs.LegalPages.{legal_page, some_standing}

-- what is said of the goods that events tell of
record AreKept (es : List Event) : Type 0 where
  covered : IsCovered es
  small : (c : Column) (a b : List ℕ) → balance es c a b < 2 ^ 64

nothing_kept : AreKept []
nothing_kept = record {
  covered = record { nothing_below = λ c a b. omega arith; reserved_on_hand = λ a b. omega arith };
  small = λ c a b. omega arith;
}

page_kept : (M : List Entry) → ((P : _) × IsLegalPage P (history M)) → AreKept (events M)
page_kept M (P, page) = record {
  covered = covered_events P (events M) page.sound page.page.shows;
  small = λ c a b. omega (arith, balance_shows P (events M) page.page.shows c a b, small_amounts P page.sound c a b);
}

kept : (r : Rules) (W : Who) (L : List Entry) (w : Who) → IsLegal r W L → (M : List Entry) → own L w ≡ M → AreKept (events M)
kept r W L w legal [] is = nothing_kept
kept r W L w legal (e ∷ M) is = page_kept (e ∷ M) (legal_page r W L w (history (e ∷ M)) legal
    (ap standing is ∙ ap (λ (b : Bool). if b then None else Some (history (e ∷ M))) (some_standing e M)))

pub covered_goods : (r : Rules) (W : Who) (L : List Entry) (w : Who) → IsLegal r W L → IsCovered (events (own L w))
covered_goods r W L w legal = (kept r W L w legal (own L w) refl).covered

pub small_goods : (r : Rules) (W : Who) (L : List Entry) (w : Who) → IsLegal r W L
    → (c : Column) (a b : List ℕ) → balance (events (own L w)) c a b < 2 ^ 64
small_goods r W L w legal = (kept r W L w legal (own L w) refl).small
