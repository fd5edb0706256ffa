-- A count of rows.
use Rattle.std.proofs.Common.{ℕ, ap, ◌∙◌, arith, List}
use Rattle.std.specs.List.{list_any}
use Rattle.definitions.specs.Rows.{LotRow}
use Rattle.definitions.specs.Means.{Line}
use Rattle.definitions.specs.Events.{is_pair}
use Rattle.definitions.specs.Movements.{Expected, OnHand}
use Rattle.page_rows.specs.OfPairs.{first_number}
use Rattle.page_rows.specs.Moved.{IsAdded, IsTaken, IsMarked, IsCounted}

pub counted_made : (n : ℕ) (expected sheet : List Line) (r0 r1 r2 r3 : List LotRow)
    → IsTaken Expected expected r0 r1 → IsAdded OnHand sheet r1 r2 → IsMarked n sheet r2 r3 → IsCounted n expected sheet r0 r3
counted_made n expected sheet r0 r1 r2 r3 taken added marked = record {
  sorted = marked.sorted;
  amounts = λ c a b. omega (arith, taken.amounts c a b, added.amounts c a b, marked.amounts c a b);
  sinces = λ a b. marked.sinces a b ∙ ap (first_number n (list_any (is_pair a b) sheet)) (added.sinces a b ∙ taken.sinces a b);
  expiries = λ a b. marked.expiries a b ∙ added.expiries a b ∙ taken.expiries a b;
  named = λ a b. omega (arith, taken.named a b, added.named a b, marked.named a b);
}
