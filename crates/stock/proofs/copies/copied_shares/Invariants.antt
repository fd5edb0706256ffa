use Rattle.std.proofs.Common.{◌≡◌, take}
use Rattle.std.specs.Prelude.{filter, nat_lt}
use Rattle.stock.proofs.copies.copied_shares.Given as goal

abbrev pub invariant-loop-share : goal.invariant-loop-share
invariant-loop-share l = l.copy.items ≡ filter (λ x. nat_lt 0 x.quantity) (take l.share-index l.shares)
