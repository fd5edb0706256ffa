use Rattle.std.proofs.Common.{◌≡◌, ◌==◌, find}
use Rattle.store.proofs.sending.content_of.Given as goal

-- the row, if there is one, is still to come
abbrev pub invariant-loop-row : goal.invariant-loop-row
invariant-loop-row l = find (λ r. r.n == l.n) l.fn.rows.items ≡ find (λ r. r.n == l.n) l.row-iterator.rest.items
