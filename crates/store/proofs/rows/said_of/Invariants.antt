use Rattle.std.proofs.Common.{◌≡◌, ◌==◌, drop}
use Rattle.std.specs.Prelude.{find}
use Rattle.store.proofs.rows.said_of.Given as goal

abbrev pub invariant-loop-document : goal.invariant-loop-document
invariant-loop-document l = find (λ d. d.n == l.n) (drop l.document-index l.documents) ≡ find (λ d. d.n == l.n) l.documents
