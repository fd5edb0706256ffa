use Rattle.std.proofs.Common.{rules, ◌≡◌, ◌∙◌, ap, List, ℕ, subst}
use Rattle.std.specs.Prelude.{IfOk, IsErrAnd}
use Rattle.rules.specs.Parts.{Named}
use Rattle.definitions.specs.Need.{is_number_of}
use Rattle.book_tables.specs.Needed.{part_for}
use Rattle.book_tables.proofs.OnceKept.{same_numbers}
use Rattle.store.specs.Fault.{Fault}
use Rattle.store.specs.Fault.TheVariants.{OutOfMemory}
use Rattle.book_tables.proofs.Queries.{asked_none, went_of}
use Rattle.book_tables.proofs.connected.Tables.gather_documents.Goals as goal

pub returns-clause-found : goal.returns-clause-found
returns-clause-found g c = λ clean W L stands n is.
    let same : (j : ℕ) → is_number_of c.deref.result.now j ≡ is_number_of c.args.numbers.now j =
    λ j. ap (λ (ms : List ℕ). is_number_of ms j) c.deref.ensures.value ∙ c.in_ok-rising.ensures.same j in
    subst (λ (m : Named). IfOk c.gather_numbers.result (λ d. d ≡ part_for L c.args.who m)) (same_numbers _ c.args.numbers.now n same)
    (c.gather_numbers.ensures.found clean W L stands n is)

pub returns-in_err-rising-clause-went : goal.returns-in_err-rising-clause-went
returns-in_err-rising-clause-went g c =
    let none : IsErrAnd c.from_residual.result (λ (f : Fault). f ≡ OutOfMemory) = search rules in
    went_of g.S.Store c.args.self.now c.args.self.now c.from_residual.result (asked_none g.S.Store c.args.self.now c.from_residual.result none)
