use Rattle.std.proofs.Common.{rules, ◌≡◌, ◌∙◌, ap, List, ℕ, map, subst}
use Rattle.std.specs.Prelude.{IfOk, IsErrAnd}
use Rattle.rules.specs.Parts.{Named}
use Rattle.definitions.specs.Bytes.{is_one_of}
use Rattle.book_tables.specs.Needed.{part_for}
use Rattle.book_tables.proofs.OnceKept.{same_texts}
use Rattle.store.specs.Fault.{Fault}
use Rattle.store.specs.Fault.TheVariants.{OutOfMemory}
use Rattle.book_tables.proofs.Queries.{asked_none, went_of}
use Rattle.book_tables.proofs.connected.Tables.gather.Goals as goal

pub returns-clause-found : goal.returns-clause-found
returns-clause-found g c = λ clean W L stands n is.
    let same : (t : List ℕ) → is_one_of (map (λ s. s.now) c.deref.result.now) t ≡ is_one_of c.args.names.now t =
    λ t. ap (λ xs. is_one_of (map (λ s. s.now) xs) t) c.deref.ensures.value ∙ c.in_ok-texts.ensures.same t in
    subst (λ (m : Named). IfOk c.gather_each.result (λ d. d ≡ part_for L c.args.who m)) (same_texts c.args.sought _ c.args.names.now n same)
    (c.gather_each.ensures.found clean W L stands n is)

pub returns-in_err-texts-clause-went : goal.returns-in_err-texts-clause-went
returns-in_err-texts-clause-went g c =
    let none : IsErrAnd c.from_residual.result (λ (f : Fault). f ≡ OutOfMemory) = search rules in
    went_of g.S.Store c.args.self.now c.args.self.now c.from_residual.result (asked_none g.S.Store c.args.self.now c.from_residual.result none)
