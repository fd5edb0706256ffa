use Rattle.std.proofs.Common.{rules, ◌≡◌, inl, inr, ap}
use Rattle.std.specs.Prelude.{IsErrAnd, ⊤}
use Rattle.std.proofs.lemmas.Bool.{cases_Bool}
use Rattle.sqlite.specs.Held.{state}
use Rattle.sqlite.specs.Values.{bound}
use Rattle.store.specs.Fault.{Fault}
use Rattle.book_statements.proofs.StepLemmas.{refused_keeps, same_keeps}
use Rattle.book_statements.proofs.Writes.{wrote_refused, wrote_failed}
use Rattle.book_statements.proofs.running.run.Goals as goal

pub returns-in_err-allow-clause-wrote : goal.returns-in_err-allow-clause-wrote
returns-in_err-allow-clause-wrote g c =
    let same : IsErrAnd c.from_residual.result (λ (f : Fault). f ≡ c.in_err-allow.field-0.0) = search rules in
    wrote_failed {T = ⊤} {A = ⊤} _ _ _ _ _ c.from_residual.result same
    (wrote_refused (state g.S.Store c.args.tx.now.conn.now) _ _ _ c.in_err-allow.ensures.err.0 c.in_err-allow.ensures.err.1 c.allow.ensures.limit)

pub returns-in-Ok-clause-wrote : goal.returns-in-Ok-clause-wrote
returns-in-Ok-clause-wrote g c = record {
  done = search rules;
  inside = search rules;
  kept = search rules;
  survives = c.execute.ensures.survives;
  ok = search rules;
  counted = tt;
  limit = search rules;
  named = tt;
}

pub returns-in-Err-clause-wrote : goal.returns-in-Err-clause-wrote
returns-in-Err-clause-wrote g c =
    let old = state g.S.Store c.args.tx.now.conn.now in
    let new = state g.S.Store c.execute.new.self.conn.now in
    record {
      done = λ clean inside. tt;
      inside = λ clean inside. tt;
      kept = λ clean. elim (cases_Bool old.in_transaction) [
        | inl inside ↦ refused_keeps c.args.sql.now (bound c.args.params.now) old new c.in-Err.error (c.in-Err.ensures.runs clean inside)
        | inr ended ↦ same_keeps old new (ap (state g.S.Store) (c.execute.ensures.ended ended).1)
      ];
      survives = c.execute.ensures.survives;
      ok = tt;
      counted = search rules;
      limit = search rules;
      named = search rules;
    }
