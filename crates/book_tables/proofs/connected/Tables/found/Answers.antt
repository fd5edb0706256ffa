use Rattle.std.proofs.Common.{rules, arith, ◌≡◌, ◌≢◌}
use Rattle.std.specs.Prelude.{IsErrAnd}
use Rattle.sqlite.specs.State.{HasCleanDisk}
use Rattle.sqlite.specs.Held.{state}
use Rattle.store.specs.Fault.{Fault}
use Rattle.store.specs.Fault.TheVariants.{NotThisBook}
use Rattle.book_statements.proofs.Asked.{asked_twice}
use Rattle.book_tables.proofs.AskedLater.{err_as}
use Rattle.book_statements.proofs.Carried.{stands_open_later}
use Rattle.book_statements.proofs.Limited.{spends_both, spends_same}
use Rattle.book_tables.proofs.Queries.{refused_after}
use Rattle.book_tables.proofs.connected.Tables.found.Goals as goal

pub returns-in_err-house-clause-tells : goal.returns-in_err-house-clause-tells
returns-in_err-house-clause-tells g c = record {
  house = search rules;
  none = search rules;
  this = λ clean q W L stands.
      let same : IsErrAnd c.from_residual.result (λ (f : Fault). f ≡ c.in_err-house.field-0.0) = search rules in
      err_as (λ (f : Fault). f ≢ NotThisBook) c.from_residual.result c.in_err-house.field-0.0 same (c.in_err-house.ensures.tells.this clean q W L stands);
  was_open = search rules;
  asked = search rules;
  called = search rules;
}

pub returns-in_err-entries-clause-tells : goal.returns-in_err-entries-clause-tells
returns-in_err-entries-clause-tells g c = record {
  house = search rules;
  none = search rules;
  this = search rules;
  was_open = search rules;
  asked = asked_twice (state g.S.Store c.args.self.now.conn) (state g.S.Store c.house.new.self.conn) (state g.S.Store c.count.new.self.conn) c.house.ensures.tells.asked c.count.ensures.asked;
  called =
      let same : IsErrAnd c.from_residual-in_err-entries.result (λ (f : Fault). f ≡ c.in_err-entries.field-0.0) = search rules in
      refused_after c.args.self.now c.house.new.self c.count.new.self c.in_ok-house.house c.in_err-entries.field-0.0 c.from_residual-in_err-entries.result c.in_ok-house.ensures.tells.called c.in_err-entries.ensures.called same;
}

pub returns-clause-count : goal.returns-clause-count
returns-clause-count g c = λ clean q W L stands.
    let early : HasCleanDisk (state g.S.Store c.house.new.self.conn) = omega (arith, c.count.ensures.asked.crash.clean, clean) in
    let named = c.in_ok-house.ensures.whose early q W L stands in (
      named.0,
      named.1,
      c.in_ok-entries.ensures.count clean q W L (stands_open_later q (state g.S.Store c.args.self.now.conn) (state g.S.Store c.house.new.self.conn) W L early c.house.ensures.tells.asked stands),
    )

pub returns-clause-tells : goal.returns-clause-tells
returns-clause-tells g c =
    let before : HasCleanDisk (state g.S.Store c.count.new.self.conn) → HasCleanDisk (state g.S.Store c.house.new.self.conn) =
    λ clean. omega (arith, c.count.ensures.asked.crash.clean, clean) in
    record {
      house = λ clean. c.in_ok-house.ensures.tells.house (before clean);
      none = search rules;
      this = search rules;
      was_open = λ clean. c.in_ok-house.ensures.tells.was_open (before clean);
      asked = asked_twice (state g.S.Store c.args.self.now.conn) (state g.S.Store c.house.new.self.conn) (state g.S.Store c.count.new.self.conn) c.house.ensures.tells.asked c.count.ensures.asked;
      called = search (rules, spends_both, spends_same);
    }
