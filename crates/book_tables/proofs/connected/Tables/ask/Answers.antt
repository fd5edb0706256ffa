use Rattle.std.proofs.Common.{rules, IsTrue, ◌∙◌, subst}
use Rattle.sqlite.specs.Held.{state}
use Rattle.sqlite.specs.Values.{bound}
use Rattle.book_statements.specs.Rises.{Rises}
use Rattle.book_statements.proofs.Limited.{spends_both, spends_same, spent_both}
use Rattle.book_statements.proofs.Asked.{not_prepared, shown_asked, shown_found, failed_asked}
use Rattle.book_tables.proofs.connected.Tables.ask.Goals as goal

pub returns-in-Err-clause-asked : goal.returns-in-Err-clause-asked
returns-in-Err-clause-asked g c = rw (← c.self.view_is) (
    let auto : IsTrue c.is_autocommit-settled.result = search rules in
    not_prepared (state g.S.Store c.self.inside.conn) (state g.S.Store c.prepare.new.self) c.args.sql.now c.in-Err.error (c.is_autocommit-settled.ensures.settled auto) c.in-Err.ensures.err c.prepare.ensures.survives)

pub returns-in-Ok-query_all-clause-finds : goal.returns-in-Ok-query_all-clause-finds
returns-in-Ok-query_all-clause-finds g c = rw (← c.self.view_is) (λ clean.
    shown_found c.args.sql.now (bound c.args.params.now) c.in-Ok.statement.text (state g.S.Store c.self.inside.conn) (state g.S.Store c.prepare.new.self) (state g.S.Store c.query_all.new.conn) c.requires
    c.in-Ok.ensures.ok c.prepare.ensures.survives c.query_all.ensures.survives c.in-Ok-query_all.rows.items c.in-Ok-query_all.ensures.ok clean)

pub returns-in-Ok-query_all-clause-asked : goal.returns-in-Ok-query_all-clause-asked
returns-in-Ok-query_all-clause-asked g c = rw (← c.self.view_is) (
    shown_asked c.args.sql.now (bound c.args.params.now) c.in-Ok.statement.text (state g.S.Store c.self.inside.conn) (state g.S.Store c.prepare.new.self) (state g.S.Store c.query_all.new.conn) c.requires
    c.in-Ok.ensures.ok c.prepare.ensures.survives c.query_all.ensures.survives c.in-Ok-query_all.rows.items c.in-Ok-query_all.ensures.ok)

pub returns-clause-asked : goal.returns-clause-asked
returns-clause-asked g c = rw (← c.self.view_is) (
    let auto : IsTrue c.is_autocommit-settled.result = search rules in
    failed_asked c.args.sql.now (bound c.args.params.now) c.in-Ok.statement.text (state g.S.Store c.self.inside.conn) (state g.S.Store c.prepare.new.self) (state g.S.Store c.query_all.new.conn) c.requires
    c.in-Ok.ensures.ok c.prepare.ensures.survives c.query_all.ensures.survives c.in-Err-query_all.error (c.is_autocommit-settled.ensures.settled auto) c.in-Err-query_all.ensures.err)

pub returns-clause-called : goal.returns-clause-called
returns-clause-called g c = rw (← c.self.view_is) (
    let x = c.self.inside.calls in
    let y = c.allow.new.self in
    let z = c.allow-2.new.self in
    let last = c.failed-in-Err-query_all.new.self in
    let told = c.failed-in-Err-query_all.ensures in
    record {
      named = told.named;
      counted = subst (λ n. Rises n last.refused) (c.in_ok-allow-2.ensures.ok ∙ c.in_ok-allow.ensures.ok) told.counted;
      uncounted = tt;
      limit = spends_both x.made y.made last.made x.limit y.limit last.limit c.allow.ensures.limit
          (spends_both y.made z.made last.made y.limit z.limit last.limit c.allow-2.ensures.limit (spends_same z.made last.made z.limit last.limit told.made told.limit));
      allowed = tt;
    })

pub returns-in-Ok-query_all-clause-called : goal.returns-in-Ok-query_all-clause-called
returns-in-Ok-query_all-clause-called g c = rw (← c.self.view_is) (
    let x = c.self.inside.calls in
    let y = c.allow.new.self in
    let z = c.allow-2.new.self in
    record {
      named = tt;
      counted = tt;
      uncounted = c.in_ok-allow-2.ensures.ok ∙ c.in_ok-allow.ensures.ok;
      limit = spends_both x.made y.made z.made x.limit y.limit z.limit c.allow.ensures.limit c.allow-2.ensures.limit;
      allowed = c.in_ok-allow.ensures.allowed.0;
    })

pub returns-in-Ok-query_all-clause-twice : goal.returns-in-Ok-query_all-clause-twice
returns-in-Ok-query_all-clause-twice g c = rw (← c.self.view_is) (
    let x = c.self.inside.calls in
    let y = c.allow.new.self in
    let z = c.allow-2.new.self in
    spent_both 1 1 x.made y.made z.made x.limit y.limit z.limit c.in_ok-allow.ensures.once c.in_ok-allow-2.ensures.once)

pub returns-in-Err-clause-called : goal.returns-in-Err-clause-called
returns-in-Err-clause-called g c = rw (← c.self.view_is) (
    let x = c.self.inside.calls in
    let y = c.allow.new.self in
    let last = c.failed.new.self in
    let told = c.failed.ensures in
    record {
      named = told.named;
      counted = subst (λ n. Rises n last.refused) c.in_ok-allow.ensures.ok told.counted;
      uncounted = tt;
      limit = spends_both x.made y.made last.made x.limit y.limit last.limit c.allow.ensures.limit (spends_same y.made last.made y.limit last.limit told.made told.limit);
      allowed = tt;
    })
