use Rattle.std.proofs.Common.{inr, arith}
use Rattle.app.specs.Days.{AllCarried}
use Rattle.app.proofs.stops.reopening.reopened.Goals as goal

pub returns-in-Ok-clause-left : goal.returns-in-Ok-clause-left
returns-in-Ok-clause-left g c = λ clean stand.
    let W = c.args.book.warehouse in
    let all : AllCarried (g.S.Store.recovers c.stopped.result) W = λ db found. let there = stand db (c.stopped.ensures.left db found) in (there.0, inr there.1) in
    let o = c.in-Ok.ensures.opened clean W all in
    let was = c.stopped.ensures.left o.found o.was in
    record {
      warehouse = o.warehouse;
      register = (stand o.found was).0;
      left = (o.found, was, (stand o.found was).1);
      usable = o.usable;
    }

pub returns-in-Ok-clause-doubt : goal.returns-in-Ok-clause-doubt
returns-in-Ok-clause-doubt g c = omega (arith, c.stopped.ensures.doubt, c.in-Ok.ensures.doubt)

pub returns-in-Err-clause-doubt_back : goal.returns-in-Err-clause-doubt_back
returns-in-Err-clause-doubt_back g c = omega (arith, c.stopped.ensures.doubt, c.in-Err.ensures.doubt_back)

pub returns-in-Err-clause-this : goal.returns-in-Err-clause-this
returns-in-Err-clause-this g c = λ clean stand.
    c.in-Err.ensures.this clean c.args.book.warehouse (λ db found. let there = stand db (c.stopped.ensures.left db found) in (there.0, inr there.1))

pub returns-in-Err-clause-kept : goal.returns-in-Err-clause-kept
returns-in-Err-clause-kept g c = λ clean stand db may.
    c.stopped.ensures.left db (c.in-Err.ensures.same clean c.args.book.warehouse (λ left found. stand left (c.stopped.ensures.left left found)) db may)
