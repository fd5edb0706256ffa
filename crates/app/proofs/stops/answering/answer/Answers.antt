use Rattle.app.proofs.LeftLemmas.{may_be_there}
use Rattle.app.proofs.stops.answering.answer.Goals as goal

pub returns-clause-runs : goal.returns-clause-runs
returns-clause-runs g c = λ L u given.
    let s = g.K.Keeper.standing in
    let old = c.args.keeper.now in
    let new = c.run-outcome.new.keeper in
    let ran = c.run-outcome.ensures in
    record {
      goes = ran.goes;
      answered = λ clean. ran.replies clean L u given;
      opened = λ clean open'. ran.left clean L u given open';
      broken = λ clean shut. let b = ran.broken clean L u given shut in
          (may_be_there (s old) (s new) L _ c.run-outcome.result.fault clean u given ran.fault b.0, b.1);
    }
