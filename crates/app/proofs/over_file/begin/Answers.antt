use Rattle.std.proofs.Common.{sym}
use Rattle.app.proofs.BeginLemmas.{begun_old, none_old}
use Rattle.app.proofs.over_file.begin.Goals as goal

pub returns-in-Ok : goal.returns-in-Ok
returns-in-Ok g c = record {
  begun = begun_old g.S.Store c.args.database c.args.job.now c.new.result c.in-Ok.book c.in_default.not-Make c.new.ensures.conn c.in-Ok.ensures.ok;
  none = tt;
}

pub returns-in-Err : goal.returns-in-Err
returns-in-Err g c = record {
  begun = tt;
  none = none_old g.S.Store c.args.database c.args.job.now c.new.result c.in-Err.tables c.into_inner.result c.in-Err.fault c.in_default.not-Make c.new.ensures.conn
      (sym c.into_inner.ensures) c.in-Err.ensures.err;
}
