use Rattle.std.proofs.Common.{refl}
use Rattle.app.proofs.BeginLemmas.{not_made}
use Rattle.app.proofs.book_files.make.Goals as goal

pub returns-in-Err-clause-none : goal.returns-in-Err-clause-none
returns-in-Err-clause-none g c =
    not_made g.S.Store c.args.database c.args.warehouse c.new.result c.in-Err.tables c.into_inner.result c.in-Err.fault c.new.ensures.conn c.into_inner.ensures
    (c.if-not-is_blank.ensures.blank refl) c.in-Err.ensures.free c.in-Err.ensures.before c.in-Err.ensures.crash c.in-Err.ensures.named
