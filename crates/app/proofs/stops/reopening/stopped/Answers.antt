use Rattle.std.proofs.Common.{arith, ◌≡◌, ap, subst, ◌∙◌}
use Rattle.sqlite.specs.Held.{Held}
use Rattle.sqlite_trees.specs.View.{IsQuiet}
use Rattle.app.proofs.stops.reopening.stopped.Goals as goal

pub returns : goal.returns
returns g c =
    let v = g.S.Store in
    let same : c.into_inner.result ≡ c.args.book.tables.conn = c.into_inner.ensures ∙ ap (λ t. t.conn) c.close.ensures in
    let quiet = subst (λ (h : Held g.row.S.Denot). IsQuiet v.view v.faults v.recovers v.is_shielded h.store c.into_store.result) same c.into_store.ensures.quiet in
    record { left = quiet.outcomes; doubt = omega (arith, quiet.clean); numbered = c.into_store.ensures.numbered }
