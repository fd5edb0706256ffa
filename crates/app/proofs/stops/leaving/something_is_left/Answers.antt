use Rattle.std.proofs.Math.Logic.{∥∥₁_map}
use Rattle.app.proofs.stops.leaving.something_is_left.Goals as goal

pub returns : goal.returns
returns g c = λ clean stand. ∥∥₁_map (g.met.S.Store.survives c.args.book.now.tables.conn.store clean) (λ left. let there = stand left.0 left.1 in (there.0, (left.0, left.1, there.1)))
