use Rattle.intake.proofs.Paths.{parts_are_text}
use Rattle.intake.proofs.routes.route_in.Goals as goal

pub route_at-requires : goal.route_at-requires
route_at-requires c =
    let found = rw (c.in-Ok.ensures.table) at c.in-Ok-at.ensures.found in
    rw (c.in-Ok-at.ensures.path) (parts_are_text c.args.path.now _ c.utf8.path found)
