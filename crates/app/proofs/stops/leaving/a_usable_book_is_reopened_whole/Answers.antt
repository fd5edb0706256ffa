use Rattle.std.proofs.Common.{subst}
use Rattle.store.specs.Standing.{IsUsable}
use Rattle.books.specs.Opened.{standing_of}
use Rattle.app.proofs.stops.leaving.a_usable_book_is_reopened_whole.Goals as goal

pub returns : goal.returns
returns g c = λ L u r. subst (IsUsable (standing_of g.S.Store c.args.opened.now)) (u.only r.register r.left) r.usable
