use Rattle.std.proofs.Common.{rules, ◌≡◌, sym, subst, List, ℕ}
use Rattle.folders.specs.Naming.{taking_path}
use Rattle.folders.specs.Handed.{IsHanded, IsText}
use Rattle.folders.specs.Into.{IsStoppedAt}
use Rattle.folders.specs.Paths.{file_path}
use Rattle.folders.specs.Stops.{IsFolderStop}
use Rattle.folders.specs.declared.into.IntoStop.{IntoStop}
use Rattle.folders.proofs.Taking.{none_counted, handed_on}
use Rattle.folders.proofs.into.take_into.Goals as goal

pub returns-in_err-taking-clause-stopped : goal.returns-in_err-taking-clause-stopped
returns-in_err-taking-clause-stopped g c =
    let at = g.K.Keeper.standing c.args.keeper.now in
    handed_on c.from_residual.result _ _ c.from_residual.ensures
    (λ stop is. subst (λ (s : IntoStop). IsFolderStop s.stop at at c.args.moment) (sym is) (none_counted _ at c.args.moment c.in_err-taking.ensures.unbegun.unread))

pub returns-in_err-stays-clause-stopped : goal.returns-in_err-stays-clause-stopped
returns-in_err-stays-clause-stopped g c =
    let at = g.K.Keeper.standing c.args.keeper.now in
    handed_on c.from_residual-in_err-stays.result _ _ c.from_residual-in_err-stays.ensures
    (λ stop is. subst (λ (s : IntoStop). IsFolderStop s.stop at at c.args.moment) (sym is) (none_counted _ at c.args.moment c.in_err-stays.ensures.unbegun.unread))

pub returns-clause-halted : goal.returns-clause-halted
returns-clause-halted g c =
    let at : c.deref-2.result.now ≡ taking_path c.args.done.now.dir.now = search rules in
    let reads = g.R.FileSystem.reads c.args.rt.now in
    let lists = g.R.FileSystem.lists c.args.rt.now in
    subst (λ (taking : List ℕ). IsStoppedAt (lists taking) (IsHanded reads (g.R.FileSystem.writes c.args.rt.now) (g.R.FileSystem.lacks c.args.rt.now) taking) (λ name. IsText reads (file_path taking name))
    (g.K.Keeper.standing c.args.keeper.now) (g.K.Keeper.standing c.take_claimed.new.keeper) c.args.moment c.in-Err.stop.stop c.in-Err.stop.step)
    at c.in-Err.ensures.halted
