use Rattle.std.proofs.Common.{sym, subst}
use Rattle.folders.specs.Stops.{IsFolderStop}
use Rattle.folders.proofs.Taking.{none_counted, handed_on}
use Rattle.folders.specs.declared.folder.FolderStop.{FolderStop}
use Rattle.folders.proofs.folder.take_folder_telling.Goals as goal

pub returns-in_err-names-clause-stopped : goal.returns-in_err-names-clause-stopped
returns-in_err-names-clause-stopped g c =
    let at = g.K.Keeper.standing c.args.keeper.now in
    handed_on c.from_residual.result _ _ c.from_residual.ensures
    (λ stop is. subst (λ (s : FolderStop). IsFolderStop s at at c.args.moment) (sym is) (none_counted _ at c.args.moment c.in_err-names.ensures.unread))
