use Rattle.std.proofs.Common.{List, ℕ}
use Rattle.folders.specs.Handed.{IsHanded, IsText}
use Rattle.folders.specs.Paths.{file_path}
use Rattle.folders.proofs.Stopping.{naming_stop_at, naming_stop_counted}
use Rattle.folders.proofs.into.take_claimed.Goals as goal

pub returns-in-Err-finish_taken-clause-halted : goal.returns-in-Err-finish_taken-clause-halted
returns-in-Err-finish_taken-clause-halted g c =
    let taking = c.args.taking.now in
    let P = IsHanded (g.R.FileSystem.reads c.args.rt.now) (g.R.FileSystem.writes c.args.rt.now) (g.R.FileSystem.lacks c.args.rt.now) taking in
    let has = λ (name : List ℕ). IsText (g.R.FileSystem.reads c.args.rt.now) (file_path taking name) in
    naming_stop_at (g.R.FileSystem.lists c.args.rt.now taking) P has c.in-Err-finish_taken.stop (g.K.Keeper.standing c.args.keeper.now) (g.K.Keeper.standing c.take_folder_telling.new.keeper) c.args.moment
    c.in-Ok.folder.files.items _ _ c.in-Ok.ensures.all c.in-Ok.ensures.handed c.in-Err-finish_taken.ensures.stopped

pub returns-in-Err-finish_taken-clause-stopped : goal.returns-in-Err-finish_taken-clause-stopped
returns-in-Err-finish_taken-clause-stopped g c =
    let P = IsHanded (g.R.FileSystem.reads c.args.rt.now) (g.R.FileSystem.writes c.args.rt.now) (g.R.FileSystem.lacks c.args.rt.now) c.args.taking.now in
    naming_stop_counted P c.in-Err-finish_taken.stop (g.K.Keeper.standing c.args.keeper.now) (g.K.Keeper.standing c.take_folder_telling.new.keeper) c.args.moment c.in-Ok.folder.files.items _
    c.take_folder_telling.ensures.goes c.in-Ok.ensures.opened c.in-Ok.ensures.handed c.in-Err-finish_taken.ensures.stopped
