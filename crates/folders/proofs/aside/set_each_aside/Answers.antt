use Rattle.std.proofs.Common.{◌≡◌, subst, string_bytes}
use Rattle.std.proofs.lemmas.List.{take_all}
use Rattle.definitions.specs.declared.refusals.Refusal.TheVariants.{Unreadable}
use Rattle.folders.specs.Naming.{AreUnreadable, IsSetAside}
use Rattle.folders.specs.Folders.{WasRefused, became_of}
use Rattle.folders.specs.declared.folder.Taken.{Taken}
use Rattle.folders.proofs.Claiming.{each_more}
use Rattle.folders.proofs.aside.set_each_aside.Goals as goal

pub loop-file-preserved : goal.loop-file-preserved
loop-file-preserved g c =
    let P = IsSetAside (g.R.FileSystem.finds c.args.rt.now) (g.R.FileSystem.moves c.args.rt.now) (g.R.FileSystem.makes c.args.rt.now) (g.R.FileSystem.syncs c.args.rt.now) c.args.taking.now in
    each_more (λ (f : Taken). became_of f.outcome ≡ WasRefused Unreadable → P (string_bytes f.name)) c.args.files.now c.loop-file.file-index c.file-item.result c.file-item.is c.loop-file-test.true
    c.loop-file.invariant c.in_ok-set_aside_unreadable.ensures.set

pub returns-clause-set : goal.returns-clause-set
returns-clause-set g c =
    let P = IsSetAside (g.R.FileSystem.finds c.args.rt.now) (g.R.FileSystem.moves c.args.rt.now) (g.R.FileSystem.makes c.args.rt.now) (g.R.FileSystem.syncs c.args.rt.now) c.args.taking.now in
    subst (AreUnreadable P) (take_all c.loop-file.file-index c.args.files.now c.loop-file-test.false) c.loop-file.invariant
