use Rattle.std.proofs.Common.{arith, rules, subst, filter, List, Some, refl}
use Rattle.std.specs.List.{FoldsTo}
use Rattle.std.proofs.lemmas.List.{take_all}
use Rattle.definitions.specs.Rows.{OutRow}
use Rattle.commands.specs.HandingOn.{AreLeft, IsRowLeft, Told, is_document}
use Rattle.commands.specs.declared.told.ExitStatus.TheVariants.{Done}
use Rattle.commands.proofs.HandingLaws.{told_after, with_it, without_it}
use Rattle.commands.proofs.handing_on.leave_rows.Goals as goal
use Rattle.commands.proofs.handing_on.leave_rows.Goals.{then-is_document+in_ok-leave_telling, else-is_document}

pub loop-row-preserved : goal.loop-row-preserved
loop-row-preserved g c =
    let finds = g.R.FileSystem.finds c.args.rt.now in
    let reads = g.R.FileSystem.reads c.args.rt.now in
    let writes = g.R.FileSystem.writes c.args.rt.now in
    let R = IsRowLeft finds reads writes c.args.dir.now in
    let i = c.loop-row.row-index in
    let low = c.loop-row-test.true in
    let here = c.row-item.is in
    elim c.if-is_document.branch [
      | then-is_document+in_ok-leave_telling w ↦
          with_it R is_document c.args.rows.now i c.row-item.result _ _ _ low here (search rules) c.loop-row.invariant
          (rw (w.status-is, w.out-is, w.and-status.ensures) (told_after finds reads writes c.args.dir.now c.row-item.result.n c.row-item.result.content _ _ _ c.loop-row.status (search rules)))
      | else-is_document w ↦
          rw (w.status-is, w.out-is) (without_it R is_document c.args.rows.now i c.row-item.result _ _ low here (search rules) c.loop-row.invariant)
    ]

pub returns-clause-left : goal.returns-clause-left
returns-clause-left g c =
    let told : Told = (g.W.Write.contents c.args.out.now, Done) in
    subst (λ (rows : List OutRow). AreLeft (g.R.FileSystem.finds c.args.rt.now) (g.R.FileSystem.reads c.args.rt.now) (g.R.FileSystem.writes c.args.rt.now) c.args.dir.now rows told (g.W.Write.contents c.loop-row.out, c.loop-row.status))
    (take_all c.loop-row.row-index c.args.rows.now (omega (arith, c.loop-row-test.false))) c.loop-row.invariant
