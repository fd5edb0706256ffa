use Rattle.std.proofs.Common.{ℕ, List, Option, rules, ◌∙◌, ap, sym, subst}
use Rattle.commands.specs.Playing.{IsRowDone, rows_left}
use Rattle.commands.specs.Saying.{IsRowSaid}
use Rattle.commands.specs.declared.told.ExitStatus.{ExitStatus}
use Rattle.commands.specs.declared.told.ExitStatus.TheVariants.{Done}
use Rattle.commands.proofs.PlayingLaws.{SoFar, asks_for, is_empty, over_empty, one_more, stopped_at}
use Rattle.commands.proofs.script.play_from.Goals as goal
use Rattle.commands.proofs.script.play_from.Goals.{then-not-is_empty+in-Ok, else-not-is_empty}

pub returns-in-Err-clause-stopped : goal.returns-in-Err-clause-stopped
returns-in-Err-clause-stopped g c =
    stopped_at (g.R.FileSystem.reads c.args.rt.now) g.K.Keeper.standing g.W.Write.contents _ _ c.args.text c.loop-left.left c.first_row.result.1 c.first_row.result.0.now _ _ _
    (ap rows_left c.in-Some.is ∙ c.first_row.ensures) (asks_for _ c.if-not-is_empty.ensures) c.in-Err.ensures.stopped c.loop-left.invariant.so_far

pub loop-left-preserved : goal.loop-left-preserved
loop-left-preserved g c =
    let i = c.loop-left.invariant in
    let done = IsRowDone (g.R.FileSystem.reads c.args.rt.now) g.K.Keeper.standing g.W.Write.contents in
    let says = IsRowSaid (g.R.FileSystem.reads c.args.rt.now) g.K.Keeper.standing in
    let from : g.row.K.Denot × (g.row.W.Denot × ExitStatus) = (c.args.book.now, (c.args.out.now, Done)) in
    let first : g.row.K.Denot × Option (List ℕ) = (c.args.book.now, g.E.Write.contents c.args.err.now) in
    let rows = ap rows_left c.in-Some.is ∙ c.first_row.ensures in
    elim c.if-not-is_empty.branch [
      | then-not-is_empty+in-Ok w ↦ record {
        goes = search rules;
        so_far = subst (λ q. SoFar done from c.args.text c.first_row.result.1 q)
            (λ k. (sym w.book-is k, (sym w.out-is k, sym w.status-is k)))
            (one_more done from _ _ c.args.text c.loop-left.left c.first_row.result.1 c.first_row.result.0.now rows (asks_for _ w.if-not-is_empty.ensures)
            (record { status = _; answered = w.in-Ok.ensures.answered; ends = w.and-status.ensures }) i.so_far);
        said = λ quiet. subst (λ q. SoFar says first c.args.text c.first_row.result.1 q)
            (λ k. (sym w.book-is k, (sym (w.tell_refused_line.ensures.quiet quiet) ∙ ap (λ o. g.E.Write.contents o) (sym w.err-is)) k))
            (one_more says first _ _ c.args.text c.loop-left.left c.first_row.result.1 c.first_row.result.0.now rows (asks_for _ w.if-not-is_empty.ensures)
            (w.in-Ok.ensures.said quiet) (i.said quiet));
      }
      | else-not-is_empty w ↦ record {
        goes = search rules;
        so_far = subst (λ q. SoFar done from c.args.text c.first_row.result.1 q)
            (λ k. (sym w.book-is k, (sym w.out-is k, sym w.status-is k)))
            (over_empty done from _ c.args.text c.loop-left.left c.first_row.result.1 c.first_row.result.0.now rows (is_empty _ w.if-not-is_empty.ensures) i.so_far);
        said = λ quiet. subst (λ q. SoFar says first c.args.text c.first_row.result.1 q)
            (λ k. (sym w.book-is k, g.E.Write.contents (sym w.err-is k)))
            (over_empty says first _ c.args.text c.loop-left.left c.first_row.result.1 c.first_row.result.0.now rows (is_empty _ w.if-not-is_empty.ensures) (i.said quiet));
      }
    ]
