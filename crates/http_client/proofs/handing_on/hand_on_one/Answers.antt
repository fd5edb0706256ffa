use Rattle.std.proofs.Common.{ℕ, List, Some, inr, rules, subst, tests}
use Rattle.std.proofs.lemmas.Result.{IfOk-weaker}
use Rattle.command_line.specs.declared.words.Show.TheVariants as show
use Rattle.commands.specs.HandingOn.{IsLeftTold}
use Rattle.commands.specs.declared.told.ExitStatus.TheVariants.{Done}
use Rattle.http_client.specs.Paths.{look_path}
use Rattle.http_client.proofs.AskingLaws.{one_asked, one_halted}
use Rattle.http_client.proofs.handing_on.hand_on_one.Goals as goal

pub returns-in_err-answer-clause-asks : goal.returns-in_err-answer-clause-asks
returns-in_err-answer-clause-asks g c =
    one_halted g.C.Courier.brings g.C.Courier.loses c.in_err-answer.field-0.0 c.args.courier.now c.get_text.new.courier (look_path (show.Outbox c.args.asked.who (Some c.args.number))) c.in_err-answer.ensures.halted

pub returns-then-answer-ne200-clause-asks : goal.returns-then-answer-ne200-clause-asks
returns-then-answer-ne200-clause-asks g c =
    one_asked g.C.Courier.brings g.C.Courier.loses c.args.courier.now (look_path (show.Outbox c.args.asked.who (Some c.args.number))) c.in_ok-answer.answer c.get_text.new.courier c.in_ok-answer.ensures.brought

pub returns-clause-asks : goal.returns-clause-asks
returns-clause-asks g c =
    one_asked g.C.Courier.brings g.C.Courier.loses c.args.courier.now (look_path (show.Outbox c.args.asked.who (Some c.args.number))) c.in_ok-answer.answer c.get_text.new.courier c.in_ok-answer.ensures.brought

pub returns-clause-handed : goal.returns-clause-handed
returns-clause-handed g c =
    let before = g.W.Write.contents c.args.out.now in
    let later = g.W.Write.contents c.leave_telling.new.out in
    IfOk-weaker c.leave_telling.result _ _ (λ status left. inr (record {
      answer = c.in_ok-answer.answer;
      asked = c.in_ok-answer.ensures.brought;
      okay = search (rules, tests);
      left = subst (λ (text : List ℕ). IsLeftTold (g.R.FileSystem.finds c.args.rt.now) (g.R.FileSystem.reads c.args.rt.now) (g.R.FileSystem.writes c.args.rt.now) c.args.asked.dir.now c.args.number text (before, Done) (later, status)) c.deref.ensures.value left;
    })) c.leave_telling.ensures.left
