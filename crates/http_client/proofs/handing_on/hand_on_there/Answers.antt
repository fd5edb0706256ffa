use Rattle.std.proofs.Common.{ℕ, List, None, inl, inr, refl, rules, subst, tests}
use Rattle.std.proofs.lemmas.Result.{IfOk-weaker}
use Rattle.command_line.specs.declared.words.Show.TheVariants as show
use Rattle.commands.specs.declared.told.ExitStatus.TheVariants.{Done}
use Rattle.http_client.specs.HandedOn.{AreHandedOn}
use Rattle.http_client.specs.Paths.{look_path}
use Rattle.http_client.proofs.AskingLaws.{asked_more, one_asked, one_halted}
use Rattle.http_client.proofs.handing_on.hand_on_there.Goals as goal

pub returns-in_err-answer-clause-asks : goal.returns-in_err-answer-clause-asks
returns-in_err-answer-clause-asks g c =
    one_halted g.C.Courier.brings g.C.Courier.loses c.in_err-answer.field-0.0 c.args.courier.now c.get.new.courier (look_path (show.Outbox c.args.asked.who None)) c.in_err-answer.ensures.halted

pub returns-then-answer-ne200-clause-asks : goal.returns-then-answer-ne200-clause-asks
returns-then-answer-ne200-clause-asks g c =
    one_asked g.C.Courier.brings g.C.Courier.loses c.args.courier.now (look_path (show.Outbox c.args.asked.who None)) c.in_ok-answer.answer c.get.new.courier c.in_ok-answer.ensures.brought

pub returns-then-answer-ne200-clause-handed : goal.returns-then-answer-ne200-clause-handed
returns-then-answer-ne200-clause-handed g c =
    IfOk-weaker c.tell_report.result _ _ (λ status told. record {
      answer = c.in_ok-answer.answer;
      mid = c.get.new.courier;
      asked = c.in_ok-answer.ensures.brought;
      came_to = inr (search (rules, tests), refl, told);
    }) c.tell_report.ensures.told

pub returns-clause-asks : goal.returns-clause-asks
returns-clause-asks g c =
    asked_more g.C.Courier.brings g.C.Courier.loses c.args.courier.now c.get.new.courier c.hand_on_each.new.courier
    (one_asked g.C.Courier.brings g.C.Courier.loses c.args.courier.now (look_path (show.Outbox c.args.asked.who None)) c.in_ok-answer.answer c.get.new.courier c.in_ok-answer.ensures.brought)
    c.hand_on_each.ensures.asks

pub returns-clause-handed : goal.returns-clause-handed
returns-clause-handed g c =
    let before = g.W.Write.contents c.args.out.now in
    let later = g.W.Write.contents c.hand_on_each.new.out in
    IfOk-weaker c.hand_on_each.result _ _ (λ status handed. record {
      answer = c.in_ok-answer.answer;
      mid = c.get.new.courier;
      asked = c.in_ok-answer.ensures.brought;
      came_to = inl (search (rules, tests), subst (λ (list : List ℕ). AreHandedOn g.C.Courier.brings (g.R.FileSystem.finds c.args.rt.now) (g.R.FileSystem.reads c.args.rt.now) (g.R.FileSystem.writes c.args.rt.now) c.args.asked list (c.get.new.courier, (before, Done)) (c.hand_on_each.new.courier, (later, status))) c.deref.ensures.value handed);
    }) c.hand_on_each.ensures.handed
