use Rattle.std.proofs.Common.{◌∙◌, ap, subst}
use Rattle.std.specs.Prelude.{Option, option_map}
use Rattle.std.proofs.lemmas.Result.{IfOk-weaker}
use Rattle.definitions.specs.Register.{Act}
use Rattle.definitions.specs.Reply.{clerk_entry}
use Rattle.rules.specs.ReadActs.{read_act}
use Rattle.rules.specs.Played.{IsPlayed}
use Rattle.rules.specs.declared.readings.ReadAct.{ReadAct}
use Rattle.rules.proofs.Plays.{read_same, read_none}
use Rattle.rules.proofs.replays.performed.Goals as goal

pub returns-in-Some-clause-played : goal.returns-in-Some-clause-played
returns-in-Some-clause-played c = IfOk-weaker c.done.result _ _ (λ r played h ticket act of is good text.
    let e = c.args.envelope in
    let same = read_same c.args.rules c.args.text.now act (read_act c.in-Some.read) (option_map read_act c.in_ok-read.field-0) c.in_ok-read.ensures
    (ap (λ (o : Option ReadAct). option_map read_act o) c.in-Some.is) text good in
    subst (λ (a : Act). IsPlayed e.warehouse h (clerk_entry c.args.rules e.depositor ticket a e.moment) r.page r.outgoing.items) (c.act.ensures ∙ same) (played h ticket c.args.rules of is)) c.done.ensures.played

pub returns-in-None-clause-played : goal.returns-in-None-clause-played
returns-in-None-clause-played c = λ h ticket act of is good text.
    absurd (read_none c.args.rules c.args.text.now act (option_map read_act c.in_ok-read.field-0) c.in_ok-read.ensures (ap (λ (o : Option ReadAct). option_map read_act o) c.in-None.is) text good)
