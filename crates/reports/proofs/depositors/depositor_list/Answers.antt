use Rattle.std.proofs.Common.{◌++◌, [], List, ℕ, ap, ◌∙◌}
use Rattle.definitions.specs.Header.{Who, who_text}
use Rattle.definitions.specs.Reports.{ended}
use Rattle.reports.proofs.MoreLaws.{one_more}
use Rattle.reports.proofs.depositors.depositor_list.Goals as goal

pub loop-who-preserved : goal.loop-who-preserved
loop-who-preserved c =
    c.in_ok-append_who.ensures
    ∙ ap (λ (text : List ℕ). text ++ ended (who_text c.who-item.result)) c.loop-who.invariant
    ∙ one_more (λ (w : Who). ended (who_text w)) [] c.args.whos.now c.loop-who.who-index c.who-item.result c.loop-who-test.true c.who-item.is
