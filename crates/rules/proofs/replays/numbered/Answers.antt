use Rattle.std.proofs.Common.{◌∙◌, ap, sym, subst}
use Rattle.rules.specs.Pages.{PageFacts}
use Rattle.rules.specs.Played.{IsPlayed}
use Rattle.rules.specs.declared.replays.Replayed.{Replayed}
use Rattle.rules.proofs.Plays.{IsNumbered, act_played, interchange_played, counted}
use Rattle.rules.proofs.replays.numbered.Goals.{then-is_ticketed+in_ok-played, else-is_ticketed+in_ok-played-2}
use Rattle.rules.proofs.replays.numbered.Goals as goal

pub returns-clause-replayed : goal.returns-clause-replayed
returns-clause-replayed c = λ h e of is entry few good clean.
    let known : IsNumbered c.args.entry.now h e = record { is = is; entry = entry; good = good; clean = clean } in
    let played : IsPlayed c.args.warehouse.now h e c.if-is_ticketed.played.page c.if-is_ticketed.played.outgoing.items = elim c.if-is_ticketed.branch [
      | then-is_ticketed+in_ok-played w ↦ subst (λ (x : Replayed). IsPlayed c.args.warehouse.now h e x.page x.outgoing.items) (sym w.played-is)
          (act_played c.args.warehouse.now c.who.result c.args.entry.now h e c.args.page w.in_ok-played.played.page w.in_ok-played.played.outgoing.items
          c.who-2.result c.moment.result c.number.result w.body.result.now w.rules.result c.who.ensures c.who-2.ensures c.moment.ensures c.number.ensures w.body.ensures w.rules.ensures
          (sym c.is_ticketed.ensures ∙ w.if-is_ticketed.true) known of w.in_ok-played.ensures.played)
      | else-is_ticketed+in_ok-played-2 w ↦ subst (λ (x : Replayed). IsPlayed c.args.warehouse.now h e x.page x.outgoing.items) (sym w.played-is)
          (interchange_played c.args.warehouse.now c.who.result c.args.entry.now h e c.args.page w.in_ok-played-2.played.page w.in_ok-played-2.played.outgoing.items
          c.who-2.result c.moment.result c.number.result w.body-else-is_ticketed.result.now w.rules-else-is_ticketed.result c.who.ensures c.who-2.ensures c.moment.ensures c.number.ensures w.body-else-is_ticketed.ensures w.rules-else-is_ticketed.ensures
          (sym c.is_ticketed.ensures ∙ w.if-is_ticketed.false) known of w.in_ok-played-2.ensures.played)
    ] in
    counted c.args.warehouse.now h e c.if-is_ticketed.played.page c.ended.result c.if-is_ticketed.played.outgoing.items played is c.ended.ensures.next c.ended.ensures.shows

pub returns-clause-rest : goal.returns-clause-rest
returns-clause-rest c = ap (λ (p : PageFacts). p.recent) c.ended.ensures.next
