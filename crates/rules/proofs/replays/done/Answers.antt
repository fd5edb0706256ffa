use Rattle.std.proofs.Common.{◌++◌, ◌∷◌, [], ap, sym, subst}
use Rattle.std.proofs.lemmas.Result.{IfOk-weaker}
use Rattle.stock.specs.Pages.{PageFacts}
use Rattle.stock.specs.Parts.{all_named}
use Rattle.stock.proofs.PartLemmas.{part_of_self}
use Rattle.entries.specs.Asked.{act_of}
use Rattle.rules.proofs.Whole.{all_act}
use Rattle.stock.specs.Shows.{Shows}
use Rattle.entries.specs.Asked.{act_of}
use Rattle.rules.proofs.Plays.{done_played, stopped_played}
use Rattle.rules.proofs.replays.done.Goals as goal

pub returns-in-Ok-clause-entries : goal.returns-in-Ok-clause-entries
returns-in-Ok-clause-entries c = IfOk-weaker c.stepped.result _ _ (λ r done. ap (λ (p : PageFacts). p.entries) done.0) c.stepped.ensures

pub returns-in-Ok-clause-played : goal.returns-in-Ok-clause-played
returns-in-Ok-clause-played c = IfOk-weaker c.stepped.result _ _ (λ r done h ticket q of is.
    let e = c.args.envelope in
    let p = c.args.page in
    done_played q e.warehouse e.depositor e.moment e.number ticket (act_of c.args.act.now) p r.page r.outgoing.items h
    (λ es shows. let f = c.in-Ok.ensures.ok all_named p es (part_of_self all_named p c.rows.ensures.sound.sorted) (all_act p (act_of c.args.act.now)) shows in (f.0, f.1, subst (λ (q : PageFacts). Shows q (es ++ f.0 ∷ [])) (sym done.0) f.2))
    (ap (λ (q : PageFacts). q.entries) done.0) done.1 of is) c.stepped.ensures

pub returns-in-Err-clause-played : goal.returns-in-Err-clause-played
returns-in-Err-clause-played c = IfOk-weaker c.stopped.result _ _ (λ r stopped h ticket q of is.
    let e = c.args.envelope in
    let refused = stopped.2 _ (c.in-Err.ensures.err all_named c.args.page h.events (part_of_self all_named c.args.page c.rows.ensures.sound.sorted) (all_act c.args.page (act_of c.args.act.now)) of.shows) in
    stopped_played q e.warehouse e.depositor e.moment ticket (act_of c.args.act.now) c.args.page r.page r.outgoing.items h refused.0 refused.1 stopped.0 stopped.1 of) c.stopped.ensures
