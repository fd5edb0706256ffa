use Rattle.std.proofs.Common.{refl, rules, ◌∙◌}
use Rattle.store.proofs.Changes.{goes_trans, unchanged_refl}
use Rattle.commands.proofs.EnrolLaws.{none_enrolled, enrolled_next, stopped_at}
use Rattle.commands.proofs.enrolments.enrol_all.Goals as goal

pub returns-in_err-enrol_one-clause-stopped : goal.returns-in_err-enrol_one-clause-stopped
returns-in_err-enrol_one-clause-stopped g c =
    let i = c.loop-who.invariant in
    let old = g.K.Keeper.standing c.args.book.now in
    let now = g.K.Keeper.standing c.loop-who.book in
    let new = g.K.Keeper.standing c.enrol_one.new.book in
    let at = stopped_at old now new c.args.partners.now c.loop-who.who-index c.who-item.result c.args.moment (g.W.Write.contents c.args.out.now)
    (g.W.Write.contents c.loop-who.out) (g.W.Write.contents c.enrol_one.new.out) c.loop-who.status c.in_err-enrol_one.field-0.0 i.goes c.enrol_one.ensures.goes
    i.shut c.loop-who-test.true c.who-item.is i.enrolled c.in_err-enrol_one.ensures.left c.in_err-enrol_one.ensures.stopped in
    search rules

pub loop-who-preserved : goal.loop-who-preserved
loop-who-preserved g c =
    let i = c.loop-who.invariant in
    let e = c.in_ok-enrol_one.ensures in
    let old = g.K.Keeper.standing c.args.book.now in
    let now = g.K.Keeper.standing c.loop-who.book in
    let new = g.K.Keeper.standing c.enrol_one.new.book in
    record {
      goes = goes_trans old now new i.goes c.enrol_one.ensures.goes;
      shut = i.shut ∙ e.opened;
      enrolled = enrolled_next old now new c.args.partners.now c.loop-who.who-index c.who-item.result c.args.moment _ _ (g.W.Write.contents c.enrol_one.new.out) c.loop-who.status
          c.in_ok-enrol_one.field-0 _ c.and-status.ensures c.loop-who-test.true c.who-item.is i.goes c.enrol_one.ensures.goes i.enrolled e.says e.printed e.done e.keeps;
      quiet = e.quiet ∙ i.quiet;
    }

pub loop-who-init : goal.loop-who-init
loop-who-init g c =
    let at = g.K.Keeper.standing c.args.book.now in
    record { goes = (unchanged_refl at).goes; shut = refl; enrolled = none_enrolled at c.args.moment (g.W.Write.contents c.args.out.now); quiet = refl }
