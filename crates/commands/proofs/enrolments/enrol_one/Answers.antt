use Rattle.std.proofs.Common.{◌≡◌, true, rules}
use Rattle.definitions.specs.Header.{is_partner}
use Rattle.definitions.specs.Register.{Enrol}
use Rattle.store.specs.Runs.{told}
use Rattle.commands.specs.Enrolling.{line_of}
use Rattle.commands.proofs.ActLaws.{untold}
use Rattle.commands.proofs.enrolments.enrol_one.Goals as goal

pub returns-clause-stopped : goal.returns-clause-stopped
returns-clause-stopped g c =
    let given : is_partner c.args.who ≡ true = search rules in
    untold (g.K.Keeper.standing c.args.book.now) (g.K.Keeper.standing c.submit.new.keeper) (Enrol c.args.who) c.args.moment (line_of c.args.who) (g.W.Write.contents c.args.out.now)
    (g.W.Write.contents c.tell_enrolment.new.out) (told c.in_ok-reply.reply) c.tell_enrolment.result c.in_ok-reply.ensures.opened (λ clean L u. c.in_ok-reply.ensures.ok clean L u given)
    c.in_ok-reply.ensures.reply c.tell_enrolment.ensures.front c.tell_enrolment.ensures.halted
