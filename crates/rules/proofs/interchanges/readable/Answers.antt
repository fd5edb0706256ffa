use Rattle.std.proofs.Common.{◌≡◌, ap, None}
use Rattle.std.specs.Prelude.{Option, option_copied}
use Rattle.std.proofs.lemmas.Result.{IfOk-weaker}
use Rattle.definitions.specs.History.{History}
use Rattle.definitions.specs.Register.{Interchange}
use Rattle.definitions.specs.Decision as recalled
use Rattle.rules.specs.Decided.{IsGiven, entries_of}
use Rattle.rules.proofs.Decides.{no_page, no_sender, sender_is, stranger_reply, given_again, given_new}
use Rattle.rules.proofs.interchanges.readable.Goals.{in_default-via-in-Some+in_default, in_default-via-in_default}
use Rattle.rules.proofs.Leading.{nowhere_from, from_page}
use Rattle.rules.proofs.interchanges.readable.Goals as goal

pub returns-in_default-clause-reply : goal.returns-in_default-clause-reply
returns-in_default-clause-reply c =
    let none : (h : Option History) (k : Option recalled.Recalled) → IsGiven c.args.page (option_copied c.args.known) (Interchange c.args.text.now) h k → h ≡ None =
    λ h k given. elim c.in_default.branch [
      | in_default-via-in-Some+in_default w ↦ given.stranger (no_sender c.args.text.now c.args.header.now c.sender.result c.requires.same c.sender.ensures w.in_default.is-1)
      | in_default-via-in_default w ↦ no_page (Interchange c.args.text.now) c.args.page h w.in_default.is-0 given.page
    ] in
    IfOk-weaker c.noted.result _ _ (λ d reply h k given.
    stranger_reply c.args.rules c.args.warehouse.now h k c.args.text.now c.args.header.now c.args.moment (entries_of c.args.page) d c.requires.same (none h k given)
    (reply c.args.rules (entries_of c.args.page) (Interchange c.args.text.now))) c.noted.ensures.reply

pub returns-in-Some-clause-reply : goal.returns-in-Some-clause-reply
returns-in-Some-clause-reply c = IfOk-weaker c.interchange_again.result _ _ (λ d reply h k given.
    given_again c.args.rules c.args.warehouse.now c.args.page (option_copied c.args.known) h k c.args.text.now c.args.moment d c.in-Some-Some.page c.in-Some.known.now
    c.in-Some-Some.is-0 (ap option_copied c.in-Some.is) given (reply c.args.rules)) c.interchange_again.ensures.reply

pub returns-in-None-clause-reply : goal.returns-in-None-clause-reply
returns-in-None-clause-reply c = IfOk-weaker c.fresh.result _ _ (λ d reply h k given.
    given_new c.args.rules c.args.warehouse.now c.args.page (option_copied c.args.known) h k c.args.text.now c.args.moment d c.in-Some-Some.page
    c.in-Some-Some.is-0 (ap option_copied c.in-None.is) given reply) c.fresh.ensures.reply

pub returns-in_default-clause-leads : goal.returns-in_default-clause-leads
returns-in_default-clause-leads c = IfOk-weaker c.noted.result _ _ (λ d none. nowhere_from c.args.rules c.args.page (Interchange c.args.text.now) c.args.moment d none) c.noted.ensures.comes

pub returns-in-Some-clause-leads : goal.returns-in-Some-clause-leads
returns-in-Some-clause-leads c = IfOk-weaker c.interchange_again.result _ _ (λ d none. nowhere_from c.args.rules c.args.page (Interchange c.args.text.now) c.args.moment d none) c.interchange_again.ensures.comes

pub returns-in-None-clause-leads : goal.returns-in-None-clause-leads
returns-in-None-clause-leads c = IfOk-weaker c.fresh.result _ _ (λ d leads. from_page c.args.rules c.args.page c.in-Some-Some.page (Interchange c.args.text.now) c.args.moment d c.in-Some-Some.is-0 leads) c.fresh.ensures.leads

pub fresh-requires-clause-whose : goal.fresh-requires-clause-whose
fresh-requires-clause-whose c = sender_is c.args.text.now c.args.header.now c.sender.result c.in-Some-Some.who c.requires.same c.sender.ensures c.in-Some-Some.is-1
