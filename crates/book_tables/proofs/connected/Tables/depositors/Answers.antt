use Rattle.std.proofs.Common.{rules, ◌≡◌, ◌∙◌, ap, map}
use Rattle.std.specs.Prelude.{IsErrAnd}
use Rattle.store.specs.Fault.{Fault}
use Rattle.store.specs.Fault.TheVariants.{OutOfMemory}
use Rattle.book_tables.specs.Enrolments.{EnrolmentFacts}
use Rattle.book_tables.proofs.EnrolledOnce.{whos_in_order}
use Rattle.book_tables.proofs.Queries.{asked_then, asked_short}
use Rattle.book_tables.proofs.connected.Tables.depositors.Goals as goal

pub returns-clause-whole : goal.returns-clause-whole
returns-clause-whole g c = λ clean W L stands.
    c.in_ok-whos.ensures ∙ ap (map (λ (x : EnrolmentFacts). x.who)) c.deref.ensures.value
    ∙ whos_in_order L c.in_ok-enrolments.field-0.items c.by_entries-enrolments.result.items (c.in_ok-enrolments.ensures.all clean W L stands)
    c.by_entries-enrolments.ensures.same c.by_entries-enrolments.ensures.sorted

pub returns-clause-asked : goal.returns-clause-asked
returns-clause-asked g c = asked_then g.S.Store c.args.self.now c.enrolments.new.self c.in_ok-enrolments.field-0 _ c.in_ok-enrolments.ensures.asked tt

pub returns-in_err-whos-clause-asked : goal.returns-in_err-whos-clause-asked
returns-in_err-whos-clause-asked g c =
    let same : IsErrAnd c.from_residual-in_err-whos.result (λ (f : Fault). f ≡ OutOfMemory) = search rules in
    asked_short g.S.Store c.args.self.now c.enrolments.new.self c.in_ok-enrolments.field-0 c.from_residual-in_err-whos.result same c.in_ok-enrolments.ensures.asked
