use Rattle.std.proofs.Common.{rules, ◌≡◌, subst₂, List, ℕ, Option}
use Rattle.std.specs.Prelude.{IsErrAnd}
use Rattle.sqlite.specs.Held.{state}
use Rattle.store.specs.Fault.{Fault}
use Rattle.store.specs.Fault.TheVariants.{OutOfMemory}
use Rattle.book_tables.specs.Enrolments.{EnrolmentFacts, IsFirstFrom, enrolments}
use Rattle.book_tables.proofs.AskedLater.{stands_later, clean_before}
use Rattle.book_tables.proofs.EnrolledOnce.{enrolled_apart}
use Rattle.book_tables.proofs.NextNames.{all_left, one_more, none_left}
use Rattle.book_tables.proofs.Queries.{asked_then, asked_short, asked_fails, went_as, went_asked, went_none, went_of, went_on, went_short}
use Rattle.book_tables.proofs.connected.Tables.enrolments.Goals as goal

pub loop-init : goal.loop-init
loop-init g c = record {
  found = λ clean W L stands. all_left (enrolments L) c.new-found.result.items c.new-from.result.items c.new-found.ensures.items c.new-from.ensures.items;
  went = went_none g.S.Store c.args.self.now tt;
}

pub loop-preserved : goal.loop-preserved
loop-preserved g c =
    let was = c.loop.invariant in
    let old = state g.S.Store c.args.self.now.conn in
    let mid = state g.S.Store c.loop.self.conn in
    let new = state g.S.Store c.enrolment_from.new.self.conn in
    record {
      found = λ clean W L stands.
          let early = clean_before mid new c.in_ok-enrolment.ensures.asked.left clean in
          let later = stands_later old mid W L early was.went.left stands in
          let here = later (c.in_ok-enrolment.ensures.open clean) in
          let first = subst₂ (λ (t : List ℕ) (o : Option EnrolmentFacts). IsFirstFrom t (enrolments L) o) c.deref.ensures.value c.in-Some.is (c.in_ok-enrolment.ensures.first clean W L later) in
          one_more (enrolments L) c.loop.found.items c.add_enrolment.new.found.items c.loop.from.items c.in_ok-from-in-Some.from.items c.in-Some.enrolment
          (enrolled_apart W L here.legal) first c.in_ok-from-in-Some.ensures.found c.in_ok-from-in-Some.ensures.text (was.found early W L stands);
      went = went_on g.S.Store c.args.self.now c.loop.self c.enrolment_from.new.self tt _ was.went
          (went_as g.S.Store c.loop.self c.enrolment_from.new.self c.in_ok-enrolment.field-0 tt (went_of g.S.Store c.loop.self c.enrolment_from.new.self _ c.in_ok-enrolment.ensures.asked));
    }

pub returns-in_err-enrolment-clause-asked : goal.returns-in_err-enrolment-clause-asked
returns-in_err-enrolment-clause-asked g c =
    let same : IsErrAnd c.from_residual.result (λ (f : Fault). f ≡ c.in_err-enrolment.field-0.0) = search rules in
    went_asked g.S.Store c.args.self.now c.loop.self c.enrolment_from.new.self tt _ c.loop.invariant.went
    (asked_fails g.S.Store c.loop.self c.enrolment_from.new.self c.in_err-enrolment.field-0.0 c.from_residual.result same c.in_err-enrolment.ensures.asked)

pub returns-in_err-from-in-Some-clause-asked : goal.returns-in_err-from-in-Some-clause-asked
returns-in_err-from-in-Some-clause-asked g c =
    let same : IsErrAnd c.from_residual-in_err-from-in-Some.result (λ (f : Fault). f ≡ OutOfMemory) = search rules in
    went_asked g.S.Store c.args.self.now c.loop.self c.enrolment_from.new.self tt _ c.loop.invariant.went
    (asked_short g.S.Store c.loop.self c.enrolment_from.new.self c.in_ok-enrolment.field-0 c.from_residual-in_err-from-in-Some.result same c.in_ok-enrolment.ensures.asked)

pub returns-in-None-clause-all : goal.returns-in-None-clause-all
returns-in-None-clause-all g c = λ clean W L stands.
    let was = c.loop.invariant in
    let old = state g.S.Store c.args.self.now.conn in
    let mid = state g.S.Store c.loop.self.conn in
    let new = state g.S.Store c.enrolment_from.new.self.conn in
    let early = clean_before mid new c.in_ok-enrolment.ensures.asked.left clean in
    let later = stands_later old mid W L early was.went.left stands in
    let none = subst₂ (λ (t : List ℕ) (o : Option EnrolmentFacts). IsFirstFrom t (enrolments L) o) c.deref.ensures.value c.in-None.is (c.in_ok-enrolment.ensures.first clean W L later) in
    none_left (enrolments L) c.loop.found.items c.loop.from.items none (was.found early W L stands)

pub returns-in-None-clause-asked : goal.returns-in-None-clause-asked
returns-in-None-clause-asked g c =
    went_asked g.S.Store c.args.self.now c.loop.self c.enrolment_from.new.self tt _ c.loop.invariant.went
    (asked_then g.S.Store c.loop.self c.enrolment_from.new.self c.in_ok-enrolment.field-0 _ c.in_ok-enrolment.ensures.asked tt)

pub returns-clause-asked : goal.returns-clause-asked
returns-clause-asked g c = went_short g.S.Store c.args.self.now c.loop.self tt c.loop.invariant.went
