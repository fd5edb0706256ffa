use Rattle.std.proofs.Common.{◌≡◌, None, rules, sym, subst, ap, ◌∙◌}
use Rattle.std.specs.Prelude.{IsErrAnd}
use Rattle.sqlite.specs.Held.{state}
use Rattle.store.specs.Fault.{Fault}
use Rattle.book_tables.proofs.AskedLater.{clean_before, stands_later}
use Rattle.book_tables.proofs.Queries.{went_as, went_fails, went_on}
use Rattle.seals.specs.Noted.{noted, noted_in}
use Rattle.books.proofs.SealingLemmas.{IsNoted, first_noted, never_some, next_noted, none_more}
use Rattle.books.proofs.sealing.seal_first.Goals as goal

pub returns-in_err-next-clause-went : goal.returns-in_err-next-clause-went
returns-in_err-next-clause-went g c =
    let same : IsErrAnd c.from_residual.result (λ (f : Fault). f ≡ c.in_err-next.field-0.0) = search rules in
    went_on g.S.Store c.args.tables.now c.loop-before.tables c.seal_next.new.tables tt _ c.loop-before.invariant.went
    (went_fails g.S.Store c.loop-before.tables c.seal_next.new.tables c.in_err-next.field-0.0 c.from_residual.result same c.in_err-next.ensures.went)

pub returns-in_default-clause-went : goal.returns-in_default-clause-went
returns-in_default-clause-went g c =
    went_on g.S.Store c.args.tables.now c.loop-before.tables c.seal_next.new.tables tt _ c.loop-before.invariant.went
    (went_as g.S.Store c.loop-before.tables c.seal_next.new.tables c.in_ok-next.field-0 None c.in_ok-next.ensures.went)

pub returns-in_default-clause-seal : goal.returns-in_default-clause-seal
returns-in_default-clause-seal g c = λ clean W L stands.
    let was = c.loop-before.invariant in
    let old = state g.S.Store c.args.tables.now.conn in
    let mid = state g.S.Store c.loop-before.tables.conn in
    let new = state g.S.Store c.seal_next.new.tables.conn in
    let its = c.in_ok-next.ensures in
    let before = clean_before mid new its.went.left clean in
    let told = its.next clean W L (stands_later old mid W L before was.went.left stands) in
    none_more L c.loop-before.before c.args.count (noted c.loop-before.seal) c.loop-before-test.true (was.noted before W L stands)
    (sym (ap noted_in (never_some c.in_ok-next.field-0 c.in_default.not-Some)) ∙ told)

pub loop-before-preserved : goal.loop-before-preserved
loop-before-preserved g c =
    let was = c.loop-before.invariant in
    let old = state g.S.Store c.args.tables.now.conn in
    let mid = state g.S.Store c.loop-before.tables.conn in
    let new = state g.S.Store c.seal_next.new.tables.conn in
    let its = c.in_ok-next.ensures in
    record {
      noted = λ clean W L stands.
          let before = clean_before mid new its.went.left clean in
          let told = its.next clean W L (stands_later old mid W L before was.went.left stands) in
          next_noted L c.loop-before.before (noted c.loop-before.seal) (noted c.in-Some.next) (was.noted before W L stands)
          (sym (ap noted_in c.in-Some.is) ∙ told);
      went = went_on g.S.Store c.args.tables.now c.loop-before.tables c.seal_next.new.tables tt _ was.went
          (went_as g.S.Store c.loop-before.tables c.seal_next.new.tables c.in_ok-next.field-0 tt its.went);
    }

pub returns-clause-seal : goal.returns-clause-seal
returns-clause-seal g c = λ clean W L stands.
    let all : c.loop-before.before ≡ c.args.count = search rules in
    first_noted L c.args.count (noted c.loop-before.seal)
    (subst (λ n. IsNoted n (noted c.loop-before.seal) L) all (c.loop-before.invariant.noted clean W L stands))
