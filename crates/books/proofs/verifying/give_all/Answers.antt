use Rattle.std.proofs.Common.{[], ◌≡◌, ◌+◌, rules, of_calls, arith, refl, subst, true, false}
use Rattle.std.specs.Prelude.{IfSome, IsErrAnd, IsSomeAnd}
use Rattle.sqlite.specs.Held.{state}
use Rattle.store.specs.Fault.{Fault}
use Rattle.book_tables.proofs.AskedLater.{clean_before}
use Rattle.book_tables.proofs.Queries.{went_as, went_fails, went_on}
use Rattle.books.specs.Opened.{standing_of}
use Rattle.books.specs.Verified.{Follows, IsCopy, Stays}
use Rattle.books.proofs.GivenLemmas.{none_given}
use Rattle.books.proofs.RulesLemmas.{legal_now, none_legal}
use Rattle.books.proofs.verifying.give_all.Goals as goal

pub returns-in_err-rules-clause-went : goal.returns-in_err-rules-clause-went
returns-in_err-rules-clause-went g c =
    let same : IsErrAnd c.from_residual.result (λ (f : Fault). f ≡ c.in_err-rules.field-0.0) = search rules in
    went_on g.S.Store c.args.tables.now c.loop-before.tables c.give_entry.new.tables tt _ c.loop-before.invariant.went
    (went_fails g.S.Store c.loop-before.tables c.give_entry.new.tables c.in_err-rules.field-0.0 c.from_residual.result same c.in_err-rules.ensures.went)

pub returns-in_default-clause-went : goal.returns-in_default-clause-went
returns-in_default-clause-went g c =
    went_on g.S.Store c.args.tables.now c.loop-before.tables c.give_entry.new.tables tt _ c.loop-before.invariant.went
    (went_as g.S.Store c.loop-before.tables c.give_entry.new.tables c.in_ok-rules.field-0 false c.in_ok-rules.ensures.went)

pub returns-in_default-clause-whole : goal.returns-in_default-clause-whole
returns-in_default-clause-whole g c = λ clean L long stands.
    let was = c.loop-before.invariant in
    let mid = state g.S.Store c.loop-before.tables.conn in
    let new = state g.S.Store c.give_entry.new.tables.conn in
    let its = c.in_ok-rules.ensures in
    let f = was.follows (clean_before mid new its.went.left clean) L long stands in
    let given = its.next clean c.args.copy.now.warehouse L (omega (arith, c.loop-before-test.true, long)) f in
    absurd (none_given c.in_ok-rules.field-0 _ c.in_default.not-Some given)

pub loop-before-init : goal.loop-before-init
loop-before-init g c =
    let u = c.requires.empty in
    let l = u.legal in
    record {
      copy = record { warehouse = refl; register = []; legal = none_legal _ l.of_a_partner; usable = u };
      follows = λ clean L long stands. record {
        stays = record { stands = stands; fits = omega arith; warehouse = refl; usable = u };
        last_is = refl;
        legal = none_legal _ l.of_a_partner;
      };
      told = search rules;
      went = search rules;
    }

pub loop-before-preserved : goal.loop-before-preserved
loop-before-preserved g c =
    let was = c.loop-before.invariant in
    let mid = state g.S.Store c.loop-before.tables.conn in
    let new = state g.S.Store c.give_entry.new.tables.conn in
    let copy = standing_of g.C.Store c.give_entry.new.copy in
    let its = c.in_ok-rules.ensures in
    record {
      copy = subst (λ o. IfSome o (λ r. IsCopy r c.args.copy.now.warehouse copy)) c.in-Some.is (its.copy c.args.copy.now.warehouse was.copy);
      follows = λ clean L long stands.
          let f = was.follows (clean_before mid new its.went.left clean) L long stands in
          subst (λ o. IsSomeAnd o (λ r. Follows (c.loop-before.before + 1) r new c.args.copy.now.warehouse copy L)) c.in-Some.is
          (its.next clean c.args.copy.now.warehouse L (omega (arith, c.loop-before-test.true, long)) f);
      told = search (rules, of_calls);
      went = went_on g.S.Store c.args.tables.now c.loop-before.tables c.give_entry.new.tables tt _ was.went
          (went_as g.S.Store c.loop-before.tables c.give_entry.new.tables c.in_ok-rules.field-0 tt its.went);
    }

pub returns-clause-copy : goal.returns-clause-copy
returns-clause-copy g c = λ all.
    let k = c.loop-before.invariant.copy in
    record { warehouse = k.warehouse; register = k.register; legal = legal_now c.loop-before.last _ _ k.legal; usable = k.usable }

pub returns-clause-whole : goal.returns-clause-whole
returns-clause-whole g c = λ clean L long stands.
    let f = c.loop-before.invariant.follows clean L long stands in
    let all : c.loop-before.before ≡ c.args.entries = search rules in
    (refl, subst (λ n. Stays n (state g.S.Store c.loop-before.tables.conn) c.args.copy.now.warehouse (standing_of g.C.Store c.loop-before.copy) L) all f.stays)
