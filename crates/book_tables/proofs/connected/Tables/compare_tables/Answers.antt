use Rattle.std.proofs.Common.{rules, ◌≡◌, sym, subst}
use Rattle.std.specs.Prelude.{IsErrAnd}
use Rattle.store.specs.Fault.{Fault}
use Rattle.book_statements.specs.Asking.{OnlyReads}
use Rattle.book_tables.proofs.ComparedSoFar.{none_so_far, fails_after, other_after, limit_after, one_more, one_differs, all_same, all_asked}
use Rattle.book_tables.proofs.Queries.{asked_fails}
use Rattle.book_statements.proofs.WholeTexts.{whole_reads}
use Rattle.book_tables.proofs.connected.Tables.compare_tables.Goals as goal

pub loop-table-init : goal.loop-table-init
loop-table-init g c = none_so_far g.S.Store g.T.Store c.args.self.now c.args.other.now

pub shows_the_same-requires : goal.shows_the_same-requires
shows_the_same-requires g c = subst OnlyReads (sym c.whole_text.ensures) (whole_reads _)

pub returns-in_err-shows_the_same-clause-asked : goal.returns-in_err-shows_the_same-clause-asked
returns-in_err-shows_the_same-clause-asked g c =
    let same : IsErrAnd c.from_residual.result (λ (f : Fault). f ≡ c.in_err-shows_the_same.field-0.0) = search rules in
    fails_after g.S.Store g.T.Store c.args.self.now c.loop-table.self c.shows_the_same.new.self c.args.other.now c.loop-table.other c.shows_the_same.new.other c.loop-table.table-index c.loop-table.invariant
    c.from_residual.result (asked_fails g.S.Store c.loop-table.self c.shows_the_same.new.self c.in_err-shows_the_same.field-0.0 c.from_residual.result same c.in_err-shows_the_same.ensures.asked)

pub returns-in_err-shows_the_same-clause-other : goal.returns-in_err-shows_the_same-clause-other
returns-in_err-shows_the_same-clause-other g c =
    other_after g.S.Store g.T.Store c.args.self.now c.loop-table.self c.shows_the_same.new.self c.args.other.now c.loop-table.other c.shows_the_same.new.other c.loop-table.table-index c.loop-table.invariant
    c.shows_the_same.ensures.other

pub returns-in_err-shows_the_same-clause-other_limit : goal.returns-in_err-shows_the_same-clause-other_limit
returns-in_err-shows_the_same-clause-other_limit g c =
    limit_after g.S.Store g.T.Store c.args.self.now c.loop-table.self c.shows_the_same.new.self c.args.other.now c.loop-table.other c.shows_the_same.new.other c.loop-table.table-index c.loop-table.invariant
    c.shows_the_same.ensures.other_limit

pub returns-then-not-branch-clause-compares : goal.returns-then-not-branch-clause-compares
returns-then-not-branch-clause-compares g c =
    one_differs g.S.Store g.T.Store c.args.self.now c.loop-table.self c.shows_the_same.new.self c.args.other.now c.loop-table.other c.shows_the_same.new.other c.loop-table.table-index c.loop-table.invariant
    _ c.loop-table-test.true c.whole_text.result.now c.whole_text.ensures c.in_ok-shows_the_same.field-0
    c.in_ok-shows_the_same.ensures.asked c.shows_the_same.ensures.other c.shows_the_same.ensures.other_limit c.in_ok-shows_the_same.ensures.same c.if-not-branch.true

pub returns-then-not-branch-clause-asked : goal.returns-then-not-branch-clause-asked
returns-then-not-branch-clause-asked g c =
    fails_after g.S.Store g.T.Store c.args.self.now c.loop-table.self c.shows_the_same.new.self c.args.other.now c.loop-table.other c.shows_the_same.new.other c.loop-table.table-index c.loop-table.invariant
    _ (rw (← c.if-not-branch.true) c.in_ok-shows_the_same.ensures.asked)

pub returns-then-not-branch-clause-other : goal.returns-then-not-branch-clause-other
returns-then-not-branch-clause-other g c =
    other_after g.S.Store g.T.Store c.args.self.now c.loop-table.self c.shows_the_same.new.self c.args.other.now c.loop-table.other c.shows_the_same.new.other c.loop-table.table-index c.loop-table.invariant
    c.shows_the_same.ensures.other

pub returns-then-not-branch-clause-other_limit : goal.returns-then-not-branch-clause-other_limit
returns-then-not-branch-clause-other_limit g c =
    limit_after g.S.Store g.T.Store c.args.self.now c.loop-table.self c.shows_the_same.new.self c.args.other.now c.loop-table.other c.shows_the_same.new.other c.loop-table.table-index c.loop-table.invariant
    c.shows_the_same.ensures.other_limit

pub loop-table-preserved : goal.loop-table-preserved
loop-table-preserved g c =
    one_more g.S.Store g.T.Store c.args.self.now c.loop-table.self c.shows_the_same.new.self c.args.other.now c.loop-table.other c.shows_the_same.new.other c.loop-table.table-index c.loop-table.invariant
    _ c.loop-table-test.true c.whole_text.result.now c.whole_text.ensures c.in_ok-shows_the_same.field-0
    c.in_ok-shows_the_same.ensures.asked c.shows_the_same.ensures.other c.shows_the_same.ensures.other_limit c.in_ok-shows_the_same.ensures.same c.if-not-branch.false

pub returns-clause-compares : goal.returns-clause-compares
returns-clause-compares g c =
    all_same g.S.Store g.T.Store c.args.self.now c.loop-table.self c.args.other.now c.loop-table.other c.loop-table.table-index c.loop-table-test.false c.loop-table.invariant

pub returns-clause-asked : goal.returns-clause-asked
returns-clause-asked g c =
    all_asked g.S.Store g.T.Store c.args.self.now c.loop-table.self c.args.other.now c.loop-table.other c.loop-table.table-index c.loop-table-test.false c.loop-table.invariant

pub returns-clause-other : goal.returns-clause-other
returns-clause-other g c = c.loop-table.invariant.other

pub returns-clause-other_limit : goal.returns-clause-other_limit
returns-clause-other_limit g c = c.loop-table.invariant.other_limit
