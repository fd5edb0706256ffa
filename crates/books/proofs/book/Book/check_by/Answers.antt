use Rattle.std.proofs.Common.{ap, refl, ◌∙◌, ◌≡◌, rules, arith, sym, subst, take}
use Rattle.std.specs.Prelude.{IsErrAnd}
use Rattle.std.proofs.lemmas.List.{take_all}
use Rattle.sqlite.specs.Effect.{Database}
use Rattle.sqlite.specs.Held.{state}
use Rattle.definitions.specs.Rules.{Today}
use Rattle.store.specs.Fault.{Fault}
use Rattle.store.specs.Fault.TheVariants.{Store, Reopen, NotThisBook, Device}
use Rattle.book_tables.specs.Comparing.{AreTables, IsLaid}
use Rattle.book_statements.specs.Exits.{StandsWhileOpen}
use Rattle.book_statements.specs.Layout.{IsLayout}
use Rattle.book_statements.specs.Standing.{StandsSecond}
use Rattle.book_statements.proofs.Asked.{asked_twice}
use Rattle.book_tables.proofs.AskedLater.{clean_before}
use Rattle.book_tables.proofs.Queries.{went_fails, went_of, went_on}
use Rattle.books.specs.Opened.{Opened, standing_of}
use Rattle.books.specs.Verified.{IsCopy, Stays}
use Rattle.books.proofs.AskedBooks.{asked_reading, asked_unchanged}
use Rattle.books.proofs.GivenLemmas.{never_both}
use Rattle.books.proofs.book.Book.check_by.Goals as goal

pub returns-in_err-all-clause-reading : goal.returns-in_err-all-clause-reading
returns-in_err-all-clause-reading g c = rw (← c.self.view_is) (
    let b = c.self.inside in
    let m = c.give_all.new.tables in
    let r = c.from_residual.result in
    let same : IsErrAnd r (λ (f : Fault). f ≡ c.in_err-all.field-0.0) = search rules in
    let went = went_fails g.S.Store b.tables m c.in_err-all.field-0.0 r same c.in_err-all.ensures.went in
    asked_reading r (state g.S.Store b.tables.conn) (state g.S.Store m.conn) b.warehouse b.entries b.tables.refused m.refused b.shut went.counts went.left went.fault)

pub returns-in_err-same-clause-reading : goal.returns-in_err-same-clause-reading
returns-in_err-same-clause-reading g c = rw (← c.self.view_is) (
    let b = c.self.inside in
    let m = c.give_all.new.tables in
    let n = c.same_tables.new.self in
    let r = c.from_residual-in_err-same.result in
    let same : IsErrAnd r (λ (f : Fault). f ≡ c.in_err-same.field-0.0) = search rules in
    let both = went_on g.S.Store b.tables m n c.in_ok-all.all r c.in_ok-all.ensures.went
    (went_fails g.S.Store m n c.in_err-same.field-0.0 r same (went_of g.S.Store m n _ c.in_err-same.ensures.asked)) in
    asked_reading r (state g.S.Store b.tables.conn) (state g.S.Store n.conn) b.warehouse b.entries b.tables.refused n.refused b.shut both.counts both.left both.fault)

pub returns-clause-reading : goal.returns-clause-reading
returns-clause-reading g c = rw (← c.self.view_is) (
    let b = c.self.inside in
    let m = c.give_all.new.tables in
    let n = c.same_tables.new.self in
    let both = went_on g.S.Store b.tables m n c.in_ok-all.all _ c.in_ok-all.ensures.went (went_of g.S.Store m n _ c.in_ok-same.ensures.asked) in
    record { same = asked_unchanged (state g.S.Store b.tables.conn) (state g.S.Store n.conn) b.warehouse b.entries b.tables.refused n.refused b.shut both.counts both.left; fault = tt })

pub returns-clause-stands : goal.returns-clause-stands
returns-clause-stands g c = rw (← c.self.view_is) (λ clean laid are.
    let b = c.self.inside in
    let W = b.warehouse in
    let old = state g.S.Store b.tables.conn in
    let mid = state g.S.Store c.give_all.new.tables.conn in
    let new = state g.S.Store c.same_tables.new.self.conn in
    let other = state g.C.Store c.copy.inside.tables.conn in
    let its = c.in_ok-same.ensures in
    let clean' = c.requires.clean c.same_tables.new.other.conn in
    let before = c.in_ok-all.ensures.went.left.same (clean_before mid new its.asked.left clean) in
    let laid' : IsLaid mid = λ o. subst (λ (d : Database). IsLayout d.schema) (sym (before.now o)) (laid (before.was_open o)) in
    let house : c.args.copy.now.warehouse ≡ W = c.requires.warehouse ∙ ap (λ (o : Opened _). o.warehouse) (sym c.self.view_is) in
    let found : IsCopy Today W (standing_of g.C.Store c.give_all.new.copy) =
    subst (λ V. IsCopy Today V (standing_of g.C.Store c.give_all.new.copy)) house (c.in_ok-all.ensures.copy c.if-not-all.false) in
    let copy = subst (λ x. IsCopy Today W (standing_of g.C.Store x)) (sym c.copy.view_is) found in
    let usable = copy.usable in
    let kept = usable.keeps in
    let stood : StandsWhileOpen other W copy.register = subst (λ V. StandsWhileOpen other V copy.register) copy.warehouse kept.stands in
    let opened = its.was_open clean clean' in
    let same = before.now opened in
    let now = its.stands clean clean' laid' (subst (λ (d : Database). AreTables d) (sym same) (are (before.was_open opened))) W copy.register stood c.if-not-same.false in
    (before.was_open opened, record { register = copy.register; long = sym kept.count; stands = subst (StandsSecond W copy.register) same now }))

pub returns-then-not-same-clause-reading : goal.returns-then-not-same-clause-reading
returns-then-not-same-clause-reading g c = rw (← c.self.view_is) (record {
  same =
      let b = c.self.inside in
      let m = c.give_all.new.tables in
      let n = c.same_tables.new.self in
      let both = went_on g.S.Store b.tables m n c.in_ok-all.all _ c.in_ok-all.ensures.went (went_of g.S.Store m n _ c.in_ok-same.ensures.asked) in
      asked_unchanged (state g.S.Store b.tables.conn) (state g.S.Store n.conn) b.warehouse b.entries b.tables.refused n.refused b.shut both.counts both.left;
  fault = record {
    store = λ e. absurd (let d : ◌≡◌ {A = Fault} NotThisBook Store = e in cc);
    reopen = λ e. absurd (let d : ◌≡◌ {A = Fault} NotThisBook Reopen = e in cc);
    device = λ e. let d : ◌≡◌ {A = Fault} NotThisBook Device = e in cc;
    not_this = λ e clean L kept.
        let b = c.self.inside in
        let W = b.warehouse in
        let mid = state g.S.Store c.give_all.new.tables.conn in
        let new = state g.S.Store c.same_tables.new.self.conn in
        let other = state g.C.Store c.copy.inside.tables.conn in
        let its = c.in_ok-same.ensures in
        let house : c.args.copy.now.warehouse ≡ W = c.requires.warehouse ∙ ap (λ (o : Opened _). o.warehouse) (sym c.self.view_is) in
        let found : Stays b.entries mid W (standing_of g.C.Store c.give_all.new.copy) L =
        subst (λ V. Stays b.entries mid V (standing_of g.C.Store c.give_all.new.copy) L) house
        ((c.in_ok-all.ensures.whole (clean_before mid new its.asked.left clean) L kept.count
        (subst (λ V. StandsWhileOpen (state g.S.Store b.tables.conn) V L) (sym house) kept.stands)).1) in
        let copy = subst (λ x. Stays b.entries mid W (standing_of g.C.Store x) L) (sym c.copy.view_is) found in
        let usable = copy.usable in
        let keeps = usable.keeps in
        let whole : take b.entries L ≡ L = take_all b.entries L (omega (arith, kept.count)) in
        let stood : StandsWhileOpen other W L =
        subst (λ V. StandsWhileOpen other V L) copy.warehouse (subst (StandsWhileOpen other c.copy.inside.warehouse) whole keeps.stands) in
        never_both c.in_ok-same.same (its.same clean (c.requires.clean c.same_tables.new.other.conn) W L stood copy.stands) c.if-not-same.true;
  };
})

pub returns-in_err-all-clause-unchanged : goal.returns-in_err-all-clause-unchanged
returns-in_err-all-clause-unchanged g c = rw (← c.self.view_is) (record {
  tables = c.in_err-all.ensures.went.left;
  warehouse = refl;
  entries = refl;
  shut = refl;
})

pub returns-in_err-same-clause-unchanged : goal.returns-in_err-same-clause-unchanged
returns-in_err-same-clause-unchanged g c = rw (← c.self.view_is) (record {
  tables = asked_twice (state g.S.Store c.self.inside.tables.conn) (state g.S.Store c.give_all.new.tables.conn) (state g.S.Store c.same_tables.new.self.conn) c.in_ok-all.ensures.went.left c.in_err-same.ensures.asked.left;
  warehouse = refl;
  entries = refl;
  shut = refl;
})

pub returns-then-not-same-clause-unchanged : goal.returns-then-not-same-clause-unchanged
returns-then-not-same-clause-unchanged g c = rw (← c.self.view_is) (record {
  tables = asked_twice (state g.S.Store c.self.inside.tables.conn) (state g.S.Store c.give_all.new.tables.conn) (state g.S.Store c.same_tables.new.self.conn) c.in_ok-all.ensures.went.left c.in_ok-same.ensures.asked.left;
  warehouse = refl;
  entries = refl;
  shut = refl;
})

pub returns-clause-unchanged : goal.returns-clause-unchanged
returns-clause-unchanged g c = rw (← c.self.view_is) (record {
  tables = asked_twice (state g.S.Store c.self.inside.tables.conn) (state g.S.Store c.give_all.new.tables.conn) (state g.S.Store c.same_tables.new.self.conn) c.in_ok-all.ensures.went.left c.in_ok-same.ensures.asked.left;
  warehouse = refl;
  entries = refl;
  shut = refl;
})
