use Rattle.std.proofs.Common.{◌≡◌, ◌+◌, [], ◌∷◌, ◌++◌, ap, subst, sym, true, false, ◌∙◌, refl}
use Rattle.definitions.specs.Header.{who_text}
use Rattle.sqlite.specs.Held.{Held, state}
use Rattle.store.specs.Standing.{LeavesEither}
use Rattle.book_statements.specs.Exits.{StandsWithEntry}
use Rattle.books.specs.Keeping.{standing_in}
use Rattle.books.proofs.KeepingLemmas.{is_appended, kept_now, usable_now, leaves_one_of, leaves_as_before, length_push}
use Rattle.books.proofs.keeping.BookKeeper.commit.Goals as goal

pub returns-in-Ok-clause-ok : goal.returns-in-Ok-clause-ok
returns-in-Ok-clause-ok g c = rw (← c.self.view_is, c.if-self.false) (λ clean L u e next.
    let b = c.self.inside in
    let whose : c.text-who.result.now ≡ who_text c.args.entry.now.who = c.text-who.ensures ∙ ap who_text c.who-depositor.ensures in
    let it = is_appended (state g.S.Store b.tables.conn) b.warehouse b.entries L e (b.entries + 1) c.text-who.result.now c.args.entry.now c.args.changes.now c.args.outgoing.now u.keeps refl whose next in
    usable_now (state g.S.Store c.append.new.self.conn) b.warehouse (b.entries + 1) c.append.new.self.refused (L ++ e ∷ []) (length_push L e b.entries (let k = u.keeps in k.count))
    (c.in-Ok.ensures.whole.ok clean b.warehouse L e it) (c.in-Ok.ensures.whole.left clean))

pub returns-in-Ok-clause-keeps : goal.returns-in-Ok-clause-keeps
returns-in-Ok-clause-keeps g c = rw (← c.self.view_is) (λ clean L k e next.
    let b = c.self.inside in
    let whose : c.text-who.result.now ≡ who_text c.args.entry.now.who = c.text-who.ensures ∙ ap who_text c.who-depositor.ensures in
    let it = is_appended (state g.S.Store b.tables.conn) b.warehouse b.entries L e (b.entries + 1) c.text-who.result.now c.args.entry.now c.args.changes.now c.args.outgoing.now k refl whose next in
    kept_now (state g.S.Store c.append.new.self.conn) b.warehouse (b.entries + 1) (L ++ e ∷ []) (length_push L e b.entries k.count) (c.in-Ok.ensures.whole.ok clean b.warehouse L e it))

pub returns-in-Err-clause-left : goal.returns-in-Err-clause-left
returns-in-Err-clause-left g c = rw (← c.self.view_is, c.if-self.false) (λ clean L u e next.
    let b = c.self.inside in
    let whose : c.text-who.result.now ≡ who_text c.args.entry.now.who = c.text-who.ensures ∙ ap who_text c.who-depositor.ensures in
    let it = is_appended (state g.S.Store b.tables.conn) b.warehouse b.entries L e (b.entries + 1) c.text-who.result.now c.args.entry.now c.args.changes.now c.args.outgoing.now u.keeps refl whose next in
    leaves_one_of (state g.S.Store b.tables.conn) (state g.S.Store c.append.new.self.conn) b.warehouse b.entries b.entries b.tables.refused c.append.new.self.refused _ L (L ++ e ∷ [])
    (StandsWithEntry (state g.S.Store b.tables.conn) (b.entries + 1) c.text-who.result.now c.args.entry.now c.args.changes.now c.args.outgoing.now) clean c.append.ensures.whole.crash (λ db p. p b.warehouse L e it) u)

pub returns-then-self-ge-GREATEST-clause-left : goal.returns-then-self-ge-GREATEST-clause-left
returns-then-self-ge-GREATEST-clause-left g c = rw (← c.self.view_is, c.if-self.false) (λ clean L u e next.
    let b = c.self.inside in
    subst (λ (h : Held g.row.S.Denot). LeavesEither (standing_in (state g.S.Store h) b.warehouse b.entries c.use_up.new.self.refused true) L (L ++ e ∷ [])) (sym c.use_up.ensures.conn)
    (leaves_as_before (state g.S.Store b.tables.conn) b.warehouse b.entries b.entries b.tables.refused c.use_up.new.self.refused true L (L ++ e ∷ []) u))
