use Rattle.std.proofs.Common.{arith, ◌≡◌, ◌≤◌, ◌∙◌, IsTrue, inr, sym, subst, ap, false}
use Rattle.sqlite.specs.Held.{Held}
use Rattle.sqlite.specs.Effect.{Database}
use Rattle.sqlite_disk.specs.Disk.{MoreFaults}
use Rattle.sqlite_trees.specs.View.{IsClean}
use Rattle.book_tables.proofs.OpenedAnew.{still_open, rolled_back, ok_both, ok_three, err_both, fails_as}
use Rattle.book_tables.proofs.connected.Tables.reopened.Goals as goal

pub over-requires : goal.over-requires
over-requires g c = λ clean.
    let store = c.into_store-store.result in
    let sound : (g.S.Store.view store).is_broken ≡ false = sym (c.is_broken.ensures clean) ∙ c.if-is_broken.false in
    rolled_back (g.S.Store.view c.into_inner.result.store) (g.S.Store.view store) c.into_store-store.ensures.undone (c.into_store-store.ensures.numbered clean) clean (g.met.S.Store.broken_if_shut store) sound

pub returns-clause-trees : goal.returns-clause-trees
returns-clause-trees g c = ok_both c.over.result (λ t trees up clean.
    let store = c.into_store-store.result in
    let was_clean : IsClean (g.S.Store.view store) = omega (arith, up, clean) in
    let sound : (g.S.Store.view store).is_broken ≡ false = sym (c.is_broken.ensures was_clean) ∙ c.if-is_broken.false in
    let undone = c.into_store-store.ensures.undone in
    trees clean ∙ (undone.undone (still_open (g.S.Store.view store) (g.met.S.Store.broken_if_shut store) sound)).0 ∙ ap (λ (h : Held g.row.S.Denot). (g.S.Store.view h.store).committed) c.into_inner.ensures)
    c.over.ensures.trees c.over.ensures.clean

pub returns-clause-err : goal.returns-clause-err
returns-clause-err g c = err_both c.over.result (λ e why quiet clean.
    let held = c.args.self.conn in
    let store = c.into_store-store.result in
    let was_clean : IsClean (g.S.Store.view store) = omega (arith, quiet.clean, clean) in
    let sound : (g.S.Store.view store).is_broken ≡ false = sym (c.is_broken.ensures was_clean) ∙ c.if-is_broken.false in
    let undone = c.into_store-store.ensures.undone in
    let shows = still_open (g.S.Store.view store) (g.met.S.Store.broken_if_shut store) sound in
    let kept = undone.kept was_clean in
    let was_open = subst (λ (h : Held g.row.S.Denot). IsTrue (g.S.Store.view h.store).is_open) c.into_inner.ensures (kept.was_open shows) in
    let same = (undone.undone shows).0 ∙ ap (λ (h : Held g.row.S.Denot). (g.S.Store.view h.store).committed) c.into_inner.ensures in
    let more = subst (λ (h : Held g.row.S.Denot). g.S.Store.faults h.store ≤ g.S.Store.faults store) c.into_inner.ensures (let q = c.into_store-store.ensures.quiet in q.counts) in
    inr (was_open, fails_as (g.S.Store.view held.store).committed (g.S.Store.view store).trees (MoreFaults (g.S.Store.faults store) (g.S.Store.faults e.1)) (MoreFaults (g.S.Store.faults held.store) (g.S.Store.faults e.1)) e.0 same (λ up. omega (arith, up, more)) (why clean)))
    c.over.ensures.err c.over.ensures.unharmed

pub returns-clause-no_more : goal.returns-clause-no_more
returns-clause-no_more g c = ok_three c.over.result (λ t opens trees up clean db may.
    let v = g.S.Store in
    let held = c.args.self.conn in
    let store = c.into_store-store.result in
    let was_clean : IsClean (v.view store) = omega (arith, up, clean) in
    let sound : (v.view store).is_broken ≡ false = sym (c.is_broken.ensures was_clean) ∙ c.if-is_broken.false in
    let undone = c.into_store-store.ensures.undone in
    let shows = still_open (v.view store) (g.met.S.Store.broken_if_shut store) sound in
    let kept = undone.kept was_clean in
    let same = (undone.undone shows).0 ∙ ap (λ (h : Held g.row.S.Denot). (v.view h.store).committed) c.into_inner.ensures in
    let was_open = subst (λ (h : Held g.row.S.Denot). IsTrue (v.view h.store).is_open) c.into_inner.ensures (kept.was_open shows) in
    let fresh = (opens clean).0 in
    let found = g.met.S.Store.settled t.conn.store db fresh.is_open may in
    let anew : db ≡ (v.view held.store).committed = found ∙ sym (ap (λ (d : Database). d.trees) fresh.clean) ∙ trees clean ∙ same in
    subst (v.recovers held.store) (sym anew) (g.met.S.Store.stays held.store was_open))
    c.over.ensures.opens c.over.ensures.trees c.over.ensures.clean
