use Rattle.std.proofs.Common.{inr, ◌≡◌, ◌≤◌, sym, subst, arith, rules, IsErrAnd, IsTrue}
use Rattle.sqlite_trees.specs.View.{doubt}
use Rattle.sqlite.specs.Effect.{Database}
use Rattle.sqlite.specs.Held.{state}
use Rattle.sqlite.specs.State.{HasCleanDisk}
use Rattle.book_tables.specs.Comparing.{AreTables, IsLaid}
use Rattle.book_statements.specs.Layout.{IsLayout}
use Rattle.app.specs.Checking.{IsWholeNow, StaysCommitted, TellsWhole}
use Rattle.books.specs.Opened.{standing_of}
use Rattle.commands.specs.declared.told.CommandError.{CommandError}
use Rattle.app.proofs.CheckingLemmas.{left_any, other_begins, same_stop, still_committed, whole_now}
use Rattle.app.proofs.checking.check_over.Goals as goal

pub returns-in-Ok : goal.returns-in-Ok
returns-in-Ok g c = record {
  whole = λ clean.
      let opened = state g.S.Store c.in_ok-book.book.tables.conn in
      let checked = c.in-Ok.ensures.checked in
      let goes = checked.same.goes in
      let clean' : HasCleanDisk (state g.S.Store c.check.new.book.tables.conn) = subst (λ k. HasCleanDisk (state g.S.Store k)) c.close.ensures clean in
      let was : HasCleanDisk opened = omega (arith, goes.doubt, clean') in
      let anew = c.in_ok-book.ensures.anew was in
      record {
        read = anew.read;
        sound = anew.sound;
        trees = anew.trees;
        told = λ laid second.
            let same : IsTrue opened.is_open → opened.now ≡ anew.read = λ here. (anew.tables laid second here).0 in
            let is_laid : IsLaid opened = λ here. subst (λ (d : Database). IsLayout d.schema) (sym (same here)) laid in
            let whole = c.in-Ok.ensures.stands clean' is_laid
            (λ here. subst (λ (d : Database). AreTables d) (sym (same here)) (anew.tables laid second here).1) in
            subst (λ (d : Database). TellsWhole d (g.W.Write.contents c.args.out.now) (g.W.Write.contents c.check.new.out)) (same whole.0) whole.1;
      };
  clean =
      let checked = c.in-Ok.ensures.checked in
      let goes = checked.same.goes in
      let last = subst (λ k. doubt (state g.S.Store c.check.new.book.tables.conn).is_clean ≤ doubt (state g.S.Store k).is_clean) (sym c.close.ensures) (omega arith) in
      omega (arith, c.in_ok-book.ensures.clean, goes.doubt, last);
  stopped = tt;
  now = λ clean.
      let v = g.S.Store in
      let b = state v c.in_ok-book.book.tables.conn in
      let last = state v c.check.new.book.tables.conn in
      let goes = let checked = c.in-Ok.ensures.checked in checked.same.goes in
      let clean' : HasCleanDisk last = subst (λ k. HasCleanDisk (state v k)) c.close.ensures clean in
      let was : HasCleanDisk b = omega (arith, goes.doubt, clean') in
      let read = c.in-Ok.ensures.unchanged in
      subst (λ k. IsWholeNow (state v k) (g.W.Write.contents c.args.out.now) (g.W.Write.contents c.check.new.out)) (sym c.close.ensures)
      (whole_now b last (g.W.Write.contents c.args.out.now) (g.W.Write.contents c.check.new.out) (c.in_ok-book.ensures.through was) read.tables clean' (λ laid rows. c.in-Ok.ensures.stands clean' laid rows));
  counted = λ clean q W L stands.
      let v = g.S.Store in
      let checked = c.in-Ok.ensures.checked in
      let goes = checked.same.goes in
      let clean' : HasCleanDisk (state v c.check.new.book.tables.conn) = subst (λ k. HasCleanDisk (state v k)) c.close.ensures clean in
      let was : HasCleanDisk (state v c.in_ok-book.book.tables.conn) = omega (arith, goes.doubt, clean') in
      let usable = let book = c.in_ok-book.ensures.stood was q W L stands in book.usable in
      checked.told clean' L usable.keeps;
  unchanged =
      let v = g.S.Store in
      let first = state v c.args.database in
      let read = c.in-Ok.ensures.unchanged in
      subst (λ k. StaysCommitted first (state v k)) (sym c.close.ensures)
      (still_committed first (state v c.in_ok-book.book.tables.conn) (state v c.check.new.book.tables.conn) c.in_ok-book.ensures.unchanged read.tables);
  left = tt;
}

pub returns-in-Err-clause-stopped : goal.returns-in-Err-clause-stopped
returns-in-Err-clause-stopped g c = inr (record {
  opened = c.in_ok-book.book;
  anew = c.in_ok-book.ensures.anew;
  left = c.check.new.book;
  why = c.in-Err.ensures.stopped;
})

pub returns-in-Err-clause-left : goal.returns-in-Err-clause-left
returns-in-Err-clause-left g c =
    let v = g.S.Store in
    let checked = c.in-Err.ensures.checked in
    let goes = checked.same.goes in
    let read = c.in-Err.ensures.unchanged in
    let stays = still_committed (state v c.args.database) (state v c.in_ok-book.book.tables.conn) (state v c.check.new.book.tables.conn) c.in_ok-book.ensures.unchanged read.tables in
    record {
      left = let b = c.check.new.book in let t = b.tables in let h = t.conn in h.store;
      clean = omega (arith, c.in_ok-book.ensures.clean, goes.doubt);
      not_this = λ clean is q W L stands.
          let was : HasCleanDisk (state v c.in_ok-book.book.tables.conn) = omega (arith, goes.doubt, clean) in
          let book = c.in_ok-book.ensures.stood was q W L stands in
          let usable = book.usable in
          inr (other_begins c.args.noted.now (standing_of v c.in_ok-book.book) (standing_of v c.check.new.book) c.in-Err.stop c.in-Err.ensures.stopped is clean L usable.keeps);
      no_more = λ clean second db may. stays.no_more clean second db may;
    }

pub returns-in_err-book-clause-left : goal.returns-in_err-book-clause-left
returns-in_err-book-clause-left g c =
    let same : IsErrAnd c.from_residual.result (λ (stop : CommandError). stop ≡ c.in_err-book.field-0.0) = search rules in
    same_stop c.from_residual.result c.in_err-book.field-0.0 _ same (left_any g.S.Store c.args.database c.args.noted.now c.in_err-book.field-0.0 c.in_err-book.ensures.left)
