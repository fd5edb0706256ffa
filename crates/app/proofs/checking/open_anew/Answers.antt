use Rattle.std.proofs.Common.{◌≤◌, ap, sym, subst, ◌∙◌, arith, inl}
use Rattle.sqlite.specs.Held.{Held, state}
use Rattle.sqlite.specs.State.{HasCleanDisk}
use Rattle.sqlite.specs.Effect.{Database}
use Rattle.sqlite_disk.specs.Disk.{MoreFaults}
use Rattle.sqlite_trees.specs.View.{doubt}
use Rattle.store.specs.Fault.TheVariants.{NotThisBook}
use Rattle.book_tables.specs.Reopening.{FailsToReopen}
use Rattle.book_statements.proofs.Carried.{stands_open_later}
use Rattle.app.proofs.CheckingLemmas.{err_as, first_anew, less, ok_three, ok_two, read_through, same_committed, same_now, second_back, some_is, stood_anew, unread}
use Rattle.app.proofs.checking.open_anew.Goals as goal

-- it couldn't be read anew
pub returns-in-Err-clause-left : goal.returns-in-Err-clause-left
returns-in-Err-clause-left g c =
    let v = g.S.Store in
    let store = c.in-Err.field-0-1 in
    let database = c.args.database in
    let quiet = c.in-Err.ensures.unharmed in
    record {
      left = store;
      clean = subst (λ (h : Held g.row.S.Denot). doubt (state v h).is_clean ≤ doubt (v.view store).is_clean) c.new.ensures.conn quiet.clean;
      not_this = λ clean is q W L stands.
          let fails = subst (λ (h : Held g.row.S.Denot). FailsToReopen (state v h) (MoreFaults (state v h).faults (v.faults store)) c.in-Err.error) c.new.ensures.conn (c.in-Err.ensures.err clean) in
          let more : MoreFaults (state v database).faults (v.faults store) =
          unread (state v database) (MoreFaults (state v database).faults (v.faults store)) c.in-Err.error fails (sym c.fault.ensures.told ∙ some_is c.fault.result NotThisBook is) (λ _. (stands.0, stands.1)) in
          inl (omega (arith, more));
      no_more = λ clean second db may. subst (λ (h : Held g.row.S.Denot). (state v h).may_leave db) c.new.ensures.conn (quiet.outcomes db may);
    }

-- it was of version 2
pub returns-in-Ok-open_second-clause-anew : goal.returns-in-Ok-open_second-clause-anew
returns-in-Ok-open_second-clause-anew g c = λ clean.
    let v = g.S.Store in
    let t = state v c.in-Ok.tables.conn in
    let asked = c.in-Ok-open_second.ensures.asked in
    let up = asked.crash in
    let before = asked.same clean in
    let fresh : HasCleanDisk t = omega (arith, up.clean, clean) in
    let opens = c.in-Ok.ensures.opens fresh in
    record {
      read = t.now;
      sound = (opens.1 (let o = opens.0 in o.is_open)).0;
      trees = c.in-Ok.ensures.trees fresh ∙ ap (λ k. (state v k).committed.trees) c.new.ensures.conn;
      tables = λ laid second here. (before.now here, c.in-Ok.ensures.tables fresh (λ _. laid));
    }

pub returns-in-Ok-open_second-clause-through : goal.returns-in-Ok-open_second-clause-through
returns-in-Ok-open_second-clause-through g c = λ clean.
    let v = g.S.Store in
    let t = state v c.in-Ok.tables.conn in
    let asked = c.in-Ok-open_second.ensures.asked in
    let up = asked.crash in
    let fresh : HasCleanDisk t = omega (arith, up.clean, clean) in
    read_through t (state v c.in-Ok-open_second.book.tables.conn) (c.in-Ok.ensures.opens fresh) (c.in-Ok.ensures.tables fresh) asked clean

pub returns-in-Ok-open_second-clause-stood : goal.returns-in-Ok-open_second-clause-stood
returns-in-Ok-open_second-clause-stood g c = λ clean q W L stands.
    let v = g.S.Store in
    let t = state v c.in-Ok.tables.conn in
    let up = let asked = c.in-Ok-open_second.ensures.asked in asked.crash in
    let fresh : HasCleanDisk t = omega (arith, up.clean, clean) in
    let same = c.in-Ok.ensures.trees fresh ∙ ap (λ k. (state v k).committed.trees) c.new.ensures.conn in
    let there = stood_anew (state v c.args.database) t q W L (c.in-Ok.ensures.opens fresh) same stands in
    let ok = c.in-Ok-open_second.ensures.ok in
    record { warehouse = (ok.keeps clean q W L there).0; usable = ok.usable clean q W L there }

pub returns-in-Ok-open_second-clause-unchanged : goal.returns-in-Ok-open_second-clause-unchanged
returns-in-Ok-open_second-clause-unchanged g c =
    let v = g.S.Store in
    let t = state v c.in-Ok.tables.conn in
    let b = state v c.in-Ok-open_second.book.tables.conn in
    let asked = c.in-Ok-open_second.ensures.asked in
    let up = asked.crash in
    record {
      committed = λ clean second here.
          let fresh : HasCleanDisk t = omega (arith, up.clean, clean) in
          let before = asked.same clean in
          let opened = (c.in-Ok.ensures.opens fresh).0 in
          ap (λ (d : Database). d.trees) (before.committed here ∙ sym opened.clean) ∙ c.in-Ok.ensures.trees fresh ∙ ap (λ k. (state v k).committed.trees) c.new.ensures.conn;
      no_more = λ clean second db may.
          let fresh : HasCleanDisk t = omega (arith, up.clean, clean) in
          subst (λ (h : Held g.row.S.Denot). (state v h).may_leave db) c.new.ensures.conn (c.in-Ok.ensures.no_more fresh db (less t b asked clean db may));
    }

-- it wasn't, and was to be carried over
pub returns-in-Err-NotThisBook-default-clause-anew : goal.returns-in-Err-NotThisBook-default-clause-anew
returns-in-Err-NotThisBook-default-clause-anew g c = ok_three c.carried.result (λ b through up no_more clean.
    let v = g.S.Store in
    let t = state v c.in-Ok.tables.conn in
    let back = state v c.in-Err-NotThisBook-default.tables.conn in
    let asked = c.in-Err-NotThisBook-default.ensures.left in
    let grew = let crash = asked.crash in crash.clean in
    let back_clean : HasCleanDisk back = omega (arith, up, clean) in
    let fresh : HasCleanDisk t = omega (arith, grew, back_clean) in
    let opens = c.in-Ok.ensures.opens fresh in
    let opened = let o = opens.0 in o.is_open in
    record {
      read = t.now;
      sound = (opens.1 opened).0;
      trees = c.in-Ok.ensures.trees fresh ∙ ap (λ k. (state v k).committed.trees) c.new.ensures.conn;
      tables = λ laid second here. (
        same_now t back (state v b.tables.conn) opens asked back_clean (λ db may. let h = c.in-Ok.tables.conn in g.met.S.Store.settled h.store db opened may) (through clean) (λ o. let k = b.tables in let h = k.conn in g.met.S.Store.stays h.store o) (no_more clean) second here,
        c.in-Ok.ensures.tables fresh (λ _. laid),
      );
    })
    c.carried.ensures.through c.carried.ensures.clean c.carried.ensures.no_more

pub returns-in-Err-NotThisBook-default-clause-stood : goal.returns-in-Err-NotThisBook-default-clause-stood
returns-in-Err-NotThisBook-default-clause-stood g c = ok_two c.carried.result (λ b up stood clean q W L stands.
    let v = g.S.Store in
    let t = state v c.in-Ok.tables.conn in
    let back = state v c.in-Err-NotThisBook-default.tables.conn in
    let asked = c.in-Err-NotThisBook-default.ensures.left in
    let grew = let crash = asked.crash in crash.clean in
    let back_clean : HasCleanDisk back = omega (arith, up, clean) in
    let fresh : HasCleanDisk t = omega (arith, grew, back_clean) in
    let same = c.in-Ok.ensures.trees fresh ∙ ap (λ k. (state v k).committed.trees) c.new.ensures.conn in
    stood clean q W L (stands_open_later q t back W L back_clean asked (stood_anew (state v c.args.database) t q W L (c.in-Ok.ensures.opens fresh) same stands)))
    c.carried.ensures.clean c.carried.ensures.stood

pub returns-in-Err-NotThisBook-default-clause-unchanged : goal.returns-in-Err-NotThisBook-default-clause-unchanged
returns-in-Err-NotThisBook-default-clause-unchanged g c = ok_three c.carried.result (λ b through up no_more.
    let v = g.S.Store in
    let t = state v c.in-Ok.tables.conn in
    let back = state v c.in-Err-NotThisBook-default.tables.conn in
    let asked = c.in-Err-NotThisBook-default.ensures.left in
    let grew = let crash = asked.crash in crash.clean in
    record {
      committed = λ clean second here.
          let back_clean : HasCleanDisk back = omega (arith, up, clean) in
          let fresh : HasCleanDisk t = omega (arith, grew, back_clean) in
          let opens = c.in-Ok.ensures.opens fresh in
          let opened = opens.0 in
          let same = c.in-Ok.ensures.trees fresh ∙ ap (λ k. (state v k).committed.trees) c.new.ensures.conn in
          same_committed t back (state v b.tables.conn) opens asked back_clean (λ db may. let h = c.in-Ok.tables.conn in g.met.S.Store.settled h.store db opened.is_open may) (through clean) (λ o. let k = b.tables in let h = k.conn in g.met.S.Store.stays h.store o) (no_more clean)
          (first_anew (state v c.args.database) t opens same second) here ∙ sym (ap (λ (d : Database). d.trees) opened.clean) ∙ same;
      no_more = λ clean second db may.
          let back_clean : HasCleanDisk back = omega (arith, up, clean) in
          let fresh : HasCleanDisk t = omega (arith, grew, back_clean) in
          let opens = c.in-Ok.ensures.opens fresh in
          let same = c.in-Ok.ensures.trees fresh ∙ ap (λ k. (state v k).committed.trees) c.new.ensures.conn in
          let early = less t back asked back_clean db (no_more clean (second_back t back (state v b.tables.conn) opens asked back_clean (first_anew (state v c.args.database) t opens same second)) db may) in
          subst (λ (h : Held g.row.S.Denot). (state v h).may_leave db) c.new.ensures.conn (c.in-Ok.ensures.no_more fresh db early);
    })
    c.carried.ensures.through c.carried.ensures.clean c.carried.ensures.no_more

pub returns-in-Err-NotThisBook-default-clause-left : goal.returns-in-Err-NotThisBook-default-clause-left
returns-in-Err-NotThisBook-default-clause-left g c = err_as c.carried.result (λ stop it.
    let v = g.S.Store in
    let database = c.args.database in
    let t = state v c.in-Ok.tables.conn in
    let back = state v c.in-Err-NotThisBook-default.tables.conn in
    let asked = c.in-Err-NotThisBook-default.ensures.left in
    let grew = let crash = asked.crash in crash.clean in
    let first = subst (λ (h : Held g.row.S.Denot). doubt (state v h).is_clean ≤ doubt t.is_clean) c.new.ensures.conn c.in-Ok.ensures.clean in
    record {
      left = it.left;
      clean = omega (arith, first, grew, it.clean);
      not_this = λ clean is q W L stands.
          let back_clean : HasCleanDisk back = omega (arith, it.clean, clean) in
          let fresh : HasCleanDisk t = omega (arith, grew, back_clean) in
          let same = c.in-Ok.ensures.trees fresh ∙ ap (λ k. (state v k).committed.trees) c.new.ensures.conn in
          inl (it.not_this clean is q W L (stands_open_later q t back W L back_clean asked (stood_anew (state v database) t q W L (c.in-Ok.ensures.opens fresh) same stands)));
      no_more = λ clean second db may.
          let back_clean : HasCleanDisk back = omega (arith, it.clean, clean) in
          let fresh : HasCleanDisk t = omega (arith, grew, back_clean) in
          let opens = c.in-Ok.ensures.opens fresh in
          let same = c.in-Ok.ensures.trees fresh ∙ ap (λ k. (state v k).committed.trees) c.new.ensures.conn in
          let early = less t back asked back_clean db (it.no_more clean (second_back t back back opens asked back_clean (first_anew (state v database) t opens same second)) db may) in
          subst (λ (h : Held g.row.S.Denot). (state v h).may_leave db) c.new.ensures.conn (c.in-Ok.ensures.no_more fresh db early);
    })
    c.carried.ensures.left
