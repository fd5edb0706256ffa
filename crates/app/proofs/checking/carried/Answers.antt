use Rattle.std.proofs.Common.{◌≤◌, sym, subst, ◌∙◌, arith}
use Rattle.sqlite.specs.Held.{state}
use Rattle.sqlite.specs.State.{HasCleanDisk}
use Rattle.sqlite_disk.specs.Disk.{MoreFaults}
use Rattle.sqlite_trees.specs.View.{doubt}
use Rattle.definitions.specs.Rules.{Today}
use Rattle.store.specs.Fault.TheVariants.{NotThisBook}
use Rattle.book_statements.specs.Kept.{Kept}
use Rattle.book_tables.specs.Reopening.{FailsToReopen}
use Rattle.app.proofs.CheckingLemmas.{less, read_through, some_is, stands_again, stands_left, unread}
use Rattle.app.proofs.checking.carried.Goals as goal

-- it was no book of either version, or couldn't be carried over
pub returns-in-Err-clause-left : goal.returns-in-Err-clause-left
returns-in-Err-clause-left g c =
    let v = g.S.Store in
    let back = c.in-Err.field-0-1 in
    let handed = c.in-Err.ensures.err in
    let asked = handed.asked in
    record {
      left = let h = back.conn in h.store;
      clean = asked.clean;
      not_this = λ clean is q W L stands. absurd (handed.this clean q W L stands (some_is c.in-Err.fault NotThisBook is));
      no_more = λ clean second db may. less (state v c.args.tables.conn) (state v back.conn) (asked.asked_open second) clean db may;
    }

-- it was carried over, and couldn't be read anew
pub returns-in-Err-reopened-clause-left : goal.returns-in-Err-reopened-clause-left
returns-in-Err-reopened-clause-left g c =
    let v = g.S.Store in
    let store = c.in-Err-reopened.field-0-1 in
    let one = c.in-Ok.book in
    let was = one.tables in
    let ok = c.in-Ok.ensures.ok in
    let still = ok.still in
    let quiet = c.in-Err-reopened.ensures.unharmed in
    let grew = subst (λ (t : Kept g.row.S.Denot). doubt (state v t.conn).is_clean ≤ doubt (v.view store).is_clean) c.close.ensures quiet.clean in
    record {
      left = store;
      clean = omega (arith, still.clean, grew);
      not_this = λ clean is q W L stands.
          let early : HasCleanDisk (state v was.conn) = omega (arith, grew, clean) in
          let fails = subst (λ (t : Kept g.row.S.Denot). FailsToReopen (state v t.conn) (MoreFaults (state v t.conn).faults (v.faults store)) c.in-Err-reopened.failed) c.close.ensures (c.in-Err-reopened.ensures.err clean) in
          let named = sym c.fault.ensures.told ∙ some_is c.fault.result NotThisBook is in
          let more : MoreFaults (state v was.conn).faults (v.faults store) =
          unread (state v was.conn) (MoreFaults (state v was.conn).faults (v.faults store)) c.in-Err-reopened.failed fails named (λ here.
          let it = stands_left (state v was.conn) one.warehouse W one.entries was.refused one.shut L (ok.usable early q W L stands) (ok.keeps early q W L stands).0 _ (let h = was.conn in g.met.S.Store.stays h.store here) in
          (it.0, it.1)) in
          omega (arith, more);
      no_more = λ clean second db may.
          let early : HasCleanDisk (state v was.conn) = omega (arith, grew, clean) in
          less (state v c.args.tables.conn) (state v was.conn) (still.asked_open second) early db
          (subst (λ (t : Kept g.row.S.Denot). (state v t.conn).may_leave db) c.close.ensures (quiet.outcomes db may));
    }

-- it was carried over and read anew, and was no book of version 2
pub returns-clause-left : goal.returns-clause-left
returns-clause-left g c =
    let v = g.S.Store in
    let back = c.in-Err-open_second.field-0-1 in
    let one = c.in-Ok.book in
    let was = one.tables in
    let mid = state v c.in-Ok-reopened.again.conn in
    let ok = c.in-Ok.ensures.ok in
    let still = ok.still in
    let its = c.in-Ok-reopened.ensures in
    let asked = c.in-Err-open_second.ensures.left in
    let grew = subst (λ (t : Kept g.row.S.Denot). doubt (state v t.conn).is_clean ≤ doubt mid.is_clean) c.close.ensures its.clean in
    record {
      left = let h = back.conn in h.store;
      clean = let up = asked.crash in omega (arith, still.clean, grew, up.clean);
      not_this = λ clean is q W L stands.
          let up = asked.crash in
          let fresh : HasCleanDisk mid = omega (arith, up.clean, clean) in
          let early : HasCleanDisk (state v was.conn) = omega (arith, grew, fresh) in
          let opens = its.opens fresh in
          let here = let o = opens.0 in o.is_open in
          let there = stands_again (state v was.conn) mid one.warehouse W one.entries was.refused one.shut L (ok.usable early q W L stands) (ok.keeps early q W L stands).0 opens
          (λ db may. subst (λ (t : Kept g.row.S.Denot). (state v t.conn).may_leave db) c.close.ensures (its.no_more fresh db may)) (let h = c.in-Ok-reopened.again.conn in g.met.S.Store.stays h.store here) in
          absurd (c.in-Err-open_second.ensures.this clean W L there (some_is c.in-Err-open_second.fault NotThisBook is));
      no_more = λ clean second db may.
          let up = asked.crash in
          let fresh : HasCleanDisk mid = omega (arith, up.clean, clean) in
          let early : HasCleanDisk (state v was.conn) = omega (arith, grew, fresh) in
          less (state v c.args.tables.conn) (state v was.conn) (still.asked_open second) early db
          (subst (λ (t : Kept g.row.S.Denot). (state v t.conn).may_leave db) c.close.ensures (its.no_more fresh db (less mid (state v back.conn) asked clean db may)));
    }

pub returns-in-Ok-open_second-clause-through : goal.returns-in-Ok-open_second-clause-through
returns-in-Ok-open_second-clause-through g c = λ clean.
    let v = g.S.Store in
    let mid = state v c.in-Ok-reopened.again.conn in
    let its = c.in-Ok-reopened.ensures in
    let asked = c.in-Ok-open_second.ensures.asked in
    let up = asked.crash in
    let fresh : HasCleanDisk mid = omega (arith, up.clean, clean) in
    read_through mid (state v c.in-Ok-open_second.book.tables.conn) (its.opens fresh) (its.tables fresh) asked clean

pub returns-in-Ok-open_second-clause-stood : goal.returns-in-Ok-open_second-clause-stood
returns-in-Ok-open_second-clause-stood g c = λ clean q W L stands.
    let v = g.S.Store in
    let one = c.in-Ok.book in
    let was = one.tables in
    let mid = state v c.in-Ok-reopened.again.conn in
    let ok = c.in-Ok.ensures.ok in
    let its = c.in-Ok-reopened.ensures in
    let up = let asked = c.in-Ok-open_second.ensures.asked in asked.crash in
    let grew = subst (λ (t : Kept g.row.S.Denot). doubt (state v t.conn).is_clean ≤ doubt mid.is_clean) c.close.ensures its.clean in
    let fresh : HasCleanDisk mid = omega (arith, up.clean, clean) in
    let early : HasCleanDisk (state v was.conn) = omega (arith, grew, fresh) in
    let opens = its.opens fresh in
    let here = let o = opens.0 in o.is_open in
    let there = stands_again (state v was.conn) mid one.warehouse W one.entries was.refused one.shut L (ok.usable early q W L stands) (ok.keeps early q W L stands).0 opens
    (λ db may. subst (λ (t : Kept g.row.S.Denot). (state v t.conn).may_leave db) c.close.ensures (its.no_more fresh db may)) (let h = c.in-Ok-reopened.again.conn in g.met.S.Store.stays h.store here) in
    let last = c.in-Ok-open_second.ensures.ok in
    record { warehouse = (last.keeps clean Today W L there).0; usable = last.usable clean Today W L there }

pub returns-in-Ok-open_second-clause-no_more : goal.returns-in-Ok-open_second-clause-no_more
returns-in-Ok-open_second-clause-no_more g c = λ clean second db may.
    let v = g.S.Store in
    let one = c.in-Ok.book in
    let was = one.tables in
    let mid = state v c.in-Ok-reopened.again.conn in
    let still = let ok = c.in-Ok.ensures.ok in ok.still in
    let its = c.in-Ok-reopened.ensures in
    let asked = c.in-Ok-open_second.ensures.asked in
    let up = asked.crash in
    let grew = subst (λ (t : Kept g.row.S.Denot). doubt (state v t.conn).is_clean ≤ doubt mid.is_clean) c.close.ensures its.clean in
    let fresh : HasCleanDisk mid = omega (arith, up.clean, clean) in
    let early : HasCleanDisk (state v was.conn) = omega (arith, grew, fresh) in
    less (state v c.args.tables.conn) (state v was.conn) (still.asked_open second) early db
    (subst (λ (t : Kept g.row.S.Denot). (state v t.conn).may_leave db) c.close.ensures (its.no_more fresh db (less mid (state v c.in-Ok-open_second.book.tables.conn) asked clean db may)))
