use Rattle.std.proofs.Common.{inl, inr, arith, ◌≡◌, sym, ap, subst, ◌∙◌, IsTrue}
use Rattle.sqlite.specs.State.{HasCleanDisk}
use Rattle.sqlite.specs.Held.{Held, state}
use Rattle.sqlite.specs.Effect.{Database}
use Rattle.sqlite_trees.specs.View.{IsClean, IsQuiet}
use Rattle.definitions.specs.declared.rules.Rules.TheVariants.{One, Two}
use Rattle.book_statements.specs.Carrying.{LeavesCarried, StandsInAs, StandsOpenAs}
use Rattle.book_statements.proofs.Carried.{not_first}
use Rattle.books.specs.Carrying.{AllStandAs, OpensAs}
use Rattle.app.proofs.StopLemmas.{stands_as_read, still_carried, version_of}
use Rattle.app.proofs.stops.reopening.opened_after.Goals as goal

pub returns-in-Err-clause-still : goal.returns-in-Err-clause-still
returns-in-Err-clause-still g c = λ clean W all db may.
    let found = c.crash_and_reopen.ensures.outcomes db may in
    record { found = db; was = found; stands = (all db found).1 }

pub over-requires : goal.over-requires
over-requires g c = λ clean.
    let crash = c.in_default.ensures in
    let fresh = crash.fresh in
    record {
      sound = fresh.sound clean;
      numbered = subst IsTrue (sym fresh.numbered) (c.requires (omega (arith, crash.clean, clean)));
      clean = fresh.clean;
      unmarked = fresh.unmarked clean;
    }

pub returns-in-Err-over-clause-still : goal.returns-in-Err-over-clause-still
returns-in-Err-over-clause-still g c = λ clean W all db may.
    let found = c.in_default.ensures.outcomes db (c.in-Err-over.ensures.unharmed.outcomes db may) in
    record { found = db; was = found; stands = (all db found).1 }

pub returns-in-Ok-open_from-clause-opened : goal.returns-in-Ok-open_from-clause-opened
returns-in-Ok-open_from-clause-opened g c = λ clean W all.
    let v = g.S.Store in
    let crash = c.in_default.ensures in
    let conn = c.in-Ok.conn in
    let held : c.new.result.conn ≡ conn = c.new.ensures.conn in
    let still = subst (λ (h : Held g.row.S.Denot). OpensAs (state v h) (state v c.in-Ok-open_from.book.tables.conn)) held c.in-Ok-open_from.ensures.ok.still in
    let early : HasCleanDisk (state v conn) = omega (arith, still.clean, clean) in
    let first : IsClean (v.view c.crash_and_reopen.new.self) = omega (arith, c.in-Ok.ensures.clean, early) in
    let found = crash.found first in
    let there = all _ found in
    let version = version_of W there.0 _ there.1 in
    let trees = c.in-Ok.ensures.trees early ∙ crash.fresh.clean in
    let opens = c.in-Ok.ensures.opens early in
    let stands = subst (λ (h : Held g.row.S.Denot). StandsOpenAs version.0 (state v h) W there.0) (sym held)
    (λ _. stands_as_read version.0 W there.0 _ _ (opens.1 opens.0.is_open).0 (subst (StandsInAs version.0 W there.0) (sym trees) version.1)) in
    record {
      found = _;
      was = found;
      warehouse = (c.in-Ok-open_from.ensures.ok.keeps clean version.0 W there.0 stands).0;
      usable = c.in-Ok-open_from.ensures.ok.usable clean version.0 W there.0 stands;
    }

pub returns-in-Ok-open_from-clause-doubt : goal.returns-in-Ok-open_from-clause-doubt
returns-in-Ok-open_from-clause-doubt g c =
    let v = g.S.Store in
    let held : c.new.result.conn ≡ c.in-Ok.conn = c.new.ensures.conn in
    let still = subst (λ (h : Held g.row.S.Denot). OpensAs (state v h) (state v c.in-Ok-open_from.book.tables.conn)) held c.in-Ok-open_from.ensures.ok.still in
    omega (arith, c.in_default.ensures.clean, c.in-Ok.ensures.clean, still.clean)

pub returns-in-Err-open_from-clause-still : goal.returns-in-Err-open_from-clause-still
returns-in-Err-open_from-clause-still g c = λ clean W all db may.
    let v = g.S.Store in
    let crash = c.in_default.ensures in
    let conn = c.in-Ok.conn in
    let held : c.new.result.conn ≡ conn = c.new.ensures.conn in
    let back = c.in-Err-open_from.tables.conn in
    let last = subst (λ (h : Held g.row.S.Denot). IsQuiet v.view v.faults v.recovers v.is_shielded h.store c.into_store.result) c.into_inner.ensures c.into_store.ensures.quiet in
    let late : HasCleanDisk (state v back) = omega (arith, last.clean, clean) in
    let asked = subst (λ (h : Held g.row.S.Denot). OpensAs (state v h) (state v back)) held c.in-Err-open_from.ensures.err.asked in
    let early : HasCleanDisk (state v conn) = omega (arith, asked.clean, late) in
    let first : IsClean (v.view c.crash_and_reopen.new.self) = omega (arith, c.in-Ok.ensures.clean, early) in
    let found = crash.found first in
    let there = all _ found in
    let version = version_of W there.0 _ there.1 in
    let trees = c.in-Ok.ensures.trees early ∙ crash.fresh.clean in
    let opens = c.in-Ok.ensures.opens early in
    let stands : StandsOpenAs version.0 (state v conn) W there.0 =
    λ _. stands_as_read version.0 W there.0 _ _ (opens.1 opens.0.is_open).0 (subst (StandsInAs version.0 W there.0) (sym trees) version.1) in
    let settled : AllStandAs version.0 (state v conn) W there.0 = λ left before. subst (StandsInAs version.0 W there.0)
    (sym (g.met.S.Store.settled conn.store left opens.0.is_open before ∙ sym (ap (λ (d : Database). d.trees) opens.0.clean) ∙ trees)) version.1 in
    record {
      found = _;
      was = found;
      stands = still_carried (state v conn) (state v back) version.0 W there.0 late opens.0.is_open stands settled asked
          (subst (λ (h : Held g.row.S.Denot). StandsOpenAs One (state v h) W there.0 → AllStandAs One (state v h) W there.0 → (left : _) → (state v back).may_leave left → LeavesCarried W there.0 left) held
          (c.in-Err-open_from.ensures.err.carried late W there.0)) db (last.outcomes db may);
    }

pub returns-in-Err-open_from-clause-same : goal.returns-in-Err-open_from-clause-same
returns-in-Err-open_from-clause-same g c = λ clean W all db may.
    let v = g.S.Store in
    let crash = c.in_default.ensures in
    let conn = c.in-Ok.conn in
    let held : c.new.result.conn ≡ conn = c.new.ensures.conn in
    let back = c.in-Err-open_from.tables.conn in
    let last = subst (λ (h : Held g.row.S.Denot). IsQuiet v.view v.faults v.recovers v.is_shielded h.store c.into_store.result) c.into_inner.ensures c.into_store.ensures.quiet in
    let late : HasCleanDisk (state v back) = omega (arith, last.clean, clean) in
    let asked = subst (λ (h : Held g.row.S.Denot). OpensAs (state v h) (state v back)) held c.in-Err-open_from.ensures.err.asked in
    let early : HasCleanDisk (state v conn) = omega (arith, asked.clean, late) in
    let first : IsClean (v.view c.crash_and_reopen.new.self) = omega (arith, c.in-Ok.ensures.clean, early) in
    let found = crash.found first in
    let there = all _ found in
    let trees = c.in-Ok.ensures.trees early ∙ crash.fresh.clean in
    let opens = c.in-Ok.ensures.opens early in
    let here = stands_as_read Two W there.0 _ _ (opens.1 opens.0.is_open).0 (subst (StandsInAs Two W there.0) (sym trees) there.1) in
    let queried = asked.asked (not_first W there.0 (state v conn).now here) in
    elim (queried.crash.crash late db (last.outcomes db may)) [
      | inl before ↦ subst (v.recovers c.args.store)
          (sym (g.met.S.Store.settled conn.store db opens.0.is_open before ∙ sym (ap (λ (d : Database). d.trees) opens.0.clean) ∙ trees)) found
      | inr none ↦ absurd none
    ]

pub returns-in-Err-open_from-clause-this : goal.returns-in-Err-open_from-clause-this
returns-in-Err-open_from-clause-this g c = λ clean W all.
    let v = g.S.Store in
    let crash = c.in_default.ensures in
    let conn = c.in-Ok.conn in
    let held : c.new.result.conn ≡ conn = c.new.ensures.conn in
    let back = c.in-Err-open_from.tables.conn in
    let last = subst (λ (h : Held g.row.S.Denot). IsQuiet v.view v.faults v.recovers v.is_shielded h.store c.into_store.result) c.into_inner.ensures c.into_store.ensures.quiet in
    let late : HasCleanDisk (state v back) = omega (arith, last.clean, clean) in
    let asked = subst (λ (h : Held g.row.S.Denot). OpensAs (state v h) (state v back)) held c.in-Err-open_from.ensures.err.asked in
    let early : HasCleanDisk (state v conn) = omega (arith, asked.clean, late) in
    let first : IsClean (v.view c.crash_and_reopen.new.self) = omega (arith, c.in-Ok.ensures.clean, early) in
    let there = all _ (crash.found first) in
    let version = version_of W there.0 _ there.1 in
    let trees = c.in-Ok.ensures.trees early ∙ crash.fresh.clean in
    let opens = c.in-Ok.ensures.opens early in
    let stands = subst (λ (h : Held g.row.S.Denot). StandsOpenAs version.0 (state v h) W there.0) (sym held)
    (λ _. stands_as_read version.0 W there.0 _ _ (opens.1 opens.0.is_open).0 (subst (StandsInAs version.0 W there.0) (sym trees) version.1)) in
    c.in-Err-open_from.ensures.err.this late version.0 W there.0 stands

pub returns-in-Err-open_from-clause-doubt_back : goal.returns-in-Err-open_from-clause-doubt_back
returns-in-Err-open_from-clause-doubt_back g c =
    let v = g.S.Store in
    let back = c.in-Err-open_from.tables.conn in
    let held : c.new.result.conn ≡ c.in-Ok.conn = c.new.ensures.conn in
    let last = subst (λ (h : Held g.row.S.Denot). IsQuiet v.view v.faults v.recovers v.is_shielded h.store c.into_store.result) c.into_inner.ensures c.into_store.ensures.quiet in
    let asked = subst (λ (h : Held g.row.S.Denot). OpensAs (state v h) (state v back)) held c.in-Err-open_from.ensures.err.asked in
    omega (arith, c.in_default.ensures.clean, c.in-Ok.ensures.clean, asked.clean, last.clean)
