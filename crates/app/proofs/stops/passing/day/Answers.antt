use Rattle.std.proofs.Common.{inl, inr, arith, ◌≡◌, refl, subst}
use Rattle.store.specs.Runs.{all_asked}
use Rattle.definitions.specs.Header.{Who}
use Rattle.book_statements.specs.Standing.{StandsIn}
use Rattle.books.specs.Opened.{standing_of}
use Rattle.app.specs.Stopped.{IsAnsweredUpTo}
use Rattle.app.proofs.LeftLemmas.{left_of_run}
use Rattle.app.proofs.stops.passing.day.Goals as goal

pub returns-in-Ok : goal.returns-in-Ok
returns-in-Ok g c =
    let s = standing_of g.S.Store in
    let cs = all_asked c.args.commands.now in
    let ran = c.answer-before.ensures in
    let before = c.answer-before.result in
    let book = c.in-Ok.book in
    let mid = c.answer-before.new.keeper in
    record {
      passes = λ clean given W all db may.
          let end : (s mid).doubt ≡ 0 = omega (arith, c.stopped.ensures.doubt, clean) in
          let start : (s book).doubt ≡ 0 = omega (arith, ran.goes.doubt, end) in
          let o = c.in-Ok.ensures.opened start W all in
          let L = (all o.found o.was).0 in
          let left = left_of_run g.S.Store book mid L cs before end ran.must_reopen (ran.runs L o.usable given) db (c.stopped.ensures.left db may) in
          record {
            found = o.found;
            was = o.was;
            register = left.0;
            passes = subst (λ (V : Who). IsAnsweredUpTo V L cs before left.0) o.warehouse left.2;
            stands = inr (subst (λ (V : Who). StandsIn V left.0 db) o.warehouse left.1);
          };
      doubt = omega (arith, c.in-Ok.ensures.doubt, ran.goes.doubt, c.stopped.ensures.doubt);
      again = λ yes. c.stopped.ensures.numbered;
      named = tt;
    }

pub returns-in-Err : goal.returns-in-Err
returns-in-Err g c =
    let back = c.in-Err.ensures in
    record {
      passes = λ clean given W all db may.
          let still = back.still clean W all db may in
          record {
            found = still.found;
            was = still.was;
            register = (all still.found still.was).0;
            passes = (elim back.named [ inl this ↦ absurd (back.this clean W all this) | inr call ↦ call ], refl);
            stands = still.stands;
          };
      doubt = back.doubt_back;
      again = back.again;
      named = back.named;
    }
