use Rattle.std.proofs.Common.{◌≡◌, ◌+◌, inl, inr, List, true, length, take, arith}
use Rattle.definitions.specs.Register.{Entry}
use Rattle.store.specs.Runs.{all_asked, can_be_given}
use Rattle.store.specs.Standing.{IsUsable}
use Rattle.books.specs.Opened.{standing_of}
use Rattle.app.specs.Stopped.{Crosses}
use Rattle.app.proofs.AgainLemmas.{stores_again}
use Rattle.app.proofs.CrossLemmas.{crosses}
use Rattle.app.proofs.LeftLemmas.{left_of_run, may_be_there, stands_after}
use Rattle.app.proofs.stops.crossing.across.Goals as goal

pub returns-in-Ok : goal.returns-in-Ok
returns-in-Ok g c =
    let s = standing_of g.S.Store in
    let one = c.answer-before.ensures in
    let two = c.run-later.ensures in
    let first = all_asked c.args.first.now in
    let second = all_asked c.args.second.now in
    let before = c.answer-before.result in
    let later = c.run-later.result in
    let whole : (s c.run-later.new.keeper).doubt ≡ 0 → (L : List Entry) → IsUsable (s c.args.book) L → can_be_given (take (length before.outcome.replies.items + 1) c.args.first.now) ≡ true
    → can_be_given (take (length later.replies.items + 1) c.args.second.now) ≡ true → Crosses (s c.args.book) (s c.run-later.new.keeper) L first second before later =
    λ clean L u given given'.
    crosses (s c.args.book) (s c.answer-before.new.keeper) (s c.in-Ok.book) (s c.run-later.new.keeper) L first second before later clean c.in-Ok.ensures.doubt c.in-Ok.ensures.left one.must_reopen (one.runs L u given)
    two.goes
    (λ M v. record {
      goes = two.goes;
      answered = λ k. two.replies k M v given';
      opened = λ k open'. two.left k M v given' open';
      broken = λ k shut. let b = two.broken k M v given' shut in
          (may_be_there (s c.in-Ok.book) (s c.run-later.new.keeper) M _ later.fault k v given' two.fault b.0, b.1);
    }) in
    record {
      all = one.all;
      later = two.all;
      named = tt;
      crossed = whole;
      stored = λ clean L u given given'. stores_again (s c.args.book) (s c.run-later.new.keeper) L first second before later (whole clean L u given given');
      waits = tt;
    }

pub returns-in-Err : goal.returns-in-Err
returns-in-Err g c =
    let s = standing_of g.S.Store in
    let one = c.answer-before.ensures in
    let back = c.in-Err.ensures in
    let mid = c.answer-before.new.keeper in
    let first = all_asked c.args.first.now in
    let before = c.answer-before.result in
    record {
      all = one.all;
      later = tt;
      named = back.named;
      crossed = tt;
      stored = tt;
      waits = λ clean L u given.
          let ran = one.runs L u given in
          let end : (s mid).doubt ≡ 0 = omega (arith, back.doubt_back, clean) in
          let stand = stands_after (s c.args.book) (s mid) L first before.outcome end ran in
          record {
            called = elim back.named [ inl this ↦ absurd (back.this clean stand this) | inr call ↦ call ];
            replies = ran.answered end;
            stands = λ db may. left_of_run g.S.Store c.args.book mid L first before end one.must_reopen ran db (back.kept clean stand db may);
          };
    }
