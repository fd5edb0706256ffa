use Rattle.std.proofs.Common.{rules, of_calls, arith, inl}
use Rattle.intake.proofs.Told.{counted_more, nothing_told}
use Rattle.intake.proofs.Counted.{still_within}
use Rattle.intake.proofs.listening.serve_within.Goals as goal

pub loop-init : goal.loop-init
loop-init g c =
    record {
      goes = search rules;
      clock = search (rules, of_calls);
      told = search (rules, of_calls);
      admits = search (rules, of_calls);
      within = omega arith;
      so_far = nothing_told _ (λ p t q. goal.C-step g p t q) (λ p x q. goal.T-step g p x tt q) _ _ _;
    }

pub loop-preserved : goal.loop-preserved
loop-preserved g c =
    let i = c.loop.invariant in
    let e = c.serve_next-connection.ensures in
    record {
      goes = search rules;
      clock = search (rules, of_calls);
      told = search (rules, of_calls);
      admits = search (rules, of_calls);
      within = still_within _ _ _ _ i.within c.if-counted-count.false c.count_next-counted.ensures;
      so_far = counted_more _ (λ p t q. goal.C-step g p t q) (λ p x q. goal.T-step g p x tt q) _ _ _ _ _ _ _ _ _ _ _ _ _ _ i.so_far (record { serves = search rules; goes = e.goes; became = e.served }) c.clock-moment.ensures c.told.ensures e.moment e.outcome c.count_next-counted.ensures;
    }

pub returns-then-must_reopen-clause-ended : goal.returns-then-must_reopen-clause-ended
returns-then-must_reopen-clause-ended g c = let i = c.loop.invariant in (_, _, i.within, (_, _, i.so_far))

pub returns-then-counted-count-clause-served : goal.returns-then-counted-count-clause-served
returns-then-counted-count-clause-served g c = (_, _, inl c.if-counted-count.true, (_, _, c.loop.invariant.so_far))

pub returns-then-not-admits-clause-ended : goal.returns-then-not-admits-clause-ended
returns-then-not-admits-clause-ended g c = let i = c.loop.invariant in (_, _, i.within, (_, _, i.so_far))

pub returns-then-must_reopen-2-clause-ended : goal.returns-then-must_reopen-2-clause-ended
returns-then-must_reopen-2-clause-ended g c = let i = c.loop.invariant in (_, _, i.within, (_, _, i.so_far))
