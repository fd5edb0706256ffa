use Rattle.std.proofs.Common.{◌≤◌}
use Rattle.store.specs.Standing.{GoesOn}
use Rattle.intake.specs.Connections.{HasCounted, IsServed}
use Rattle.intake.proofs.listening.serve_within.Given as goal

abbrev pub invariant-loop : goal.invariant-loop
invariant-loop g l = record {
  goes : GoesOn (g.K.Keeper.standing l.fn.keeper) (g.K.Keeper.standing l.keeper);
  clock : goal.C-IsAlwaysCallable g l.clock;
  told : goal.T-IsAlwaysCallable g l.told;
  admits : goal.A-IsAlwaysCallable g l.admits;
  within : l.counted ≤ l.count;
  so_far : HasCounted (λ book c left. IsServed l.fn.access (g.K.Keeper.standing book) (g.K.Keeper.standing left) c)
      (λ p t q. goal.C-step g p t q) (λ p x q. goal.T-step g p x tt q) l.fn.keeper l.keeper l.fn.clock l.clock l.fn.told l.told l.counter l.counted;
}
