use Rattle.std.proofs.Common.{◌≡◌, List, length, map, take, true}
use Rattle.definitions.specs.Register.{Entry}
use Rattle.definitions.specs.Rules.{Today}
use Rattle.definitions.specs.Accepted.{accepted_on, replies_on}
use Rattle.store.specs.Runs.{told, all_asked, can_be_given}
use Rattle.store.specs.Standing.{IsUsable, KeepsLegal, GoesOn, OfKept}
use Rattle.store.proofs.serving.run.Given as goal

abbrev pub invariant-loop-command : goal.invariant-loop-command
invariant-loop-command g l =
    let old = g.K.Keeper.standing l.fn.keeper in
    let now = g.K.Keeper.standing l.keeper in
    record {
      count : length l.replies.items ≡ l.command-index;
      goes : GoesOn old now;
      shut : old.shut ≡ now.shut;
      usable : now.doubt ≡ 0 → (L : List Entry) → IsUsable old L → can_be_given (take l.command-index l.commands) ≡ true
          → IsUsable now (accepted_on Today old.warehouse L (take l.command-index (all_asked l.commands)));
      keeps : OfKept old now (λ L. can_be_given (take l.command-index l.commands) ≡ true
          → KeepsLegal now (accepted_on Today old.warehouse L (take l.command-index (all_asked l.commands))));
      told : now.doubt ≡ 0 → (L : List Entry) → IsUsable old L → can_be_given (take l.command-index l.commands) ≡ true
          → map told l.replies.items ≡ replies_on Today old.warehouse L (take l.command-index (all_asked l.commands));
    }
