use Rattle.std.proofs.Common.{◌≡◌, ◌++◌, take, List}
use Rattle.definitions.specs.Rules.{Today}
use Rattle.definitions.specs.Accepted.{IsLegal}
use Rattle.definitions.specs.Decision.{standing}
use Rattle.definitions.specs.Register.{Entry, own}
use Rattle.rules.specs.Decided.{IsAtRest}
use Rattle.store.specs.Held.{IsHeldFor}
use Rattle.store.specs.Replayed.{all_written}
use Rattle.store.proofs.replaying.page_later.Given as goal

abbrev pub invariant-loop-entry : goal.invariant-loop-entry
invariant-loop-entry l = record {
  page : (L later : List Entry) → l.entries ≡ all_written L → IsLegal Today l.warehouse (L ++ later) → IsHeldFor l.page (standing (own (take l.entry-index L) l.who));
  rest : IsAtRest l.page;
}
