use Rattle.std.proofs.Common.{◌≡◌, take, List}
use Rattle.definitions.specs.Rules.{Today}
use Rattle.definitions.specs.Accepted.{IsLegal}
use Rattle.definitions.specs.History.{history, events}
use Rattle.definitions.specs.Register.{Entry, own}
use Rattle.rules.specs.Decided.{IsPageOf}
use Rattle.store.specs.Replayed.{all_written}
use Rattle.store.specs.Sent.{sent_on}
use Rattle.store.proofs.sending.sent.Given as goal

abbrev pub invariant-loop-i : goal.invariant-loop-i
invariant-loop-i l = (L : List Entry) → l.entries ≡ all_written L → IsLegal Today l.warehouse L → IsPageOf l.page (history (own L l.who))
    → l.rows.items ≡ sent_on l.warehouse (events (own L l.who)) (own (take l.i L) l.who)
