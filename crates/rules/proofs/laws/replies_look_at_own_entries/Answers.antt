use Rattle.std.proofs.Common.{List, ap}
use Rattle.definitions.specs.Register.{Entry}
use Rattle.definitions.specs.Reply.{reply}
use Rattle.rules.proofs.Follows.{same_own}
use Rattle.rules.proofs.laws.replies_look_at_own_entries.Goals as goal

pub returns : goal.returns
returns c = λ r W K L asked t same. ap (λ (M : List Entry). reply r W M asked t) (same_own K L asked same)
