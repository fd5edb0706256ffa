-- The page that a book hands out, and the decision that it leads to.
use Rattle.std.specs.Prelude.{List, Option, Some, None}
use Rattle.definitions.specs.declared.rules.Rules.{Rules}
use Rattle.definitions.specs.History.{History, history}
use Rattle.rules.specs.Pages.{PageFacts}
use Rattle.definitions.specs.Header.{Who}
use Rattle.definitions.specs.Moments.{Moment}
use Rattle.definitions.specs.Need.{Need}
use Rattle.definitions.specs.Register.{Command, Entry}
use Rattle.definitions.specs.Accepted.{own_of, reply_to}
use Rattle.rules.specs.Decided.{IsHeldPart, IsPageOf}
use Rattle.rules.specs.Replies.{IsReply}
use Rattle.rules.specs.Decision.{Decision}

-- the part that is needed of the page of a depositor with this history; a stranger has none
abbrev pub IsHeld : Need → Option PageFacts → Option History → Type 0
IsHeld need None None = Unit {0}
IsHeld need None (Some h) = ⊥
IsHeld need (Some p) None = ⊥
IsHeld need (Some p) (Some h) = IsHeldPart need p h

-- the whole page of a depositor with this history; a stranger has neither
abbrev pub IsHeldFor : Option PageFacts → Option History → Type 0
IsHeldFor None None = Unit {0}
IsHeldFor None (Some h) = ⊥
IsHeldFor (Some p) None = ⊥
IsHeldFor (Some p) (Some h) = IsPageOf p h

-- the decision that is the reply of a register to a command under these rules
abbrev pub IsDecided : Rules → Who → List Entry → Command → Moment → Decision → Type 0
IsDecided r W L c t d = IsReply r ((history (own_of L c)).numbered) c t (reply_to r W L c t) d
