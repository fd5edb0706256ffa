-- Runs of commands: who a command names, the replies in order, and the register that is left.
use Rattle.std.specs.Prelude.{◌≡◌, ℕ, Bool, true, false, not, ◌&&◌, List, [], ◌∷◌, ◌++◌, if◌then◌else◌, IsTrue, Some, None, fold, Option, option_map}
use Rattle.std.specs.List.{list_all}
use Rattle.definitions.specs.declared.rules.Rules.{Rules}
use Rattle.definitions.specs.declared.rules.Rules.TheVariants.{One}
use Rattle.definitions.specs.Rules.{may_follow}
use Rattle.definitions.specs.Limits.{most_ticket}
use Rattle.definitions.specs.Bytes.{is_identifier}
use Rattle.definitions.specs.Moments.{Moment, is_moment}
use Rattle.definitions.specs.Header.{Who, is_partner, sender, is_unreadable}
use Rattle.definitions.specs.Register.{Command, Interchange, Enrol, Clerk, Entry, command_mark, own}
use Rattle.definitions.specs.Clerk.{is_act}
use Rattle.definitions.specs.Reply.{reply, Reply, Accepted, interchange_entry, enrolment_entry, clerk_entry}

-- the depositor that a command names: none where an interchange is unreadable, or ISA05 and ISA06
-- can be no partner
abbrev pub depositor_of : Command → Option Who
depositor_of (Interchange text) =
    if not (is_unreadable text) && is_partner (sender text) then Some (sender text) else None
depositor_of (Enrol w) = Some w
depositor_of (Clerk w ticket act) = Some w

-- with the mark of the entry that the command makes
abbrev pub subject : Command → Option (Who × List ℕ)
subject c = option_map (λ w. (w, command_mark c)) (depositor_of c)

-- the own entries of the depositor that a command names
abbrev pub own_of : List Entry → Command → List Entry
own_of L c = by_depositor (depositor_of c)
  where
    by_depositor : Option Who → List Entry
    by_depositor None = []
    by_depositor (Some d) = own L d

abbrev pub reply_to : Rules → Who → List Entry → Command → Moment → Reply
reply_to r W L c t = reply r W (own_of L c) c t

abbrev pub is_accepted : Reply → Bool
is_accepted (Accepted text) = true
is_accepted answer = false

-- the entry that an accepted command makes
abbrev pub entry_of : Rules → Command → Moment → Entry
entry_of r (Interchange text) t = interchange_entry r text t
entry_of r (Enrol w) t = enrolment_entry r w t
entry_of r (Clerk w ticket act) t = clerk_entry r w ticket act t

-- the register after a command
abbrev pub after : Rules → Who → List Entry → Command × Moment → List Entry
after r W L c = if is_accepted (reply_to r W L c.0 c.1) then L ++ entry_of r c.0 c.1 ∷ [] else L

-- the register after a list of commands
abbrev pub accepted_on : Rules → Who → List Entry → List (Command × Moment) → List Entry
accepted_on r W L cs = fold (after r W) L cs

-- their replies, in order
abbrev pub replies_on : Rules → Who → List Entry → List (Command × Moment) → List Reply
replies_on r W L [] = []
replies_on r W L (c ∷ cs) = reply_to r W L c.0 c.1 ∷ replies_on r W (after r W L c) cs

-- a command that can be given: any bytes; a partner; a partner, a ticket of 1 to 20 identifier
-- bytes and an act
abbrev pub is_command : Rules → Command → Bool
is_command r (Interchange text) = true
is_command r (Enrol w) = is_partner w
is_command r (Clerk w ticket act) = is_partner w && is_identifier 1 most_ticket ticket
    && is_act r act

-- commands that can be given, at moments of the years 2000 to 2099
abbrev pub can_be_given : Rules → List (Command × Moment) → Bool
can_be_given r cs = list_all (λ (c : Command × Moment). is_command r c.0 && is_moment c.1) cs

-- A register of a book of the version that begins with these rules is legal where a list of
-- commands under rules 1, and after it one under these rules, leaves it of the empty one: commands
-- that can be given, in the house of a partner. With any other more could go than came.
pub record IsLegal (r : Rules) (W : Who) (L : List Entry) : Type 0 where
  pub first : List (Command × Moment)
  pub commands : List (Command × Moment)
  pub of_a_partner : IsTrue (is_partner W)
  pub first_given : IsTrue (can_be_given One first)
  pub given : IsTrue (can_be_given r commands)
  pub left : L ≡ accepted_on r W (accepted_on One W [] first) commands

-- The same told entry by entry: commands each with its own rules.

abbrev pub Ruled : Type 0
Ruled = Rules × (Command × Moment)

abbrev pub left_by : Who → List Entry → List Ruled → List Entry
left_by W L cs = fold (λ L c. after c.0 W L c.1) L cs

-- each can be given under its rules
abbrev pub each_given : List Ruled → Bool
each_given cs = list_all (λ (c : Ruled). is_command c.0 c.1.0 && is_moment c.1.1) cs

-- and none has lower rules than one before it
abbrev pub none_falls : Rules → List Ruled → Bool
none_falls r [] = true
none_falls r (c ∷ cs) = may_follow r c.0 && none_falls c.0 cs
