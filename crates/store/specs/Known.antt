-- What is known under a key, as the register has it.
use Rattle.std.specs.Prelude.{ℕ, List, Option, find}
use Rattle.definitions.specs.Header.{Who}
use Rattle.definitions.specs.Register.{Entry}
use Rattle.rules.specs.Written.{Written}
use Rattle.store.specs.Replayed.{all_written, is_under}

-- A depositor's first entry under a key, as it is written down. Its number is 1 more than how many
-- numbered entries of the depositor stand before it in the register, and 0 of an enrolment.
abbrev pub first_under : Who → List ℕ → List Entry → Option Written
first_under who key L = find (is_under who key) (all_written L)
