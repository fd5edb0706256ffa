-- An entry as it is written down: whose it is, its key, its number, its moment, its body and its
-- rules.
use Rattle.std.specs.Prelude.{ℕ, List}
use Rattle.definitions.specs.declared.rules.Rules.{Rules}
use Rattle.definitions.specs.Header.{Who}
use Rattle.definitions.specs.Moments.{Moment}
use Rattle.definitions.specs.Register.{Entry, mark, body_of}
use Rattle.definitions.specs.Tables.{number_of}

pub record Written : Type 0 where
  pub who : Who
  pub key : List ℕ
  -- 0 of an enrolment
  pub n : ℕ
  pub moment : Moment
  pub body : List ℕ
  -- those that it is judged by
  pub rules : Rules

-- an entry under a number
abbrev pub written_as : ℕ → Entry → Written
written_as n e =
    record {
      who = e.who;
      key = mark e;
      n = n;
      moment = e.moment;
      body = body_of e.deed;
      rules = e.rules;
    }

-- an entry when these stand before it in the register
abbrev pub written : List Entry → Entry → Written
written before e = written_as (number_of before e) e

-- an entry without its number
abbrev pub unnumbered : Written → Written
unnumbered w = record w { n = 0 }

-- what is known under a command's key: an entry, and the text that went out for it
pub record Recalled : Type 0 where
  pub entry : Written
  pub outgoing : List ℕ
