-- What the server answered, as it stands in an input.
use Rattle.std.specs.Prelude.{◌≡◌, ℕ, ◌≤◌, List, [], Option, Some, length, codes}
use Rattle.httparse.specs.Grammar.{ResponseHead, ReadsResponse, print_response, status_code}
use Rattle.http_client.specs.Fields.{stated, is_x12, body_length}
use Rattle.http_client.specs.declared.remote.answers.ServerAnswer.{ServerAnswer}
use Rattle.head_fields.specs.Fields.{most_head, most_fields}
use Rattle.counted_io.specs.Inputs.{IsInput, IsFront}

-- the input begins with that head, within the room, and then has rest
pub record HasResponseHead (input : List ℕ) (h : ResponseHead) (rest : List ℕ) : Type 0 where
  pub reads : ReadsResponse input h rest
  pub size : length (print_response h) ≤ most_head
  pub fields : length h.fields ≤ most_fields

-- a body of one length, and not in chunks
pub record HasBody (h : ResponseHead) (rest body : List ℕ) : Type 0 where
  pub whole : stated (codes "Transfer-Encoding") h ≡ []
  pub size : ℕ
  pub length : body_length (stated (codes "Content-Length") h) ≡ Some size
  pub front : IsFront body size rest

-- what a reader has begins with a head and its body, and the answer is what they say
pub record IsAnswer (known : Option (List ℕ)) (a : ServerAnswer) : Type 0 where
  pub input : List ℕ
  pub is_input : IsInput known input
  pub head : ResponseHead
  pub rest : List ℕ
  pub begins : HasResponseHead input head rest
  pub status : a.status ≡ status_code head
  pub kind : a.is_interchange ≡ is_x12 (stated (codes "Content-Type") head)
  pub body : HasBody head rest a.body.items

-- both say the same
pub record IsSame (a b : ServerAnswer) : Type 0 where
  pub status : a.status ≡ b.status
  pub kind : a.is_interchange ≡ b.is_interchange
  pub body : a.body.items ≡ b.body.items
