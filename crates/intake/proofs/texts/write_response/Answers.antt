use Rattle.std.proofs.Common.{List, ℕ, [], subst, rules, append-nil, OnOk, IfOk, IfErr, ◌≡◌, ◌∙◌, ◌≤◌, ◌<◌, ◌^◌, ◌++◌, length}
use Rattle.std.specs.Io.KnownBytes.{Appends}
use Rattle.counted_io.specs.Gauges.{AppendsBeginning, joined}
use Rattle.definitions.specs.Response.{response_bytes}
use Rattle.intake.specs.Answers.{seen, body_bytes}
use Rattle.counted_io.specs.declared.sending.Unwritten.{Unwritten}
use Rattle.intake.proofs.Written.{bytes_are, parts_short}
use Rattle.intake.proofs.texts.write_response.Given.{Over}
use Rattle.intake.proofs.texts.write_response.Goals as goal
use Rattle.intake.proofs.texts.write_response.Goals.{After-pieces-pieces, After-as_slice}

-- the pieces are the response
pieces_are : (g : Over) (c : After-pieces-pieces g) → joined c.pieces-pieces.result ≡ response_bytes (seen c.args.response.now)
pieces_are g c = cc (bytes_are c.args.response.now)

-- and so is the buffer
buffer_is : (g : Over) (c : After-as_slice g) → c.as_slice.result.now ++ [] ≡ response_bytes (seen c.args.response.now)
buffer_is g c =
    let same : joined c.pieces-pieces.result ≡ response_bytes (seen c.args.response.now) = cc (bytes_are c.args.response.now) in
    append-nil c.as_slice.result.now ∙ c.as_slice.ensures.value ∙ c.in-Ok.ensures ∙ same

-- written from the buffer

pub send_pieces-requires : goal.send_pieces-requires
send_pieces-requires g c = rw append-nil (c.as_slice.type_inv.0)

pub returns-in-Ok-clause-whole : goal.returns-in-Ok-clause-whole
returns-in-Ok-clause-whole g c =
    subst (λ (l : List ℕ). OnOk c.send_pieces.result (Appends (g.W.Write.contents c.args.writer.now.inner) (g.W.Write.contents c.send_pieces.new.writer.inner) l))
    (buffer_is g (goal.at.returns-in-Ok-clause-whole g c).After-as_slice) c.send_pieces.ensures.whole

pub returns-in-Ok-clause-counted : goal.returns-in-Ok-clause-counted
returns-in-Ok-clause-counted g c =
    subst (λ (l : List ℕ). IfOk c.send_pieces.result (λ (sent : ℕ). sent ≡ length l))
    (buffer_is g (goal.at.returns-in-Ok-clause-counted g c).After-as_slice) c.send_pieces.ensures.counted

pub returns-in-Ok-clause-beginning : goal.returns-in-Ok-clause-beginning
returns-in-Ok-clause-beginning g c =
    subst (λ (l : List ℕ). IfErr c.send_pieces.result (λ (stop : Unwritten). AppendsBeginning (g.W.Write.contents c.args.writer.now.inner) (g.W.Write.contents c.send_pieces.new.writer.inner) l stop.sent))
    (buffer_is g (goal.at.returns-in-Ok-clause-beginning g c).After-as_slice) c.send_pieces.ensures.beginning

-- written piece by piece

pub send_pieces-requires-in-Err : goal.send_pieces-requires-in-Err
send_pieces-requires-in-Err g c =
    let code : length c.as_bytes-code.result.now ≤ 40 = rw c.as_bytes-code.ensures.value c.format.ensures.short in
    let digits : length c.as_bytes-digits.result.now ≤ 40 = rw c.as_bytes-digits.ensures.value c.format-2.ensures.short in
    let size : length c.bytes.result.now < 2 ^ 63 = search rules in
    let body : length (body_bytes c.args.response.now.body) < 2 ^ 63 = rw c.bytes.ensures at size in
    rw c.pieces-pieces.ensures (parts_short c.args.response.now _ _ code digits body)

pub returns-in-Err-clause-whole : goal.returns-in-Err-clause-whole
returns-in-Err-clause-whole g c =
    subst (λ (l : List ℕ). OnOk c.send_pieces-in-Err.result (Appends (g.W.Write.contents c.args.writer.now.inner) (g.W.Write.contents c.send_pieces-in-Err.new.writer.inner) l))
    (pieces_are g (goal.at.returns-in-Err-clause-whole g c).After-pieces-pieces) c.send_pieces-in-Err.ensures.whole

pub returns-in-Err-clause-counted : goal.returns-in-Err-clause-counted
returns-in-Err-clause-counted g c =
    subst (λ (l : List ℕ). IfOk c.send_pieces-in-Err.result (λ (sent : ℕ). sent ≡ length l))
    (pieces_are g (goal.at.returns-in-Err-clause-counted g c).After-pieces-pieces) c.send_pieces-in-Err.ensures.counted

pub returns-in-Err-clause-beginning : goal.returns-in-Err-clause-beginning
returns-in-Err-clause-beginning g c =
    subst (λ (l : List ℕ). IfErr c.send_pieces-in-Err.result (λ (stop : Unwritten). AppendsBeginning (g.W.Write.contents c.args.writer.now.inner) (g.W.Write.contents c.send_pieces-in-Err.new.writer.inner) l stop.sent))
    (pieces_are g (goal.at.returns-in-Err-clause-beginning g c).After-pieces-pieces) c.send_pieces-in-Err.ensures.beginning
