use Rattle.std.proofs.Common.{inr}
use Rattle.std.proofs.lemmas.Result.{IfErr-weaker}
use Rattle.commands.proofs.files.read_lines.Goals as goal

pub returns-in-Some-clause-unread : goal.returns-in-Some-clause-unread
returns-in-Some-clause-unread g c =
    let within = rw c.in-Some.is at c.in_ok-bytes.ensures.read in
    IfErr-weaker c.text_of.result _ _ (λ stop is. inr (is.0, inr (c.in-Some.bytes.items, within, is.1))) c.text_of.ensures.unread
