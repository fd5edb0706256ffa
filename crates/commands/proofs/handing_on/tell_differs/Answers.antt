use Rattle.std.proofs.Common.{◌∙◌, ◌++◌, ap, codes, subst, List, OnOk, ℕ}
use Rattle.std.specs.Io.KnownBytes.{Appends}
use Rattle.commands.proofs.handing_on.tell_differs.Goals as goal

pub returns : goal.returns
returns g c =
    let rest = codes ".x12 has other bytes, and stays as it is\n" in
    let line = ap (λ (dir : List ℕ). dir ++ (codes "/" ++ (c.as_bytes-2.result.now ++ rest))) c.as_bytes.ensures.value
    ∙ ap (λ (number : List ℕ). c.args.dir.now ++ (codes "/" ++ (number ++ rest))) (c.as_bytes-2.ensures.value ∙ c.format.ensures.text) in
    subst (λ (text : List ℕ). OnOk c.print_pieces.result (Appends (g.E.Write.contents c.args.err.now) (g.E.Write.contents c.print_pieces.new.out) text)) line c.print_pieces.ensures.whole
