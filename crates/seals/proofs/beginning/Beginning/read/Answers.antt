use Rattle.std.proofs.Common.{Some, None, ap, ◌∙◌}
use Rattle.std.specs.Prelude.{option_map}
use Rattle.seals.specs.Noted.{beginning}
use Rattle.seals.proofs.Beginnings.{read_none, read_no_number, read_zipped}
use Rattle.seals.proofs.beginning.Beginning.read.Goals as goal

pub returns-in_err-colon : goal.returns-in_err-colon
returns-in_err-colon c = ap (option_map beginning) c.from_residual.ensures ∙ read_none c.args.text.now c.in_err-colon.ensures

pub returns-in_err-entries : goal.returns-in_err-entries
returns-in_err-entries c =
    ap (option_map beginning) c.from_residual-in_err-entries.ensures
    ∙ read_no_number c.args.text.now c.in_ok-colon.colon c.in_ok-colon.ensures c.in_err-entries.ensures

pub returns-in_err-seal : goal.returns-in_err-seal
returns-in_err-seal c =
    ap (option_map beginning) c.from_residual-in_err-seal.ensures
    ∙ read_zipped c.args.text.now c.in_ok-colon.colon (Some c.in_ok-entries.entries) None c.in_ok-colon.ensures c.in_ok-entries.ensures c.in_err-seal.ensures

pub returns : goal.returns
returns c = read_zipped c.args.text.now c.in_ok-colon.colon (Some c.in_ok-entries.entries) (Some c.in_ok-seal.seal.digest) c.in_ok-colon.ensures c.in_ok-entries.ensures c.in_ok-seal.ensures
