use Rattle.std.proofs.Common.{refl}
use Rattle.command_line.proofs.HostLaws.{copied_over}
use Rattle.command_line.proofs.values.filled.Goals as goal

pub returns : goal.returns
returns c = copied_over c.args.names.now c.copy_from_slice.new.self _ refl c.copy_from_slice.ensures.after
