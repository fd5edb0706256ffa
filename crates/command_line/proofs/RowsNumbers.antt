-- The limit of a server's connections beside its literal: whoever changes the constant meets it
-- here.
use Rattle.std.specs.Prelude.{◌≡◌}
use Rattle.std.proofs.Common.{refl}
use Rattle.command_line.specs.Written.{most_connections}

connections : most_connections ≡ 65535
connections = refl
