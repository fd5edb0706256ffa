-- The limit of a response's body beside its literal: whoever changes the constant meets it here.
use Rattle.std.specs.Prelude.{◌≡◌}
use Rattle.std.proofs.Common.{refl}
use Rattle.http_client.specs.Fields.{most_body}

-- bytes of a body
body : most_body ≡ 16777216
body = refl
