-- The room for a head, each number beside its literal: whoever changes one of the constants meets it
-- here.
use Rattle.std.specs.Prelude.{◌≡◌}
use Rattle.std.proofs.Common.{refl}
use Rattle.head_fields.specs.Fields.{most_head, most_fields}

-- bytes
head : most_head ≡ 8192
head = refl

-- fields
fields : most_fields ≡ 32
fields = refl
