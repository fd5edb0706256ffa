-- Limits beside their literals: whoever changes a constant meets it here.
use Rattle.std.specs.Prelude.{◌≡◌}
use Rattle.std.proofs.Common.{refl}
use Rattle.folders.specs.declared.naming.TheConstants.{MOST_RUNS}
use Rattle.folders.specs.declared.passing.TheConstants.{MOST_FILE_NAME}

-- bytes of a file's name, so that an answer's has 255
name : MOST_FILE_NAME ≡ 251
name = refl

-- RUN, and RUN-2 to RUN-999
runs : MOST_RUNS ≡ 999
runs = refl
