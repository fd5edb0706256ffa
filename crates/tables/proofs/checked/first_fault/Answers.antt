use Rattle.std.proofs.Common.{[], refl, sym, ◌∙◌, ap}
use Rattle.definitions.specs.Cut.{segments_of}
use Rattle.definitions.specs.Words.{Words, kind_words}
use Rattle.definitions.specs.Faults.{fault_from}
use Rattle.definitions.proofs.FaultsLaws.{set_fault-from}
use Rattle.tables.proofs.checked.first_fault.Goals as goal

pub loop-index-init : goal.loop-index-init
loop-index-init c = (
  [],
  refl,
  refl,
  set_fault-from c.args.rules c.args.delims.now (kind_words c.args.rules c.args.kind) (segments_of c.args.segments.now)
      ∙ ap (λ (w : Words). fault_from c.args.rules c.args.delims.now (kind_words c.args.rules c.args.kind) w [] 1 (segments_of c.args.segments.now)) (sym (c.begin.ensures c.args.rules)),
)
