use Rattle.std.proofs.Common.{◌∙◌, sym, ap}
use Rattle.std.specs.Prelude.{codes, filter}
use Rattle.std.specs.List.{list_all}
use Rattle.definitions.specs.Elements.{is_well_formed}
use Rattle.envelope.specs.Parts.{marked}
use Rattle.envelope.proofs.Bared.{all_bare, filter_bare}
use Rattle.envelope.proofs.trailer.are_trailers_well_formed.Goals as goal

pub returns : goal.returns
returns c = c.are_trailers.ensures
    ∙ sym (ap (list_all (is_well_formed c.args.delims.now)) (filter_bare (codes "IEA") c.args.segments.now)
    ∙ all_bare (is_well_formed c.args.delims.now) (filter (marked (codes "IEA")) c.args.segments.now))
