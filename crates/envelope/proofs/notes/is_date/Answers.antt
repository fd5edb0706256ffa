use Rattle.std.proofs.Common.{◌∙◌, ap, ℕ, List, [], ◌++◌}
use Rattle.std.specs.Prelude.{codes}
use Rattle.std.proofs.lemmas.List.{append-nil}
use Rattle.envelope.proofs.Moments.{is_none_of, no_date_fault}
use Rattle.envelope.proofs.notes.is_date.Goals as goal

pub returns : goal.returns
returns c = is_none_of _ _ c.is_none.ensures
    ∙ no_date_fault c.args.delims.now (codes "20" ++ c.copy_from_slice.new.self ++ []) c.args.text.now _ c.element_fault.ensures
    (ap (λ (t : List ℕ). codes "20" ++ t) (append-nil c.copy_from_slice.new.self ∙ c.copy_from_slice.ensures.after)) c.requires
