use Rattle.std.proofs.Common.{ap, ◌∙◌, codes}
use Rattle.std.proofs.lemmas.Result.{IfOk-weaker}
use Rattle.toml.specs.View.{items_view, array_view, view}
use Rattle.toml.proofs.Views.{table_get}
use Rattle.command_line.specs.Rosters as meant
use Rattle.command_line.proofs.RosterLaws.{array_listed, other_listed}
use Rattle.command_line.proofs.rosters.listed.Goals as goal

pub returns-in_default : goal.returns-in_default
returns-in_default c =
    let found = table_get c.get.result (codes "depositors") c.args.table.now.entries c.get.ensures.value in
    ap meant.listed (rw c.in_default.is at found)

pub returns-in-Some-as_array : goal.returns-in-Some-as_array
returns-in-Some-as_array c =
    let found = table_get c.get.result (codes "depositors") c.args.table.now.entries c.get.ensures.value in
    IfOk-weaker c.partners.result _ _ (λ partners h. h ∙ ap (λ xs. meant.partners_in (items_view xs)) c.deref.ensures.value
    ∙ array_listed (view c.in-Some.value.now) (array_view c.in-Some-as_array.values.now) c.in-Some-as_array.ensures
    ∙ ap meant.listed (rw c.in-Some.is at found)) c.partners.ensures

pub returns-in-None : goal.returns-in-None
returns-in-None c =
    let found = table_get c.get.result (codes "depositors") c.args.table.now.entries c.get.ensures.value in
    other_listed (view c.in-Some.value.now) c.in-None.ensures ∙ ap meant.listed (rw c.in-Some.is at found)
