use Rattle.std.proofs.Common.{List, map, sym, ◌∙◌, ap}
use Rattle.definitions.specs.Structure.{Group}
use Rattle.envelope.specs.Parts.{GroupsOf, group_under}
use Rattle.envelope.proofs.Holding.{groups_again}
use Rattle.envelope.proofs.making.interchange_of.Goals as goal

pub new-requires : goal.new-requires
new-requires c = let again = ap (map (λ g. g.group)) c.in_ok-groups_of.ensures ∙ groups_again c.args.delims _ in
    c.in_ok-groups_of.ensures ∙ ap (map (group_under c.args.delims)) (sym again)

pub returns : goal.returns
returns c = let again = ap (map (λ g. g.group)) c.in_ok-groups_of.ensures ∙ groups_again c.args.delims _ in
    c.new.ensures ∙ ap (λ (gs : List Group). let i : GroupsOf = record { delims = c.args.delims; groups = gs } in i) again
