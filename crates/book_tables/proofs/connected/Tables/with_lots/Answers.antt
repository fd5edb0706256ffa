use Rattle.std.proofs.Common.{◌∙◌, ap, List}
use Rattle.std.specs.Prelude.{fold}
use Rattle.definitions.specs.Page.{page_of}
use Rattle.definitions.specs.Register.{own}
use Rattle.definitions.specs.Rows.{LotRow}
use Rattle.rules.specs.Pages.{PageFacts}
use Rattle.rules.specs.Parts.{part_of}
use Rattle.rules.specs.Keyed.{put_row}
use Rattle.rules.proofs.Gathered.{lots_part}
use Rattle.rules.specs.Naming.{facts_of}
use Rattle.rules.proofs.Defines.{page_in_order}
use Rattle.book_tables.proofs.connected.Tables.with_lots.Goals as goal

pub returns-clause-found : goal.returns-clause-found
returns-clause-found g c = λ clean W L stands n is.
    let M = own L c.args.who in
    let into : List LotRow → PageFacts → PageFacts = λ rs d. record d { rows = fold (λ (ws : List LotRow) (r : LotRow). put_row r ws) d.rows rs } in
    c.in_ok-with_rows.ensures ∙ ap (into c.in_ok-rows.rows.items) is
    ∙ ap (λ (rs : List LotRow). into rs (part_of n (facts_of (page_of M)))) (c.in_ok-rows.ensures.lots clean W L stands)
    ∙ lots_part n (facts_of (page_of M)) (page_in_order M) c.args.item.now
