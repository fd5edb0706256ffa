use Rattle.std.proofs.Common.{◌∙◌}
use Rattle.sqlite.specs.Held.{state}
use Rattle.book_statements.proofs.Found.{count_found}
use Rattle.book_statements.proofs.ReadingTexts.{count_reads}
use Rattle.book_tables.proofs.connected.Tables.count.Goals as goal

pub returns-clause-count : goal.returns-clause-count
returns-clause-count g c = λ clean q W L stands.
    let finds = c.in_ok-rows.ensures.finds clean in
    c.len.ensures ∙ c.in_ok-rows.rows.ok.0 ∙ count_found q W L (state g.S.Store c.args.self.now.conn).now c.in_ok-rows.rows.items (stands finds.0) finds.1

pub ask-requires : goal.ask-requires
ask-requires g c = count_reads
