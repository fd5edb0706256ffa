use Rattle.std.proofs.Common.{rules, refl, ℕ, not, ap, ◌∙◌, IsTrue}
use Rattle.std.specs.Prelude.{◌==◌}
use Rattle.definitions.specs.Header.{is_partner, who_text}
use Rattle.sqlite.specs.Held.{state}
use Rattle.book_tables.proofs.HasEntries.{none_read}
use Rattle.book_statements.proofs.ShowingTexts.{has_reads}
use Rattle.book_tables.proofs.connected.Tables.is_enrolled.Goals as goal

pub of_depositor-requires : goal.of_depositor-requires
of_depositor-requires g c = has_reads

pub returns-clause-enrolled : goal.returns-clause-enrolled
returns-clause-enrolled g c = λ clean W L stands.
    let partner : IsTrue (is_partner c.args.who) = search rules in
    ap not (c.is_empty.ensures ∙ ap (λ (n : ℕ). n == 0) c.in_ok-rows.rows.ok.0
    ∙ none_read (state g.S.Store c.args.self.now.conn) W L c.args.who partner stands (who_text c.args.who) refl c.in_ok-rows.rows.items (c.in_ok-rows.ensures.finds clean))
