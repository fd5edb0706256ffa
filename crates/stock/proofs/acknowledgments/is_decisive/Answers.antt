use Rattle.std.proofs.Common.{sym, ◌∙◌, ap, ℕ}
use Rattle.definitions.specs.Means.{Acknowledgment}
use Rattle.page_rows.specs.Steps.{decides}
use Rattle.stock.proofs.Acknowledges.{decides_none, decides_some}
use Rattle.stock.proofs.acknowledgments.is_decisive.Goals as goal

pub returns-in-None : goal.returns-in-None
returns-in-None c = sym (decides_none c.args.page.now.entries c.args.ack.now c.args.page.now.documents (rw (ap (λ (a : Acknowledgment). a.document) c.ack.view_is) at c.in-None.ensures))

pub returns-in-Some : goal.returns-in-Some
returns-in-Some c = c.is_decided_by.ensures ∙ ap (λ (n : ℕ). decides n c.args.ack.now c.in-Some.document.now) c.entries.ensures
    ∙ sym (decides_some c.args.page.now.entries c.args.ack.now c.args.page.now.documents c.in-Some.document.now c.rows.ensures.sound.sorted.documents (rw (ap (λ (a : Acknowledgment). a.document) c.ack.view_is) at c.in-Some.ensures))
