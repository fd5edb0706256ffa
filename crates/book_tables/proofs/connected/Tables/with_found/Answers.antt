use Rattle.std.proofs.Common.{◌≡◌, sym, subst}
use Rattle.std.specs.Prelude.{IfOk}
use Rattle.book_tables.specs.Needed.{part_for, with_text}
use Rattle.book_tables.specs.declared.needed.Sought.{Sought}
use Rattle.book_tables.proofs.connected.Tables.with_found.Goals as goal

pub returns-in-Advice-clause-found : goal.returns-in-Advice-clause-found
returns-in-Advice-clause-found g c = λ clean W L stands n is.
    subst (λ (s : Sought). IfOk c.with_advice.result (λ d. d ≡ part_for L c.args.who (with_text s c.args.name.now n))) (sym c.in-Advice.is)
    (c.with_advice.ensures.found clean W L stands n is)

pub returns-in-Order-clause-found : goal.returns-in-Order-clause-found
returns-in-Order-clause-found g c = λ clean W L stands n is.
    subst (λ (s : Sought). IfOk c.with_order.result (λ d. d ≡ part_for L c.args.who (with_text s c.args.name.now n))) (sym c.in-Order.is)
    (c.with_order.ensures.found clean W L stands n is)

pub returns-in-Lots-clause-found : goal.returns-in-Lots-clause-found
returns-in-Lots-clause-found g c = λ clean W L stands n is.
    subst (λ (s : Sought). IfOk c.with_lots.result (λ d. d ≡ part_for L c.args.who (with_text s c.args.name.now n))) (sym c.in-Lots.is)
    (c.with_lots.ensures.found clean W L stands n is)
