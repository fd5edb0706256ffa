use Rattle.std.proofs.Common.{sym, ap, ◌∙◌}
use Rattle.std.specs.Prelude.{◌==◌}
use Rattle.store.proofs.WentOut.{placed, text_of, is_nothing, is_something, adds_other, adds_uncounted, adds_nothing, adds_sent}
use Rattle.store.proofs.sending.sent_at.Goals as goal

pub returns-then-not-is_of : goal.returns-then-not-is_of
returns-then-not-is_of c = λ L is legal page.
    let W = c.args.warehouse.now in
    let who = c.args.who.now in
    let w = c.index-entries-i.result in
    adds_other W L c.args.i who c.args.page.now w (placed W L c.args.entries.now c.args.i who c.args.page.now w is legal page c.requires c.index-entries-i.is)
    (sym c.is_of.ensures ∙ c.if-not-is_of.true)

pub returns-then-not-is_numbered : goal.returns-then-not-is_numbered
returns-then-not-is_numbered c = λ L is legal page.
    let W = c.args.warehouse.now in
    let who = c.args.who.now in
    let w = c.index-entries-i.result in
    adds_uncounted W L c.args.i who c.args.page.now w (placed W L c.args.entries.now c.args.i who c.args.page.now w is legal page c.requires c.index-entries-i.is)
    (sym c.is_of.ensures ∙ c.if-not-is_of.false) (sym c.is_numbered.ensures ∙ c.if-not-is_numbered.true)

pub returns-then-is_empty : goal.returns-then-is_empty
returns-then-is_empty c = λ L is legal page.
    let W = c.args.warehouse.now in
    let who = c.args.who.now in
    let w = c.index-entries-i.result in
    let text = c.in_ok-content.content.items in
    adds_nothing W L c.args.i who c.args.page.now w text (placed W L c.args.entries.now c.args.i who c.args.page.now w is legal page c.requires c.index-entries-i.is)
    (sym c.is_of.ensures ∙ c.if-not-is_of.false) (sym c.is_numbered.ensures ∙ c.if-not-is_numbered.false)
    (text_of W L c.args.entries.now c.args.i w text is c.in_ok-content.ensures) (is_nothing text (ap (λ n. n == 0) (sym c.in_ok-content.content.ok.0) ∙ sym c.is_empty.ensures ∙ c.if-is_empty.true))

pub returns : goal.returns
returns c = λ L is legal page.
    let W = c.args.warehouse.now in
    let who = c.args.who.now in
    let w = c.index-entries-i.result in
    let text = c.in_ok-content.content.items in
    adds_sent W L c.args.i who c.args.page.now w text c.of.result (placed W L c.args.entries.now c.args.i who c.args.page.now w is legal page c.requires c.index-entries-i.is)
    (sym c.is_of.ensures ∙ c.if-not-is_of.false) (sym c.is_numbered.ensures ∙ c.if-not-is_numbered.false)
    (text_of W L c.args.entries.now c.args.i w text is c.in_ok-content.ensures) (is_something text (ap (λ n. n == 0) (sym c.in_ok-content.content.ok.0) ∙ sym c.is_empty.ensures ∙ c.if-is_empty.false)) c.of.ensures
