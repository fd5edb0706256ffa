use Rattle.std.proofs.Common.{sym, ap, ◌∙◌, subst, List, take, drop, get_or, length, suc, ◌<◌, ◌≡◌, None, Some, []}
use Rattle.std.specs.Prelude.{find}
use Rattle.definitions.specs.Rules.{Today}
use Rattle.definitions.specs.Accepted.{IsLegal}
use Rattle.rules.specs.Written.{Written}
use Rattle.rules.specs.Decided.{IsRecalled}
use Rattle.rules.proofs.Finds.{find_at}
use Rattle.store.specs.Replayed.{is_under, all_written}
use Rattle.store.proofs.Entries.{there_on, written_take, recalled_none, recalled_at_place, is_recalled}
use Rattle.store.proofs.replaying.recalled.Goals as goal

pub returns-in_default-clause-known : goal.returns-in_default-clause-known
returns-in_default-clause-known c = λ L is legal.
    subst (IsRecalled None) (sym (recalled_none c.args.warehouse.now c.args.who.now c.args.mark.now L c.args.entries.now is c.in_default.ensures)) tt

pub returns-in_default-clause-recorded : goal.returns-in_default-clause-recorded
returns-in_default-clause-recorded c = sym c.in_default.ensures

pub returns-clause-known : goal.returns-clause-known
returns-clause-known c = λ L is legal.
    let W = c.args.warehouse.now in
    let who = c.args.who.now in
    let key = c.args.mark.now in
    let i = c.in-Some.i in
    let w = c.index-entries-i.result in
    let at = c.in-Some.ensures in
    let within : i < length (all_written L) = subst (λ (ws : List Written). i < length ws) is at.within in
    let t = there_on [] L i w within (c.index-entries-i.is ∙ ap (λ (ws : List Written). get_or ws i w) is) in
    let e = t.0 in
    let first : find (is_under who key) (take i (all_written L)) ≡ None = ap (λ (ws : List Written). find (is_under who key) (take i ws)) (sym is) ∙ at.first in
    let here = ap (is_under who key) c.index-entries-i.is ∙ at.here w in
    let before = ap (λ (ws : List Written). take i ws) is ∙ written_take [] L i in
    let sent = c.in_ok-outgoing.ensures (take i L) e (drop (suc i) L) before (c.in_ok-entry.ensures ∙ t.1.row) (subst (IsLegal Today W) t.1.split legal) in
    is_recalled W L i w c.in_ok-entry.entry e c.in_ok-outgoing.outgoing.items _ t.1 c.in_ok-entry.ensures sent (recalled_at_place W who key L i w e t.1 first here)

pub returns-clause-recorded : goal.returns-clause-recorded
returns-clause-recorded c = ap Some c.in_ok-entry.ensures ∙ sym (find_at (is_under c.args.who.now c.args.mark.now) c.args.entries.now c.in-Some.i c.index-entries-i.result c.in-Some.ensures c.index-entries-i.is)
