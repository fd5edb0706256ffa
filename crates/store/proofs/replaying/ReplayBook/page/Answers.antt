use Rattle.std.proofs.Common.{append-nil, sym, ap, ◌∙◌, ◌++◌, [], subst}
use Rattle.definitions.specs.Rules.{Today}
use Rattle.definitions.specs.Accepted.{IsLegal}
use Rattle.store.specs.Replayed.{Replay}
use Rattle.store.proofs.replaying.ReplayBook.page.Goals as goal

pub returns-clause-page : goal.returns-clause-page
returns-clause-page c = λ L keeps legal.
    let view = ap (λ (b : Replay). b.entries) c.self.view_is in
    let house = ap (λ (b : Replay). b.warehouse) c.self.view_is in
    c.page_later.ensures.page L [] (c.deref.ensures.value ∙ view ∙ keeps)
    (subst (λ W. IsLegal Today W (L ++ [])) (sym house) (subst (IsLegal Today c.args.self.now.warehouse) (sym (append-nil L)) legal))
