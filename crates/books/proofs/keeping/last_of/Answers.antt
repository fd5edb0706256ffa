use Rattle.std.proofs.Common.{ap, sym, ◌∙◌, Some}
use Rattle.store.proofs.Extents.{moment_of}
use Rattle.books.proofs.ExtentLemmas.{moment_under}
use Rattle.books.proofs.keeping.last_of.Goals as goal

pub returns-in-Some-clause-last : goal.returns-in-Some-clause-last
returns-in-Some-clause-last g c = λ clean W L stands is.
    ap Some c.moment.ensures ∙ ap moment_of (sym c.in-Some.is ∙ c.in_ok-entry.ensures.entry clean W L stands) ∙ moment_under L c.args.entries is

pub returns-in-None-clause-last : goal.returns-in-None-clause-last
returns-in-None-clause-last g c = λ clean W L stands is.
    ap moment_of (sym c.in-None.is ∙ c.in_ok-entry.ensures.entry clean W L stands) ∙ moment_under L c.args.entries is
