use Rattle.sets_out.proofs.interchanges.append_interchange.Goals as goal

pub returns-in-Documented-clause-ok : goal.returns-in-Documented-clause-ok
returns-in-Documented-clause-ok c = rw c.in-Documented.is c.append_document.ensures.ok
