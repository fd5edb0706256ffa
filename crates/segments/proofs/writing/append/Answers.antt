use Rattle.segments.proofs.writing.append.Goals as goal

pub returns-in_err-push-clause-kept : goal.returns-in_err-push-clause-kept
returns-in_err-push-clause-kept c = rw c.in_err-push.ensures.items c.append_elements.ensures.kept
