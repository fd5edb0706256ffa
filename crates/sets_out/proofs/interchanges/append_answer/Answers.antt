use Rattle.std.proofs.Common.{sym, ◌∙◌}
use Rattle.std.proofs.lemmas.List.{append-nil}
use Rattle.sets_out.proofs.interchanges.append_answer.Goals as goal

pub returns-then-is_silent-clause-ok : goal.returns-then-is_silent-clause-ok
returns-then-is_silent-clause-ok c = rw (sym c.is_silent.ensures ∙ c.if-is_silent.true) (sym (append-nil c.args.out.now.items))

pub returns-else-is_silent-clause-ok : goal.returns-else-is_silent-clause-ok
returns-else-is_silent-clause-ok c = rw (sym c.is_silent.ensures ∙ c.if-is_silent.false) c.append_whole.ensures.ok
