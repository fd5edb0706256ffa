use Rattle.std.proofs.Common.{[], ◌∷◌, subst}
use Rattle.std.specs.Prelude.{codes, flat_map}
use Rattle.definitions.specs.Texts.{Told, told_segments}
use Rattle.segments.proofs.ExtendsLemmas.{extends_trans}
use Rattle.sets_out.specs.Appends.{Writes}
use Rattle.sets_out.proofs.AppendsLaws.{appends_then}
use Rattle.sets_out.proofs.acknowledgment.append_body.Goals as goal

pub returns-clause-ok : goal.returns-clause-ok
returns-clause-ok c =
    let First : Told → Type 0 = λ t. Writes c.args.delims c.args.out.now.items c.append_segment.new.out.items ((codes "AK1" ∷ t.function ∷ t.number ∷ []) ∷ []) c.in_ok-first.first in
    let Sets : Told → Type 0 = λ t. Writes c.args.delims c.append_segment.new.out.items c.append_sets.new.out.items (flat_map told_segments t.sets) c.in_ok-sets.sets in
    appends_then c.args.delims _ _ _ _ _ _ _ (appends_then c.args.delims _ _ _ _ _ _ _ (subst First c.told.view_is c.in_ok-first.ensures.ok)
    (subst Sets c.told.view_is (rw c.deref.ensures.value at c.in_ok-sets.ensures.ok))) c.in_ok-last.ensures.ok

pub returns-in_err-sets-clause-kept : goal.returns-in_err-sets-clause-kept
returns-in_err-sets-clause-kept c = extends_trans _ _ _ c.in_ok-first.ensures.kept c.in_err-sets.ensures.kept

pub returns-in_err-last-clause-kept : goal.returns-in_err-last-clause-kept
returns-in_err-last-clause-kept c = extends_trans _ _ _ (extends_trans _ _ _ c.in_ok-first.ensures.kept c.in_ok-sets.ensures.kept) c.in_err-last.ensures.kept

pub returns-clause-kept : goal.returns-clause-kept
returns-clause-kept c = extends_trans _ _ _ (extends_trans _ _ _ c.in_ok-first.ensures.kept c.in_ok-sets.ensures.kept) c.in_ok-last.ensures.kept
