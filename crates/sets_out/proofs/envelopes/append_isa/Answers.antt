use Rattle.std.proofs.Common.{[], ◌∷◌}
use Rattle.std.specs.Prelude.{codes}
use Rattle.definitions.specs.Bytes.{padded, zero_filled}
use Rattle.definitions.specs.Moments.{date6, time4}
use Rattle.segments.proofs.ExtendsLemmas.{extends_trans}
use Rattle.sets_out.proofs.AppendsLaws.{appends_one}
use Rattle.sets_out.proofs.IsaLaws.{isa_whole}
use Rattle.sets_out.proofs.envelopes.append_isa.Goals as goal

pub returns-clause-ok : goal.returns-clause-ok
returns-clause-ok c =
    let d = c.args.delims in
    let w = c.args.warehouse.now in
    let to = c.args.to.now in
    let opening = codes "00" ∷ padded 10 [] ∷ codes "00" ∷ padded 10 [] ∷ [] in
    let closing = date6 c.args.moment.now ∷ time4 c.args.moment.now ∷ codes "U" ∷ codes "00401" ∷ zero_filled 9 c.args.number ∷ codes "0" ∷ codes "P" ∷ (d.component ∷ []) ∷ [] in
    appends_one d _ _ _ (isa_whole d c.args.out.now.items c.append_opening.new.out.items c.append_party.new.out.items c.append_party-2.new.out.items c.append_closing.new.out.items
    (codes "ISA") opening (w.qualifier ∷ padded 15 w.id ∷ []) (to.qualifier ∷ to.id ∷ []) closing
    (rw c.separator.ensures at c.in_ok-append_opening.ensures.ok)
    (rw (c.separator-2.ensures, c.filled.ensures) at c.in_ok-append_party.ensures.ok)
    (rw c.separator-3.ensures at c.in_ok-append_party-2.ensures.ok)
    c.in_ok-append_closing.ensures.ok)

pub returns-in_err-append_party-clause-kept : goal.returns-in_err-append_party-clause-kept
returns-in_err-append_party-clause-kept c = extends_trans _ _ _ c.in_ok-append_opening.ensures.kept c.in_err-append_party.ensures.kept

pub returns-in_err-append_party-2-clause-kept : goal.returns-in_err-append_party-2-clause-kept
returns-in_err-append_party-2-clause-kept c = extends_trans _ _ _ (extends_trans _ _ _ c.in_ok-append_opening.ensures.kept c.in_ok-append_party.ensures.kept) c.in_err-append_party-2.ensures.kept

pub returns-in_err-append_closing-clause-kept : goal.returns-in_err-append_closing-clause-kept
returns-in_err-append_closing-clause-kept c = extends_trans _ _ _ (extends_trans _ _ _ (extends_trans _ _ _ c.in_ok-append_opening.ensures.kept c.in_ok-append_party.ensures.kept) c.in_ok-append_party-2.ensures.kept) c.in_err-append_closing.ensures.kept

pub returns-clause-kept : goal.returns-clause-kept
returns-clause-kept c = extends_trans _ _ _ (extends_trans _ _ _ (extends_trans _ _ _ c.in_ok-append_opening.ensures.kept c.in_ok-append_party.ensures.kept) c.in_ok-append_party-2.ensures.kept) c.in_ok-append_closing.ensures.kept
