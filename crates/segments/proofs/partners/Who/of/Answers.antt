use Rattle.std.proofs.Common.{sym, ◌∙◌}
use Rattle.segments.proofs.PartnerLemmas.{filled_partner}
use Rattle.segments.proofs.partners.Who.of.Goals as goal

pub invariant_of-result : goal.invariant_of-result
invariant_of-result c = filled_partner c.args.qualifier.now c.args.id.now c.copy_from_slice.new.self c.if-qualifier-ne-QUALIFIER_BYTES.false
    (sym c.all_alphanumeric.ensures ∙ c.if-not-all_alphanumeric.false) (sym c.is_ident.ensures ∙ c.if-not-is_ident.false) c.copy_from_slice.ensures.after
