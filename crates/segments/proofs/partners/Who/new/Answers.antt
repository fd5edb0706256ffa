use Rattle.std.proofs.Common.{refl}
use Rattle.segments.proofs.PartnerLemmas.{written_partner}
use Rattle.segments.proofs.partners.Who.new.Goals as goal

pub returns : goal.returns
returns c = written_partner c.args.text.now _ c.of.result c.if-text-lt3.false c.if-text-ne45.false refl c.of.ensures
