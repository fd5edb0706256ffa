use Rattle.std.proofs.Common.{rules, sym, refl, ◌∙◌, []}
use Rattle.std.specs.Prelude.{IsTrue}
use Rattle.definitions.specs.Header.{is_partner}
use Rattle.store.proofs.Entries.{nothing_legal, one_register}
use Rattle.store.proofs.replaying.ReplayBook.new.Goals as goal

pub returns-clause-usable : goal.returns-clause-usable
returns-clause-usable c = let house : IsTrue (is_partner c.args.warehouse) = search rules in record {
  opened = refl;
  legal = nothing_legal c.args.warehouse house;
  keeps = c.new.ensures.items;
  stand = tt;
  only = λ M h. one_register c.args.warehouse c.args.warehouse M [] h.1 (nothing_legal c.args.warehouse house) (sym h.0 ∙ c.new.ensures.items);
}
