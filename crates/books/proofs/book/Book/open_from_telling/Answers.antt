use Rattle.std.proofs.Common.{refl, rules}
use Rattle.sqlite.specs.Held.{state}
use Rattle.definitions.specs.declared.rules.Rules.TheVariants.{One}
use Rattle.book_statements.proofs.Limited.{spends_both, spends_same}
use Rattle.books.proofs.OpeningLemmas.{clean_mid, opens_as, opened_at, leaves_carried, left_carried, queried}
use Rattle.books.proofs.book.Book.open_from_telling.Goals as goal

-- what was asked first failed
pub returns-in-Err-clause-err : goal.returns-in-Err-clause-err
returns-in-Err-clause-err g c =
    record {
      not_this = search rules;
      this = search rules;
      asked = queried (state g.S.Store c.args.tables.conn) (state g.S.Store c.found.new.self.conn) c.found.ensures.tells.asked;
      untouched = search rules;
      carried = λ clean W L _ all.
          left_carried (state g.S.Store c.args.tables.conn) (state g.S.Store c.found.new.self.conn) c.found.ensures.tells.asked W L clean all;
      counted = search rules;
      uncounted = search rules;
      named = search rules;
      limit = search (rules, spends_both, spends_same);
    }

-- the carrying over failed
pub returns-in-Err-bring_up-clause-err : goal.returns-in-Err-bring_up-clause-err
returns-in-Err-bring_up-clause-err g c =
    record {
      not_this = search rules;
      this = search rules;
      asked = opens_as g.S.Store c.in-Ok.found.0.0 c.in-Ok.found.1 c.args.tables c.found.new.self c.bring_up.new.tables c.bring_up.result c.found.ensures.tells.asked c.bring_up.ensures.brought c.in-Ok.found.0.1 c.in-Ok.ensures.tells.was_open c.in-Ok.ensures.tells.house;
      untouched = search rules;
      carried = λ clean W L stands all.
          let v = g.S.Store in
          let found = c.in-Ok.found in
          let early = clean_mid v found.0.0 found.1 c.args.tables c.found.new.self c.bring_up.new.tables c.bring_up.result c.found.ensures.tells.asked c.bring_up.ensures.brought clean in
          let it = c.in-Ok.ensures.count early One W L stands in
          leaves_carried v found.0.0 found.1 c.args.tables c.found.new.self c.bring_up.new.tables c.bring_up.result c.found.ensures.tells.asked c.bring_up.ensures.brought W L clean it.0 it.2 stands all;
      counted = search rules;
      uncounted = search rules;
      named = search rules;
      limit = search (rules, spends_both, spends_same);
    }

pub returns-clause-ok : goal.returns-clause-ok
returns-clause-ok g c =
    record {
      usable = λ clean q W L stands.
          let v = g.S.Store in
          let was = c.args.tables.conn in
          let found = c.in-Ok.found in
          let early = clean_mid v found.0.0 found.1 c.args.tables c.found.new.self c.bring_up.new.tables c.bring_up.result c.found.ensures.tells.asked c.bring_up.ensures.brought clean in
          let it = c.in-Ok.ensures.count early q W L stands in
          let opened = c.in-Ok.ensures.tells.was_open early in
          opened_at v found.0.0 found.1 c.args.tables c.found.new.self c.bring_up.new.tables c.bring_up.result c.found.ensures.tells.asked c.bring_up.ensures.brought q W L c.bring_up.new.tables.refused found.0.1 _ c.in_default.is clean opened
          c.settle.ensures.live c.settle.ensures.rest (λ db may. g.met.S.Store.settled was.store db opened may) it.0 it.1 it.2 stands;
      keeps = λ clean q W L stands.
          let v = g.S.Store in
          let was = c.args.tables.conn in
          let found = c.in-Ok.found in
          let early = clean_mid v found.0.0 found.1 c.args.tables c.found.new.self c.bring_up.new.tables c.bring_up.result c.found.ensures.tells.asked c.bring_up.ensures.brought clean in
          let it = c.in-Ok.ensures.count early q W L stands in
          let opened = c.in-Ok.ensures.tells.was_open early in
          let usable = opened_at v found.0.0 found.1 c.args.tables c.found.new.self c.bring_up.new.tables c.bring_up.result c.found.ensures.tells.asked c.bring_up.ensures.brought q W L c.bring_up.new.tables.refused W _ c.in_default.is clean opened
          c.settle.ensures.live c.settle.ensures.rest (λ db may. g.met.S.Store.settled was.store db opened may) it.0 refl it.2 stands in
          (it.1, usable.keeps);
      opened = refl;
      still = opens_as g.S.Store c.in-Ok.found.0.0 c.in-Ok.found.1 c.args.tables c.found.new.self c.bring_up.new.tables c.bring_up.result c.found.ensures.tells.asked c.bring_up.ensures.brought c.in-Ok.found.0.1 c.in-Ok.ensures.tells.was_open c.in-Ok.ensures.tells.house;
      house = λ clean.
          let v = g.S.Store in
          let found = c.in-Ok.found in
          let it = c.in-Ok.ensures.tells.house (clean_mid v found.0.0 found.1 c.args.tables c.found.new.self c.bring_up.new.tables c.bring_up.result c.found.ensures.tells.asked c.bring_up.ensures.brought clean) in
          (it.0, it.1, (found.0.0, it.2));
      uncounted = search rules;
      limit = search (rules, spends_both, spends_same);
    }
