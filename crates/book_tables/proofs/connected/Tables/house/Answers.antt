use Rattle.std.proofs.Common.{rules, List, subst}
use Rattle.definitions.specs.declared.rules.Rules.{Rules}
use Rattle.definitions.specs.Header.{Who}
use Rattle.sqlite.specs.Held.{state}
use Rattle.sqlite.specs.Order.{Row}
use Rattle.book_statements.specs.Recorded.{IsHouse}
use Rattle.book_statements.proofs.Found.{house_found, one_house}
use Rattle.book_statements.proofs.ReadingTexts.{house_reads}
use Rattle.book_tables.proofs.connected.Tables.house.Goals as goal

pub returns-in-Some-clause-whose : goal.returns-in-Some-clause-whose
returns-in-Some-clause-whose g c = λ clean q W L stands.
    let finds = c.in_ok-rows.ensures.finds clean in
    one_house c.in_ok-rows.rows.items c.in-Some.house.0 q c.in-Some.house.1 W (subst (λ (rows : List Row). IsHouse c.in-Some.house.0 rows c.in-Some.house.1) c.deref.ensures.value c.in-Some.ensures)
    (house_found q W L (state g.S.Store c.args.self.now.conn).now c.in_ok-rows.rows.items (stands finds.0) finds.1)

pub returns-in-Some-clause-tells : goal.returns-in-Some-clause-tells
returns-in-Some-clause-tells g c = record {
  house = λ clean.
      (c.in_ok-rows.rows.items, (c.in_ok-rows.ensures.finds clean).1, subst (λ (rows : List Row). IsHouse c.in-Some.house.0 rows c.in-Some.house.1) c.deref.ensures.value c.in-Some.ensures);
  none = search rules;
  this = search rules;
  was_open = λ clean. (c.in_ok-rows.ensures.finds clean).0;
  asked = search rules;
  called = search rules;
}

pub returns-clause-tells : goal.returns-clause-tells
returns-clause-tells g c = record {
  house = search rules;
  none = λ clean _.
      (c.in_ok-rows.rows.items, (c.in_ok-rows.ensures.finds clean).1, subst (λ (rows : List Row). (q : Rules) (W : Who) → IsHouse q rows W → ⊥) c.deref.ensures.value c.in-None.ensures);
  this = λ clean q W L stands _.
      let finds = c.in_ok-rows.ensures.finds clean in
      (subst (λ (rows : List Row). (p : Rules) (V : Who) → IsHouse p rows V → ⊥) c.deref.ensures.value c.in-None.ensures) q W (house_found q W L (state g.S.Store c.args.self.now.conn).now c.in_ok-rows.rows.items (stands finds.0) finds.1);
  was_open = search rules;
  asked = search rules;
  called = search rules;
}

pub ask-requires : goal.ask-requires
ask-requires g c = house_reads
