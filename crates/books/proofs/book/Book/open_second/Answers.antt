use Rattle.std.proofs.Common.{refl, sym, ◌∙◌, rules}
use Rattle.sqlite.specs.Held.{state}
use Rattle.definitions.specs.Rules.{Today}
use Rattle.book_statements.proofs.Limited.{spends_both, spends_same}
use Rattle.books.proofs.OpeningLemmas.{not_both, opened_at, queried, second_as_it_is}
use Rattle.books.proofs.book.Book.open_second.Goals as goal

pub returns-in-Two-clause-ok : goal.returns-in-Two-clause-ok
returns-in-Two-clause-ok g c =
    let v = g.S.Store in
    let was = c.args.tables.conn in
    let found = c.in-Ok.found in
    let mid = c.found.new.self in
    let asked = c.found.ensures.tells.asked in
    record {
      usable = λ clean q W L stands.
          let it = c.in-Ok.ensures.count clean q W L stands in
          let opened = c.in-Ok.ensures.tells.was_open clean in
          opened_at v Today found.1 c.args.tables mid mid _ asked (second_as_it_is v found.1 mid) q W L mid.refused found.0.1 _ refl clean opened
          c.settle.ensures.live c.settle.ensures.rest (λ db may. g.met.S.Store.settled was.store db opened may) (sym c.in-Two.is ∙ it.0) it.1 it.2 stands;
      keeps = λ clean q W L stands.
          let it = c.in-Ok.ensures.count clean q W L stands in
          let opened = c.in-Ok.ensures.tells.was_open clean in
          let usable = opened_at v Today found.1 c.args.tables mid mid _ asked (second_as_it_is v found.1 mid) q W L mid.refused W _ refl clean opened
          c.settle.ensures.live c.settle.ensures.rest (λ db may. g.met.S.Store.settled was.store db opened may) (sym c.in-Two.is ∙ it.0) refl it.2 stands in
          (it.1, usable.keeps);
      opened = refl;
      still = queried (state v was) (state v mid.conn) asked;
      house = λ clean. let it = c.in-Ok.ensures.tells.house clean in (it.0, it.1, (found.0.0, it.2));
      uncounted = search rules;
      limit = search (rules, spends_both, spends_same);
    }

pub returns-in-One-clause-this : goal.returns-in-One-clause-this
returns-in-One-clause-this g c = λ clean W L stands _. not_both (sym c.in-One.is ∙ (c.in-Ok.ensures.count clean Today W L stands).0)

pub returns-in-Err-clause-this : goal.returns-in-Err-clause-this
returns-in-Err-clause-this g c = λ clean W L stands. c.in-Err.ensures.tells.this clean Today W L stands
