use Rattle.std.proofs.Common.{◌≡◌, ℕ, List, Option, rules, sym, subst}
use Rattle.store.specs.Standing.{Standing}
use Rattle.commands.specs.Acting.{Ending}
use Rattle.commands.specs.Looking.{IsLook}
use Rattle.commands.specs.Refused.{IsLookSaid}
use Rattle.commands.specs.declared.shows.Look.{Look}
use Rattle.commands.proofs.PrintingLaws.{on_ok}
use Rattle.commands.proofs.TellingLaws.{appends_nothing}
use Rattle.commands.proofs.shows.show.Goals as goal

-- what was asked for was shown, by another name
look_as : (old new : Standing) (k l : Look) (before later : Option (List ℕ)) (ending : Ending) → k ≡ l → IsLook old new l before later ending → IsLook old new k before later ending
look_as old new k l before later ending is h = subst (λ (a : Look). IsLook old new a before later ending) (sym is) h

said_as : (old new : Standing) (k l : Look) (before later : Option (List ℕ)) (ending : Ending) → k ≡ l → IsLookSaid old new l before later ending → IsLookSaid old new k before later ending
said_as old new k l before later ending is h = subst (λ (a : Look). IsLookSaid old new a before later ending) (sym is) h

pub returns-in-Stock : goal.returns-in-Stock
returns-in-Stock g c = record { looked = look_as _ _ _ _ _ _ _ c.in-Stock.is c.stock.ensures.looked; caused = c.stock.ensures.caused; said = said_as (g.K.Keeper.standing c.args.book.now) (g.K.Keeper.standing c.stock.new.book) _ _ (g.E.Write.contents c.args.err.now) (g.E.Write.contents c.stock.new.err) c.stock.result c.in-Stock.is c.stock.ensures.said }

pub returns-in-Open : goal.returns-in-Open
returns-in-Open g c = record { looked = look_as _ _ _ _ _ _ _ c.in-Open.is c.open.ensures.looked; caused = c.open.ensures.caused; said = said_as (g.K.Keeper.standing c.args.book.now) (g.K.Keeper.standing c.open.new.book) _ _ (g.E.Write.contents c.args.err.now) (g.E.Write.contents c.open.new.err) c.open.result c.in-Open.is c.open.ensures.said }

pub returns-in-Order : goal.returns-in-Order
returns-in-Order g c = record { looked = look_as _ _ _ _ _ _ _ c.in-Order.is c.order.ensures.looked; caused = c.order.ensures.caused; said = said_as (g.K.Keeper.standing c.args.book.now) (g.K.Keeper.standing c.order.new.book) _ _ (g.E.Write.contents c.args.err.now) (g.E.Write.contents c.order.new.err) c.order.result c.in-Order.is c.order.ensures.said }

pub returns-in-Depositors : goal.returns-in-Depositors
returns-in-Depositors g c = record {
  looked = look_as _ _ _ _ _ _ _ c.in-Depositors.is c.depositors.ensures.looked;
  caused = search rules;
  said = said_as (g.K.Keeper.standing c.args.book.now) (g.K.Keeper.standing c.depositors.new.book) _ _ (g.E.Write.contents c.args.err.now) (g.E.Write.contents c.args.err.now) c.depositors.result c.in-Depositors.is
      (λ clean L kept legal. on_ok c.depositors.result (appends_nothing (g.E.Write.contents c.args.err.now)));
}
