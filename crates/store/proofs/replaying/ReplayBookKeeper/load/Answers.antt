use Rattle.definitions.specs.Decision.{standing}
use Rattle.definitions.specs.Register.{own}
use Rattle.store.proofs.replaying.ReplayBookKeeper.load.Goals as goal

pub returns-clause-page : goal.returns-clause-page
returns-clause-page c = λ clean L keeps legal. c.whole.ensures.held c.args._need.now (standing (own L c.args.who)) (c.in_ok-page.ensures.page L keeps legal)
