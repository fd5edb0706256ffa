use Rattle.app.proofs.from_file.settle.Goals as goal

pub returns : goal.returns
returns g c = λ opened db may. g.met.S.Store.settled c.args.database.now.store db opened may
