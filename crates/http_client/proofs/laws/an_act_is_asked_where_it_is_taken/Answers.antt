use Rattle.http_client.proofs.PathLaws.{deed_found}
use Rattle.http_client.proofs.laws.an_act_is_asked_where_it_is_taken.Goals as goal

pub returns : goal.returns
returns c = λ who named. let t = c.args.words.now in deed_found t.kind t.who.now t.ticket.now t.number.now who named
