use Rattle.http_client.proofs.ToldLaws.{act_told}
use Rattle.http_client.proofs.laws.an_act_is_told_as_over_the_book.Goals as goal

pub returns : goal.returns
returns c = act_told c.args.reply.now
