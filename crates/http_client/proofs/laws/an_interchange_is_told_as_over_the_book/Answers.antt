use Rattle.http_client.proofs.ToldLaws.{interchange_told}
use Rattle.http_client.proofs.laws.an_interchange_is_told_as_over_the_book.Goals as goal

pub returns : goal.returns
returns c = interchange_told c.args.reply.now
