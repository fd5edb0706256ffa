use Rattle.http_client.proofs.ListedLaws.{list_tells}
use Rattle.http_client.proofs.laws.a_list_tells_its_documents.Goals as goal

pub returns : goal.returns
returns c = list_tells c.args.rows.now
