use Rattle.http_client.proofs.ReadingBack.{read_back}
use Rattle.http_client.proofs.remote.laws.a_server_reads_what_is_asked.Goals as goal

pub returns : goal.returns
returns c = λ verb path host body about text to short. read_back verb path host body about text to short
