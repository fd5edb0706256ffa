use Rattle.http_client.proofs.Written.{get_is}
use Rattle.http_client.proofs.remote.requests.get_pieces.Goals as goal

pub returns : goal.returns
returns c = rw (c.as_bytes-path.ensures.value, c.as_bytes-host.ensures.value) (get_is c.args.path.now c.args.host.now)
