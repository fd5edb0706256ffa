use Rattle.http_client.proofs.Written.{post_is}
use Rattle.http_client.proofs.remote.requests.post_pieces.Goals as goal

pub returns : goal.returns
returns c = rw (c.as_bytes-path.ensures.value, c.as_bytes-host.ensures.value) (post_is c.args.path.now c.args.host.now c.args.digits.now c.args.body.now)
