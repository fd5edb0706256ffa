use Rattle.std.proofs.Common.{◌≡◌, take, string_bytes}
use Rattle.http_client.specs.Requests.{path_bytes}
use Rattle.http_client.proofs.remote.paths.path_of.Given as goal

abbrev pub invariant-loop-part : goal.invariant-loop-part
invariant-loop-part l = string_bytes l.path ≡ path_bytes (take l.part-index l.parts)
