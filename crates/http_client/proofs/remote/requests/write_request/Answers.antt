use Rattle.std.proofs.Common.{List, ℕ, ◌++◌, codes, ap, ◌∙◌}
use Rattle.http_client.specs.Requests.{opening, length_field, closing}
use Rattle.http_client.proofs.remote.requests.write_request.Goals as goal

pub returns-in-Get : goal.returns-in-Get
returns-in-Get g c =
    rw (c.in-Get.is, ← c.get_pieces.ensures) c.write_pieces.ensures

pub returns-in-Post : goal.returns-in-Post
returns-in-Post g c =
    let digits = c.as_bytes-digits.ensures.value ∙ c.format.ensures.text in
    let written = c.post_pieces.ensures ∙ ap (λ (d : List ℕ).
    opening (codes "POST") c.args.request.now.path.now c.args.host.now ++ length_field d ++ closing
    ++ c.args.request.now.body.now) digits in
    rw (c.in-Post.is, ← written) c.write_pieces-in-Post.ensures
