use Rattle.std.proofs.Common.{◌≡◌, ℕ, ◌+◌, ◌<◌, List, [], ◌++◌, length, get_or, take, codes, Bor, ap, sym, ◌∙◌, append_assoc}
use Rattle.std.proofs.lemmas.List.{flat_map_more, take_more}
use Rattle.http_client.specs.Requests.{path_bytes}
use Rattle.http_client.proofs.remote.paths.path_of.Goals as goal

-- the part at `i` stands after those before it
more : (parts : List (Bor (List ℕ))) (i : ℕ) (part : Bor (List ℕ)) (before begun now : List ℕ) → i < length parts
    → before ≡ path_bytes (take i parts) → begun ≡ before ++ codes "/" → now ≡ begun ++ (get_or parts i part).now
    → now ≡ path_bytes (take (i + 1) parts)
more parts i part before begun now h is slash named =
    named
    ∙ ap (λ (b : List ℕ). b ++ (get_or parts i part).now) (slash ∙ ap (λ (b : List ℕ). b ++ codes "/") is)
    ∙ append_assoc (path_bytes (take i parts)) (codes "/") (get_or parts i part).now
    ∙ flat_map_more (λ (p : Bor (List ℕ)). codes "/" ++ p.now) [] (take i parts) (get_or parts i part)
    ∙ ap path_bytes (sym (take_more parts i part h))

pub loop-part-preserved : goal.loop-part-preserved
loop-part-preserved c =
    more c.args.parts.now c.loop-part.part-index _ _ _ _ c.loop-part-test.true c.loop-part.invariant
    c.in_ok-push_str.ensures.bytes c.in_ok-push_str-2.ensures.bytes
