use Rattle.std.proofs.Common.{◌<◌, ◌≤◌, arith, ◌++◌, ◌∷◌, ◌∙◌, [], List, ℕ, length, map, take, ap, sym}
use Rattle.std.specs.Borrow.{Bor}
use Rattle.std.proofs.lemmas.List.{map-append, take_all, take_more}
use Rattle.book_tables.proofs.needed.texts_of.Goals as goal

pub loop-name-preserved : goal.loop-name-preserved
loop-name-preserved c =
    let all = c.args.names.now in
    let i = c.loop-name.name-index in
    let here : i < length all = c.loop-name-test.true in
    ap (map (λ (t : Bor (List ℕ)). t.now)) c.in_ok-push.ensures.items
    ∙ map-append (λ (t : Bor (List ℕ)). t.now) c.loop-name.texts.items (c.bytes.result ∷ [])
    ∙ ap (λ ts. ts ++ c.bytes.result.now ∷ []) c.loop-name.invariant
    ∙ ap (λ t. take i all ++ t ∷ []) (c.bytes.ensures ∙ c.name-item.is)
    ∙ sym (take_more all i c.name-item.result here)

pub returns : goal.returns
returns c =
    let past : length c.args.names.now ≤ c.loop-name.name-index = omega (arith, c.loop-name-test.false) in
    c.loop-name.invariant ∙ take_all c.loop-name.name-index c.args.names.now past
