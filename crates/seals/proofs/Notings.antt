-- What is noted of a register that grows.
use Rattle.std.proofs.Common.{◌≡◌, ◌+◌, ◌-◌, ℕ, Some, List, [], ◌∷◌, ◌++◌, length, slice_get, refl, ap, ◌∙◌, arith}
use Rattle.std.specs.Prelude.{option_map}
use Rattle.std.proofs.lemmas.List.{length_push}
use Rattle.std.proofs.lemmas.List.Sums.{fold-append}
use Rattle.definitions.specs.Register.{Entry}
use Rattle.rules.specs.Written.{written}
use Rattle.store.specs.Extent.{last_moment}
use Rattle.store.specs.Replayed.{all_written}
use Rattle.seals.specs.Noted.{noted_after, noted_of}
use Rattle.seals.specs.Seals.{blank_seal, seal_after, seal_of, seal_on}
use Rattle.seals.proofs.Chains.{written_on-append}

-- the last is the one that was added
added : (L : List Entry) (e : Entry) → slice_get (L ++ e ∷ []) (length L) ≡ Some e
added [] e = refl
added (x ∷ L) e = added L e

last_added : (L : List Entry) (e : Entry) → last_moment (L ++ e ∷ []) ≡ Some e.moment
last_added L e =
    let long : length (L ++ e ∷ []) - 1 ≡ length L = omega (arith, length_push L e) in
    ap (λ (n : ℕ). option_map (λ (f : Entry). f.moment) (slice_get (L ++ e ∷ []) n)) long
    ∙ ap (option_map (λ (f : Entry). f.moment)) (added L e)

seal_added : (L : List Entry) (e : Entry) → seal_of (L ++ e ∷ []) ≡ seal_after (seal_of L) (written L e)
seal_added L e = ap (seal_on blank_seal) (written_on-append [] L (e ∷ [])) ∙ fold-append seal_after blank_seal (all_written L) (written L e ∷ [])

pub noted_added : (L : List Entry) (e : Entry) → noted_of (L ++ e ∷ []) ≡ noted_after (noted_of L) (written L e)
noted_added L e =
    let long : length (L ++ e ∷ []) ≡ length L + 1 = length_push L e in
    let seal = seal_added L e in
    let last = last_added L e in
    (λ i. (long i, seal i, last i))
