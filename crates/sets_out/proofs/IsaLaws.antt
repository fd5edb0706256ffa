-- ISA, whose sides are written each by itself.
use Rattle.std.proofs.Common.{◌≡◌, ℕ, List, [], ◌∷◌, ◌++◌, ◌∙◌, refl, append_assoc}
use Rattle.std.specs.Prelude.{flat_map}
use Rattle.std.proofs.lemmas.Grind.{flat_map-append}
use Rattle.definitions.specs.Bytes.{Delims}
use Rattle.definitions.specs.Cut.{Segment, joined, spelled}

-- an opening, two sides and a closing are one segment
pub isa_whole : (d : Delims) (a b c e f first : List ℕ) (opening one two closing : Segment)
    → b ≡ a ++ joined d.separator (first ∷ opening)
    → c ≡ b ++ flat_map (λ x. d.separator ∷ x) one
    → e ≡ c ++ flat_map (λ x. d.separator ∷ x) two
    → f ≡ e ++ (flat_map (λ x. d.separator ∷ x) closing ++ d.terminator ∷ [])
    → f ≡ a ++ spelled d (first ∷ (opening ++ (one ++ (two ++ closing))))
isa_whole d a b c e f first opening one two closing hb hc he hf =
    let g : List ℕ → List ℕ = λ x. d.separator ∷ x in
    hf ∙ rw (he, hc, hb, flat_map-append g opening (one ++ (two ++ closing)), flat_map-append g one (two ++ closing), flat_map-append g two closing) (simp append_assoc refl)
