-- Interchanges that are moved one after the other, and what is told of each.
use Rattle.std.proofs.Common.{◌≡◌, ◌∙◌, ◌<◌, ◌+◌, sym, refl, ap, subst, ℕ, List, [], ◌∷◌, ◌++◌, All, String, Global, map, take, get_or, length}
use Rattle.std.specs.List.{filter_map}
use Rattle.std.specs.Option.{option_to_list}
use Rattle.std.proofs.lemmas.List.{append_assoc, map-append}
use Rattle.std.proofs.lemmas.List.Elements.{All-more, filter_map-append}
use Rattle.folders.specs.Claims.{Claimed, told_staying}
use Rattle.folders.specs.declared.claims.Claim.{Claim}
use Rattle.folders.specs.declared.claims.Claim.TheVariants.{Moved, Gone, Stays}
use Rattle.folders.specs.declared.folder.Taken.{Taken}
use Rattle.folders.specs.declared.staying.Staying.{Staying}

-- one name goes over from those that are to come
pub named_more : (files : List Claimed) (file : Claimed) (rest more names : List (String Global)) → rest ≡ file.name ∷ more → map (λ (f : Claimed). f.name) files ++ rest ≡ names
    → map (λ (f : Claimed). f.name) (files ++ file ∷ []) ++ more ≡ names
named_more files file rest more names next each =
    ap (λ (ns : List (String Global)). ns ++ more) (map-append (λ (f : Claimed). f.name) files (file ∷ []))
    ∙ append_assoc (map (λ (f : Claimed). f.name) files) (file.name ∷ []) more
    ∙ ap (λ (ns : List (String Global)). map (λ (f : Claimed). f.name) files ++ ns) (sym next) ∙ each

told_one : (name : String Global) (claim : Claim) → filter_map (λ (f : Claimed). told_staying f.name f.claim) (record { name = name; claim = claim } ∷ []) ≡ option_to_list (told_staying name claim)
told_one name Moved = refl
told_one name Gone = refl
told_one name (Stays why) = refl

pub told_more : (files : List Claimed) (name : String Global) (claim : Claim) (old new : List Staying) → old ≡ filter_map (λ (f : Claimed). told_staying f.name f.claim) files
    → new ≡ old ++ option_to_list (told_staying name claim) → new ≡ filter_map (λ (f : Claimed). told_staying f.name f.claim) (files ++ record { name = name; claim = claim } ∷ [])
told_more files name claim old new before grown =
    grown ∙ ap (λ (es : List Staying). es ++ option_to_list (told_staying name claim)) before
    ∙ ap (λ (es : List Staying). filter_map (λ (f : Claimed). told_staying f.name f.claim) files ++ es) (sym (told_one name claim))
    ∙ sym (filter_map-append (λ (f : Claimed). told_staying f.name f.claim) files _)

-- P holds of one file more
pub each_more : (P : Taken → Type 0) (files : List Taken) (i : ℕ) (file : Taken) → file ≡ get_or files i file → i < length files → All P (take i files) → P file → All P (take (i + 1) files)
each_more P files i file is h before here = All-more P files i file h before (subst P is here)
