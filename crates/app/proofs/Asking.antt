-- the words of a line gone over one by one
use Rattle.std.proofs.Common.{◌≡◌, ◌<◌, ◌+◌, ℕ, true, false, List, [], ◌∷◌, ◌++◌, length, drop, Option, Some, None, option_map, ap, sym, ◌∙◌, refl}
use Rattle.std.specs.Borrow.{Bor}
use Rattle.std.specs.Prelude.{slice_index_or}
use Rattle.std.proofs.lemmas.List.{drop_more, append_assoc}
use Rattle.app.specs.Explaining.{asks, ends_options, without_asking}

module _ (words line : List (Bor (List ℕ))) (at : ℕ) (d : Bor (List ℕ)) (within : at < length words)
    (so_far : without_asking words ≡ option_map (λ t. line ++ t) (without_asking (drop at words))) where
  here : without_asking (drop at words) ≡ without_asking (slice_index_or words at d ∷ drop (at + 1) words)
  here = ap without_asking (drop_more words at d within)

  told : asks (slice_index_or words at d) ≡ true → without_asking (slice_index_or words at d ∷ drop (at + 1) words) ≡ Some (drop (at + 1) words)
  told is = rw (is) refl

  none : asks (slice_index_or words at d) ≡ false → ends_options (slice_index_or words at d) ≡ true → without_asking (slice_index_or words at d ∷ drop (at + 1) words) ≡ None
  none plain is = rw (plain, is) refl

  more : asks (slice_index_or words at d) ≡ false → ends_options (slice_index_or words at d) ≡ false
      → without_asking (slice_index_or words at d ∷ drop (at + 1) words) ≡ option_map (λ t. slice_index_or words at d ∷ t) (without_asking (drop (at + 1) words))
  more plain goes = rw (plain, goes) refl

  joins : (w : Bor (List ℕ)) (rest : Option (List (Bor (List ℕ)))) → option_map (λ t. line ++ t) (option_map (λ t. w ∷ t) rest) ≡ option_map (λ t. (line ++ w ∷ []) ++ t) rest
  joins w None = refl
  joins w (Some t) = ap Some (sym (append_assoc line (w ∷ []) t))

  pub asked : asks (slice_index_or words at d) ≡ true → without_asking words ≡ Some (line ++ drop (at + 1) words)
  asked is = so_far ∙ ap (option_map (λ t. line ++ t)) (here ∙ told is)

  pub ended : asks (slice_index_or words at d) ≡ false → ends_options (slice_index_or words at d) ≡ true → without_asking words ≡ None
  ended plain is = so_far ∙ ap (option_map (λ t. line ++ t)) (here ∙ none plain is)

  pub went_on : asks (slice_index_or words at d) ≡ false → ends_options (slice_index_or words at d) ≡ false
      → without_asking words ≡ option_map (λ t. (line ++ slice_index_or words at d ∷ []) ++ t) (without_asking (drop (at + 1) words))
  went_on plain goes = so_far ∙ ap (option_map (λ t. line ++ t)) (here ∙ more plain goes) ∙ joins (slice_index_or words at d) (without_asking (drop (at + 1) words))
