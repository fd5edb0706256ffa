-- The names by which a server is asked, as a line says them.
use Rattle.std.proofs.Common.{◌≡◌, ◌≤◌, ◌∙◌, ◌-◌, ℕ, zero, suc, List, [], ◌∷◌, ◌++◌, Option, sym, subst, ap, ap₂, refl, length, map, drop, option_map, unwrap_or, codes}
use Rattle.std.specs.Prelude.{replicate}
use Rattle.std.specs.Borrow.{Bor}
use Rattle.std.proofs.lemmas.List.{drop-replicate, map-append, length-map}
use Rattle.clap.specs.Matches.{matched_of, raw_values}
use Rattle.clap.specs.Walk.{Text, rows_of}
use Rattle.clap.specs.declared.parser.matches.Found.{Found}
use Rattle.clap.proofs.WalkLemmas.{raw_values-rows}
use Rattle.command_line.specs.Asked.{values_of, filled, most_hosts, HasFewHosts, SaysHosts}

abbrev pub texts : List (Bor Text) → List Text
texts = map (λ h. h.now)

blanks : (n : ℕ) (blank : Bor Text) → blank.now ≡ [] → texts (replicate n blank) ≡ replicate n []
blanks zero blank is = refl
blanks (suc n) blank is = ap₂ (λ (t : Text) (ts : List Text). t ∷ ts) is (blanks n blank is)

-- names that are copied over empty texts stand before the rest of these
pub copied_over : (names copied : List (Bor Text)) (blank : Bor Text) → blank.now ≡ [] → copied ≡ names
    → texts (copied ++ drop (length names) (replicate most_hosts blank)) ≡ filled (texts names)
copied_over names copied blank is same =
    ap (λ (xs : List (Bor Text)). texts (xs ++ drop (length names) (replicate most_hosts blank))) same
    ∙ map-append (λ (h : Bor Text). h.now) names (drop (length names) (replicate most_hosts blank))
    ∙ ap (λ (ts : List Text). texts names ++ ts) (ap texts (drop-replicate (length names) most_hosts blank)
    ∙ blanks (most_hosts - length names) blank is
    ∙ ap (λ (n : ℕ). replicate (most_hosts - n) []) (sym (length-map names (λ (h : Bor Text). h.now))))

module _ (f : Found) (found : Option (List Text)) (is : found ≡ option_map raw_values (matched_of f (codes "host"))) where
  -- the matches have what the line says
  pub said : values_of (rows_of f) (codes "host") ≡ unwrap_or found []
  said = ap (λ (o : Option (List Text)). unwrap_or o []) (sym (raw_values-rows f (codes "host")) ∙ sym is)

  pub few : length (unwrap_or found []) ≤ most_hosts → HasFewHosts (rows_of f)
  few = subst (λ (ts : List Text). length ts ≤ most_hosts) (sym said)

  pub few_found : HasFewHosts (rows_of f) → length (unwrap_or found []) ≤ most_hosts
  few_found = subst (λ (ts : List Text). length ts ≤ most_hosts) said

  pub says : HasFewHosts (rows_of f) → (hosts : List (Bor Text)) → texts hosts ≡ filled (unwrap_or found []) → SaysHosts (rows_of f) hosts
  says has hosts same = (has, same ∙ ap filled (sym said))

-- as many texts as names
pub as_many : (names : List (Bor Text)) → length (texts names) ≡ length names
as_many names = length-map names (λ (h : Bor Text). h.now)
