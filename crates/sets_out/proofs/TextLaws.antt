-- The layouts' own texts are those of what is handed over.
use Rattle.std.proofs.Common.{◌≡◌, ℕ, List, [], ◌∷◌, ◌++◌, map, length, refl, sym, ◌∙◌, ap, Some, None}
use Rattle.std.specs.Prelude.{◌==◌, if◌then◌else◌, codes, bytes_eq, Option}
use Rattle.std.proofs.Math.Dec.{eqb-suc-zero}
use Rattle.std.proofs.lemmas.Simd.{map-map}
use Rattle.definitions.specs.Bytes.{Delims}
use Rattle.definitions.specs.Cut.{Segment}
use Rattle.definitions.specs.Moments.{Moment}
use Rattle.definitions.specs.Header.{Who, isa, delims_of}
use Rattle.definitions.specs.History.{Telling}
use Rattle.definitions.specs.Texts.{Told, answer, answered, told_of, ta1, body_997, group_of_sets, interchange, receiver_of}
use Rattle.sets_out.specs.Headings.{heading_of, ta1_of}
use Rattle.sets_out.specs.Interchanges.{answer_of, answers_group, groups_for}

pub ta1-heading : (text : List ℕ) (note : Option ℕ) → ta1 text note ≡ ta1_of (heading_of text) note
ta1-heading text None = refl
ta1-heading text (Some note) = refl

-- an answer, from its TA1 and the bodies of its 997s
abbrev answer_from : Delims → Who → Who → Moment → ℕ → List Segment → List (List Segment) → List ℕ
answer_from d W w t n acknowledged bodies =
    let groups = (if length bodies == 0 then 0 else 1) in
    let between = acknowledged ++ (if groups == 0 then [] else group_of_sets W w t n (codes "FA") (codes "997") bodies) in
    if length between == 0 then [] else interchange d W (receiver_of w) t n between groups

from_told : (d : Delims) (W w : Who) (t : Moment) (n : ℕ) (acknowledged : List Segment) (ts : List Told)
    → answer_from d W w t n acknowledged (map body_997 ts)
    ≡ (if length (acknowledged ++ answers_group W w t n ts) == 0 then [] else interchange d W (receiver_of w) t n (acknowledged ++ answers_group W w t n ts) (groups_for ts))
from_told d W w t n acknowledged [] = refl
from_told d W w t n acknowledged (x ∷ ts) = rw (eqb-suc-zero (length ts), eqb-suc-zero (length (map body_997 ts))) refl

pub answer-told : (W w : Who) (t : Moment) (n : ℕ) (text : List ℕ) (ts : List Telling)
    → answer W w t n text ts ≡ answer_of (delims_of text) W w t n (heading_of text) (map told_of (answered ts))
answer-told W w t n text ts =
    let acknowledged : List Segment = (if bytes_eq (isa text 14) (codes "1") then ta1 text None ∷ [] else []) in
    ap (answer_from (delims_of text) W w t n acknowledged) (sym (map-map body_997 told_of (answered ts)))
    ∙ from_told (delims_of text) W w t n acknowledged (map told_of (answered ts))
