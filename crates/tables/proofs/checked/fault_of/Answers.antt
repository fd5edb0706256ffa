use Rattle.std.proofs.Common.{◌≡◌, ◌≤◌, List, [], ◌∷◌, length, refl, ap, sym, ◌∙◌, arith, Some, None}
use Rattle.std.specs.Prelude.{Option}
use Rattle.std.specs.List.{slice_get}
use Rattle.definitions.specs.declared.rules.Rules.{Rules}
use Rattle.definitions.specs.Bytes.{Delims}
use Rattle.definitions.specs.Cut.{Piece, AreOf, segments_of}
use Rattle.definitions.specs.Words.{Words, kind_words}
use Rattle.definitions.specs.Faults.{SetFault, set_fault}
use Rattle.tables.proofs.checked.fault_of.Goals as goal

no_segments : (r : Rules) (d : Delims) (words : Words) (ps : List Piece) → length ps ≤ 0 → set_fault r d words (segments_of ps) ≡ None
no_segments r d words [] h = refl
no_segments r d words (p ∷ ps) h = absurd (omega arith)

pub returns-in-None : goal.returns-in-None
returns-in-None c =
    let none : length c.args.segments.now ≤ 0 = omega (arith, c.in-None.ensures.item) in
    let words = kind_words c.args.rules c.args.kind in (
      record { separator = 42; component = 62; terminator = 126 },
      no_segments c.args.rules _ words c.args.segments.now none,
      λ d a. no_segments c.args.rules d words c.args.segments.now none,
    )

-- the first segment has the delimiters that all have
first_delims : (d e : Delims) (p : Piece) (ps : List Piece) → Some p ≡ slice_get ps 0 → e ≡ p.delims → AreOf d ps → d ≡ e
first_delims d e p [] f h a = absurd (cc)
first_delims d e p (q ∷ ps) f h a = let same : p ≡ q = cc in sym (h ∙ (ap (λ (s : Piece). s.delims) same ∙ a.0))

pub returns-in-Some : goal.returns-in-Some
returns-in-Some c =
    let words = kind_words c.args.rules c.args.kind in
    let judged : Delims → Option SetFault = λ d. set_fault c.args.rules d words (segments_of c.args.segments.now) in (
      c.delims.result,
      sym c.first_fault.ensures,
      λ d a. ap judged (first_delims d c.delims.result c.in-Some.first.now c.args.segments.now c.in-Some.ensures.value c.delims.ensures a)
          ∙ sym c.first_fault.ensures,
    )
