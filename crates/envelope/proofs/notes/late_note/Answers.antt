-- Each note by the conditions before it.
use Rattle.std.proofs.Common.{◌++◌, [], ◌∷◌, ℕ, Bool, List, refl}
use Rattle.std.specs.Prelude.{codes, bytes_eq}
use Rattle.definitions.specs.Bytes.{is_one_of}
use Rattle.definitions.specs.Moments.{is_date, is_clock}
use Rattle.envelope.proofs.NoteLemmas.{told}
use Rattle.envelope.proofs.notes.late_note.Goals as goal

abbrev is_dated : List ℕ → Bool
is_dated t = is_date (codes "20" ++ t)

abbrev is : List ℕ → List ℕ → Bool
is text t = bytes_eq t text

pub returns-then-not-is_date : goal.returns-then-not-is_date
returns-then-not-is_date c =
    let date = told is_dated _ _ _ _ c.element.ensures.value c.is_date.ensures c.if-not-is_date.true in
    rw date refl

pub returns-then-not-is_clock : goal.returns-then-not-is_clock
returns-then-not-is_clock c =
    let date = told is_dated _ _ _ _ c.element.ensures.value c.is_date.ensures c.if-not-is_date.false in
    let clock = told is_clock _ _ _ _ c.element-2.ensures.value c.is_clock.ensures c.if-not-is_clock.true in
    rw (date, clock) refl

pub returns-then-not-same : goal.returns-then-not-same
returns-then-not-same c =
    let date = told is_dated _ _ _ _ c.element.ensures.value c.is_date.ensures c.if-not-is_date.false in
    let clock = told is_clock _ _ _ _ c.element-2.ensures.value c.is_clock.ensures c.if-not-is_clock.false in
    let standard = told (is (codes "U")) _ _ _ _ c.element-3.ensures.value c.same.ensures c.if-not-same.true in
    rw (date, clock, standard) refl

pub returns-then-not-same-2 : goal.returns-then-not-same-2
returns-then-not-same-2 c =
    let date = told is_dated _ _ _ _ c.element.ensures.value c.is_date.ensures c.if-not-is_date.false in
    let clock = told is_clock _ _ _ _ c.element-2.ensures.value c.is_clock.ensures c.if-not-is_clock.false in
    let standard = told (is (codes "U")) _ _ _ _ c.element-3.ensures.value c.same.ensures c.if-not-same.false in
    let version = told (is (codes "00401")) _ _ _ _ c.element-4.ensures.value c.same-2.ensures c.if-not-same-2.true in
    rw (date, clock, standard, version) refl

pub returns-then-not-is_request : goal.returns-then-not-is_request
returns-then-not-is_request c =
    let date = told is_dated _ _ _ _ c.element.ensures.value c.is_date.ensures c.if-not-is_date.false in
    let clock = told is_clock _ _ _ _ c.element-2.ensures.value c.is_clock.ensures c.if-not-is_clock.false in
    let standard = told (is (codes "U")) _ _ _ _ c.element-3.ensures.value c.same.ensures c.if-not-same.false in
    let version = told (is (codes "00401")) _ _ _ _ c.element-4.ensures.value c.same-2.ensures c.if-not-same-2.false in
    let request = told (is_one_of (codes "0" ∷ codes "1" ∷ [])) _ _ _ _ c.element-5.ensures.value c.is_request.ensures c.if-not-is_request.true in
    rw (date, clock, standard, version, request) refl

pub returns-then-not-same-3 : goal.returns-then-not-same-3
returns-then-not-same-3 c =
    let date = told is_dated _ _ _ _ c.element.ensures.value c.is_date.ensures c.if-not-is_date.false in
    let clock = told is_clock _ _ _ _ c.element-2.ensures.value c.is_clock.ensures c.if-not-is_clock.false in
    let standard = told (is (codes "U")) _ _ _ _ c.element-3.ensures.value c.same.ensures c.if-not-same.false in
    let version = told (is (codes "00401")) _ _ _ _ c.element-4.ensures.value c.same-2.ensures c.if-not-same-2.false in
    let request = told (is_one_of (codes "0" ∷ codes "1" ∷ [])) _ _ _ _ c.element-5.ensures.value c.is_request.ensures c.if-not-is_request.false in
    let usage = told (is (codes "P")) _ _ _ _ c.element-6.ensures.value c.same-3.ensures c.if-not-same-3.true in
    rw (date, clock, standard, version, request, usage) refl

pub returns : goal.returns
returns c =
    let date = told is_dated _ _ _ _ c.element.ensures.value c.is_date.ensures c.if-not-is_date.false in
    let clock = told is_clock _ _ _ _ c.element-2.ensures.value c.is_clock.ensures c.if-not-is_clock.false in
    let standard = told (is (codes "U")) _ _ _ _ c.element-3.ensures.value c.same.ensures c.if-not-same.false in
    let version = told (is (codes "00401")) _ _ _ _ c.element-4.ensures.value c.same-2.ensures c.if-not-same-2.false in
    let request = told (is_one_of (codes "0" ∷ codes "1" ∷ [])) _ _ _ _ c.element-5.ensures.value c.is_request.ensures c.if-not-is_request.false in
    let usage = told (is (codes "P")) _ _ _ _ c.element-6.ensures.value c.same-3.ensures c.if-not-same-3.false in
    rw (date, clock, standard, version, request, usage) refl
