-- Each note by the conditions before it.
use Rattle.std.proofs.Common.{ℕ, Bool, List, refl, sym, ◌∙◌}
use Rattle.std.specs.Prelude.{codes, bytes_eq}
use Rattle.std.specs.List.{list_all}
use Rattle.definitions.specs.Bytes.{is_space}
use Rattle.envelope.proofs.NoteLemmas.{told}
use Rattle.envelope.proofs.notes.header_note.Goals as goal

abbrev is_none_stated : List ℕ → Bool
is_none_stated t = bytes_eq t (codes "00")

pub returns-then-not-is_addressed_to : goal.returns-then-not-is_addressed_to
returns-then-not-is_addressed_to c =
    let receiver = sym c.is_addressed_to.ensures ∙ c.if-not-is_addressed_to.true in
    rw receiver refl

pub returns-then-not-same : goal.returns-then-not-same
returns-then-not-same c =
    let receiver = sym c.is_addressed_to.ensures ∙ c.if-not-is_addressed_to.false in
    let authorized = told is_none_stated _ _ _ _ c.element.ensures.value c.same.ensures c.if-not-same.true in
    rw (receiver, authorized) refl

pub returns-then-not-all_spaces : goal.returns-then-not-all_spaces
returns-then-not-all_spaces c =
    let receiver = sym c.is_addressed_to.ensures ∙ c.if-not-is_addressed_to.false in
    let authorized = told is_none_stated _ _ _ _ c.element.ensures.value c.same.ensures c.if-not-same.false in
    let authorization = told (list_all is_space) _ _ _ _ c.element-2.ensures.value c.all_spaces.ensures c.if-not-all_spaces.true in
    rw (receiver, authorized, authorization) refl

pub returns-then-not-same-2 : goal.returns-then-not-same-2
returns-then-not-same-2 c =
    let receiver = sym c.is_addressed_to.ensures ∙ c.if-not-is_addressed_to.false in
    let authorized = told is_none_stated _ _ _ _ c.element.ensures.value c.same.ensures c.if-not-same.false in
    let authorization = told (list_all is_space) _ _ _ _ c.element-2.ensures.value c.all_spaces.ensures c.if-not-all_spaces.false in
    let secured = told is_none_stated _ _ _ _ c.element-3.ensures.value c.same-2.ensures c.if-not-same-2.true in
    rw (receiver, authorized, authorization, secured) refl

pub returns-then-not-all_spaces-2 : goal.returns-then-not-all_spaces-2
returns-then-not-all_spaces-2 c =
    let receiver = sym c.is_addressed_to.ensures ∙ c.if-not-is_addressed_to.false in
    let authorized = told is_none_stated _ _ _ _ c.element.ensures.value c.same.ensures c.if-not-same.false in
    let authorization = told (list_all is_space) _ _ _ _ c.element-2.ensures.value c.all_spaces.ensures c.if-not-all_spaces.false in
    let secured = told is_none_stated _ _ _ _ c.element-3.ensures.value c.same-2.ensures c.if-not-same-2.false in
    let security = told (list_all is_space) _ _ _ _ c.element-4.ensures.value c.all_spaces-2.ensures c.if-not-all_spaces-2.true in
    rw (receiver, authorized, authorization, secured, security) refl

pub returns : goal.returns
returns c =
    let receiver = sym c.is_addressed_to.ensures ∙ c.if-not-is_addressed_to.false in
    let authorized = told is_none_stated _ _ _ _ c.element.ensures.value c.same.ensures c.if-not-same.false in
    let authorization = told (list_all is_space) _ _ _ _ c.element-2.ensures.value c.all_spaces.ensures c.if-not-all_spaces.false in
    let secured = told is_none_stated _ _ _ _ c.element-3.ensures.value c.same-2.ensures c.if-not-same-2.false in
    let security = told (list_all is_space) _ _ _ _ c.element-4.ensures.value c.all_spaces-2.ensures c.if-not-all_spaces-2.false in
    rw (receiver, authorized, authorization, secured, security) c.late_note.ensures
