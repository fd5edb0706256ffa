-- The texts of interchanges, from what they are written from.
use Rattle.std.specs.Prelude.{ℕ, Bool, List, [], ◌∷◌, ◌++◌, length, map, if◌then◌else◌, ◌==◌, Some, None, codes, decimal}
use Rattle.definitions.specs.Bytes.{Delims, zero_filled}
use Rattle.definitions.specs.Cut.{Segment}
use Rattle.definitions.specs.Moments.{Moment}
use Rattle.definitions.specs.Header.{Who}
use Rattle.definitions.specs.Texts.{Receiver, Told, isa_segment, body_997, document_text, group_of_sets, interchange, receiver_of}
use Rattle.sets_out.specs.Headings.{Heading, ta1_of}
use Rattle.sets_out.specs.Handed.{function_of, number_of, body_of}
use Rattle.sets_out.specs.declared.envelopes.Envelope.{Envelope}
use Rattle.sets_out.specs.declared.sheets.Document.{Document}
use Rattle.sets_out.specs.declared.interchanges.Answer.{Answer}
use Rattle.sets_out.specs.declared.interchanges.NoteAnswer.{NoteAnswer}
use Rattle.sets_out.specs.declared.interchanges.Outgoing.{Outgoing}
use Rattle.sets_out.specs.declared.interchanges.Outgoing.TheVariants.{Answered, Refused, Documented}

-- the segments of an interchange
abbrev pub interchange_segments : Delims → Who → Receiver → Moment → ℕ → List Segment → ℕ
    → List Segment
interchange_segments d W r t n between groups =
    isa_segment d W r t n ∷ between ++ (codes "IEA" ∷ decimal groups ∷ zero_filled 9 n ∷ []) ∷ []

-- the TA1 of an interchange that asks for one
abbrev pub acknowledged : Heading → List Segment
acknowledged h = if h.asks then ta1_of h None ∷ [] else []

-- one group of acknowledgments, if there are any
abbrev pub groups_for : List Told → ℕ
groups_for ts = if length ts == 0 then 0 else 1

abbrev pub answers_group : Who → Who → Moment → ℕ → List Told → List Segment
answers_group W w t n ts =
    if length ts == 0 then []
    else group_of_sets W w t n (codes "FA") (codes "997") (map body_997 ts)

abbrev pub between : Who → Who → Moment → ℕ → Heading → List Told → List Segment
between W w t n h ts = acknowledged h ++ answers_group W w t n ts

-- the answer to an interchange, from its ISA and what its groups are told; empty where there is
-- nothing to say
abbrev pub answer_of : Delims → Who → Who → Moment → ℕ → Heading → List Told → List ℕ
answer_of d W w t n h ts =
    if length (between W w t n h ts) == 0 then []
    else interchange d W (receiver_of w) t n (between W w t n h ts) (groups_for ts)

-- the interchange that refuses one with a note
abbrev pub refusal_of : Delims → Who → Moment → Heading → ℕ → List ℕ
refusal_of d W t h note =
    interchange d W (record { qualifier = h.qualifier; id = h.id }) t 0 (ta1_of h (Some note)
    ∷ []) 0

-- The text of what is handed over to be written.

abbrev pub is_silence : Answer → Bool
is_silence a =
    let e = a.envelope in
    length (between e.warehouse e.depositor e.moment e.number a.heading.now a.told.now) == 0

abbrev pub whole_answer : Answer → List ℕ
whole_answer a =
    let e = a.envelope in
    interchange a.delims e.warehouse (receiver_of e.depositor) e.moment e.number
    (between e.warehouse e.depositor e.moment e.number a.heading.now a.told.now)
    (groups_for a.told.now)

abbrev pub answer_text : Answer → List ℕ
answer_text a =
    let e = a.envelope in
    answer_of a.delims e.warehouse e.depositor e.moment e.number a.heading.now a.told.now

abbrev pub refusal_text : NoteAnswer → List ℕ
refusal_text r = refusal_of r.delims r.warehouse r.moment r.heading.now r.note

abbrev pub handed_text : Envelope → Document → List ℕ
handed_text e d =
    document_text e.warehouse e.depositor e.moment e.number (function_of d) (number_of d)
    (body_of e.moment e.number d)

abbrev pub interchange_text : Outgoing → List ℕ
interchange_text (Answered a) = answer_text a.now
interchange_text (Refused r) = refusal_text r.now
interchange_text (Documented e d) = handed_text e.now d.now
