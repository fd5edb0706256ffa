use Rattle.std.proofs.Common.{ℕ, List, ◌++◌, ap, ◌∙◌}
use Rattle.definitions.specs.Bytes.{Delims}
use Rattle.definitions.specs.Header.{delims_of}
use Rattle.sets_out.specs.Headings.{Heading, heading_of}
use Rattle.sets_out.specs.Interchanges.{refusal_of}
use Rattle.entries.proofs.answers.refusal.Goals as goal

pub returns : goal.returns
returns c =
    let text : Delims → Heading → ℕ → List ℕ = λ d h note. refusal_of d c.args.warehouse c.args.moment h note in
    c.in_ok-write_interchange.ensures.ok
    ∙ ap (λ (before : List ℕ). before ++ text c.delims.result c.heading-heading.result c.from.result) c.new-text.ensures.items
    ∙ ap (λ (d : Delims). text d c.heading-heading.result c.from.result) c.delims.ensures.value
    ∙ ap (λ (h : Heading). text (delims_of c.args.header.now) h c.from.result) c.heading-heading.ensures
    ∙ ap (λ (note : ℕ). text (delims_of c.args.header.now) (heading_of c.args.header.now) note) c.from.ensures
