use Rattle.std.proofs.Common.{ℕ, List, ◌++◌, ap, ◌∙◌}
use Rattle.definitions.specs.Bytes.{Delims}
use Rattle.definitions.specs.Header.{delims_of}
use Rattle.definitions.specs.Texts.{Told}
use Rattle.sets_out.specs.Headings.{Heading}
use Rattle.sets_out.specs.Interchanges.{answer_of}
use Rattle.entries.proofs.answers.answer.Goals as goal

pub returns : goal.returns
returns c =
    let e = c.args.envelope in
    let text : Delims → Heading → List Told → List ℕ = λ d h ts. answer_of d e.warehouse e.depositor e.moment e.number h ts in
    c.in_ok-write_interchange.ensures.ok
    ∙ ap (λ (before : List ℕ). before ++ text c.delims.result c.heading-heading.result c.args.groups.now) c.new-text.ensures.items
    ∙ ap (λ (d : Delims). text d c.heading-heading.result c.args.groups.now) c.delims.ensures.value
    ∙ ap (λ (h : Heading). text (delims_of c.args.header.now) h c.args.groups.now) c.heading-heading.ensures
