use Rattle.std.proofs.Common.{◌≡◌, ◌∙◌, ap, sym, Some, None}
use Rattle.definitions.specs.Page.{page_of}
use Rattle.definitions.specs.Register.{own}
use Rattle.rules.specs.Pages.{PageFacts, document_at}
use Rattle.rules.specs.Keyed.{put_document}
use Rattle.rules.proofs.Gathered.{document_absent, document_part}
use Rattle.rules.specs.Naming.{facts_of}
use Rattle.rules.proofs.Defines.{page_in_order}
use Rattle.book_tables.proofs.connected.Tables.with_document.Goals as goal

pub returns-in_ok-with_document-in-Some-clause-found : goal.returns-in_ok-with_document-in-Some-clause-found
returns-in_ok-with_document-in-Some-clause-found g c = λ clean W L stands n is.
    let M = own L c.args.who in
    let found : document_at c.args.n (page_of M).documents ≡ Some c.in-Some.document = sym (c.in_ok-document.ensures.document clean W L stands) ∙ c.in-Some.is in
    c.in_ok-with_document-in-Some.ensures ∙ ap (λ (d : PageFacts). record d { documents = put_document c.in-Some.document d.documents }) is
    ∙ document_part n (facts_of (page_of M)) (page_in_order M) c.args.n c.in-Some.document found

pub returns-in-None-clause-found : goal.returns-in-None-clause-found
returns-in-None-clause-found g c = λ clean W L stands n is.
    let M = own L c.args.who in
    let none : document_at c.args.n (page_of M).documents ≡ None = sym (c.in_ok-document.ensures.document clean W L stands) ∙ c.in-None.is in
    is ∙ document_absent n (facts_of (page_of M)) c.args.n none
