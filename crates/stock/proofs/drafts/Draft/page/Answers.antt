use Rattle.std.proofs.Common.{◌≡◌, true, false, refl, sym, ◌∙◌, subst}
use Rattle.page_rows.specs.Pages.{AreSorted, IsSound, PageFacts}
use Rattle.page_rows.specs.Soundness.{is_kept}
use Rattle.stock.specs.Facts.{facts_of}
use Rattle.stock.proofs.SoundLaws.{kept_sound, sound_kept}
use Rattle.stock.proofs.drafts.Draft.page.Goals as goal

pub returns-then-not-is_kept : goal.returns-then-not-is_kept
returns-then-not-is_kept c = λ sound.
    let p : PageFacts = record (facts_of c.self.inside.facts) { recent = 0 } in
    let at : c.is_kept.result ≡ is_kept p = c.is_kept.ensures in
    let here : IsSound p = subst (λ (q : PageFacts). IsSound (record q { recent = 0 })) (sym c.self.view_is) sound in
    let no : true ≡ false = sym (sound_kept p refl here) ∙ sym at ∙ c.if-not-is_kept.true in
    absurd (cc (no))

pub invariant_of-result : goal.invariant_of-result
invariant_of-result c =
    let p : PageFacts = record (facts_of c.self.inside.facts) { recent = 0 } in
    let at : c.is_kept.result ≡ is_kept p = c.is_kept.ensures in
    let sorted : AreSorted p = record { rows = c.self.invariant.rows; advices = c.self.invariant.advices; orders = c.self.invariant.orders; documents = c.self.invariant.documents } in
    kept_sound p refl sorted (sym at ∙ c.if-not-is_kept.false)
