use Rattle.std.proofs.Common.{◌≡◌, refl, ◌∙◌, ap, sym, subst, arith, List, [], ◌∷◌, ℕ, ◌+◌, length, take}
use Rattle.std.proofs.Math.Seq.{take-length}
use Rattle.std.specs.Prelude.{fold}
use Rattle.page_rows.specs.Pages.{PageFacts, IsSound}
use Rattle.stock.specs.declared.steps.Change.{Change}
use Rattle.stock.specs.declared.steps.Change.TheVariants as change
use Rattle.stock.specs.Facts.{facts_of}
use Rattle.stock.specs.Puts.{put, put_change}
use Rattle.stock.proofs.page.Page.with.Goals as goal

-- the number of events may be set before the changes as well as after them
counted_first : (cs : List Change) (p : PageFacts) (r : ℕ)
    → fold put_change (record p { recent = r }) cs ≡ record (fold put_change p cs) { entries = p.entries; recent = r }
counted_first [] p r = refl
counted_first (change.Stock w ∷ cs) p r = counted_first cs (put_change p (change.Stock w)) r
counted_first (change.Advice k ∷ cs) p r = counted_first cs (put_change p (change.Advice k)) r
counted_first (change.Order k ∷ cs) p r = counted_first cs (put_change p (change.Order k)) r
counted_first (change.Sent n f ∷ cs) p r = counted_first cs (put_change p (change.Sent n f)) r
counted_first (change.Document n v ∷ cs) p r = counted_first cs (put_change p (change.Document n v)) r

pub returns : goal.returns
returns c =
    let cs = c.deref-change-items.result.now in
    let p = facts_of c.self.inside.facts in
    let q : PageFacts = record p { recent = p.recent + 1 } in
    let whole : c.loop-change.change-index ≡ length cs = omega (arith, c.loop-change-test.false, c.loop-change.auto.change-index-end) in
    let last : facts_of c.draft.inside.facts ≡ fold put_change q cs = c.draft.view_is ∙ c.loop-change.invariant
    ∙ ap (λ n. fold put_change q (take n cs)) whole ∙ ap (fold put_change q) (take-length cs) in
    last ∙ counted_first cs p (p.recent + 1) ∙ ap (put cs) c.self.view_is ∙ ap (λ ds. put ds c.args.self) c.deref-change-items.ensures.value

pub invariant_of-result : goal.invariant_of-result
invariant_of-result c = subst IsSound (sym (returns c)) c.requires
