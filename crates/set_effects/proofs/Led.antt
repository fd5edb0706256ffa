-- Changes that are put into a page one list after another.
use Rattle.std.proofs.Common.{◌≡◌, ℕ, List, [], ◌∷◌, ◌++◌, refl, sym, ap, ◌∙◌, subst}
use Rattle.std.specs.Prelude.{fold}
use Rattle.std.proofs.lemmas.List.Sums.{fold-append}
use Rattle.stock.specs.declared.steps.Change.{Change}
use Rattle.stock.specs.declared.steps.Change.TheVariants.{Stock, Advice, Order, Sent, Document}
use Rattle.stock.specs.Pages.{PageFacts}
use Rattle.stock.specs.Puts.{put_change}
use Rattle.stock.specs.Parts.{Named, IsPart}
use Rattle.stock.proofs.PartLemmas.{after_part}
use Rattle.set_effects.specs.Proper.{AreProper}
use Rattle.set_effects.specs.Judging.{after}
use Rattle.set_effects.proofs.Propers.{proper_both, proper_led}

-- changes look at no count
counts_kept : (cs : List Change) (p : PageFacts) (n r : ℕ) → fold put_change (record p { entries = n; recent = r }) cs ≡ record (fold put_change p cs) { entries = n; recent = r }
counts_kept [] p n r = refl
counts_kept (Stock row ∷ cs) p n r = counts_kept cs (put_change p (Stock row)) n r
counts_kept (Advice k ∷ cs) p n r = counts_kept cs (put_change p (Advice k)) n r
counts_kept (Order k ∷ cs) p n r = counts_kept cs (put_change p (Order k)) n r
counts_kept (Sent m f ∷ cs) p n r = counts_kept cs (put_change p (Sent m f)) n r
counts_kept (Document m accepts ∷ cs) p n r = counts_kept cs (put_change p (Document m accepts)) n r

-- no change
pub after_none : (n : Named) (p P : PageFacts) → IsPart n p P → P ≡ after [] p.recent P
after_none n p P part = ap (λ (r : ℕ). record P { recent = r }) (sym part.recent)

pub after_both : (cs ds : List Change) (m r : ℕ) (P : PageFacts) → after ds r (after cs m P) ≡ after (cs ++ ds) r P
after_both cs ds m r P =
    ap (λ (q : PageFacts). record q { entries = P.entries; recent = r }) (counts_kept ds (fold put_change P cs) P.entries m)
    ∙ ap (λ (q : PageFacts). record q { entries = P.entries; recent = r }) (sym (fold-append put_change P cs ds))

pub same_both : (cs ds : List Change) (old mid new : PageFacts) → mid ≡ record (fold put_change old cs) { entries = old.entries; recent = mid.recent }
    → new ≡ record (fold put_change mid ds) { entries = mid.entries; recent = new.recent } → new ≡ record (fold put_change old (cs ++ ds)) { entries = old.entries; recent = new.recent }
same_both cs ds old mid new first second =
    second
    ∙ ap (λ (q : PageFacts). record q { entries = mid.entries; recent = new.recent })
    (ap (λ (m : PageFacts). fold put_change m ds) first ∙ counts_kept ds (fold put_change old cs) old.entries mid.recent)
    ∙ ap (λ n. record (fold put_change (fold put_change old cs) ds) { entries = n; recent = new.recent }) (ap (λ (q : PageFacts). q.entries) first)
    ∙ ap (λ (q : PageFacts). record q { entries = old.entries; recent = new.recent }) (sym (fold-append put_change old cs ds))

-- a part, and what leads on from both
pub part_later : (n : Named) (cs : List Change) (old mid P : PageFacts) → mid ≡ after cs mid.recent old → IsPart n old P → IsPart n mid (after cs mid.recent P)
part_later n cs old mid P led part = subst (λ (q : PageFacts). IsPart n q (after cs mid.recent P)) (sym led) (after_part n cs mid.recent old P part)

pub proper_later : (cs ds : List Change) (m : ℕ) (P : PageFacts) → AreProper P cs → AreProper (after cs m P) ds → AreProper P (cs ++ ds)
proper_later cs ds m P first second = proper_both cs ds P first (proper_led ds P (after cs m P) cs refl second)
