-- What a depositor has open by its page, and who is enrolled by what is written down.
use Rattle.std.proofs.Common.{◌≡◌, Bool, true, false, not, List, [], ◌∷◌, ◌++◌, map, refl, ap, ◌∙◌, Some}
use Rattle.std.specs.Prelude.{filter, nat_lt, count_by}
use Rattle.definitions.specs.Header.{Who}
use Rattle.definitions.specs.History.{history, events}
use Rattle.definitions.specs.Decision.{standing}
use Rattle.definitions.specs.Page.{PageAdvice, page_advices}
use Rattle.definitions.specs.Register.{Entry, own, is_numbered}
use Rattle.rules.specs.Pages.{PageFacts, IsSound}
use Rattle.rules.specs.Decided.{IsPageOf}
use Rattle.rules.specs.Written.{Written, written}
use Rattle.rules.proofs.Once.{advices_once, orders_once}
use Rattle.rules.proofs.Paged.{advices_are_page, orders_are_page}
use Rattle.store.specs.Held.{IsHeldFor}
use Rattle.store.specs.Open.{open_among, open_on, open_work, open_of, enrolled}
use Rattle.store.specs.Replayed.{written_on}
use Rattle.store.proofs.Entries.{shown_some}
use Rattle.store.proofs.WentOut.{positive}

-- What is open.

pub work_of_page : (p : PageFacts) (M : List Entry) → IsSound p → IsPageOf p (history M) → open_on p ≡ open_work M
work_of_page p M sound h =
    ap (λ (listed : List PageAdvice). open_among listed p.orders) (advices_are_page p (events M) sound.sorted h.shows (advices_once M))
    ∙ ap (open_among (page_advices (events M))) (orders_are_page p (events M) sound.sorted h.shows (orders_once M))

pub work_some : (L : List Entry) (who : Who) (p : PageFacts) → IsSound p → IsHeldFor (Some p) (standing (own L who)) → Some (open_on p) ≡ open_of L who
work_some L who p sound h = shown_some open_work (open_on p) L who p h (λ M is. work_of_page p M sound is)

-- Who is enrolled: those of whom an entry without a number is written down.

abbrev pub unnumbered_among : List Written → List Who
unnumbered_among ws = map (λ w. w.who) (filter (λ w. not (nat_lt 0 w.n)) ws)

pub enrolled_on : (before L : List Entry) → unnumbered_among (written_on before L) ≡ enrolled L
enrolled_on before [] = refl
enrolled_on before (e ∷ L) = by (is_numbered e) refl (enrolled_on (before ++ e ∷ []) L)
  where
    by : (b : Bool) → is_numbered e ≡ b → unnumbered_among (written_on (before ++ e ∷ []) L) ≡ enrolled L
        → unnumbered_among (written before e ∷ written_on (before ++ e ∷ []) L) ≡ enrolled (e ∷ L)
    by true h rest = rw (h, positive (count_by is_numbered (own before e.who))) rest
    by false h rest = rw h (ap (λ (ws : List Who). e.who ∷ ws) rest)
