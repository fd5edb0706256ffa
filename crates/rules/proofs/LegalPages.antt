-- A depositor of a legal register has a page: after each of its entries there is one.
use Rattle.std.proofs.Common.{◌≡◌, ℕ, ◌+◌, ◌≤◌, Bool, true, false, not, List, [], ◌∷◌, ◌++◌, length, Some, None, refl, sym, ap, ◌∙◌, subst, arith, append_assoc, append-nil}
use Rattle.std.specs.Prelude.{◌==◌, if◌then◌else◌, sum_by}
use borrow.Author.Tests.{eqb-true}
use Rattle.definitions.specs.declared.rules.Rules.{Rules}
use Rattle.definitions.specs.Limits.{most_entries}
use Rattle.definitions.specs.Moments.{Moment}
use Rattle.definitions.specs.Header.{Who, delims_of}
use Rattle.definitions.specs.Cut.{cut}
use Rattle.definitions.specs.Structure.{Group, groups_of}
use Rattle.definitions.specs.Clerk.{is_act}
use Rattle.definitions.specs.Register.{Deed, Enrolled, Received, Performed, Entry, is_numbered, own}
use Rattle.definitions.specs.Readings.{is_entry, is_deed}
use Rattle.definitions.specs.History.{History, after_entry, history, events_added}
use Rattle.definitions.specs.Decision.{standing}
use Rattle.definitions.specs.Accepted.{IsLegal}
use Rattle.definitions.proofs.TextLaws.{both_parts}
use Rattle.definitions.proofs.HistoryLaws.{history_snoc}
use Rattle.stock.specs.Pages.{PageFacts, next_entry}
use Rattle.stock.proofs.Grown.{IsMore, received_more, performed_more}
use Rattle.stock.proofs.PageLemmas.{blank_sound, blank_shows, next_sound, next_shows}
use Rattle.rules.specs.LegalPages.{IsLegalPage}
use Rattle.rules.specs.Played.{CanFollow, is_clean, no_history, number_after}
use Rattle.rules.proofs.Content.{content}
use Rattle.rules.proofs.Plays.{clean_note}
use Rattle.rules.proofs.Registers.{Along1, follows_own}

-- One entry.

abbrev Page : History → Type 0
Page h = (p : PageFacts) × IsLegalPage p h

abbrev entry_with : Who → Moment → Deed → Rules → Entry
entry_with w t d z = record { who = w; moment = t; deed = d; rules = z }

-- a depositor that enrols
first : (w : Who) (t : Moment) (d : Deed) (z : Rules) → is_numbered (entry_with w t d z) ≡ false
    → Page (after_entry no_history (entry_with w t d z))
first w t Enrolled z numbered = (
  record { rows = []; advices = []; orders = []; documents = []; entries = 0; recent = 0 },
  record { sound = blank_sound; page = record { shows = blank_shows; entries = refl }; rest = refl },
)
first w t (Received text) z numbered = absurd (cc (numbered))
first w t (Performed ticket act) z numbered = absurd (cc (numbered))

-- a numbered entry ends
ended : (h : History) (w : Who) (t : Moment) (d : Deed) (z : Rules) (p q : PageFacts) (most : ℕ)
    → is_numbered (entry_with w t d z) ≡ true → h.numbered + 1 ≤ most_entries → IsLegalPage p h
    → IsMore p h.events (events_added z h.events (h.numbered + 1) d) most q → Page (after_entry h (entry_with w t d z))
ended h w t d z p q most numbered few legal more =
    let same : q.entries ≡ h.numbered = more.entries ∙ legal.page.entries in (
      next_entry q,
      record {
        sound = next_sound q (omega (arith, same, few)) more.sound;
        page = record {
          shows = next_shows q (h.events ++ events_added z h.events (h.numbered + 1) d) more.shows;
          entries = ap (λ (n : ℕ). n + 1) same ∙ ap (λ (b : Bool). h.numbered + (if b then 1 else 0)) (sym numbered);
        };
        rest = refl;
      },
    )

later : (h : History) (w : Who) (t : Moment) (d : Deed) (z : Rules) → is_numbered (entry_with w t d z) ≡ true
    → number_after h (entry_with w t d z) ≤ most_entries
    → is_entry (entry_with w t d z) ≡ true → is_clean d ≡ true → Page h → Page (after_entry h (entry_with w t d z))
later h w t Enrolled z numbered few good clean page = absurd (cc (numbered))
later h w t (Received text) z numbered few good clean page =
    let p = page.0 in
    let sets : ℕ = sum_by (λ (g : Group). length g.sets) (groups_of ((cut (delims_of text) text).segments)) in
    let room = (content text (clean_note text clean)).1 in
    let follows : h.numbered + 1 ≡ p.entries + 1 = omega (arith, page.1.page.entries) in
    let more = received_more z p h.events (h.numbered + 1) text page.1.sound page.1.page.shows
    (omega (arith, page.1.rest, room)) follows in
    ended h w t (Received text) z p more.0 sets refl few page.1 more.1
later h w t (Performed ticket act) z numbered few good clean page =
    let p = page.0 in
    let act_good = (both_parts _ (is_act z act) ((both_parts _ (is_deed z (Performed ticket act)) good).1)).1 in
    let follows : h.numbered + 1 ≡ p.entries + 1 = omega (arith, page.1.page.entries) in
    let more = performed_more z p h.events (h.numbered + 1) ticket act page.1.sound page.1.page.shows
    (omega (arith, page.1.rest)) follows act_good in
    ended h w t (Performed ticket act) z p more.0 1 refl few page.1 more.1

-- Entries in turn.

-- who has entries has a page
abbrev HasPage : List Entry → Type 0
HasPage M = (h : History) → standing M ≡ Some h → Page h

standing_is : (M : List Entry) (h : History) → standing M ≡ Some h → history M ≡ h
standing_is M h is = by_test (length M == 0) is
  where
    by_test : (b : Bool) → (if b then None else Some (history M)) ≡ Some h → history M ≡ h
    by_test true g = absurd (cc (g))
    by_test false g = cc (g)

pub some_standing : (k : Entry) (M : List Entry) → (length (k ∷ M) == 0) ≡ false
some_standing k M = by_test (length (k ∷ M) == 0) refl
  where
    by_test : (b : Bool) → (length (k ∷ M) == 0) ≡ b → b ≡ false
    by_test true same = absurd (omega (arith, eqb-true (length (k ∷ M)) 0 same))
    by_test false same = refl

-- the page after one entry more
page_after : (M : List Entry) (e : Entry) → CanFollow M e → HasPage M → Page (after_entry (history M) e)
page_after [] e f held = first e.who e.moment e.deed e.rules f.numbered
page_after (k ∷ M) e f held =
    let some = some_standing k M in
    let page = held (history (k ∷ M)) (ap (λ (b : Bool). if b then None else Some (history (k ∷ M))) some) in
    later (history (k ∷ M)) e.who e.moment e.deed e.rules (f.numbered ∙ ap not some) f.few f.good f.clean page

one_more : (M : List Entry) (e : Entry) → CanFollow M e → HasPage M → HasPage (M ++ e ∷ [])
one_more M e f held =
    λ h is. subst Page (sym (history_snoc M e) ∙ standing_is (M ++ e ∷ []) h is) (page_after M e f held)

along_pages : (before M : List Entry) → Along1 CanFollow before M → HasPage before → HasPage (before ++ M)
along_pages before [] f held = subst HasPage (sym (append-nil before)) held
along_pages before (e ∷ M) f held = subst HasPage (append_assoc before (e ∷ []) M)
    (along_pages (before ++ e ∷ []) M f.1 (one_more before e f.0 held))

pub legal_page : (r : Rules) (W : Who) (L : List Entry) (w : Who) (h : History) → IsLegal r W L → standing (own L w) ≡ Some h
    → (P : PageFacts) × IsLegalPage P h
legal_page r W L w h legal is = along_pages [] (own L w) (follows_own r W L w legal) (λ g none. absurd (cc (none))) h is
