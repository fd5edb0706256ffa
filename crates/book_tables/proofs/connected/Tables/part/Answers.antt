use Rattle.std.proofs.Common.{◌≡◌, ◌∙◌, ap, sym, refl, subst, List, ℕ, Ok}
use Rattle.sqlite.specs.Held.{state}
use Rattle.definitions.specs.Header.{Who}
use Rattle.definitions.specs.Page.{page_of}
use Rattle.definitions.specs.Register.{Entry, own}
use Rattle.rules.specs.Pages.{IsSound, PageFacts}
use Rattle.rules.specs.Puts.{nothing_yet}
use Rattle.rules.proofs.Gathered.{nothing_part}
use Rattle.rules.specs.Naming.{facts_of}
use Rattle.book_tables.specs.Needed.{none_named, part_for}
use Rattle.book_tables.proofs.AskedLater.{stands_later, clean_before}
use Rattle.book_tables.proofs.NeededParts.{sound_part}
use Rattle.book_tables.proofs.Queries.{asked_went, asked_wrong, went_as, went_fails}
use Rattle.book_tables.proofs.connected.Tables.part.Goals as goal

-- nothing yet is the part that nothing names
begun : (n : ℕ) (draft : PageFacts) (L : List Entry) (who : Who) → draft ≡ nothing_yet n → n ≡ (page_of (own L who)).entries → draft ≡ part_for L who none_named
begun n draft L who is entries = is ∙ ap nothing_yet entries ∙ sym (nothing_part (facts_of (page_of (own L who))))

pub returns-in-Some-clause-part : goal.returns-in-Some-clause-part
returns-in-Some-clause-part g c = λ clean W L stands.
    let old = state g.S.Store c.args.self.now.conn in
    let mid = state g.S.Store c.last_number.new.self.conn in
    let new = state g.S.Store c.gathered.new.self.conn in
    let early = clean_before mid new c.in-Ok.ensures.went.left clean in
    let nothing = begun c.in_ok-entries.entries c.new.result L c.args.who c.new.ensures (c.in_ok-entries.ensures.number early W L stands) in
    let draft = c.in-Ok.ensures.found clean W L (stands_later old mid W L early c.in_ok-entries.ensures.asked.left stands) nothing in
    c.in-Some.ensures ∙ ap (λ (d : PageFacts). record d { recent = 0 }) draft

pub returns-in-Some-clause-asked : goal.returns-in-Some-clause-asked
returns-in-Some-clause-asked g c =
    asked_went g.S.Store c.args.self.now c.last_number.new.self c.gathered.new.self c.in_ok-entries.entries _ c.in_ok-entries.ensures.asked
    (went_as g.S.Store c.last_number.new.self c.gathered.new.self c.in-Ok.draft c.in-Some.page c.in-Ok.ensures.went)

pub returns-in-None-clause-asked : goal.returns-in-None-clause-asked
returns-in-None-clause-asked g c =
    asked_wrong g.S.Store c.args.self.now c.gathered.new.self c.in-Ok.draft
    (asked_went g.S.Store c.args.self.now c.last_number.new.self c.gathered.new.self c.in_ok-entries.entries (Ok c.in-Ok.draft) c.in_ok-entries.ensures.asked c.in-Ok.ensures.went)
    (λ clean W L stands.
    let old = state g.S.Store c.args.self.now.conn in
    let mid = state g.S.Store c.last_number.new.self.conn in
    let new = state g.S.Store c.gathered.new.self.conn in
    let early = clean_before mid new c.in-Ok.ensures.went.left clean in
    let nothing = begun c.in_ok-entries.entries c.new.result L c.args.who c.new.ensures (c.in_ok-entries.ensures.number early W L stands) in
    let draft = c.in-Ok.ensures.found clean W L (stands_later old mid W L early c.in_ok-entries.ensures.asked.left stands) nothing in
    let legal = (stands (c.in_ok-entries.ensures.open early)).legal in
    c.in-None.ensures (subst (λ (d : PageFacts). IsSound (record d { recent = 0 })) (sym draft) (sound_part W L c.args.who c.args.need.now legal)))

pub returns-in-Err-clause-asked : goal.returns-in-Err-clause-asked
returns-in-Err-clause-asked g c =
    asked_went g.S.Store c.args.self.now c.last_number.new.self c.gathered.new.self c.in_ok-entries.entries _ c.in_ok-entries.ensures.asked
    (went_fails g.S.Store c.last_number.new.self c.gathered.new.self c.in-Err.fault _ refl c.in-Err.ensures.went)
