-- What is opened of a stopped book's store.
use Rattle.std.proofs.Common.{◌≡◌, inl, inr, List, subst}
use Rattle.sqlite.specs.Schema as sqlite
use Rattle.sqlite.specs.Tree.{Trees}
use Rattle.sqlite.specs.State.{State, HasCleanDisk}
use Rattle.std.specs.Prelude.{IsTrue}
use Rattle.sqlite_catalog.specs.Listing.{IsSound}
use Rattle.sqlite_catalog.proofs.ReadLemmas.{lists_once}
use Rattle.definitions.specs.declared.rules.Rules.{Rules}
use Rattle.definitions.specs.declared.rules.Rules.TheVariants.{One, Two}
use Rattle.definitions.specs.Header.{Who}
use Rattle.definitions.specs.Register.{Entry}
use Rattle.book_statements.specs.Carrying.{LeavesCarried, StandsAs, StandsInAs, StandsOpenAs}
use Rattle.book_statements.specs.Standing.{StandsSecond}
use Rattle.book_statements.proofs.Carried.{not_first}
use Rattle.books.specs.Carrying.{AllStandAs, OpensAs}

-- trees obey one schema
pub sound_once : (db : Trees) (s t : sqlite.Schema) → IsSound s db → IsSound t db → s ≡ t
sound_once db s t p q = lists_once _ s t p.lists q.lists

-- what stands for a register under some schema does so under the one that was read
pub stands_as_read : (q : Rules) (W : Who) (L : List Entry) (db : Trees) (schema : sqlite.Schema) → IsSound schema db → StandsInAs q W L db → StandsAs q W L (record { schema = schema; trees = db })
stands_as_read q W L db schema sound there = subst (λ (s : sqlite.Schema). StandsAs q W L (record { schema = s; trees = db })) (sound_once db there.0 schema there.1 sound) there.2

-- what stands for a register in one of the versions does so in this one
pub version_of : (W : Who) (L : List Entry) (db : Trees) → LeavesCarried W L db → (q : Rules) × StandsInAs q W L db
version_of W L db there = elim there [ inl one ↦ (One, one) | inr two ↦ (Two, two) ]

-- where an opening failed, a crash leaves the register that stood there, as it was or carried over
pub still_carried : (old new : State) (q : Rules) (W : Who) (L : List Entry) → HasCleanDisk new → IsTrue old.is_open → StandsOpenAs q old W L → AllStandAs q old W L → OpensAs old new
    → (StandsOpenAs One old W L → AllStandAs One old W L → (db : Trees) → new.may_leave db → LeavesCarried W L db) → (db : Trees) → new.may_leave db → LeavesCarried W L db
still_carried old new One W L clean opened stands all asked carried db may = carried stands all db may
still_carried old new Two W L clean opened stands all asked carried db may =
    let here : StandsSecond W L old.now = stands opened in
    let queried = asked.asked (not_first W L old.now here) in
    elim (queried.crash.crash clean db may) [ inl early ↦ inr (all db early) | inr none ↦ absurd none ]
