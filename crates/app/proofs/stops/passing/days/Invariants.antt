use Rattle.std.proofs.Common.{◌≡◌, ◌≤◌, List, true, length, map, take, IsTrue}
use Rattle.std.specs.List.{list_all}
use Rattle.sqlite.specs.Tree.{Trees}
use Rattle.sqlite_trees.specs.View.{IsClean, doubt}
use Rattle.definitions.specs.Header.{Who}
use Rattle.definitions.specs.Register.{Entry}
use Rattle.store.specs.Runs.{all_asked, can_be_given}
use Rattle.book_statements.specs.Carrying.{LeavesCarried}
use Rattle.app.specs.Days.{AreOpenings, Pass, day_by_day, reached}
use Rattle.app.proofs.DaysLemmas.{left_after}
use Rattle.app.proofs.stops.passing.days.Given as goal

abbrev pub invariant-loop-count : goal.invariant-loop-count
invariant-loop-count g l =
    let v = g.S.Store in
    record {
      rest : l.rest ≡ left_after (take l.count-index l.counts) l.asked;
      count : length l.told.items ≡ l.count-index;
      doubt : doubt (v.view l.fn.store).is_clean ≤ doubt (v.view l.store).is_clean;
      numbered : IsClean (v.view l.store) → IsTrue (v.view l.store).is_numbered;
      named : AreOpenings l.told.items;
      led : IsClean (v.view l.store) → list_all can_be_given (reached (day_by_day l.counts l.asked) l.told.items) ≡ true → (W : Who) (L : List Entry) → ((db : Trees) → v.recovers l.fn.store db → LeavesCarried W L db)
          → (db : Trees) → v.recovers l.store db → (M : List Entry) × Pass W L (map all_asked (day_by_day l.counts l.asked)) l.told.items M × LeavesCarried W M db;
    }
