use Rattle.std.proofs.Common.{◌≡◌, take}
use Rattle.std.specs.Prelude.{fold}
use Rattle.stock.specs.Puts.{put_change}
use Rattle.stock.proofs.page.Page.with.Given as goal

abbrev pub invariant-loop-change : goal.invariant-loop-change
invariant-loop-change l = l.draft ≡ fold put_change l.initial.draft (take l.change-index l.change-items)
