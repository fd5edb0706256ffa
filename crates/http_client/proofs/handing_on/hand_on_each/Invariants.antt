use Rattle.std.proofs.Common.{take}
use Rattle.std.specs.List.{FoldsTo}
use Rattle.commands.specs.declared.told.ExitStatus.TheVariants.{Done}
use Rattle.http_client.specs.Asked.{AsksOnly}
use Rattle.http_client.specs.HandedOn.{IsHandedOn}
use Rattle.http_client.proofs.handing_on.hand_on_each.Given as goal

abbrev pub invariant-loop-number : goal.invariant-loop-number
invariant-loop-number g l = record {
  asks : AsksOnly g.C.Courier.brings g.C.Courier.loses l.fn.courier l.courier;
  handed : FoldsTo (IsHandedOn g.C.Courier.brings (g.R.FileSystem.finds l.rt) (g.R.FileSystem.reads l.rt) (g.R.FileSystem.writes l.rt) l.asked) (l.fn.courier, (g.W.Write.contents l.fn.out, Done))
      (take l.number-index l.number-items) (l.courier, (g.W.Write.contents l.out, l.status));
}
