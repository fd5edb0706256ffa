use Rattle.intake.proofs.forms.text_of.Goals as goal

pub returns-in-PickList-clause-ok : goal.returns-in-PickList-clause-ok
returns-in-PickList-clause-ok c = rw c.in-PickList.is c.pick_list.ensures.ok

pub returns-in-PickList-clause-err : goal.returns-in-PickList-clause-err
returns-in-PickList-clause-err c = rw c.in-PickList.is c.pick_list.ensures.err

pub returns-in-ReceivingList-clause-ok : goal.returns-in-ReceivingList-clause-ok
returns-in-ReceivingList-clause-ok c = rw c.in-ReceivingList.is c.receiving_list.ensures.ok

pub returns-in-ReceivingList-clause-err : goal.returns-in-ReceivingList-clause-err
returns-in-ReceivingList-clause-err c = rw c.in-ReceivingList.is c.receiving_list.ensures.err

pub returns-in-ReceivingCsv-clause-ok : goal.returns-in-ReceivingCsv-clause-ok
returns-in-ReceivingCsv-clause-ok c = rw c.in-ReceivingCsv.is c.receiving_csv.ensures.ok

pub returns-in-ReceivingCsv-clause-err : goal.returns-in-ReceivingCsv-clause-err
returns-in-ReceivingCsv-clause-err c = rw c.in-ReceivingCsv.is c.receiving_csv.ensures.err

pub returns-in-PickingCsv-clause-ok : goal.returns-in-PickingCsv-clause-ok
returns-in-PickingCsv-clause-ok c = rw c.in-PickingCsv.is c.picking_csv.ensures.ok

pub returns-in-PickingCsv-clause-err : goal.returns-in-PickingCsv-clause-err
returns-in-PickingCsv-clause-err c = rw c.in-PickingCsv.is c.picking_csv.ensures.err
