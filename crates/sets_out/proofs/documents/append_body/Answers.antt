use Rattle.sets_out.proofs.documents.append_body.Goals as goal

pub returns-in-Received-clause-ok : goal.returns-in-Received-clause-ok
returns-in-Received-clause-ok c = rw c.in-Received.is c.append_body.ensures.ok

pub returns-in-Shipped-clause-ok : goal.returns-in-Shipped-clause-ok
returns-in-Shipped-clause-ok c = rw c.in-Shipped.is c.append_body-in-Shipped.ensures.ok

pub returns-in-Adjusted-clause-ok : goal.returns-in-Adjusted-clause-ok
returns-in-Adjusted-clause-ok c = rw c.in-Adjusted.is c.append_body-in-Adjusted.ensures.ok
