use Rattle.std.proofs.Common.{rules}
use Rattle.book_transactions.proofs.Wholes.{carried, called}
use Rattle.book_transactions.proofs.whole.carry_over.Goals as goal

pub returns-clause-whole : goal.returns-clause-whole
returns-clause-whole g c =
    carried g.S.Store c.args.conn.now (c.conn-2-1.given.1 (search rules)) c.transaction-tx.ensures.begun c.is_autocommit-settled.ensures.value c.in_ok-carry_all.ensures.wrote c.commit.ensures.ended
    (search rules) (search rules) (search rules) c.is_autocommit-settled.ensures.settled (search rules) c.schema-live.ensures.live

pub returns-clause-called : goal.returns-clause-called
returns-clause-called g c =
    called g.S.Store c.args.conn.now (c.conn-2-1.given.1 (search rules)) c.transaction-tx.ensures.begun c.is_autocommit-settled.ensures.value c.in_ok-carry_all.ensures.wrote c.commit.ensures.ended
    (search rules) (search rules) (search rules) c.args.calls.now (search rules)
