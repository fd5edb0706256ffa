use Rattle.std.proofs.Common.{rules}
use Rattle.book_transactions.proofs.Wholes.{made, called}
use Rattle.book_transactions.proofs.whole.make.Goals as goal

pub returns-clause-whole : goal.returns-clause-whole
returns-clause-whole g c =
    made g.S.Store c.args.conn.now (c.conn-2-1.given.1 (search rules)) c.transaction-tx.ensures.begun c.is_autocommit-settled.ensures.value c.in_ok-make_all.ensures.wrote c.commit.ensures.ended
    (search rules) (search rules) (search rules) c.is_autocommit-settled.ensures.settled (search rules)

pub returns-clause-called : goal.returns-clause-called
returns-clause-called g c =
    called g.S.Store c.args.conn.now (c.conn-2-1.given.1 (search rules)) c.transaction-tx.ensures.begun c.is_autocommit-settled.ensures.value c.in_ok-make_all.ensures.wrote c.commit.ensures.ended
    (search rules) (search rules) (search rules) c.args.calls.now (search rules)
