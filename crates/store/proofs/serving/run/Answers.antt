use Rattle.std.proofs.Common.{◌≡◌, ◌∙◌, Bool, List, true, false, arith, sym, refl, ap, subst, length, map, take}
use Rattle.definitions.specs.Rules.{Today}
use Rattle.definitions.specs.Accepted.{accepted_on, replies_on}
use Rattle.store.specs.Runs.{told, all_asked}
use Rattle.store.specs.Standing.{IsUsable}
use Rattle.store.specs.declared.serving.Reply.{Reply}
use Rattle.store.proofs.Changes.{clean_before, goes_trans, usable_stays, refused_after}
use Rattle.store.proofs.CommandLists.{given_fewer, given_item, next_keeps, next_usable, next_left, next_told}
use Rattle.store.proofs.serving.run.Goals as goal

pub returns-in-Err-clause-left : goal.returns-in-Err-clause-left
returns-in-Err-clause-left g c = λ clean L u given open'.
    let i = c.loop-command.invariant in
    let old = g.K.Keeper.standing c.args.keeper.now in
    let now = g.K.Keeper.standing c.loop-command.keeper in
    let new = g.K.Keeper.standing c.answer_next.new.keeper in
    let early = clean_before now new c.answer_next.ensures.goes clean in
    let same = c.in-Err.ensures.fault.clean (open' ∙ sym u.opened ∙ i.shut) in
    let count = ap length c.in-Err.ensures.no_more ∙ i.count in
    let given' = given_fewer c.args.commands.now _ _ (omega (arith, count)) given in
    subst (λ n. IsUsable new (accepted_on Today old.warehouse L (take n (all_asked c.args.commands.now)))) (sym count)
    (usable_stays now new same clean _ (i.usable early L u given'))

pub returns-in-Err-clause-broken : goal.returns-in-Err-clause-broken
returns-in-Err-clause-broken g c = λ clean L u given shut.
    let i = c.loop-command.invariant in
    let old = g.K.Keeper.standing c.args.keeper.now in
    let now = g.K.Keeper.standing c.loop-command.keeper in
    let new = g.K.Keeper.standing c.answer_next.new.keeper in
    let early = clean_before now new c.answer_next.ensures.goes clean in
    let count = ap length c.in-Err.ensures.no_more ∙ i.count in
    let cs = c.args.commands.now in
    let lt = c.loop-command-test.true in
    let is = c.loop-command-item.is in
    let u1 = i.usable early L u (given_fewer cs _ _ (omega (arith, count)) given) in
    let either = c.in-Err.ensures.left clean _ u1 (given_item cs _ _ _ (omega (arith, count)) given lt is) in
    (refl, next_left Today new now.warehouse old.warehouse L cs _ _ _ lt is i.goes.warehouse count either)

pub returns-in-Err-clause-fault : goal.returns-in-Err-clause-fault
returns-in-Err-clause-fault g c =
    let i = c.loop-command.invariant in
    let f = c.in-Err.ensures.fault in
    let old = g.K.Keeper.standing c.args.keeper.now in
    let now = g.K.Keeper.standing c.loop-command.keeper in
    let new = g.K.Keeper.standing c.answer_next.new.keeper in
    record {
      grew = λ was is. refused_after old now new i.goes (f.broken (sym i.shut ∙ was) is);
      store = λ h. refused_after old now new i.goes (f.why.store h);
      reopen = λ h. i.shut ∙ f.why.reopen h;
      not_this = λ h given clean L k legal.
          f.why.not_this h clean _ (i.keeps (clean_before now new c.answer_next.ensures.goes clean) L k legal
          (given_fewer c.args.commands.now _ _ (omega (arith, ap length c.in-Err.ensures.no_more, i.count)) given)).keeps;
      device = f.why.device;
    }

pub returns-in-Err-clause-replies : goal.returns-in-Err-clause-replies
returns-in-Err-clause-replies g c = λ clean L u given.
    let i = c.loop-command.invariant in
    let old = g.K.Keeper.standing c.args.keeper.now in
    let now = g.K.Keeper.standing c.loop-command.keeper in
    let new = g.K.Keeper.standing c.answer_next.new.keeper in
    let none = c.in-Err.ensures.no_more in
    let count = ap length none ∙ i.count in
    let cs = c.args.commands.now in
    let so_far = i.told (clean_before now new c.answer_next.ensures.goes clean) L u (given_fewer cs _ _ (omega (arith, count)) given) in
    subst (λ (rs : List Reply). map told rs ≡ replies_on Today old.warehouse L (take (length rs) (all_asked cs))) (sym {A = List Reply} none)
    (subst (λ n. map told c.loop-command.replies.items ≡ replies_on Today old.warehouse L (take n (all_asked cs))) (sym i.count) so_far)

pub returns-clause-replies : goal.returns-clause-replies
returns-clause-replies g c = λ clean L u given.
    let i = c.loop-command.invariant in
    let old = g.K.Keeper.standing c.args.keeper.now in
    let cs = c.args.commands.now in
    subst (λ n. map told c.loop-command.replies.items ≡ replies_on Today old.warehouse L (take n (all_asked cs))) (sym i.count)
    (i.told clean L u (given_fewer cs _ _ (omega (arith, i.count)) given))

pub returns-clause-left : goal.returns-clause-left
returns-clause-left g c = λ clean L u given open'.
    let i = c.loop-command.invariant in
    let old = g.K.Keeper.standing c.args.keeper.now in
    let now = g.K.Keeper.standing c.loop-command.keeper in
    let cs = c.args.commands.now in
    subst (λ n. IsUsable now (accepted_on Today old.warehouse L (take n (all_asked cs)))) (sym i.count)
    (i.usable clean L u (given_fewer cs _ _ (omega (arith, i.count)) given))

pub returns-clause-broken : goal.returns-clause-broken
returns-clause-broken g c = λ clean L u given shut.
    let i = c.loop-command.invariant in
    let open' = sym i.shut ∙ u.opened in
    absurd (let e : ◌≡◌ {A = Bool} true false = sym shut ∙ open' in cc)

pub loop-command-preserved : goal.loop-command-preserved
loop-command-preserved g c =
    let i = c.loop-command.invariant in
    let e = c.in_default.ensures in
    let cs = c.args.commands.now in
    let lt = c.loop-command-test.true in
    let is = c.loop-command-item.is in
    let old = g.K.Keeper.standing c.args.keeper.now in
    let now = g.K.Keeper.standing c.loop-command.keeper in
    let new = g.K.Keeper.standing c.answer_next.new.keeper in
    record {
      count = omega (arith, e.more, i.count);
      goes = goes_trans old now new i.goes e.goes;
      shut = i.shut ∙ e.opened;
      usable = λ clean L u given.
          next_usable Today new now.warehouse old.warehouse L cs _ _ lt is i.goes.warehouse
          (e.ok clean _ (i.usable (clean_before now new e.goes clean) L u (given_fewer cs _ _ (omega arith) given)) (given_item cs _ _ _ (omega arith) given lt is));
      keeps = λ clean L k legal given.
          let so_far = i.keeps (clean_before now new e.goes clean) L k legal (given_fewer cs _ _ (omega arith) given) in
          next_keeps Today new now.warehouse old.warehouse L cs _ _ lt is i.goes.warehouse
          (e.keeps clean _ so_far.keeps so_far.legal (given_item cs _ _ _ (omega arith) given lt is));
      told = λ clean L u given.
          let early = clean_before now new e.goes clean in
          let fewer = given_fewer cs _ _ (omega arith) given in
          let u1 = i.usable early L u fewer in
          next_told Today _ _ now.warehouse old.warehouse L cs _ _ lt is i.goes.warehouse (i.told early L u fewer) (e.reply clean _ u1.keeps u1.legal);
    }
