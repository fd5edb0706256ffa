use Rattle.std.proofs.Common.{rules, ◌≡◌, ◌++◌, ◌∷◌, [], Bool, true, false, Some, refl, sym, subst, ap, ◌∙◌}
use Rattle.std.specs.Cmp.Derive.{both_true}
use Rattle.definitions.specs.declared.rules.Rules.{Rules}
use Rattle.definitions.specs.Rules.{Today, may_follow}
use Rattle.definitions.specs.Moments.{is_moment}
use Rattle.definitions.specs.Accepted.{IsLegal, after, is_command}
use Rattle.definitions.specs.Tables.{number_of}
use Rattle.definitions.proofs.RisingLaws.{legal-rises}
use Rattle.rules.specs.Asked.{asked}
use Rattle.rules.specs.Given.{RuledCommand, given_by, ruled_by}
use Rattle.rules.proofs.Follows.{legal_follow}
use Rattle.rules.proofs.GivenAgain.{made_again}
use Rattle.store.specs.Standing.{IsUsable}
use Rattle.books.proofs.GivenLemmas.{never_none, one_some}
use Rattle.books.proofs.RulesLemmas.{legal_next, legal_now, rises_at}
use Rattle.books.proofs.verifying.give.Goals as goal

pub returns-in_default-clause-next : goal.returns-in_default-clause-next
returns-in_default-clause-next g c = λ clean L u e back is legal last so_far.
    let follow = legal_follow _ _ _ L e back legal refl in
    absurd (never_none c.in_ok-given.field-0 (ruled_by e) c.in_default.not-Some (c.in_ok-given.ensures (number_of L e) e is follow.good))

pub returns-then-not-may_follow-clause-next : goal.returns-then-not-may_follow-clause-next
returns-then-not-may_follow-clause-next g c = λ clean L u e back is legal last so_far.
    let W = (g.K.Keeper.standing c.args.copy.now).warehouse in
    let follow = legal_follow _ W _ L e back legal refl in
    let given : c.in-Some.given ≡ ruled_by e = one_some c.in_ok-given.field-0 c.in-Some.given (ruled_by e) c.in-Some.is (c.in_ok-given.ensures (number_of L e) e is follow.good) in
    let own_rules : c.rules-rules.result ≡ e.rules = c.rules-rules.ensures ∙ ap (λ (p : RuledCommand). p.0) given in
    let rises = rises_at _ L e back (legal-rises Today W _ legal) in
    let may : may_follow c.args.last c.rules-rules.result ≡ true = (λ i. may_follow (last i) (own_rules i)) ∙ rises in
    absurd (let both : ◌≡◌ {A = Bool} true false = sym may ∙ sym c.may_follow.ensures ∙ c.if-not-may_follow.true in cc)

pub returns-in-Ok-clause-copy : goal.returns-in-Ok-clause-copy
returns-in-Ok-clause-copy g c = λ clean W k.
    let old = g.K.Keeper.standing c.args.copy.now in
    let goes = c.submit_under.ensures.goes in
    let timely : is_moment c.moment.result ≡ true = search rules in
    let given : is_command c.rules-rules.result (asked c.command.result) ≡ true =
    subst (λ (r : Rules). is_command r (asked c.command.result) ≡ true) (sym c.rules-rules.ensures) c.command.ensures.can_be_given in
    let legal = legal_next c.args.last c.rules-rules.result old.warehouse k.register (asked c.command.result) c.moment.result (sym c.may_follow.ensures ∙ c.if-not-may_follow.false) (both_true given timely) k.legal in
    record {
      warehouse = goes.warehouse ∙ k.warehouse;
      register = after c.rules-rules.result old.warehouse k.register (asked c.command.result, c.moment.result);
      legal = subst (λ V. IsLegal c.rules-rules.result V (after c.rules-rules.result old.warehouse k.register (asked c.command.result, c.moment.result))) (sym goes.warehouse) legal;
      usable = c.in-Ok.ensures.ok clean k.register k.usable (legal_now c.rules-rules.result old.warehouse _ legal);
    }

pub returns-in-Ok-clause-next : goal.returns-in-Ok-clause-next
returns-in-Ok-clause-next g c = λ clean L u e back is legal last so_far.
    let old = g.K.Keeper.standing c.args.copy.now in
    let W = old.warehouse in
    let follow = legal_follow _ W _ L e back legal refl in
    let given : c.in-Some.given ≡ ruled_by e = one_some c.in_ok-given.field-0 c.in-Some.given (ruled_by e) c.in-Some.is (c.in_ok-given.ensures (number_of L e) e is follow.good) in
    let under : c.rules-rules.result ≡ e.rules = c.rules-rules.ensures ∙ ap (λ (p : RuledCommand). p.0) given in
    let what : asked c.command.result ≡ given_by e = c.command.ensures.same ∙ ap (λ (p : RuledCommand). p.1) given in
    let when : c.moment.result ≡ e.moment = c.moment.ensures ∙ ap (λ w. w.moment) is in
    let made : after c.rules-rules.result W L (asked c.command.result, c.moment.result) ≡ L ++ e ∷ [] =
    (λ i. after (under i) W L (what i, when i)) ∙ made_again _ W _ L e back legal refl in
    let goes = c.submit_under.ensures.goes in
    let timely : is_moment c.moment.result ≡ true = search rules in
    let good : is_command c.rules-rules.result (asked c.command.result) ≡ true =
    subst (λ (r : Rules). is_command r (asked c.command.result) ≡ true) (sym c.rules-rules.ensures) c.command.ensures.can_be_given in
    let later = legal_next c.args.last c.rules-rules.result W L (asked c.command.result) c.moment.result (sym c.may_follow.ensures ∙ c.if-not-may_follow.false) (both_true good timely) so_far in (
      ap Some under,
      subst (λ V. IsLegal e.rules V (L ++ e ∷ [])) (sym goes.warehouse)
          (subst (λ (r : Rules). IsLegal r W (L ++ e ∷ [])) under (subst (IsLegal c.rules-rules.result W) made later)),
      subst (IsUsable (g.K.Keeper.standing c.submit_under.new.keeper)) made (c.in-Ok.ensures.ok clean L u (legal_now c.rules-rules.result W _ later)),
    )
