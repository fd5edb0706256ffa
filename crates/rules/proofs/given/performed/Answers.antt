use Rattle.std.proofs.Common.{rules, ◌≡◌, true, ap}
use Rattle.std.specs.Prelude.{IsTrue, Option, Some, option_map}
use Rattle.std.specs.Cmp.Derive.{both_true}
use Rattle.definitions.specs.Limits.{most_ticket}
use Rattle.definitions.specs.Bytes.{is_identifier}
use Rattle.definitions.specs.Header.{is_partner}
use Rattle.definitions.specs.Register.{Act, Clerk}
use Rattle.definitions.specs.Clerk.{is_act}
use Rattle.definitions.proofs.TextLaws.{both_parts}
use Rattle.rules.specs.ReadActs.{read_act}
use Rattle.rules.specs.declared.readings.ReadAct.{ReadAct}
use Rattle.rules.proofs.Plays.{read_same, read_none}
use Rattle.rules.proofs.GivenRead.{read_good}
use Rattle.rules.proofs.given.performed.Goals as goal

pub returns-in_default : goal.returns-in_default
returns-in_default c = λ act good text.
    absurd (read_none c.args.rules c.args.text.now act (option_map read_act c.in_ok-act.field-0) c.in_ok-act.ensures
    (ap (λ (o : Option ReadAct). option_map read_act o) c.in_default.is) text (both_parts (is_identifier 1 most_ticket c.args.ticket.now) (is_act c.args.rules act) good).1)

pub invariant_of-result : goal.invariant_of-result
invariant_of-result c =
    let partner : IsTrue (is_partner c.args.who) = search rules in
    let ticket : is_identifier 1 most_ticket c.args.ticket.now ≡ true = search rules in
    let act = read_good c.args.rules c.args.text.now (read_act c.in-Some.act) (option_map read_act c.in_ok-act.field-0) c.in_ok-act.ensures
    (ap (λ (o : Option ReadAct). option_map read_act o) c.in-Some.is) in
    both_true (both_true partner ticket) act

pub returns : goal.returns
returns c = λ act good text.
    ap (λ (a : Act). Some (c.args.rules, Clerk c.args.who c.args.ticket.now a)) (read_same c.args.rules c.args.text.now act (read_act c.in-Some.act) (option_map read_act c.in_ok-act.field-0) c.in_ok-act.ensures
    (ap (λ (o : Option ReadAct). option_map read_act o) c.in-Some.is) text (both_parts (is_identifier 1 most_ticket c.args.ticket.now) (is_act c.args.rules act) good).1)
