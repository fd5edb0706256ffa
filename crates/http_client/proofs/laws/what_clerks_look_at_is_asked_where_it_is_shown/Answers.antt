use Rattle.std.proofs.Common.{◌≡◌, true, false, refl, ◌∙◌, Option, Some, None}
use Rattle.std.specs.Prelude.{is_some, option_map}
use Rattle.definitions.specs.Header.{Who, who_of}
use Rattle.commands.specs.Looking.{is_readable}
use Rattle.intake.specs.Calls.{Call, call_of, owner_of}
use Rattle.command_line.specs.declared.words.Show.{Show}
use Rattle.command_line.specs.declared.words.Show.TheVariants as show
use Rattle.http_client.specs.Paths.{look_path, show_call}
use Rattle.http_client.proofs.PathLaws.{order_found, export_found, open_found, depositors_found}
use Rattle.http_client.proofs.laws.what_clerks_look_at_is_asked_where_it_is_shown.Goals as goal

there : {X : Type 0} (f : Who → X) (o : Option Who) → is_some (option_map f o) ≡ true → (w : Who) × (o ≡ Some w)
there f None h = absurd (cc)
there f (Some w) h = (w, refl)

found : (s : Show) → is_readable s ≡ true → (call : Call) → show_call s ≡ Some call → call_of (look_path s) ≡ Some call
found (show.Advice who number is_csv) h call is = absurd (cc)
found (show.Order who number true) h call is = absurd (cc)
found (show.Order who number false) h call is =
    let w = there _ (owner_of who.now number.now) h in
    order_found who.now number.now w.0 w.1 ∙ is
found (show.Stock who true) h call is =
    let w = there _ (who_of who.now) h in
    export_found who.now w.0 w.1 ∙ is
found (show.Open who) h call is =
    let w = there _ (who_of who.now) h in
    open_found who.now w.0 w.1 ∙ is
found show.Depositors h call is = depositors_found ∙ is
found (show.Stock who false) h call is = absurd (cc)
found (show.Outbox who number) h call is = absurd (cc)

pub returns : goal.returns
returns c = found c.args.show.now
