-- What is shown of stock, of what is open, and of an order.
use Rattle.std.proofs.Common.{◌≡◌, ◌∙◌, ℕ, Bool, List, [], Option, Some, None, option_map, Ok, Err, IfErr, OnErr, OnOk, Result, refl, sym, ap, subst, inr}
use Rattle.std.specs.Io.KnownBytes.{Appends}
use Rattle.definitions.specs.History.{History}
use Rattle.definitions.specs.Need.{Need}
use Rattle.definitions.specs.declared.refusals.Refusal.{Refusal}
use Rattle.definitions.specs.declared.refusals.Refusal.TheVariants.{UnknownDepositor}
use Rattle.definitions.specs.Register.{Entry}
use Rattle.definitions.specs.Rows.{StockRow}
use Rattle.store.specs.Decided.{IsHeldPart}
use Rattle.reports.specs.Exports.{stock_text}
use Rattle.reports.specs.Open.{open_report}
use Rattle.store.specs.Pages.{PageFacts}
use Rattle.store.specs.Held.{IsHeld}
use Rattle.store.specs.Open.{OpenWork, open_on}
use Rattle.store.specs.Standing.{Standing, OfKept}
use Rattle.commands.specs.Stops.{IsDeviceStop}
use Rattle.commands.specs.Shown.{Shown, IsShown, IsShowStopped, picking_text, receiving_text, shown_by, shown_stock, shown_open, shown_sheet}
use Rattle.commands.specs.declared.told.CommandError.{CommandError}
use Rattle.commands.specs.declared.told.ExitStatus.{ExitStatus}
use Rattle.commands.specs.declared.told.ExitStatus.TheVariants.{Done, Refused}
use Rattle.commands.specs.Printing.{AppendsFront}
use Rattle.commands.specs.Refused.{line_if, refused_by, refused_sheet, refused_stranger}
use Rattle.commands.specs.Telling.{refused_line}
use Rattle.commands.proofs.PrintingLaws.{front_all, on_err}
use Rattle.commands.proofs.TellingLaws.{appends_nothing}

-- the report of the rows that were found
pub stock_shown : {T : Type 0} (rows_of : T → List StockRow) (o : Option T) (v : T) (is_csv : Bool) (found : Option (List StockRow)) (rows : List StockRow) (text written : List ℕ)
    (before later : Option (List ℕ)) → o ≡ Some v → option_map rows_of o ≡ found → rows ≡ rows_of v
    → text ≡ stock_text is_csv rows → written ≡ text → Appends before later written
    → IsShown (shown_stock is_csv found) before later Done
stock_shown rows_of o v is_csv found rows text written before later is e r t w told =
    let given : Some (rows_of v) ≡ found = sym (ap (option_map rows_of) is) ∙ e in
    let report : written ≡ stock_text is_csv (rows_of v) = w ∙ t ∙ ap (λ k. stock_text is_csv k) r in
    subst (λ k. IsShown (shown_stock is_csv k) before later Done) given
    (record { printed = subst (Appends before later) report told; says = refl })

-- what is open on the page that was found
pub open_shown : (o : Option PageFacts) (p : PageFacts) (found : Option OpenWork) (text written : List ℕ) (before later : Option (List ℕ)) → o ≡ Some p
    → option_map open_on o ≡ found → text ≡ open_report (open_on p) → written ≡ text → Appends before later written → IsShown (shown_open found) before later Done
open_shown o p found text written before later is e t w told =
    let given : Some (open_on p) ≡ found = sym (ap (option_map open_on) is) ∙ e in
    subst (λ k. IsShown (shown_open k) before later Done) given (record { printed = subst (Appends before later) (w ∙ t) told; says = refl })

-- what was read, and couldn't be told
pub unshown : {T : Type 0} (old new : Standing) (shown : List Entry → Shown) (what : Shown) (before later : Option (List ℕ)) (r : Result T CommandError)
    → OfKept old new (λ L. what ≡ shown L) → OnErr r (AppendsFront before later what.0) → IfErr r IsDeviceStop → IfErr r (IsShowStopped old new shown before later)
unshown old new shown what before later (Ok x) read front why = tt
unshown old new shown what before later (Err e) read front why = inr (record { what = what; read = read; printed = front; why = why })

-- what was found, where something was, and where nothing was
pub given_some : {T A : Type 0} (f : T → A) (o : Option T) (v : T) (found : Option A) → o ≡ Some v → option_map f o ≡ found → Some (f v) ≡ found
given_some f o v found is e = sym (ap (option_map f) is) ∙ e

pub given_none : {T A : Type 0} (f : T → A) (o : Option T) (found : Option A) → o ≡ None → option_map f o ≡ found → None ≡ found
given_none f o found is e = sym (ap (option_map f) is) ∙ e

-- these bytes were printed of it, or a beginning of them
pub unshown_text : {T : Type 0} (old new : Standing) (shown : List Entry → Shown) (what : Shown) (written : List ℕ) (before later : Option (List ℕ)) (r : Result T CommandError)
    → OfKept old new (λ L. what ≡ shown L) → written ≡ what.0 → AppendsFront before later written → IfErr r IsDeviceStop → IfErr r (IsShowStopped old new shown before later)
unshown_text old new shown what written before later r read is front why = unshown old new shown what before later r read (on_err r (subst (AppendsFront before later) is front)) why

-- nothing is printed of it
pub unshown_none : {T : Type 0} (old new : Standing) (shown : List Entry → Shown) (what : Shown) (before : Option (List ℕ)) (r : Result T CommandError)
    → OfKept old new (λ L. what ≡ shown L) → what.0 ≡ [] → IfErr r IsDeviceStop → IfErr r (IsShowStopped old new shown before before)
unshown_none old new shown what before r read is why = unshown_text old new shown what [] before before r read (sym is) (front_all before before [] (appends_nothing before)) why

-- the sheets that are shown
abbrev pub picking : Bool → List ℕ → History → Result (List ℕ) Refusal
picking is_csv number h = picking_text is_csv h.events number

abbrev pub receiving : Bool → List ℕ → History → Result (List ℕ) Refusal
receiving is_csv number h = receiving_text is_csv h.events number

-- A sheet of a number, that needs so much of a page.
module _ (needs : List ℕ → Need) (sheet : List ℕ → History → Result (List ℕ) Refusal) where
  -- the sheet of what a page holds
  sheet_given : (number : List ℕ) (o : Option History) (p : _) (text : List ℕ) (before later : Option (List ℕ)) → IsHeld (needs number) (Some p) o
      → ((h : History) → IsHeldPart (needs number) p h → sheet number h ≡ Ok text) → Appends before later text
      → IsShown (shown_by (sheet number) o) before later Done
  sheet_given number None p text before later held listed told = absurd held
  sheet_given number (Some h) p text before later held listed told = rw (listed h held) (record { printed = told; says = refl })

  pub sheet_shown : (number first second : List ℕ) (need : Need) (o : Option History) (q : _) (p : _) (text written : List ℕ) (before later : Option (List ℕ))
      → first ≡ number → second ≡ number → need ≡ needs first → q ≡ Some p → IsHeld need q o
      → ((h : History) → IsHeldPart (needs second) p h → sheet second h ≡ Ok text) → written ≡ text → Appends before later written
      → IsShown (shown_by (sheet number) o) before later Done
  sheet_shown number first second need o q p text written before later f s n is held listed w told =
      let known = subst (λ k. IsHeld k (Some p) o) (n ∙ ap needs f) (subst (λ k. IsHeld need k o) is held) in
      sheet_given number o p text before later known
      (subst (λ k. (h : History) → IsHeldPart (needs k) p h → sheet k h ≡ Ok text) s listed)
      (subst (Appends before later) w told)

  -- why there is none, which prints nothing
  no_sheet : (number : List ℕ) (o : Option History) (p : _) (why : Refusal) (before : Option (List ℕ)) (status : ExitStatus) → IsHeld (needs number) (Some p) o
      → ((h : History) → IsHeldPart (needs number) p h → sheet number h ≡ Err why) → status ≡ Refused
      → IsShown (shown_by (sheet number) o) before before status
  no_sheet number None p why before status held listed is = absurd held
  no_sheet number (Some h) p why before status held listed is = rw (listed h held) (record { printed = appends_nothing before; says = is })

  pub no_sheet_shown : (number first second : List ℕ) (need : Need) (o : Option History) (q : _) (p : _) (why : Refusal) (before : Option (List ℕ)) (status : ExitStatus)
      → first ≡ number → second ≡ number → need ≡ needs first → q ≡ Some p → IsHeld need q o
      → ((h : History) → IsHeldPart (needs second) p h → sheet second h ≡ Err why) → status ≡ Refused
      → IsShown (shown_by (sheet number) o) before before status
  no_sheet_shown number first second need o q p why before status f s n is held listed r =
      let known = subst (λ k. IsHeld k (Some p) o) (n ∙ ap needs f) (subst (λ k. IsHeld need k o) is held) in
      no_sheet number o p why before status known
      (subst (λ k. (h : History) → IsHeldPart (needs k) p h → sheet k h ≡ Err why) s listed) r

  -- the same of what is shown, whether it was told or not

  sheet_made : (number : List ℕ) (o : Option History) (p : _) (made : Result (List ℕ) Refusal) → IsHeld (needs number) (Some p) o
      → ((h : History) → IsHeldPart (needs number) p h → sheet number h ≡ made) → shown_sheet made ≡ shown_by (sheet number) o
  sheet_made number None p made held listed = absurd held
  sheet_made number (Some h) p made held listed = ap shown_sheet (sym (listed h held))

  pub sheet_read : (number first second : List ℕ) (need : Need) (o : Option History) (q : _) (p : _) (made : Result (List ℕ) Refusal)
      → first ≡ number → second ≡ number → need ≡ needs first → q ≡ Some p → IsHeld need q o
      → ((h : History) → IsHeldPart (needs second) p h → sheet second h ≡ made) → shown_sheet made ≡ shown_by (sheet number) o
  sheet_read number first second need o q p made f s n is held listed =
      let known = subst (λ k. IsHeld k (Some p) o) (n ∙ ap needs f) (subst (λ k. IsHeld need k o) is held) in
      sheet_made number o p made known (subst (λ k. (h : History) → IsHeldPart (needs k) p h → sheet k h ≡ made) s listed)

  -- a stranger's
  pub stranger_read : (number : List ℕ) (need : Need) (o : Option History) (q : _) → q ≡ None → IsHeld need q o → shown_by (sheet number) None ≡ shown_by (sheet number) o
  stranger_read number need o q is held = of_none number need o (subst (λ k. IsHeld need k o) is held)
    where
      of_none : (number : List ℕ) (need : Need) (o : Option History) → IsHeld need None o → shown_by (sheet number) None ≡ shown_by (sheet number) o
      of_none number need None held = refl
      of_none number need (Some h) held = absurd held

-- What is told on standard error of what isn't shown.

pub stranger_said : {T A S : Type 0} (f : T → A) (o : Option T) (found : Option A) (before later : Option (List ℕ)) (r : Result S CommandError) → o ≡ None → option_map f o ≡ found
    → OnOk r (Appends before later (refused_line UnknownDepositor)) → OnOk r (Appends before later (line_if (refused_stranger found)))
stranger_said {T} {A} f o found before later r is e told =
    subst (λ (k : Option A). OnOk r (Appends before later (line_if (refused_stranger k)))) (given_none f o found is e) told

pub nothing_said : {T A : Type 0} (f : T → A) (o : Option T) (v : T) (found : Option A) (before : Option (List ℕ)) → o ≡ Some v → option_map f o ≡ found
    → Appends before before (line_if (refused_stranger found))
nothing_said {T} {A} f o v found before is e =
    subst (λ (k : Option A). Appends before before (line_if (refused_stranger k))) (given_some f o v found is e) (appends_nothing before)

-- why there is none
module _ (needs : List ℕ → Need) (sheet : List ℕ → History → Result (List ℕ) Refusal) where
  -- of what a page holds
  why_of : (number : List ℕ) (o : Option History) (p : _) (made : Result (List ℕ) Refusal) → IsHeld (needs number) (Some p) o
      → ((h : History) → IsHeldPart (needs number) p h → sheet number h ≡ made) → refused_sheet made ≡ refused_by (sheet number) o
  why_of number None p made held listed = absurd held
  why_of number (Some h) p made held listed = ap refused_sheet (sym (listed h held))

  pub sheet_why : (number first second : List ℕ) (need : Need) (o : Option History) (q : _) (p : _) (made : Result (List ℕ) Refusal)
      → first ≡ number → second ≡ number → need ≡ needs first → q ≡ Some p → IsHeld need q o
      → ((h : History) → IsHeldPart (needs second) p h → sheet second h ≡ made) → refused_sheet made ≡ refused_by (sheet number) o
  sheet_why number first second need o q p made f s n is held listed =
      let known = subst (λ k. IsHeld k (Some p) o) (n ∙ ap needs f) (subst (λ k. IsHeld need k o) is held) in
      why_of number o p made known (subst (λ k. (h : History) → IsHeldPart (needs k) p h → sheet k h ≡ made) s listed)

  pub stranger_why : (number : List ℕ) (need : Need) (o : Option History) (q : _) → q ≡ None → IsHeld need q o → refused_by (sheet number) None ≡ refused_by (sheet number) o
  stranger_why number need o q is held = of_none number need o (subst (λ k. IsHeld need k o) is held)
    where
      of_none : (number : List ℕ) (need : Need) (o : Option History) → IsHeld need None o → refused_by (sheet number) None ≡ refused_by (sheet number) o
      of_none number need None held = refl
      of_none number need (Some h) held = absurd held

-- the line of a refusal that is this one
pub why_said : {S : Type 0} (why found : Option Refusal) (before later : Option (List ℕ)) (r : Result S CommandError) → why ≡ found → OnOk r (Appends before later (line_if why))
    → OnOk r (Appends before later (line_if found))
why_said why found before later r is told = subst (λ (k : Option Refusal). OnOk r (Appends before later (line_if k))) is told

pub none_said : (found : Option Refusal) (before : Option (List ℕ)) → None ≡ found → Appends before before (line_if found)
none_said found before is = subst (λ (k : Option Refusal). Appends before before (line_if k)) is (appends_nothing before)
