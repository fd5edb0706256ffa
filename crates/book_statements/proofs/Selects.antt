-- A text that is a query, and asks for no time, only reads under any schema.
use Rattle.std.proofs.Common.{◌≡◌, ◌⊎◌, inl, inr, ℕ, Bool, true, false, List, [], refl, sym, ap, subst, Ok, Err, Option, None, ◌∙◌, ◌+◌}
use Rattle.std.specs.Prelude.{if◌then◌else◌}
use Rattle.sqlite_schema.specs.declared.schema.Schema.{Schema}
use Rattle.sqlite_schema.specs.declared.command.Command.{Command}
use Rattle.sqlite_schema.specs.declared.command.Returning.{Returning}
use Rattle.sqlite_resolve.specs.declared.compiled.Compiled.{Compiled}
use Rattle.sqlite_resolve.specs.declared.error.CompileError.TheVariants.{NoSuchTable}
use Rattle.sqlite_resolve.specs.Scope.{Name}
use Rattle.sqlite_resolve.specs.Lowering.{Checked, and_then}
use Rattle.sqlite_resolve.specs.Compile.{small, first, returning, command, timed, meaning, planned, with_command, compiled}
use Rattle.sqlite.specs.Listing.{understood, reads_listing, listing_schema, if_select, is_select}
use Rattle.book_statements.specs.Asking.{OnlyReads}

-- what a text would give back of a write, and the formats in which it asks for the time
abbrev pub written_of : Schema → ℕ → List ℕ → Checked (Option Returning × List Name)
written_of schema base sql = and_then (first sql) (λ p. and_then (returning schema base p.statement) (λ shown. Ok (shown, timed schema p.formats p.statement)))

-- neither, as it is written
abbrev pub IsQuery : List ℕ → Type 0
IsQuery sql = (schema : Schema) (base : ℕ) → written_of schema base sql ≡ Ok (None, [])

bound : {A B : Type 0} (r : Checked A) (f : A → Checked B) (b : B) → and_then r f ≡ Ok b → (a : A) × (r ≡ Ok a) × (f a ≡ Ok b)
bound (Ok a) f b h = (a, refl, h)
bound (Err e) f b h = absurd (cc)

ok_is : {A : Type 0} (a b : A) → ◌≡◌ {A = Checked A} (Ok a) (Ok b) → a ≡ b
ok_is a b h = cc

chosen : {A : Type 0} (b : Bool) (x y : Checked A) (c : A) → (if b then x else y) ≡ Ok c → (x ≡ Ok c) ⊎ (y ≡ Ok c)
chosen true x y c h = inl h
chosen false x y c h = inr h

-- what a query of a schema's listing is, it is by itself
of_listing : (r : Checked Compiled) (c : Compiled) → if_select r ≡ Ok c → r ≡ Ok c
of_listing (Ok k) c h = elim (chosen (is_select k.command) (Ok k) (Err NoSuchTable) c h) [ inl it ↦ it | inr never ↦ absurd (cc) ]
of_listing (Err e) c h = absurd (cc)

as_plain : (k c : Compiled) → k ≡ c → (k.returning ≡ None) × (k.formats ≡ []) → (c.returning ≡ None) × (c.formats ≡ [])
as_plain k c e h = (ap (λ (x : Compiled). x.returning) (sym e) ∙ h.0, ap (λ (x : Compiled). x.formats) (sym e) ∙ h.1)

as_planned : (plan : List Name × (Command × Option Returning)) (formats : List Name) (found : Command × Option Returning) → (formats, found) ≡ plan → found.1 ≡ None → formats ≡ [] → (plan.1.1 ≡ None) × (plan.0 ≡ [])
as_planned plan formats found e none empty = (ap (λ (f : List Name × (Command × Option Returning)). f.1.1) (sym e) ∙ none, ap (λ (f : List Name × (Command × Option Returning)). f.0) (sym e) ∙ empty)

as_found : (found : Command × Option Returning) (c : Command) (shown : Option Returning) → (c, shown) ≡ found → shown ≡ None → found.1 ≡ None
as_found found c shown e none = ap (λ (f : Command × Option Returning). f.1) (sym e) ∙ none

module _ (schema : Schema) (sql : List ℕ) (c : Compiled) (is : IsQuery sql) where
  compiled_reads : compiled schema sql ≡ Ok c → (c.returning ≡ None) × (c.formats ≡ [])
  unfolding compiled planned meaning
  compiled_reads h =
      let a = bound (first sql) _ c h in
      let p = a.0 in
      let b = bound (planned schema p) _ c a.2 in
      let plan = b.0 in
      let formats = timed schema p.formats p.statement in
      let base : ℕ = small p.names + small formats in
      let d = bound (meaning schema p base) _ plan b.1 in
      let found = d.0 in
      let e = bound (returning schema base p.statement) _ found d.1 in
      let k = bound (command schema p.formats base p.statement) _ found e.2 in
      let bare = bound (returning schema base p.statement) _ (None, []) (subst (λ r. and_then {B = Option Returning × List Name} r (λ q. and_then (returning schema base q.statement) (λ shown. Ok (shown, timed schema q.formats q.statement))) ≡ Ok (None, [])) a.1 (is schema base)) in
      let none : (bare.0, formats) ≡ (None, []) = ok_is _ _ bare.2 in
      let shown : e.0 ≡ None = ok_is e.0 bare.0 (sym e.1 ∙ bare.1) ∙ ap (λ (f : Option Returning × List Name). f.0) none in
      as_plain (with_command p plan) c (ok_is (with_command p plan) c b.2)
      (as_planned plan formats found (ok_is (formats, found) plan d.2) (as_found found k.0 e.0 (ok_is (k.0, e.0) found k.2) shown) (ap (λ (f : Option Returning × List Name). f.1) none))

pub query_reads : (sql : List ℕ) → IsQuery sql → OnlyReads sql
unfolding understood
query_reads sql is schema c h = elim (chosen (reads_listing schema sql) _ _ c h) [
  | inl listed ↦ compiled_reads listing_schema sql c is (of_listing (compiled listing_schema sql) c listed)
  | inr plain ↦ compiled_reads schema sql c is plain
]
