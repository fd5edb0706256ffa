-- A row that asks for a book, whose first word is `init`, asks for nothing else.
use mathlib.Core.Bool.{true≢false}
use Rattle.std.proofs.Common.{◌≡◌, ◌≢◌, refl, sym, ap, subst, ◌∙◌, Bool, false, List, ℕ, Option}
use Rattle.std.specs.Prelude.{bytes_eq, codes, unwrap_or}
use Rattle.definitions.specs.Readings.{parts_at}
use Rattle.definitions.specs.declared.sheet_kind.SheetKind.{SheetKind}
use Rattle.definitions.specs.declared.sheet_kind.SheetKind.TheVariants.{Count, Pick, Recount}
use Rattle.command_line.specs.Asked.{Found, IsLineRead, Says, SaysAct, SaysShow, act_name, takes_server}
use Rattle.command_line.specs.declared.words.BookAct.{BookAct}
use Rattle.command_line.specs.declared.words.BookAct.TheVariants as act
use Rattle.command_line.specs.declared.words.Place.TheVariants.{Script}
use Rattle.command_line.specs.declared.words.Show.{Show}
use Rattle.command_line.specs.declared.words.Show.TheVariants as show
use Rattle.command_line.specs.declared.words.Task.{Task}
use Rattle.command_line.specs.declared.words.Task.TheVariants as task
use Rattle.command_line.specs.declared.words.Words.{Words}
use Rattle.command_line.specs.declared.words.Words.TheVariants as words
use Rattle.commands.specs.Scripts.{CanMakeBook, IsInit}

abbrev is_init : List ℕ → Bool
is_init name = bytes_eq name (codes "init")

kind_not : (kind : SheetKind) → is_init (act_name kind) ≡ false
kind_not Count = refl
kind_not Pick = refl
kind_not Recount = refl

act_not : (f : Found) (a : BookAct) → SaysAct f a → is_init f.0 ≡ false
act_not f (act.Enrol who) s = ap is_init s.0
act_not f (act.Roster file) s = ap is_init s.0
act_not f (act.Send file) s = ap is_init s.0
act_not f (act.Take dir to) s = ap is_init s.0
act_not f (act.Clerk told) s = ap is_init s.0 ∙ kind_not told.kind

show_not : (f : Found) (a : Show) → SaysShow f a → is_init f.0 ≡ false
show_not f (show.Stock who is_csv) s = ap is_init s.0
show_not f (show.Open who) s = ap is_init s.0
show_not f (show.Advice who number is_csv) s = ap is_init s.0
show_not f (show.Order who number is_csv) s = ap is_init s.0
show_not f (show.Outbox who number) s = ap is_init s.0
show_not f show.Depositors s = ap is_init s

named_so : (f : Found) (asked : Words) (name : List ℕ) → IsInit asked name → Says Script f asked → f.0 ≡ codes "init"
named_so f (words.Over book opening (task.Init who)) name i s = s.5.0
named_so f (words.Over book opening (task.Act a at)) name i s = absurd i
named_so f (words.Over book opening (task.Try a at)) name i s = absurd i
named_so f (words.Over book opening (task.Show a)) name i s = absurd i
named_so f (words.Over book opening (task.Batch file)) name i s = absurd i
named_so f (words.Over book opening (task.Serve a at)) name i s = absurd i
named_so f (words.Over book opening (task.Verify seal)) name i s = absurd i
named_so f (words.Over book opening (task.HandOn who dir)) name i s = absurd i
named_so f (words.Over book opening (task.Seal first)) name i s = absurd i
named_so f (words.Script file) name i s = absurd i
named_so f (words.Remote server t) name i s = absurd i

clash : (f : Found) → f.0 ≡ codes "init" → is_init f.0 ≡ false → ⊥
clash f is not = true≢false (sym (ap is_init is) ∙ not)

alone : (f : Found) (other : Words) → Says Script f other → f.0 ≡ codes "init" → ((name : List ℕ) → IsInit other name → ⊥) → ⊥
alone f (words.Over book opening (task.Init who)) s is none = none who.now refl
alone f (words.Over book opening (task.Act a at)) s is none = clash f is (act_not f a s.5.0)
alone f (words.Over book opening (task.Try a at)) s is none = clash f is (act_not f a s.5.0)
alone f (words.Over book opening (task.Show a)) s is none = clash f is (show_not f a s.5)
alone f (words.Over book opening (task.Batch file)) s is none = clash f is (ap is_init s.5.0)
alone f (words.Over book opening (task.Serve a at)) s is none = clash f is (ap is_init s.5.0)
alone f (words.Over book opening (task.Verify seal)) s is none = clash f is (ap is_init s.5.0)
alone f (words.Over book opening (task.HandOn who dir)) s is none = clash f is (ap is_init s.5.0)
alone f (words.Over book opening (task.Seal first)) s is none = clash f is (ap is_init s.5.0)
alone f (words.Script file) s is none = clash f is (ap is_init s.0)
alone f (words.Remote server t) s is none = true≢false (sym s.2 ∙ ap takes_server is)

pub unasked : (row : List ℕ) (read : List (List ℕ)) (other : Words) → read ≡ parts_at 32 row → IsLineRead Script read other → ((name : List ℕ) → IsInit other name → ⊥) → CanMakeBook row → ⊥
unasked row read other same r none can =
    let mine : IsLineRead Script (parts_at 32 row) other = subst (λ (ws : List (List ℕ)). IsLineRead Script ws other) same r in
    let asks = can.asks in
    let one : mine.found ≡ asks.read.found = ap (λ (o : Option Found). unwrap_or o mine.found) (sym mine.named ∙ asks.read.named) in
    alone mine.found other mine.says (ap (λ (f : Found). f.0) one ∙ named_so asks.read.found asks.asked can.name asks.init asks.read.says) none

pub no_over : (asked : Words) → ((book : _) (opening : _) (t : Task) → asked ≢ words.Over book opening t) → (name : List ℕ) → IsInit asked name → ⊥
no_over (words.Over book opening t) not name i = not book opening t refl
no_over (words.Script file) not name i = i
no_over (words.Remote server t) not name i = i

pub no_init : (book : _) (opening : _) (t : Task) → ((who : _) → t ≢ task.Init who) → (name : List ℕ) → IsInit (words.Over book opening t) name → ⊥
no_init book opening (task.Init who) not name i = not who refl
no_init book opening (task.Act a at) not name i = i
no_init book opening (task.Try a at) not name i = i
no_init book opening (task.Show a) not name i = i
no_init book opening (task.Batch file) not name i = i
no_init book opening (task.Serve a at) not name i = i
no_init book opening (task.Verify seal) not name i = i
no_init book opening (task.HandOn who dir) not name i = i
no_init book opening (task.Seal first) not name i = i
