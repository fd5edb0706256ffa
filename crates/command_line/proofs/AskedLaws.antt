-- What a line asks for has what must be there of it; and how a fault is handed on.
use Rattle.std.proofs.Common.{◌≡◌, ◌∙◌, sym, subst, refl, true, false, bytes_eq, codes, List, Option, None, Some, option_map, Result, Ok, Err, IfErr}
use Rattle.std.proofs.lemmas.Slice.Eq.{bytes_eq-Decides}
use Rattle.std.specs.Prelude.{IsErrAnd}
use Rattle.clap.specs.Walk.{Row, Text}
use Rattle.command_line.specs.Asked.{Found, Has, IsThere, HasAll, LacksMemory, Reads, ReadsNumber, SaysNumberOf, SaysService, SaysAct, SaysShow, SaysTask, SaysPart, SaysHandOn, Lacks, act_name, takes_server}
use Rattle.command_line.specs.declared.words.LineFault.{LineFault}
use Rattle.command_line.specs.declared.words.Service.{Service}
use Rattle.command_line.specs.declared.words.Task.{Task}
use Rattle.command_line.specs.declared.words.Task.TheVariants as task
use Rattle.command_line.specs.declared.words.BookAct.{BookAct}
use Rattle.command_line.specs.declared.words.BookAct.TheVariants as act
use Rattle.command_line.specs.declared.words.Show.{Show}
use Rattle.command_line.specs.declared.words.Show.TheVariants as show
use Rattle.definitions.specs.declared.sheet_kind.SheetKind.{SheetKind}
use Rattle.definitions.specs.declared.sheet_kind.SheetKind.TheVariants.{Count, Pick, Recount}

-- a fault that is handed on
pub handed : {A P Q : Type 0} (r : Result A LineFault) (f : LineFault) → IsErrAnd r (λ g. g ≡ f) → LacksMemory P f → (Q → P)
    → IfErr r (LacksMemory Q)
handed (Ok x) f same lacks from = tt
handed (Err g) f same lacks from = λ q. same ∙ lacks (from q)

-- the same, where it is read of a line
pub reads_on : {A P : Type 0} (Says : A → Type 0) (r : Result A LineFault) (f : LineFault) → IsErrAnd r (λ g. g ≡ f) → LacksMemory P f
    → ((a : A) × Says a → P) → Reads Says r
reads_on Says (Ok x) f same lacks from = absurd same
reads_on Says (Err g) f same lacks from = record { ok = tt; err = λ q. same ∙ lacks (from q) }

-- what is refused for want of memory where this can be read, is where more can
pub lacks_from : {A P Q : Type 0} (r : Result A LineFault) → IfErr r (LacksMemory P) → (Q → P) → IfErr r (LacksMemory Q)
lacks_from (Ok x) lacks from = tt
lacks_from (Err f) lacks from = λ q. lacks (from q)

-- what is there can't be read as nothing
pub unread : {A : Type 0} (a : Option A) → Some None ≡ option_map (λ x. Some x) a → ⊥
unread None is = absurd (cc)
unread (Some x) is = absurd (cc)

-- one text isn't two
elsewhere : {A : Type 0} {w a b : Text} → w ≡ a → w ≡ b → bytes_eq a b ≡ false → A
elsewhere {A} {w} {a} {b} i j other = absurd (let d : true ≡ false = sym ((bytes_eq-Decides a b).1 (sym i ∙ j)) ∙ other in cc)

-- an argument that may be left out
may : {A : Type 0} → false ≡ true → A
may is = absurd (cc)

named : (rows : List Row) {name w : Text} → w ≡ name → HasAll (name, rows) → HasAll (w, rows)
named rows {name} {w} is has = subst (λ (n : Text). HasAll (n, rows)) (sym is) has

module _ (rows : List Row) where
  clerk_has : (k : SheetKind) (who ticket number sheet : Text) → Has rows (codes "who") who → Has rows (codes "ticket") ticket
      → SaysNumberOf k rows number → Has rows (codes "sheet") sheet → HasAll (act_name k, rows)
  clerk_has Count who ticket number sheet w t n s = ((λ _. (who, w)), ((λ _. (ticket, t)), ((λ _. (number, n)), ((λ _. (sheet, s)), (may, (may, tt))))))
  clerk_has Pick who ticket number sheet w t n s = ((λ _. (who, w)), ((λ _. (ticket, t)), ((λ _. (number, n)), ((λ _. (sheet, s)), (may, (may, tt))))))
  clerk_has Recount who ticket number sheet w t n s = ((λ _. (who, w)), ((λ _. (ticket, t)), ((λ _. (sheet, s)), (may, (may, tt)))))

  pub has_who : (k : SheetKind) → HasAll (act_name k, rows) → IsThere rows (codes "who")
  has_who Count has = has.0 refl
  has_who Pick has = has.0 refl
  has_who Recount has = has.0 refl

  pub has_ticket : (k : SheetKind) → HasAll (act_name k, rows) → IsThere rows (codes "ticket")
  has_ticket Count has = has.1.0 refl
  has_ticket Pick has = has.1.0 refl
  has_ticket Recount has = has.1.0 refl

  pub has_number : (k : SheetKind) → (k ≡ Recount → ⊥) → HasAll (act_name k, rows) → IsThere rows (codes "number")
  has_number Count other has = has.1.1.0 refl
  has_number Pick other has = has.1.1.0 refl
  has_number Recount other has = absurd (other refl)

  pub has_sheet : (k : SheetKind) → HasAll (act_name k, rows) → IsThere rows (codes "sheet")
  has_sheet Count has = has.1.1.1.0 refl
  has_sheet Pick has = has.1.1.1.0 refl
  has_sheet Recount has = has.1.1.0 refl

act_has : (f : Found) (a : BookAct) → SaysAct f a → HasAll f
act_has f (act.Enrol who) s = named f.1 s.0 ((λ _. (who.now, s.1)), (may, (may, tt)))
act_has f (act.Roster file) s = named f.1 s.0 ((λ _. (file.now, s.1)), (may, tt))
act_has f (act.Send file) s = named f.1 s.0 ((λ _. (file.now, s.1)), (may, (may, tt)))
act_has f (act.Take dir to) s = named f.1 s.0 ((λ _. (dir.now, s.1)), (may, (may, tt)))
act_has f (act.Clerk t) s = named f.1 s.0 (clerk_has f.1 t.kind t.who.now t.ticket.now t.number.now t.sheet.now s.1.0 s.1.1 s.1.2 s.1.3)

show_has : (f : Found) (s : Show) → SaysShow f s → HasAll f
show_has f (show.Stock who is_csv) s = named f.1 s.0 ((λ _. (who.now, s.1)), (may, (may, tt)))
show_has f (show.Open who) s = named f.1 s.0 ((λ _. (who.now, s.1)), (may, tt))
show_has f (show.Advice who number is_csv) s = named f.1 s.0 ((λ _. (who.now, s.1)), ((λ _. (number.now, s.2)), (may, (may, tt))))
show_has f (show.Order who number is_csv) s = named f.1 s.0 ((λ _. (who.now, s.1)), ((λ _. (number.now, s.2)), (may, (may, tt))))
show_has f (show.Outbox who number) s = named f.1 s.0 ((λ _. (who.now, s.1)), (may, (may, (may, tt))))
show_has f show.Depositors s = named f.1 s (may, tt)

hand_on_has : (f : Found) (who dir : Text) → SaysHandOn f who dir → HasAll f
hand_on_has f who dir s = named f.1 s.0 ((λ _. (who, s.1)), (may, (may, (may, tt))))

pub part_has : (f : Found) (t : Task) → SaysPart f t → HasAll f
part_has f (task.Act a at) s = act_has f a s
part_has f (task.Try a at) s = act_has f a s
part_has f (task.Show a) s = show_has f a s
part_has f (task.HandOn who dir) s = hand_on_has f who.now dir.now s
part_has f (task.Init who) s = absurd s
part_has f (task.Batch file) s = absurd s
part_has f (task.Serve service at) s = absurd s
part_has f (task.Verify seal) s = absurd s
part_has f (task.Seal first) s = absurd s

pub task_has : (f : Found) (t : Task) → SaysTask f t → HasAll f
task_has f (task.Init who) s = named f.1 s.0 ((λ _. (who.now, s.1)), (may, tt))
task_has f (task.Act a at) s = act_has f a s.0
task_has f (task.Try a at) s = act_has f a s.0
task_has f (task.Show a) s = show_has f a s
task_has f (task.HandOn who dir) s = hand_on_has f who.now dir.now s
task_has f (task.Batch file) s = named f.1 s.0 ((λ _. (file.now, s.1)), tt)
task_has f (task.Serve service at) s =
    let listen = s.1.0.0 in
    named f.1 s.0 ((λ _. (listen.0, listen.1)), (may, (may, (may, (may, (may, (may, (may, (may, (may, tt))))))))))
task_has f (task.Verify seal) s = named f.1 s.0 (may, (may, tt))
task_has f (task.Seal first) s = named f.1 s.0 (may, (may, tt))

-- the name of what is asked for
clerk_name : {A : Type 0} {w b : Text} (k : SheetKind) → w ≡ act_name k → w ≡ b → bytes_eq (codes "count") b ≡ false
    → bytes_eq (codes "pick") b ≡ false → bytes_eq (codes "recount") b ≡ false → A
clerk_name Count i j c p r = elsewhere i j c
clerk_name Pick i j c p r = elsewhere i j p
clerk_name Recount i j c p r = elsewhere i j r

module _ {A : Type 0} (f : Found) {b : Text} where
  -- no change of a book has this name
  no_act : f.0 ≡ b → bytes_eq (codes "enrol") b ≡ false → bytes_eq (codes "roster") b ≡ false → bytes_eq (codes "send") b ≡ false
      → bytes_eq (codes "take") b ≡ false → bytes_eq (codes "count") b ≡ false → bytes_eq (codes "pick") b ≡ false
      → bytes_eq (codes "recount") b ≡ false → (a : BookAct) → SaysAct f a → A
  no_act is e r s t c p x (act.Enrol who) says = elsewhere says.0 is e
  no_act is e r s t c p x (act.Roster file) says = elsewhere says.0 is r
  no_act is e r s t c p x (act.Send file) says = elsewhere says.0 is s
  no_act is e r s t c p x (act.Take dir to) says = elsewhere says.0 is t
  no_act is e r s t c p x (act.Clerk clerk) says = clerk_name clerk.kind says.0 is c p x

  -- nothing that is shown has it
  no_show : f.0 ≡ b → bytes_eq (codes "stock") b ≡ false → bytes_eq (codes "open") b ≡ false → bytes_eq (codes "advices") b ≡ false → bytes_eq (codes "orders") b ≡ false
      → bytes_eq (codes "outbox") b ≡ false → bytes_eq (codes "depositors") b ≡ false → (a : Show) → SaysShow f a → A
  no_show is s o v r u d (show.Stock who is_csv) says = elsewhere says.0 is s
  no_show is s o v r u d (show.Open who) says = elsewhere says.0 is o
  no_show is s o v r u d (show.Advice who number is_csv) says = elsewhere says.0 is v
  no_show is s o v r u d (show.Order who number is_csv) says = elsewhere says.0 is r
  no_show is s o v r u d (show.Outbox who number) says = elsewhere says.0 is u
  no_show is s o v r u d show.Depositors says = elsewhere says is d

show_number : (f : Found) (a : Show) → SaysShow f a → f.0 ≡ codes "outbox" → ReadsNumber f.1
show_number f (show.Stock who is_csv) s is = elsewhere s.0 is refl
show_number f (show.Open who) s is = elsewhere s.0 is refl
show_number f (show.Advice who number is_csv) s is = elsewhere s.0 is refl
show_number f (show.Order who number is_csv) s is = elsewhere s.0 is refl
show_number f (show.Outbox who number) s is = (number, s.2)
show_number f show.Depositors s is = elsewhere s is refl

-- what is there isn't lacking
lacking : {A : Type 0} (rows : List Row) (id value : Text) → Has rows id value → Lacks rows id → A
lacking rows id value has lacks = absurd (let d : ◌≡◌ {A = Option Text} (Some value) None = sym has ∙ lacks in cc)

pub part_number : (f : Found) (t : Task) → SaysPart f t → Lacks f.1 (codes "into") → f.0 ≡ codes "outbox" → ReadsNumber f.1
part_number f (task.Act a at) s lacks is = no_act f is refl refl refl refl refl refl refl a s
part_number f (task.Try a at) s lacks is = no_act f is refl refl refl refl refl refl refl a s
part_number f (task.Show a) s lacks is = show_number f a s is
part_number f (task.HandOn who dir) s lacks is = lacking f.1 (codes "into") dir.now s.2 lacks
part_number f (task.Init who) s lacks is = absurd s
part_number f (task.Batch file) s lacks is = absurd s
part_number f (task.Serve service at) s lacks is = absurd s
part_number f (task.Verify seal) s lacks is = absurd s
part_number f (task.Seal first) s lacks is = absurd s

show_into : {A : Type 0} (f : Found) (a : Show) (dir : Text) → SaysShow f a → f.0 ≡ codes "outbox" → Has f.1 (codes "into") dir → A
show_into f (show.Stock who is_csv) dir s is has = elsewhere s.0 is refl
show_into f (show.Open who) dir s is has = elsewhere s.0 is refl
show_into f (show.Advice who number is_csv) dir s is has = elsewhere s.0 is refl
show_into f (show.Order who number is_csv) dir s is has = elsewhere s.0 is refl
show_into f (show.Outbox who number) dir s is has = lacking f.1 (codes "into") dir has s.3
show_into f show.Depositors dir s is has = elsewhere s is refl

-- where documents are handed on, what must be there is there, and no number
pub part_into : (f : Found) (t : Task) (dir : Text) → SaysPart f t → f.0 ≡ codes "outbox" → Has f.1 (codes "into") dir
    → HasAll f × Lacks f.1 (codes "number")
part_into f (task.Act a at) dir s is has = no_act f is refl refl refl refl refl refl refl a s
part_into f (task.Try a at) dir s is has = no_act f is refl refl refl refl refl refl refl a s
part_into f (task.Show a) dir s is has = show_into f a dir s is has
part_into f (task.HandOn who other) dir s is has = (hand_on_has f who.now other.now s, s.3)
part_into f (task.Init who) dir s is has = absurd s
part_into f (task.Batch file) dir s is has = absurd s
part_into f (task.Serve service at) dir s is has = absurd s
part_into f (task.Verify seal) dir s is has = absurd s
part_into f (task.Seal first) dir s is has = absurd s

pub task_service : (f : Found) (t : Task) → SaysTask f t → f.0 ≡ codes "serve" → (service : Service) × SaysService f.1 service
task_service f (task.Init who) s is = elsewhere s.0 is refl
task_service f (task.Act a at) s is = no_act f is refl refl refl refl refl refl refl a s.0
task_service f (task.Try a at) s is = no_act f is refl refl refl refl refl refl refl a s.0
task_service f (task.Show a) s is = no_show f is refl refl refl refl refl refl a s
task_service f (task.HandOn who dir) s is = elsewhere s.0 is refl
task_service f (task.Batch file) s is = elsewhere s.0 is refl
task_service f (task.Serve service at) s is = (service, s.1)
task_service f (task.Verify seal) s is = elsewhere s.0 is refl
task_service f (task.Seal first) s is = elsewhere s.0 is refl

pub no_script : (f : Found) (t : Task) → SaysTask f t → f.0 ≡ codes "script" → ⊥
no_script f (task.Init who) s is = elsewhere s.0 is refl
no_script f (task.Act a at) s is = no_act f is refl refl refl refl refl refl refl a s.0
no_script f (task.Try a at) s is = no_act f is refl refl refl refl refl refl refl a s.0
no_script f (task.Show a) s is = no_show f is refl refl refl refl refl refl a s
no_script f (task.HandOn who dir) s is = elsewhere s.0 is refl
no_script f (task.Batch file) s is = elsewhere s.0 is refl
no_script f (task.Serve service at) s is = elsewhere s.0 is refl
no_script f (task.Verify seal) s is = elsewhere s.0 is refl
no_script f (task.Seal first) s is = elsewhere s.0 is refl

-- what the program has for itself has a name of its own
pub part_of : (f : Found) (t : Task) → SaysTask f t → (f.0 ≡ codes "init" → ⊥) → (f.0 ≡ codes "serve" → ⊥) → (f.0 ≡ codes "verify" → ⊥)
    → (f.0 ≡ codes "seal" → ⊥) → (f.0 ≡ codes "batch" → ⊥) → SaysPart f t
part_of f (task.Init who) s i e v l b = absurd (i s.0)
part_of f (task.Act a at) s i e v l b = s.0
part_of f (task.Try a at) s i e v l b = s.0
part_of f (task.Show a) s i e v l b = s
part_of f (task.HandOn who dir) s i e v l b = s
part_of f (task.Batch file) s i e v l b = absurd (b s.0)
part_of f (task.Serve service at) s i e v l b = absurd (e s.0)
part_of f (task.Verify seal) s i e v l b = absurd (v s.0)
part_of f (task.Seal first) s i e v l b = absurd (l s.0)

-- and no server is asked for it
no_server : {A : Type 0} {w : Text} (name : Text) → takes_server w ≡ true → takes_server name ≡ false → w ≡ name → A
no_server name takes other is = absurd (let d : true ≡ false = sym (subst (λ (n : Text). takes_server n ≡ true) is takes) ∙ other in cc)

pub server_part : (f : Found) (t : Task) → SaysTask f t → takes_server f.0 ≡ true → SaysPart f t
server_part f t s takes = part_of f t s (no_server (codes "init") takes refl) (no_server (codes "serve") takes refl)
    (no_server (codes "verify") takes refl) (no_server (codes "seal") takes refl) (no_server (codes "batch") takes refl)
