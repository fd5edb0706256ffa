-- What a line of words asks for, and what one that can be read is refused for.
use Rattle.std.specs.Prelude.{◌≡◌, ◌≤◌, ◌-◌, ◌⊎◌, ℕ, Bool, true, false, ◌||◌, List, [], ◌∷◌, ◌++◌, ⊤, Option, Some, None, MatchOption, IsTrue, Result, IfOk, IfErr, is_some, option_map, unwrap_or, length, map, replicate, codes, bytes_eq}
use Rattle.std.specs.Borrow.{Bor}
use Rattle.std.specs.Net.Addr.{MatchIp, IsLoopbackV4, IsLoopbackV6}
use Rattle.std.specs.Net.Grammar.{IsSocketText}
use Rattle.std.specs.Net.Socket.{socket_ip}
use Rattle.std.specs.Option.{option_map_or}
use Rattle.std.specs.declared.net.socket_addr.SocketAddr.{SocketAddr}
use Rattle.clap.specs.Walk.{Row, Rule, Text, all_of, first_of}
use Rattle.clap.specs.Simple.{subcommand_of}
use Rattle.clap.specs.Takes.{takes}
use Rattle.definitions.specs.Moments.{Moment}
use Rattle.command_line.specs.Written.{moment_of, number_of, count_of, wait_of}
use Rattle.command_line.specs.declared.words.Place.{Place}
use Rattle.command_line.specs.declared.words.Place.TheVariants as place
use Rattle.command_line.specs.declared.words.Endpoint.{Endpoint}
use Rattle.command_line.specs.declared.words.Endpoint.TheVariants.{Inet, Unix}
use Rattle.command_line.specs.declared.words.Opening.{Opening}
use Rattle.command_line.specs.declared.words.Words.{Words}
use Rattle.command_line.specs.declared.words.Words.TheVariants as words
use Rattle.command_line.specs.declared.words.Task.{Task}
use Rattle.command_line.specs.declared.words.Task.TheVariants as task
use Rattle.command_line.specs.declared.words.Service.{Service}
use Rattle.command_line.specs.declared.words.BookAct.{BookAct}
use Rattle.command_line.specs.declared.words.BookAct.TheVariants as act
use Rattle.command_line.specs.declared.words.Show.{Show}
use Rattle.command_line.specs.declared.words.Show.TheVariants as show
use Rattle.command_line.specs.declared.words.ClerkWords.{ClerkWords}
use Rattle.command_line.specs.declared.words.LineFault.{LineFault}
use Rattle.command_line.specs.declared.words.LineFault.TheVariants.{OutOfMemory}
use Rattle.definitions.specs.declared.sheet_kind.SheetKind.{SheetKind}
use Rattle.definitions.specs.declared.sheet_kind.SheetKind.TheVariants.{Count, Pick, Recount}
use Rattle.command_line.specs.Lines.{app_at, rules_of}

-- how often a line may name hosts, at most
abbrev pub most_hosts : ℕ
most_hosts = 8

-- the subcommand that a line names, and what was found for its values
abbrev pub Found : Type 0
Found = Text × List Row

abbrev pub found_at : Place → List Text → Option Found
found_at p words = subcommand_of (app_at p) words

-- the name is the first word
abbrev pub stands_first : Text → List Text → Bool
stands_first name [] = false
stands_first name (w ∷ ws) = bytes_eq w name

-- the value under this name
abbrev pub Has : List Row → Text → Text → Type 0
Has rows id value = first_of id rows ≡ Some value

-- no value is under this name
abbrev pub Lacks : List Row → Text → Type 0
Lacks rows id = first_of id rows ≡ None

-- whether the line has this option without a value
abbrev pub has_flag : List Row → Text → Bool
has_flag rows id = option_map_or (λ text. bytes_eq text (codes "true")) (first_of id rows) false

-- the moment that the line says is this one, or it says none
abbrev pub SaysMoment : List Row → Option Moment → Type 0
SaysMoment rows at = option_map moment_of (first_of (codes "at") rows) ≡ option_map Some at

-- the number that the line says is this one, or it says none
abbrev pub SaysNumber : List Row → Option ℕ → Type 0
SaysNumber rows number =
    option_map number_of (first_of (codes "number") rows) ≡ option_map Some number

-- the number that the line says as this option is one from 1 to 65535, this one, or it says none
abbrev pub SaysFew : List Row → Text → Option ℕ → Type 0
SaysFew rows id few = option_map count_of (first_of id rows) ≡ option_map Some few

abbrev pub act_name : SheetKind → Text
act_name Count = codes "count"
act_name Pick = codes "pick"
act_name Recount = codes "recount"

-- the line says this as this option, or it doesn't have it
abbrev pub SaysText : List Row → Text → Option (Bor Text) → Type 0
SaysText rows id text = first_of id rows ≡ option_map (λ b. b.now) text

-- the number of the advice or the order, which a recount doesn't have
abbrev pub SaysNumberOf : SheetKind → List Row → Text → Type 0
SaysNumberOf Recount rows number = number ≡ []
SaysNumberOf d rows number = Has rows (codes "number") number

abbrev pub SaysWords : List Row → ClerkWords → Type 0
SaysWords rows t = Has rows (codes "who") t.who.now × Has rows (codes "ticket") t.ticket.now
    × SaysNumberOf t.kind rows t.number.now × Has rows (codes "sheet") t.sheet.now

abbrev pub SaysAct : Found → BookAct → Type 0
SaysAct f (act.Enrol who) = (f.0 ≡ codes "enrol") × Has f.1 (codes "who") who.now
SaysAct f (act.Roster file) = (f.0 ≡ codes "roster") × Has f.1 (codes "file") file.now
SaysAct f (act.Send file) = (f.0 ≡ codes "send") × Has f.1 (codes "file") file.now
SaysAct f (act.Take dir to) = (f.0 ≡ codes "take") × Has f.1 (codes "dir") dir.now
    × SaysText f.1 (codes "done") to
SaysAct f (act.Clerk t) = (f.0 ≡ act_name t.kind) × SaysWords f.1 t

abbrev pub SaysShow : Found → Show → Type 0
SaysShow f (show.Stock who is_csv) = (f.0 ≡ codes "stock") × Has f.1 (codes "who") who.now
    × (is_csv ≡ has_flag f.1 (codes "csv"))
SaysShow f (show.Open who) = (f.0 ≡ codes "open") × Has f.1 (codes "who") who.now
SaysShow f (show.Advice who number is_csv) = (f.0 ≡ codes "advices")
    × Has f.1 (codes "who") who.now
    × Has f.1 (codes "number") number.now × (is_csv ≡ has_flag f.1 (codes "csv"))
SaysShow f (show.Order who number is_csv) = (f.0 ≡ codes "orders") × Has f.1 (codes "who") who.now
    × Has f.1 (codes "number") number.now × (is_csv ≡ has_flag f.1 (codes "csv"))
SaysShow f (show.Outbox who number) = (f.0 ≡ codes "outbox") × Has f.1 (codes "who") who.now
    × SaysNumber f.1 number × Lacks f.1 (codes "into")
SaysShow f show.Depositors = f.0 ≡ codes "depositors"

-- the path of a socket in the file system is written so, as `unix:/run/whx12.sock`
abbrev pub IsPathText : Text → Text → Type 0
IsPathText text path = text ≡ codes "unix:" ++ path

-- where a server listens is written so: such a path, or an address as std's grammar has it, an IP
-- address, a colon and a port
abbrev pub IsEndpointText : Text → Endpoint → Type 0
IsEndpointText text (Inet address) = ((path : Text) → IsPathText text path → ⊥)
    × IsSocketText text address
IsEndpointText text (Unix path) = IsPathText text path.now

abbrev pub SaysEndpoint : List Row → Text → Endpoint → Type 0
SaysEndpoint rows id endpoint = (text : Text) × Has rows id text × IsEndpointText text endpoint

-- this machine alone reaches the address
abbrev pub IsLoopback : SocketAddr → Type 0
IsLoopback address = MatchIp (socket_ip address) IsLoopbackV4 IsLoopbackV6

-- this machine alone reaches it; a socket in the file system whoever its rights let
abbrev pub IsNear : Endpoint → Type 0
IsNear (Inet address) = IsLoopback address
IsNear (Unix path) = ⊤

-- an address that other machines reach is listened at where the line says so
abbrev pub MayListen : List Row → Endpoint → Type 0
MayListen rows endpoint = IsNear endpoint ⊎ IsTrue (has_flag rows (codes "anyone"))

-- where the line says that a server listens by this option, and may
abbrev pub IsGuarded : List Row → Text → Endpoint → Type 0
IsGuarded rows id endpoint = SaysEndpoint rows id endpoint × MayListen rows endpoint

-- the same, or the line doesn't have the option
abbrev pub SaysGuarded : List Row → Text → Option Endpoint → Type 0
SaysGuarded rows id (Some endpoint) = IsGuarded rows id endpoint
SaysGuarded rows id None = Lacks rows id

-- the values that the line says as this option, in their order
abbrev pub values_of : List Row → Text → List Text
values_of rows id = unwrap_or (all_of id rows) []

-- the line says names of hosts no more often than it may
abbrev pub HasFewHosts : List Row → Type 0
HasFewHosts rows = length (values_of rows (codes "host")) ≤ most_hosts

-- eight texts: these, and the empty one for the rest
abbrev pub filled : List Text → List Text
filled names = names ++ replicate (most_hosts - length names) []

-- the names of hosts that the line says
abbrev pub SaysHosts : List Row → List (Bor Text) → Type 0
SaysHosts rows hosts = HasFewHosts rows
    × (map (λ h. h.now) hosts ≡ filled (values_of rows (codes "host")))

abbrev pub SaysService : List Row → Service → Type 0
SaysService rows s = IsGuarded rows (codes "listen") s.endpoint
    × SaysGuarded rows (codes "clerks-at") s.clerks_at
    × SaysFew rows (codes "count") s.count × SaysFew rows (codes "patience") s.patience
    × SaysFew rows (codes "peers") s.peers
    × (s.clerks ≡ has_flag rows (codes "clerks"))
    × SaysHosts rows s.hosts × SaysText rows (codes "from") s.from

-- the documents of a depositor are to be written to the files of a folder
abbrev pub SaysHandOn : Found → Text → Text → Type 0
SaysHandOn f who dir = (f.0 ≡ codes "outbox") × Has f.1 (codes "who") who
    × Has f.1 (codes "into") dir × Lacks f.1 (codes "number")

abbrev pub SaysTask : Found → Task → Type 0
SaysTask f (task.Init who) = (f.0 ≡ codes "init") × Has f.1 (codes "who") who.now
SaysTask f (task.Act a at) = SaysAct f a × SaysMoment f.1 at
    × (has_flag f.1 (codes "try") ≡ false)
SaysTask f (task.Try a at) = SaysAct f a × SaysMoment f.1 at
    × (has_flag f.1 (codes "try") ≡ true)
SaysTask f (task.Show s) = SaysShow f s
SaysTask f (task.HandOn who dir) = SaysHandOn f who.now dir.now
SaysTask f (task.Batch file) = (f.0 ≡ codes "batch") × Has f.1 (codes "file") file.now
SaysTask f (task.Serve s at) = (f.0 ≡ codes "serve") × SaysService f.1 s × SaysMoment f.1 at
SaysTask f (task.Verify seal) = (f.0 ≡ codes "verify") × SaysText f.1 (codes "seal") seal
SaysTask f (task.Seal first) = (f.0 ≡ codes "seal") × SaysText f.1 (codes "first") first

-- what it says of a moment, if anything, can be read
abbrev pub ReadsMoment : List Row → Type 0
ReadsMoment rows = (at : Option Moment) × SaysMoment rows at

-- the line names this file with a book, or none
abbrev pub SaysBook : List Row → Option (Bor Text) → Type 0
SaysBook rows book = SaysText rows (codes "book") book

-- how long the line says that a book in use is waited for, or it says nothing of it
abbrev pub SaysWait : List Row → Option ℕ → Type 0
SaysWait rows seconds = option_map wait_of (first_of (codes "wait") rows) ≡ option_map Some seconds

-- how the line says that the file with its book is opened
abbrev pub SaysOpening : List Row → Opening → Type 0
SaysOpening rows opening = SaysWait rows opening.wait
    × (opening.is_wary ≡ has_flag rows (codes "wary"))

-- a line of the program names a book, where it asks no server; a script has its own
abbrev pub has_book : Place → Option (Bor Text) → Bool
has_book place.Program book = is_some book
has_book place.Script book = true

-- the line names this file with a book as one at this place must
abbrev pub NamesBook : Place → List Row → Option (Bor Text) → Type 0
NamesBook p rows book = SaysBook rows book × (has_book p book ≡ true)

-- the line names the server that listens there, or none
abbrev pub SaysServer : List Row → Option Endpoint → Type 0
SaysServer rows (Some endpoint) = SaysEndpoint rows (codes "server") endpoint
SaysServer rows None = Lacks rows (codes "server")

-- the book is the server's, and so are the moment and how the book is opened
abbrev pub LeavesToServer : List Row → Type 0
LeavesToServer rows = Lacks rows (codes "book") × Lacks rows (codes "at")
    × Lacks rows (codes "wait") × (has_flag rows (codes "wary") ≡ false)

-- the subcommands that a running server may be asked for
abbrev pub takes_server : Text → Bool
takes_server name = bytes_eq name (codes "send")
    || (bytes_eq name (codes "count") || (bytes_eq name (codes "pick")
    || (bytes_eq name (codes "recount")
    || (bytes_eq name (codes "stock") || (bytes_eq name (codes "open")
    || (bytes_eq name (codes "advices") || (bytes_eq name (codes "orders")
    || (bytes_eq name (codes "outbox") || bytes_eq name (codes "depositors")))))))))

-- the line, at this place, asks for this
abbrev pub Says : Place → Found → Words → Type 0
Says p f (words.Script file) = (f.0 ≡ codes "script") × Has f.1 (codes "file") file.now
Says p f (words.Over book opening t) = SaysBook f.1 book × (has_book p book ≡ true)
    × SaysServer f.1 None
    × SaysOpening f.1 opening × ReadsMoment f.1 × SaysTask f t
Says p f (words.Remote server t) = SaysServer f.1 (Some server) × LeavesToServer f.1
    × (takes_server f.0 ≡ true) × SaysTask f t

-- What a line that can be read is refused for.

-- the fault is want of memory, where this can be read
abbrev pub LacksMemory : Type 0 → LineFault → Type 0
LacksMemory CanBeRead fault = CanBeRead → fault ≡ OutOfMemory

-- What was read is what the line says; and a line that says any is refused for want of memory
-- alone.
pub record Reads {A : Type 0} (Says : A → Type 0) (result : Result A LineFault) : Type 0 where
  pub ok : IfOk result Says
  pub err : IfErr result (LacksMemory ((a : A) × Says a))

-- something of this kind was found that the line says, or it says nothing of this kind
abbrev pub IsFoundOf : {A : Type 0} → (A → Type 0) → Option A → Type 0
IsFoundOf {A} Says found = MatchOption found ((a : A) → Says a → ⊥) Says

abbrev pub IsThere : List Row → Text → Type 0
IsThere rows id = (value : Text) × Has rows id value

abbrev pub ReadsNumber : List Row → Type 0
ReadsNumber rows = (number : Option ℕ) × SaysNumber rows number

abbrev pub ReadsBook : Place → List Row → Type 0
ReadsBook p rows = (book : Option (Bor Text)) × NamesBook p rows book

abbrev pub ReadsOpening : List Row → Type 0
ReadsOpening rows = (opening : Opening) × SaysOpening rows opening

-- what must be there is there
abbrev pub HasWanted : List Row → List Rule → Type 0
HasWanted rows [] = ⊤
HasWanted rows (r ∷ rs) = (r.required ≡ true → IsThere rows r.id) × HasWanted rows rs

abbrev pub HasAll : Found → Type 0
HasAll f = HasWanted f.1 (rules_of f.0)

-- the line asks for something over a book
abbrev pub Asks : Found → Type 0
Asks f = (t : Task) × SaysTask f t

-- the line asks for what a running server may be asked for too: a change, done or tried, or
-- something shown
abbrev pub SaysPart : Found → Task → Type 0
SaysPart f (task.Act a at) = SaysAct f a
SaysPart f (task.Try a at) = SaysAct f a
SaysPart f (task.Show s) = SaysShow f s
SaysPart f (task.HandOn who dir) = SaysHandOn f who.now dir.now
SaysPart f _ = ⊥

abbrev pub AsksOver : Place → Found → Type 0
AsksOver p f = ReadsBook p f.1 × ReadsOpening f.1 × ReadsMoment f.1 × Asks f

abbrev pub AsksServer : Found → Type 0
AsksServer f = LeavesToServer f.1 × (takes_server f.0 ≡ true) × Asks f

-- A line's words ask for this: the first one names the subcommand, and its values are those that
-- `clap` defines for a simple command.
pub record IsLineRead (p : Place) (words : List Text) (asked : Words) : Type 0 where
  pub found : Found
  pub named : found_at p words ≡ Some found
  pub first : stands_first found.0 words ≡ true
  pub says : Says p found asked

-- the parser takes a line's words, and they ask for something
abbrev pub CanBeRead : Place → List Text → Type 0
CanBeRead p words = (takes (app_at p) words ≡ true) × (asked : Words) × IsLineRead p words asked
