-- A line of a script is read by its own subcommand alone as by all of them.
use Rattle.std.proofs.Common.{◌≡◌, ◌∙◌, ◌&&◌, Bool, true, false, List, [], ◌∷◌, ◌++◌, Some, Result, IfOk, refl, sym, ap, ap₂, subst, fold, is_some, codes, append_assoc}
use Rattle.std.specs.List.{list_all}
use Rattle.std.proofs.lemmas.List.{append-nil}
use Rattle.std.proofs.lemmas.Result.{IfOk-weaker}
use Rattle.clap.specs.Walk.{Names, Rule, Text, Walk, finished, idle, nothing_held, stop_after, walk, walk_from, walked}
use Rattle.clap.specs.declared.builder.command.Command.{Command}
use Rattle.clap.specs.Simple.{App, Shape, app_of, argument_words, built, entered, is_simple, names_of, subcommand_of}
use Rattle.clap.specs.Takes.{built_takes, default_passes, entered_passes, is_valid, settle_passes, takes, turn_passes, walk_passes}
use Rattle.clap.proofs.OnLiterals.{clap_on_literals}
use Rattle.command_line.specs.Lines as meant
use Rattle.command_line.specs.Lines.{alone, app_at}
use Rattle.command_line.specs.Parsers.{ReadsAlike}
use Rattle.command_line.specs.declared.words.Place.{Place}
use Rattle.command_line.specs.declared.words.Place.TheVariants.{Script}
use Rattle.command_line.proofs.LineLaws.{simple_at}

-- where a walk stands that met a subcommand as its first word, and saw these words after it
abbrev met : Text → List Text → Walk
met name seen = record { held = nothing_held; waiting = idle; position = 1; is_trailing = false; stopped = Some (name, seen) }

-- it goes on to the end, and passes
still : (rules : List Rule) (names : Names) (name : Text) (seen rest : List Text) → fold (walked rules names) (met name seen) rest ≡ met name (seen ++ rest)
unfolding walked
still rules names name seen [] = ap (met name) (sym (append-nil seen))
still rules names name seen (word ∷ rest) = still rules names name (seen ++ word ∷ []) rest ∙ ap (met name) (append_assoc seen (word ∷ []) rest)

passes : (s : Shape) (names : Names) (name : Text) (seen rest : List Text) → walk_passes s names (met name seen) rest ≡ true
unfolding walked walk_passes
passes s names name seen [] = refl
passes s names name seen (word ∷ rest) = passes s names name (seen ++ word ∷ []) rest

-- the first word is met as a subcommand
record Meets (a : App) (name : Text) : Type 0 where
  words : (rest : List Text) → argument_words a (name ∷ rest) ≡ name ∷ rest
  first : walked (built a).top.rules (names_of (built a)) (walk_from nothing_held) name ≡ met name []
  turn : turn_passes (built a).top (names_of (built a)) (walk_from nothing_held) name ≡ true

module _ (a : App) (name : Text) (rest : List Text) where
  -- the rest passes at that subcommand
  abbrev rest_passes : Bool
  rest_passes = entered_passes (built a) (Some (name, rest)) && (settle_passes (built a).top.rules (built a).top.args_override_self nothing_held
      && (list_all default_passes (built a).top.rules
      && is_valid (built a).top (finished (built a).top.rules nothing_held) (is_some (entered (built a) (Some (name, rest))))))

module _ (a : App) (name : Text) (rest : List Text) (m : Meets a name) where
  walk_is : walk (built a).top.rules (names_of (built a)) nothing_held (name ∷ rest) ≡ met name rest
  walk_is = ap (λ (w : Walk). fold (walked (built a).top.rules (names_of (built a))) w rest) m.first ∙ still (built a).top.rules (names_of (built a)) name [] rest

  found_is : subcommand_of a (name ∷ rest) ≡ entered (built a) (Some (name, rest))
  found_is = ap (λ (ws : List Text). entered (built a) (stop_after (built a).top.rules (names_of (built a)) ws)) (m.words rest)
      ∙ ap (λ (w : Walk). entered (built a) w.stopped) walk_is

  all_pass : walk_passes (built a).top (names_of (built a)) (walk_from nothing_held) (name ∷ rest) ≡ true
  unfolding walk_passes
  all_pass = ap₂ (λ (t : Bool) (w : Walk). t && walk_passes (built a).top (names_of (built a)) w rest) m.turn m.first
      ∙ passes (built a).top (names_of (built a)) name [] rest

  takes_is : is_simple a ≡ true → takes a (name ∷ rest) ≡ rest_passes a name rest
  takes_is simple = ap (λ (b : Bool). b && built_takes (built a) nothing_held (argument_words a (name ∷ rest))) simple
      ∙ ap (built_takes (built a) nothing_held) (m.words rest)
      ∙ ap₂ (λ (w : Walk) (b : Bool). entered_passes (built a) w.stopped && (b && (settle_passes (built a).top.rules (built a).top.args_override_self w.held
      && (list_all default_passes (built a).top.rules
      && is_valid (built a).top (finished (built a).top.rules w.held) (is_some (entered (built a) w.stopped)))))) walk_is all_pass

-- so two parsers read a line alike of which the subcommand is the same
alike : (a b : App) (name : Text) (rest : List Text) → is_simple a ≡ true → is_simple b ≡ true → Meets a name → Meets b name
    → entered (built a) (Some (name, rest)) ≡ entered (built b) (Some (name, rest)) → rest_passes a name rest ≡ rest_passes b name rest
    → (subcommand_of a (name ∷ rest) ≡ subcommand_of b (name ∷ rest)) × (takes a (name ∷ rest) ≡ takes b (name ∷ rest))
alike a b name rest simple other m n same passes_alike = (
  found_is a name rest m ∙ same ∙ sym (found_is b name rest n),
  takes_is a name rest m simple ∙ passes_alike ∙ sym (takes_is b name rest n other),
)

-- all of them read what they read
pub all_of : (p : Place) (words : List Text) → ReadsAlike p words (app_at p)
all_of p words = record { simple = simple_at p; found = refl; taken = refl }

by : (s : Shape) (name : Text) (rest : List Text) → is_simple (alone s) ≡ true → Meets (alone s) name → Meets (app_at Script) name
    → entered (built (alone s)) (Some (name, rest)) ≡ entered (built (app_at Script)) (Some (name, rest))
    → rest_passes (alone s) name rest ≡ rest_passes (app_at Script) name rest → ReadsAlike Script (name ∷ rest) (alone s)
by s name rest simple m n same passes_alike =
    let both = alike (alone s) (app_at Script) name rest simple (simple_at Script) m n same passes_alike in
    record { simple = simple; found = both.0; taken = both.1 }

pub init_alone : (rest : List Text) → ReadsAlike Script (codes "init" ∷ rest) (alone meant.init_shape)
unfolding clap_on_literals
init_alone rest = by meant.init_shape (codes "init") rest refl (record { words = λ _. refl; first = refl; turn = refl }) (record { words = λ _. refl; first = refl; turn = refl }) refl refl

pub enrol_alone : (rest : List Text) → ReadsAlike Script (codes "enrol" ∷ rest) (alone meant.enrol_shape)
unfolding clap_on_literals
enrol_alone rest = by meant.enrol_shape (codes "enrol") rest refl (record { words = λ _. refl; first = refl; turn = refl }) (record { words = λ _. refl; first = refl; turn = refl }) refl refl

pub roster_alone : (rest : List Text) → ReadsAlike Script (codes "roster" ∷ rest) (alone meant.roster_shape)
unfolding clap_on_literals
roster_alone rest = by meant.roster_shape (codes "roster") rest refl (record { words = λ _. refl; first = refl; turn = refl }) (record { words = λ _. refl; first = refl; turn = refl }) refl refl

pub send_alone : (rest : List Text) → ReadsAlike Script (codes "send" ∷ rest) (alone meant.send_shape)
unfolding clap_on_literals
send_alone rest = by meant.send_shape (codes "send") rest refl (record { words = λ _. refl; first = refl; turn = refl }) (record { words = λ _. refl; first = refl; turn = refl }) refl refl

pub take_alone : (rest : List Text) → ReadsAlike Script (codes "take" ∷ rest) (alone meant.take_shape)
unfolding clap_on_literals
take_alone rest = by meant.take_shape (codes "take") rest refl (record { words = λ _. refl; first = refl; turn = refl }) (record { words = λ _. refl; first = refl; turn = refl }) refl refl

pub count_alone : (rest : List Text) → ReadsAlike Script (codes "count" ∷ rest) (alone meant.count_shape)
unfolding clap_on_literals
count_alone rest = by meant.count_shape (codes "count") rest refl (record { words = λ _. refl; first = refl; turn = refl }) (record { words = λ _. refl; first = refl; turn = refl }) refl refl

pub pick_alone : (rest : List Text) → ReadsAlike Script (codes "pick" ∷ rest) (alone meant.pick_shape)
unfolding clap_on_literals
pick_alone rest = by meant.pick_shape (codes "pick") rest refl (record { words = λ _. refl; first = refl; turn = refl }) (record { words = λ _. refl; first = refl; turn = refl }) refl refl

pub recount_alone : (rest : List Text) → ReadsAlike Script (codes "recount" ∷ rest) (alone meant.recount_shape)
unfolding clap_on_literals
recount_alone rest = by meant.recount_shape (codes "recount") rest refl (record { words = λ _. refl; first = refl; turn = refl }) (record { words = λ _. refl; first = refl; turn = refl }) refl refl

pub stock_alone : (rest : List Text) → ReadsAlike Script (codes "stock" ∷ rest) (alone meant.stock_shape)
unfolding clap_on_literals
stock_alone rest = by meant.stock_shape (codes "stock") rest refl (record { words = λ _. refl; first = refl; turn = refl }) (record { words = λ _. refl; first = refl; turn = refl }) refl refl

pub open_alone : (rest : List Text) → ReadsAlike Script (codes "open" ∷ rest) (alone meant.open_shape)
unfolding clap_on_literals
open_alone rest = by meant.open_shape (codes "open") rest refl (record { words = λ _. refl; first = refl; turn = refl }) (record { words = λ _. refl; first = refl; turn = refl }) refl refl

pub advices_alone : (rest : List Text) → ReadsAlike Script (codes "advices" ∷ rest) (alone meant.advices_shape)
unfolding clap_on_literals
advices_alone rest = by meant.advices_shape (codes "advices") rest refl (record { words = λ _. refl; first = refl; turn = refl }) (record { words = λ _. refl; first = refl; turn = refl }) refl refl

pub orders_alone : (rest : List Text) → ReadsAlike Script (codes "orders" ∷ rest) (alone meant.orders_shape)
unfolding clap_on_literals
orders_alone rest = by meant.orders_shape (codes "orders") rest refl (record { words = λ _. refl; first = refl; turn = refl }) (record { words = λ _. refl; first = refl; turn = refl }) refl refl

pub outbox_alone : (rest : List Text) → ReadsAlike Script (codes "outbox" ∷ rest) (alone meant.outbox_shape)
unfolding clap_on_literals
outbox_alone rest = by meant.outbox_shape (codes "outbox") rest refl (record { words = λ _. refl; first = refl; turn = refl }) (record { words = λ _. refl; first = refl; turn = refl }) refl refl

pub depositors_alone : (rest : List Text) → ReadsAlike Script (codes "depositors" ∷ rest) (alone meant.depositors_shape)
unfolding clap_on_literals
depositors_alone rest = by meant.depositors_shape (codes "depositors") rest refl (record { words = λ _. refl; first = refl; turn = refl }) (record { words = λ _. refl; first = refl; turn = refl }) refl refl

-- a parser that was made of it, for a line that begins with its name
pub named : {E : Type 0} (r : Result Command E) (s : Shape) (name word : Text) (rest : List Text) → word ≡ name → IfOk r (λ c. app_of c ≡ alone s)
    → ReadsAlike Script (name ∷ rest) (alone s) → IfOk r (λ c. ReadsAlike Script (word ∷ rest) (app_of c))
named r s name word rest is made alike = IfOk-weaker r _ _ (λ c same. subst (λ (a : App). ReadsAlike Script (word ∷ rest) a) (sym same)
    (subst (λ (n : Text). ReadsAlike Script (n ∷ rest) (alone s)) (sym is) alike)) made

-- one that was made of all of them
pub whole : {E : Type 0} (r : Result Command E) (p : Place) (words : List Text) → IfOk r (λ c. app_of c ≡ app_at p) → IfOk r (λ c. ReadsAlike p words (app_of c))
whole r p words made = IfOk-weaker r _ _ (λ c same. subst (ReadsAlike p words) (sym same) (all_of p words)) made
