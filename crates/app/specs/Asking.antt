-- What a line came to that asks a running server.
use Rattle.std.specs.Prelude.{◌≡◌, ◌⊎◌, ℕ, true, List, Option, None, IfErr, IfOk, OnOk, is_some}
use Rattle.definitions.specs.Header.{who_of}
use Rattle.store.specs.Refusal.{Refusal}
use Rattle.command_line.specs.declared.words.Task.{Task}
use Rattle.command_line.specs.declared.words.Task.TheVariants as task
use Rattle.commands.specs.Acting.{Ending}
use Rattle.commands.specs.Files.{reads_any}
use Rattle.commands.specs.declared.told.ExitStatus.TheVariants.{Refused}
use Rattle.http_client.specs.Carried.{IsCarriedByAny, IsHaltedByAny}
use Rattle.http_client.specs.Errands.{IsErrandFor, IsNoErrandFor}
use Rattle.http_client.specs.HandedOn.{IsHandedOnByAny}
use Rattle.http_client.specs.declared.errand.Errand.{Errand}
use Rattle.http_client.specs.declared.handing_on.HandOn.{HandOn}

module _ {W : Type 0} (contents : W → Option (List ℕ)) where
  -- What the line asks for was made ready, and a server was asked for it. What was printed is what
  -- its answer tells; or the answer, or that there was none, stopped the line.
  pub record IsAskedOf (t : Task) (before later : W) (ending : Ending) : Type 0 where
    pub errand : Errand
    pub for : IsErrandFor reads_any t errand
    pub carried : IfOk ending
        (λ status. IsCarriedByAny (contents before) (contents later) status errand)
    pub halted : IfErr ending (λ stop. IsHaltedByAny stop errand)

  -- it wasn't made ready: it is refused, or a fault came first; nobody was asked, and nothing is
  -- printed
  pub record IsNotAsked (t : Task) (before later : W) (ending : Ending) : Type 0 where
    pub printed : later ≡ before
    pub says : IfOk ending (λ status. status ≡ Refused)
    pub why : OnOk ending ((refusal : Refusal) × IsNoErrandFor reads_any t refusal)

  -- the documents of a depositor were handed on from a server
  pub record IsHandedFrom (h : HandOn) (before later : W) (ending : Ending) : Type 0 where
    pub named : is_some (who_of h.who.now) ≡ true
    pub handed : IfOk ending (IsHandedOnByAny h (contents before) (contents later))

  -- no depositor is named: the line is refused, nobody was asked, and nothing is printed
  pub record IsNobodyNamed (h : HandOn) (before later : W) (ending : Ending) : Type 0 where
    pub unnamed : who_of h.who.now ≡ None
    pub printed : later ≡ before
    pub says : IfOk ending (λ status. status ≡ Refused)

  abbrev pub IsHandingAsked : HandOn → W → W → Ending → Type 0
  IsHandingAsked h before later ending =
      IsHandedFrom h before later ending ⊎ IsNobodyNamed h before later ending

  -- what a line that asks a server came to
  abbrev pub IsServerAsked : Task → W → W → Ending → Type 0
  IsServerAsked (task.HandOn who dir) before later ending = (h : HandOn) × (h.who ≡ who)
      × (h.dir ≡ dir) × IsHandingAsked h before later ending
  IsServerAsked t before later ending =
      IsAskedOf t before later ending ⊎ IsNotAsked t before later ending
