use Rattle.std.proofs.Common.{◌≡◌, rules}
use Rattle.std.specs.Prelude.{IsErrAnd}
use Rattle.std.proofs.Common.{codes, Option, None, Some}
use Rattle.clap.specs.Matches.{found_of}
use Rattle.clap.specs.Walk.{rows_of}
use Rattle.command_line.specs.Asked.{Found, Says, SaysServer}
use Rattle.command_line.specs.declared.words.Endpoint.{Endpoint}
use Rattle.command_line.specs.declared.words.Place.{Place}
use Rattle.command_line.specs.declared.words.Words.{Words}
use Rattle.command_line.specs.declared.words.Words.TheVariants as words
use Rattle.command_line.proofs.AskedLaws.{handed}
use Rattle.command_line.proofs.reading.asked.Goals as goal

pub returns-in-Some-clause-ok : goal.returns-in-Some-clause-ok
returns-in-Some-clause-ok c = c.remote.ensures.ok c.args.place

-- the server of a line that is no script's
of_server : (p : Place) (f : Found) (w : Words) → (f.0 ≡ codes "script" → ⊥) → Says p f w → (s : Option Endpoint) × SaysServer f.1 s
of_server p f (words.Script file) other says = absurd (other says.0)
of_server p f (words.Over book opening t) other says = (None, says.2)
of_server p f (words.Remote server t) other says = (Some server, says.0)

pub returns-in_err-server-clause-err : goal.returns-in_err-server-clause-err
returns-in_err-server-clause-err c =
    let same : IsErrAnd c.from_residual-in_err-server.result (λ g. g ≡ c.in_err-server.field-0.0) = search rules in
    handed c.from_residual-in_err-server.result c.in_err-server.field-0.0 same c.in_err-server.ensures.err
    (λ q. of_server c.args.place (c.args.name.now, rows_of (found_of c.args.values.now)) q.0 (λ is. search rules) q.1)
