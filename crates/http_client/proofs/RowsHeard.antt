-- Worked examples: what is read of answers.
use Rattle.std.proofs.Common.{◌≡◌, codes, refl, Some, None, true, false}
use Rattle.store.specs.Refusal.TheVariants as refusals
use Rattle.store.specs.Fault.TheVariants as faults
use Rattle.intake.specs.declared.audience.Audience.TheVariants.{Partners, Clerks}
use Rattle.http_client.specs.Heard.{heard, heard_query, note_in, number_in}
use Rattle.http_client.specs.declared.answers.HeardAs.TheVariants.{Done, Refused, Stopped}

-- another number in the trailer than in the header
noted : note_in (codes "ISA*00*          *00*          *ZZ*WHSE1          *ZZ*ACME           *250304*0915*U*00401*000000000*0*P*>~TA1*000000007*250304*0915*R*001~IEA*0*000000000~") ≡ Some 1
noted = refl

-- the same with other separators
noted_else : note_in (codes "ISA|00|          |00|          |ZZ|WHSE1          |ZZ|ACME           |250304|0915|U|00401|000000000|0|P|^\nTA1|000000007|250304|0915|R|025\nIEA|0|000000000\n") ≡ Some 25
noted_else = refl

not_noted : note_in (codes "ISA*00*") ≡ None
not_noted = refl

numbered : number_in (codes "404 Not Found\n") ≡ 404
numbered = refl

taken : heard 200 true (codes "ISA*") ≡ Done
taken = refl

unknown : heard 404 false (codes "20 UnknownDepositor\n") ≡ Refused refusals.UnknownDepositor
unknown = refl

nowhere : heard 404 false (codes "404 Not Found\n") ≡ Stopped faults.Device
nowhere = refl

nobody : heard_query Partners 404 false (codes "404 Not Found\n") ≡ Refused refusals.UnknownDepositor
nobody = refl

-- of what clerks alone are shown
stranger : heard_query Clerks 404 false (codes "20 UnknownDepositor\n") ≡ Refused refusals.UnknownDepositor
stranger = refl

without_clerks : heard_query Clerks 404 false (codes "404 Not Found\n") ≡ Stopped faults.Device
without_clerks = refl

stopped : heard 503 false (codes "41 Store\n") ≡ Stopped faults.Store
stopped = refl

-- what no such server answers
another : heard 200 false (codes "<html>") ≡ Stopped faults.Device
another = refl

no_number : heard 422 false (codes "I can't\n") ≡ Stopped faults.Device
no_number = refl

wrong_status : heard 404 false (codes "21 TicketUsed\n") ≡ Stopped faults.Device
wrong_status = refl
