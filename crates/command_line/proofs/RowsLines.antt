-- Lines that the parser takes, and lines that it doesn't.
use Rattle.std.proofs.Common.{◌≡◌, refl, codes, List, [], ◌∷◌, Some, option_map, true, not}
use Rattle.std.specs.List.{list_all}
use Rattle.clap.specs.Takes.{takes}
use Rattle.clap.specs.Walk.{Text}
use Rattle.clap.proofs.OnLiterals.{clap_on_literals}
use Rattle.command_line.specs.Asked.{found_at, values_of}
use Rattle.command_line.specs.Lines.{app_at}
use Rattle.command_line.specs.declared.words.Place.TheVariants.{Program, Script}

abbrev in_a_script : List (List Text)
in_a_script =
    (codes "init" ∷ codes "ZZ-WHSE1" ∷ [])
    ∷ (codes "enrol" ∷ codes "ZZ-ACME" ∷ codes "--at" ∷ codes "2025-03-04T09:15" ∷ [])
    ∷ (codes "send" ∷ codes "one.x12" ∷ [])
    ∷ (codes "count" ∷ codes "ZZ-ACME" ∷ codes "T1" ∷ codes "SHP1" ∷ codes "one.sheet" ∷ [])
    ∷ (codes "recount" ∷ codes "--at=2025-03-04T09:15" ∷ codes "ZZ-ACME" ∷ codes "T1"
    ∷ codes "one.sheet" ∷ [])
    ∷ (codes "stock" ∷ codes "ZZ-ACME" ∷ codes "--csv" ∷ [])
    ∷ (codes "outbox" ∷ codes "ZZ-ACME" ∷ codes "--number" ∷ codes "7" ∷ [])
    ∷ (codes "depositors" ∷ []) ∷ []

abbrev not_in_a_script : List (List Text)
not_in_a_script =
    []
    ∷ (codes "enrol" ∷ [])
    ∷ (codes "enrol" ∷ codes "ZZ-ACME" ∷ codes "ZZ-OTHER" ∷ [])
    ∷ (codes "enrol" ∷ codes "ZZ-ACME" ∷ codes "--book" ∷ codes "harbor.book" ∷ [])
    ∷ (codes "stock" ∷ codes "ZZ-ACME" ∷ codes "--cvs" ∷ [])
    ∷ (codes "ship" ∷ codes "ZZ-ACME" ∷ []) ∷ []

-- a server that is asked by two names
abbrev asked_by_two : List Text
asked_by_two = codes "serve" ∷ codes "--listen" ∷ codes "127.0.0.1:8080" ∷ codes "--host"
    ∷ codes "dock.example" ∷ codes "--book" ∷ codes "harbor.book" ∷ codes "--host=gate,yard" ∷ []

abbrev of_the_program : List (List Text)
of_the_program =
    (codes "script" ∷ codes "day.txt" ∷ [])
    ∷ (codes "init" ∷ codes "ZZ-WHSE1" ∷ codes "--book" ∷ codes "harbor.book" ∷ [])
    ∷ (codes "send" ∷ codes "one.x12" ∷ codes "--book=harbor.book" ∷ codes "--wait"
    ∷ codes "9" ∷ [])
    ∷ (codes "pick" ∷ codes "ZZ-ACME" ∷ codes "T1" ∷ codes "ORD1" ∷ codes "one.sheet"
    ∷ codes "--server" ∷ codes "127.0.0.1:8080" ∷ [])
    ∷ (codes "serve" ∷ codes "--listen" ∷ codes "127.0.0.1:8080" ∷ codes "--count" ∷ codes "7"
    ∷ codes "--book" ∷ codes "harbor.book" ∷ codes "--clerks" ∷ codes "--host" ∷ codes "dock.example" ∷ [])
    ∷ (codes "serve" ∷ codes "--listen" ∷ codes "127.0.0.1:8080" ∷ codes "--book"
    ∷ codes "harbor.book" ∷ codes "--from" ∷ codes "X-Depositor" ∷ [])
    ∷ asked_by_two
    ∷ (codes "serve" ∷ codes "--listen" ∷ codes "127.0.0.1:8080" ∷ codes "--clerks-at"
    ∷ codes "unix:/run/clerks.sock" ∷ codes "--book" ∷ codes "harbor.book" ∷ [])
    ∷ (codes "batch" ∷ codes "day.txt" ∷ codes "--book" ∷ codes "harbor.book" ∷ [])
    ∷ (codes "verify" ∷ codes "--book" ∷ codes "harbor.book" ∷ [])
    ∷ (codes "verify" ∷ codes "--wary" ∷ codes "--book" ∷ codes "harbor.book" ∷ [])
    ∷ (codes "seal" ∷ codes "--first" ∷ codes "46" ∷ codes "--book" ∷ codes "harbor.book" ∷ [])
    ∷ (codes "seal" ∷ codes "--book" ∷ codes "harbor.book" ∷ [])
    ∷ (codes "take" ∷ codes "in" ∷ codes "--done" ∷ codes "done" ∷ codes "--book" ∷ codes "harbor.book" ∷ [])
    ∷ (codes "outbox" ∷ codes "ZZ-ACME" ∷ codes "--into" ∷ codes "out" ∷ codes "--server" ∷ codes "unix:/run/whx12.sock" ∷ [])
    ∷ (codes "verify" ∷ codes "--seal" ∷ codes "0:00" ∷ codes "--book" ∷ codes "harbor.book" ∷ []) ∷ []

abbrev not_of_the_program : List (List Text)
not_of_the_program =
    (codes "init" ∷ codes "ZZ-WHSE1" ∷ [])
    ∷ (codes "enrol" ∷ codes "ZZ-ACME" ∷ codes "--server" ∷ codes "127.0.0.1:8080" ∷ [])
    ∷ (codes "script" ∷ codes "day.txt" ∷ codes "--book" ∷ codes "harbor.book" ∷ [])
    ∷ (codes "serve" ∷ codes "--count" ∷ codes "7" ∷ codes "--book" ∷ codes "harbor.book" ∷ [])
    ∷ (codes "verify" ∷ codes "--book" ∷ [])
    ∷ (codes "script" ∷ codes "day.txt" ∷ codes "--wary" ∷ []) ∷ []

lines_are_taken : list_all (takes (app_at Script)) in_a_script ≡ true
unfolding clap_on_literals
lines_are_taken = refl

lines_are_not_taken : list_all (λ words. not (takes (app_at Script) words)) not_in_a_script ≡ true
unfolding clap_on_literals
lines_are_not_taken = refl

the_programs_are_taken : list_all (takes (app_at Program)) of_the_program ≡ true
unfolding clap_on_literals
the_programs_are_taken = refl

the_programs_are_not_taken :
    list_all (λ words. not (takes (app_at Program) words)) not_of_the_program ≡ true
unfolding clap_on_literals
the_programs_are_not_taken = refl

both_names_are_found : option_map (λ f. values_of f.1 (codes "host")) (found_at Program asked_by_two)
    ≡ Some (codes "dock.example" ∷ codes "gate,yard" ∷ [])
unfolding clap_on_literals
both_names_are_found = refl
