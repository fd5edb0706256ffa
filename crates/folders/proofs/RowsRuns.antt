-- Worked rows of folders and documents: the names of runs, and paths.
use Rattle.std.specs.Prelude.{◌≡◌, false, codes}
use Rattle.std.specs.Fmt.{digits}
use Rattle.std.proofs.Common.{refl}
use Rattle.folders.specs.Documents.{document_path, sent_path}
use Rattle.folders.specs.Naming.{aside_path, run_name, taking_path}
use Rattle.folders.specs.Passing.{is_interchange}

first : run_name (codes "2026-11-30T0215") 1 ≡ codes "2026-11-30T0215"
first = refl

second : run_name (codes "2026-11-30T0215") 2 ≡ codes "2026-11-30T0215-2"
unfolding digits
second = refl

last : run_name (codes "2026-11-30T0215") 999 ≡ codes "2026-11-30T0215-999"
unfolding digits
last = refl

taking : taking_path (codes "done") ≡ codes "done/taking"
taking = refl

aside : aside_path (taking_path (codes "done")) ≡ codes "done/taking/unreadable"
aside = refl

document : document_path (codes "out") 4 ≡ codes "out/4.x12"
unfolding digits
document = refl

sent : sent_path (document_path (codes "out") 120) ≡ codes "out/120.x12.sent"
unfolding digits
sent = refl

-- a document that is sent is no interchange any more
sent_ends : is_interchange (sent_path (document_path (codes "out") 4)) ≡ false
unfolding digits
sent_ends = refl
