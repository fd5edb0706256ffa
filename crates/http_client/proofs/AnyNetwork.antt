-- What holds of a courier's answers, holds where nothing is said of what carries them.
use Rattle.std.proofs.Common.{◌≡◌, ◌≢◌, ◌⊎◌, ℕ, List, [], ◌∷◌, Option, Some, None, inl, inr, refl, ap, true, false}
use Rattle.std.specs.List.{FoldsTo}
use Rattle.folders.specs.Documents.{IsLeft, document_path, sent_path}
use Rattle.folders.specs.Entries.{IsStanding}
use Rattle.folders.specs.declared.documents.DocumentLeft.{DocumentLeft}
use Rattle.folders.specs.declared.documents.DocumentLeft.TheVariants.{Sent, Written, There, Differs}
use Rattle.folders.specs.declared.file_system.EntryKind.{EntryKind}
use Rattle.intake.specs.declared.audience.Audience.TheVariants.{Partners}
use Rattle.commands.specs.Files.{reads_any}
use Rattle.commands.specs.HandingOn.{IsLeftTold, Told, finds_any, writes_any}
use Rattle.commands.specs.declared.told.CommandError.{CommandError}
use Rattle.commands.specs.declared.told.ExitStatus.{ExitStatus}
use Rattle.commands.specs.declared.told.ExitStatus.TheVariants.{Done}
use Rattle.command_line.specs.declared.words.Show.{Show}
use Rattle.command_line.specs.declared.words.Show.TheVariants as show
use Rattle.http_client.specs.Carried.{Brings, Loses, brings_any, loses_any, IsCarried, IsCarryHalted, IsHaltedAfter, IsHaltedAt, IsShowDone, IsShowHalted, TellsAsReport}
use Rattle.http_client.specs.HandedOn.{AreHandedOn, IsHandedOn, IsHandedOnByAny, IsOutboxHandedOn}
use Rattle.http_client.specs.declared.handing_on.HandOn.{HandOn}
use Rattle.http_client.specs.declared.errand.Errand.{Errand}
use Rattle.http_client.specs.declared.errand.Errand.TheVariants as errand
use Rattle.http_client.specs.declared.remote.requests.Verb.{Verb}

module _ {C : Type 0} (brings : Brings C) (old new : C) (before after : Option (List ℕ)) (status : ExitStatus) where
  shown_any : (s : Show) → IsShowDone brings old new before after status s → IsShowDone brings_any tt tt before after status s
  shown_any (show.Outbox who (Some n)) (inl h) = inl (h.0, tt, h.2)
  shown_any (show.Outbox who (Some n)) (inr h) = inr (h.0, h.1, tt, h.3, tt, tt, h.6)
  shown_any (show.Outbox who None) h = (h.0, tt, h.2)
  shown_any (show.Stock who true) (inl h) = inl (h.0, tt, h.2)
  shown_any (show.Stock who true) (inr h) = inr (h.0, h.1, tt, h.3, tt, tt, h.6)
  shown_any (show.Stock who false) h = (h.0, tt, h.2)
  shown_any (show.Open who) h = (h.0, tt, h.2)
  shown_any (show.Advice who number is_csv) h = (h.0, tt, h.2)
  shown_any (show.Order who number is_csv) h = (h.0, tt, h.2)
  shown_any show.Depositors h = (h.0, tt, h.2)

  pub carried_any : (e : Errand) → IsCarried brings old new before after status e → IsCarried brings_any tt tt before after status e
  carried_any (errand.Send bytes) h = (h.0, tt, h.2)
  carried_any (errand.Deed words sheet) h = (h.0, tt, h.2)
  carried_any (errand.TrySend bytes) h = (h.0, tt, h.2)
  carried_any (errand.TryDeed words sheet) h = (h.0, tt, h.2)
  carried_any (errand.Look s) h = shown_any s h

module _ {C : Type 0} (brings : Brings C) (loses : Loses C) (stop : CommandError) (old new : C) where
  halted_at : (verb : Verb) (path body : List ℕ) → IsHaltedAt brings loses stop old new verb path body → IsHaltedAt brings_any loses_any stop tt tt verb path body
  halted_at verb path body (inl h) = inl (refl, h.1)
  halted_at verb path body (inr (inl h)) = inr (inl (tt, h.1))
  halted_at verb path body (inr (inr h)) = inr (inr (h.0, h.1, tt, h.3, h.4))

halted_after : {C : Type 0} (brings : Brings C) (loses : Loses C) (stop : CommandError) (old new : C) (path other : List ℕ)
    → IsHaltedAfter brings loses stop old new path other → IsHaltedAfter brings_any loses_any stop tt tt path other
halted_after brings loses stop old new path other (inl h) = inl (halted_at brings loses stop old new _ path [] h)
halted_after brings loses stop old new path other (inr h) = inr (h.0, tt, h.2, tt, halted_at brings loses stop h.1 new _ other [] h.4)

module _ {C : Type 0} (brings : Brings C) (loses : Loses C) (stop : CommandError) (old new : C) where
  show_halted : (s : Show) → IsShowHalted brings loses stop old new s → IsShowHalted brings_any loses_any stop tt tt s
  show_halted (show.Outbox who (Some n)) h = halted_after brings loses stop old new _ _ h
  show_halted (show.Outbox who None) h = halted_at brings loses stop old new _ _ _ h
  show_halted (show.Stock who true) h = halted_after brings loses stop old new _ _ h
  show_halted (show.Stock who false) h = halted_at brings loses stop old new _ _ _ h
  show_halted (show.Open who) h = halted_at brings loses stop old new _ _ _ h
  show_halted (show.Advice who number is_csv) h = halted_at brings loses stop old new _ _ _ h
  show_halted (show.Order who number is_csv) h = halted_at brings loses stop old new _ _ _ h
  show_halted show.Depositors h = halted_at brings loses stop old new _ _ _ h

  pub carry_halted : (e : Errand) → IsCarryHalted brings loses stop old new e → IsCarryHalted brings_any loses_any stop tt tt e
  carry_halted (errand.Send bytes) h = halted_at brings loses stop old new _ _ _ h
  carry_halted (errand.Deed words sheet) h = halted_at brings loses stop old new _ _ _ h
  carry_halted (errand.TrySend bytes) h = halted_at brings loses stop old new _ _ _ h
  carry_halted (errand.TryDeed words sheet) h = halted_at brings loses stop old new _ _ _ h
  carry_halted (errand.Look s) h = show_halted s h

stands_any : (finds : List ℕ → EntryKind → Type 0) (path : List ℕ) → IsStanding finds path → IsStanding finds_any path
stands_any finds path h = record { kind = h.kind; found = tt; there = h.there }

-- what was handed on by a courier to a folder, was so where nothing is said of either
module _ {C : Type 0} (brings : Brings C) (finds : List ℕ → EntryKind → Type 0) (reads : List ℕ → ℕ → List ℕ → Type 0) (writes : List ℕ → List ℕ → Type 0) (h : HandOn) where
  left_any : (path text : List ℕ) (left : DocumentLeft) → IsLeft finds reads writes path text left → IsLeft finds_any reads_any writes_any path text left
  left_any path text Sent l = stands_any finds (sent_path path) l
  left_any path text Written l = (tt, record { free = tt; written = tt })
  left_any path text There l = (tt, record { stands = stands_any finds path l.1.stands; read = tt })
  left_any path text Differs l = (tt, record { stands = stands_any finds path l.1.stands; bytes = l.1.bytes; read = tt; differs = l.1.differs })

  told_any : (n : ℕ) (text : List ℕ) (before later : Told) → IsLeftTold finds reads writes h.dir.now n text before later → IsLeftTold finds_any reads_any writes_any h.dir.now n text before later
  told_any n text before later t = record { left = t.left; is = left_any _ text t.left t.is; printed = t.printed; status = t.status }

  one_any : (before : C × Told) (n : ℕ) (later : C × Told) → IsHandedOn brings finds reads writes h before n later → IsHandedOn brings_any finds_any reads_any writes_any h (tt, before.1) n (tt, later.1)
  one_any before n later (inl s) = inl (stands_any finds (sent_path (document_path h.dir.now n)) s.0, ap (λ (p : C × Told). (tt, p.1)) s.1)
  one_any before n later (inr f) = inr (record { answer = f.answer; asked = tt; okay = f.okay; left = told_any n f.answer.body.items before.1 later.1 f.left })

  each_any : (ns : List ℕ) (before later : C × Told) → FoldsTo (IsHandedOn brings finds reads writes h) before ns later → FoldsTo (IsHandedOn brings_any finds_any reads_any writes_any h) (tt, before.1) ns (tt, later.1)
  each_any [] before later e = ap (λ (p : C × Told). (tt, p.1)) e
  each_any (n ∷ ns) before later f = ((tt, f.0.1), one_any before n f.0 f.1, each_any ns f.0 later f.2)

  pub handed_any : (old new : C) (before later : Option (List ℕ)) (status : ExitStatus) → IsOutboxHandedOn brings finds reads writes h old before new later status → IsHandedOnByAny h before later status
  handed_any old new before later status o = record { answer = o.answer; mid = tt; asked = tt; came_to = came o.came_to }
    where
      came : ((o.answer.status ≡ 200) × AreHandedOn brings finds reads writes h o.answer.body.items (o.mid, (before, Done)) (new, (later, status)))
          ⊎ ((o.answer.status ≢ 200) × (new ≡ o.mid) × TellsAsReport Partners o.answer before later status)
          → ((o.answer.status ≡ 200) × AreHandedOn brings_any finds_any reads_any writes_any h o.answer.body.items (tt, (before, Done)) (tt, (later, status)))
          ⊎ ((o.answer.status ≢ 200) × (tt {0} ≡ tt {0}) × TellsAsReport Partners o.answer before later status)
      came (inl c) = inl (c.0, each_any _ (o.mid, (before, Done)) (new, (later, status)) c.1)
      came (inr c) = inr (c.0, refl, c.2)
