-- Documents that are handed on one after the other.
use Rattle.std.proofs.Common.{ℕ, ◌+◌, ◌<◌, List, length, take, get_or, Option, ap, inl, inr, subst, sym}
use Rattle.std.specs.List.{FoldsTo}
use Rattle.std.proofs.lemmas.Fn.{FoldsTo-push}
use Rattle.std.proofs.lemmas.List.{take_more}
use Rattle.folders.specs.declared.file_system.EntryKind.{EntryKind}
use Rattle.commands.specs.HandingOn.{Told}
use Rattle.commands.specs.Statuses.{and_then}
use Rattle.commands.specs.declared.told.ExitStatus.{ExitStatus}
use Rattle.commands.specs.declared.told.ExitStatus.TheVariants.{Done}
use Rattle.commands.proofs.HandingLaws.{told_after}
use Rattle.http_client.specs.Carried.{Brings}
use Rattle.http_client.specs.HandedOn.{IsHandedOn}
use Rattle.http_client.specs.declared.handing_on.HandOn.{HandOn}

module _ {C : Type 0} (brings : Brings C) (finds : List ℕ → EntryKind → Type 0) (reads : List ℕ → ℕ → List ℕ → Type 0) (writes : List ℕ → List ℕ → Type 0) (h : HandOn) where
  pub handed_after : (n : ℕ) (old new : C) (before later : Option (List ℕ)) (s t : ExitStatus) → IsHandedOn brings finds reads writes h (old, (before, Done)) n (new, (later, s))
      → IsHandedOn brings finds reads writes h (old, (before, t)) n (new, (later, and_then t s))
  handed_after n old new before later s t (inl gone) = inl (gone.0, ap (λ (p : C × Told). (p.0, (p.1.0, and_then t p.1.1))) gone.1)
  handed_after n old new before later s t (inr f) = inr (record {
    answer = f.answer;
    asked = f.asked;
    okay = f.okay;
    left = told_after finds reads writes h.dir.now n f.answer.body.items before later s t f.left;
  })

  -- one more of them
  pub each_more : (numbers : List ℕ) (i : ℕ) → i < length numbers → (old mid new : C) (before between later : Option (List ℕ)) (s t : ExitStatus)
      → FoldsTo (IsHandedOn brings finds reads writes h) (old, (before, Done)) (take i numbers) (mid, (between, t))
      → IsHandedOn brings finds reads writes h (mid, (between, Done)) (get_or numbers i 0) (new, (later, s))
      → FoldsTo (IsHandedOn brings finds reads writes h) (old, (before, Done)) (take (i + 1) numbers) (new, (later, and_then t s))
  each_more numbers i low old mid new before between later s t so_far step =
      subst (λ (ns : List ℕ). FoldsTo (IsHandedOn brings finds reads writes h) (old, (before, Done)) ns (new, (later, and_then t s))) (sym (take_more numbers i 0 low))
      (FoldsTo-push (IsHandedOn brings finds reads writes h) (old, (before, Done)) (take i numbers) (mid, (between, t)) (get_or numbers i 0) (new, (later, and_then t s)) so_far
      (handed_after (get_or numbers i 0) mid new between later s t step))
