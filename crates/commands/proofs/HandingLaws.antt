-- Documents that are handed on one after the other, and those of the items that pass a test, one
-- item further.
use Rattle.std.proofs.Common.{◌≡◌, ◌∙◌, ℕ, ◌+◌, ◌<◌, Bool, true, false, List, [], ◌∷◌, ◌++◌, length, take, filter, get_or, ap, sym, subst, append-nil, refl, Option}
use Rattle.std.specs.Prelude.{cond}
use Rattle.std.specs.List.{FoldsTo}
use Rattle.std.proofs.lemmas.Fn.{FoldsTo-push}
use Rattle.std.proofs.lemmas.List.{take_more}
use Rattle.std.proofs.lemmas.List.Elements.{filter-append}
use Rattle.folders.specs.declared.documents.DocumentLeft.{DocumentLeft}
use Rattle.folders.specs.declared.documents.DocumentLeft.TheVariants.{Sent, Written, There, Differs}
use Rattle.folders.specs.declared.file_system.EntryKind.{EntryKind}
use Rattle.commands.specs.HandingOn.{IsLeftTold, status_of_left}
use Rattle.commands.specs.Statuses.{and_then}
use Rattle.commands.specs.declared.told.ExitStatus.{ExitStatus}
use Rattle.commands.specs.declared.told.ExitStatus.TheVariants.{Done}

one_more : {A : Type 0} (test : A → Bool) (xs : List A) (i : ℕ) (x : A) → i < length xs → x ≡ get_or xs i x → filter test (take (i + 1) xs) ≡ filter test (take i xs) ++ cond (test x) (x ∷ []) []
one_more test xs i x low is =
    ap (filter test) (take_more xs i x low ∙ ap (λ y. take i xs ++ y ∷ []) (sym is)) ∙ filter-append test (take i xs) (x ∷ [])

-- one that passes it
pub with_it : {P A : Type 0} (R : P → A → P → Type 0) (test : A → Bool) (xs : List A) (i : ℕ) (x : A) (p q u : P) → i < length xs → x ≡ get_or xs i x → test x ≡ true
    → FoldsTo R p (filter test (take i xs)) q → R q x u → FoldsTo R p (filter test (take (i + 1) xs)) u
with_it R test xs i x p q u low is passes so_far step =
    subst (λ xs. FoldsTo R p xs u) (sym (one_more test xs i x low is ∙ ap (λ (b : Bool). filter test (take i xs) ++ cond b (x ∷ []) []) passes)) (FoldsTo-push R p (filter test (take i xs)) q x u so_far step)

-- one that doesn't
pub without_it : {P A : Type 0} (R : P → A → P → Type 0) (test : A → Bool) (xs : List A) (i : ℕ) (x : A) (p q : P) → i < length xs → x ≡ get_or xs i x → test x ≡ false
    → FoldsTo R p (filter test (take i xs)) q → FoldsTo R p (filter test (take (i + 1) xs)) q
without_it R test xs i x p q low is fails so_far =
    subst (λ xs. FoldsTo R p xs q) (sym (one_more test xs i x low is ∙ ap (λ (b : Bool). filter test (take i xs) ++ cond b (x ∷ []) []) fails ∙ append-nil (filter test (take i xs)))) so_far

module _ (finds : List ℕ → EntryKind → Type 0) (reads : List ℕ → ℕ → List ℕ → Type 0) (writes : List ℕ → List ℕ → Type 0) (dir : List ℕ) where
  after : (t : ExitStatus) (left : DocumentLeft) → and_then t (and_then Done (status_of_left left)) ≡ and_then t (status_of_left left)
  after t Sent = refl
  after t Written = refl
  after t There = refl
  after t Differs = refl

  -- the same after what ended so
  pub told_after : (n : ℕ) (text : List ℕ) (before later : Option (List ℕ)) (s t : ExitStatus) → IsLeftTold finds reads writes dir n text (before, Done) (later, s)
      → IsLeftTold finds reads writes dir n text (before, t) (later, and_then t s)
  told_after n text before later s t h = record {
    left = h.left;
    is = h.is;
    printed = h.printed;
    status = ap (and_then t) h.status ∙ after t h.left;
  }
