-- Rows that are played one after another.
use borrow.Author.Tests.{ne_eqb, eqb-true}
use Rattle.std.proofs.Common.{lit<, ◌==◌, ◌≡◌, ℕ, Bool, true, false, length, List, [], ◌∷◌, ◌++◌, Option, Some, None, refl, sym, ap, ◌∙◌, arith}
use Rattle.std.specs.Prelude.{filter, if◌then◌else◌}
use Rattle.std.specs.Borrow.{Bor}
use Rattle.std.specs.List.{FoldsTo}
use Rattle.std.proofs.lemmas.Fn.{FoldsTo-push}
use Rattle.std.proofs.lemmas.List.Elements.{All-from_get_or}
use Rattle.std.proofs.lemmas.List.Splits.{slice_split_first, slice_split_none}
use Rattle.std.proofs.lemmas.Str.Pattern.{IsSplitOnceResult, split_once_first, split_parts}
use Rattle.definitions.specs.Readings.{parts_at}
use Rattle.std.proofs.Common.{append_assoc}
use Rattle.store.specs.Standing.{Standing}
use Rattle.commands.specs.Files.{Reads}
use Rattle.commands.specs.Playing.{asks, rows_left, IsRowDone, IsRowStopped, HasStopped}
use Rattle.commands.specs.declared.told.CommandError.{CommandError}
use Rattle.commands.specs.declared.told.ExitStatus.{ExitStatus}

-- The rows of a text.

pub row_before : (text : List ℕ) (x : Bor (List ℕ) × Bor (List ℕ)) → IsSplitOnceResult 10 text (Some x) → parts_at 10 text ≡ x.0.now ∷ parts_at 10 x.1.now
row_before text x h =
    let m = split_once_first 10 text (Some x) h (lit< tt) in
    slice_split_first (λ b. b == 10) text 0 m.0 ∙ (λ i. sym m.1 i ∷ parts_at 10 (sym m.2 i))

pub last_row : (text : List ℕ) → IsSplitOnceResult 10 text None → parts_at 10 text ≡ text ∷ []
last_row text h = slice_split_none (λ b. b == 10) text
    (All-from_get_or (λ b. (b == 10) ≡ false) text 0 (λ i l. ne_eqb _ 10 (split_parts 10 text None h (lit< tt) i l)))

-- what rows of a text came to so far, and what is left of it
pub record SoFar {P : Type 0} (R : P → List ℕ → P → Type 0) (p : P) (text left : Option (Bor (List ℕ))) (q : P) : Type 0 where
  pub front : List (List ℕ)
  pub are : filter asks (rows_left text) ≡ front ++ filter asks (rows_left left)
  pub played : FoldsTo R p front q

pub nothing_yet : {P : Type 0} (R : P → List ℕ → P → Type 0) (p : P) (text : Option (Bor (List ℕ))) → SoFar R p text text p
nothing_yet R p text = record { front = []; are = refl; played = refl }

-- a row that isn't empty asks for something
pub asks_for : (row : List ℕ) → false ≡ (length row == 0) → asks row ≡ true
asks_for [] some = some
asks_for (byte ∷ row) some = refl

pub is_empty : (row : List ℕ) → true ≡ (length row == 0) → row ≡ []
is_empty [] none = refl
is_empty (byte ∷ row) none = absurd (omega (arith, eqb-true (length (byte ∷ row)) 0 (sym none)))

asked_first : (row : List ℕ) (rows : List (List ℕ)) → asks row ≡ true → filter asks (row ∷ rows) ≡ row ∷ filter asks rows
asked_first row rows h = ap (λ (b : Bool). if b then row ∷ filter asks rows else filter asks rows) h

pub over_empty : {P : Type 0} (R : P → List ℕ → P → Type 0) (p q : P) (text left next : Option (Bor (List ℕ))) (row : List ℕ) → rows_left left ≡ row ∷ rows_left next → row ≡ []
    → SoFar R p text left q → SoFar R p text next q
over_empty R p q text left next row first empty s = record {
  front = s.front;
  are = s.are ∙ ap (λ (rows : List (List ℕ)). s.front ++ filter asks rows) first
      ∙ ap (λ (r : List ℕ). s.front ++ filter asks (r ∷ rows_left next)) empty;
  played = s.played;
}

pub one_more : {P : Type 0} (R : P → List ℕ → P → Type 0) (p q u : P) (text left next : Option (Bor (List ℕ))) (row : List ℕ) → rows_left left ≡ row ∷ rows_left next → asks row ≡ true → R q row u
    → SoFar R p text left q → SoFar R p text next u
one_more R p q u text left next row first asked done s = record {
  front = s.front ++ row ∷ [];
  are = s.are ∙ ap (λ (rows : List (List ℕ)). s.front ++ filter asks rows) first
      ∙ ap (λ (rows : List (List ℕ)). s.front ++ rows) (asked_first row (rows_left next) asked)
      ∙ sym (append_assoc s.front (row ∷ []) (filter asks (rows_left next)));
  played = FoldsTo-push R p s.front q row u s.played done;
}

pub stopped_at : {K W : Type 0} (reads : Reads) (standing : K → Standing) (contents : W → Option (List ℕ)) (p q : K × (W × ExitStatus)) (text left next : Option (Bor (List ℕ))) (row : List ℕ) (new : K) (after : W) (stop : CommandError)
    → rows_left left ≡ row ∷ rows_left next → asks row ≡ true → IsRowStopped reads standing contents q.0 q.1.0 row new after stop → SoFar (IsRowDone reads standing contents) p text left q
    → HasStopped reads standing contents p (filter asks (rows_left text)) new after stop
stopped_at reads standing contents p q text left next row new after stop first asked stopped s = record {
  front = s.front;
  row = row;
  others = filter asks (rows_left next);
  are = s.are ∙ ap (λ (rows : List (List ℕ)). s.front ++ filter asks rows) first
      ∙ ap (λ (rows : List (List ℕ)). s.front ++ rows) (asked_first row (rows_left next) asked);
  reached = q;
  played = s.played;
  stopped = stopped;
}
