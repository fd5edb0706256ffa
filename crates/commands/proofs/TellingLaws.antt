-- What was printed of a text that goes out.
use Rattle.std.proofs.Common.{◌≡◌, ℕ, Bool, false, List, [], ◌∷◌, ◌++◌, ◌==◌, length, Option, Some, None, Result, OnErr, append-nil, ap, subst, sym}
use Rattle.std.specs.Prelude.{if◌then◌else◌}
use Rattle.std.specs.Io.KnownBytes.{Appends}
use Rattle.commands.specs.Printing.{AppendsFront}
use Rattle.commands.specs.Telling.{line_of}
use Rattle.commands.proofs.PrintingLaws.{front_all, front_first, front_second, on_err}

pub appends_nothing : (a : Option (List ℕ)) → Appends a a []
appends_nothing None = tt
appends_nothing (Some xs) = sym (append-nil xs)

-- a text that isn't empty goes out with a line feed
with_feed : (text : List ℕ) → false ≡ (length text == 0) → text ++ 10 ∷ [] ≡ line_of text
with_feed text some = ap (λ (none : Bool). if none then [] else text ++ 10 ∷ []) some

-- the text couldn't be printed, or the line feed after it
pub line_begun : {T E : Type 0} (r : Result T E) (a b : Option (List ℕ)) (text : List ℕ) → false ≡ (length text == 0) → AppendsFront a b text → OnErr r (AppendsFront a b (line_of text))
line_begun r a b text some h = on_err r (subst (AppendsFront a b) (with_feed text some) (front_first a b text (10 ∷ []) h))

pub line_unended : {T E : Type 0} (r : Result T E) (a b c : Option (List ℕ)) (text : List ℕ) → false ≡ (length text == 0) → Appends a b text → AppendsFront b c (10 ∷ [])
    → OnErr r (AppendsFront a c (line_of text))
line_unended r a b c text some p h = on_err r (subst (AppendsFront a c) (with_feed text some) (front_second a b c text (10 ∷ []) p h))

-- all was printed, and something failed then
pub all_begun : {T E : Type 0} (r : Result T E) (a b : Option (List ℕ)) (bytes : List ℕ) → Appends a b bytes → OnErr r (AppendsFront a b bytes)
all_begun r a b bytes p = on_err r (front_all a b bytes p)
