-- Where a folder's files and their answers are.
use Rattle.std.specs.Prelude.{ℕ, List, ◌++◌, codes}

-- the path of a file in a folder
abbrev pub file_path : List ℕ → List ℕ → List ℕ
file_path dir name = dir ++ codes "/" ++ name

-- the path of the answer to the interchange in a file
abbrev pub answer_path : List ℕ → List ℕ
answer_path path = path ++ codes ".ans"
