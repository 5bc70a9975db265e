-- Where the files of the sites lie.
use Rattle.std.specs.Prelude.{ℕ, List, ◌∷◌, ◌++◌, codes}

-- the list of the sites that a folder holds
abbrev pub list_path : List ℕ → List ℕ
list_path folder = folder ++ codes "/sites"

-- the file of the site of a name
abbrev pub file_path : List ℕ → List ℕ → List ℕ
file_path folder name = folder ++ 47 ∷ (name ++ codes ".db")
