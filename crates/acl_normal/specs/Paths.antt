-- The lists at a path of creations below a directory (this library's own, over its table of inheritance), and when two
-- lists agree there.
use Rattle.std.specs.Prelude.{◌≡◌, ◌≤◌, ℕ, zero, suc, List, [], ◌∷◌}
use Rattle.std.specs.List.{AllByRecursion}
use Rattle.acl_nfs4.specs.Ace.{Ace}
use Rattle.acl_eval.specs.Grant.{SameGrants}
use Rattle.acl_eval.specs.Inheritance.{children}
use Rattle.acl_eval.specs.declared.inherit.ChildKind.{ChildKind}
use Rattle.acl_eval.specs.declared.inherit.ChildKind.TheVariants.{Directory, File}

-- the object itself; or a number of new directories, each in the one before, and a new object in the last of them
pub data Path : Type 0 where
  here : Path
  below : ℕ → ChildKind → Path

-- the list of the last of this many new directories, each in the one before
abbrev pub directory_below : List Ace → ℕ → List Ace
directory_below list zero = list
directory_below list (suc count) = children Directory (directory_below list count)

-- the list of the object at the path
abbrev pub at : List Ace → Path → List Ace
at list here = list
at list (below count kind) = children kind (directory_below list count)

-- the object, a new file and a new directory in it, and a new file and a new directory in that directory
abbrev pub five_paths : List Path
five_paths = here ∷ below 0 File ∷ below 0 Directory ∷ below 1 File ∷ below 1 Directory ∷ []

-- both lists grant the same at the path
abbrev pub SameAt : ℕ → List Ace → List Ace → Path → Type 0
SameAt rights list other path = SameGrants rights (at list path) (at other path)

-- both lists grant the same at each of the five paths
abbrev pub SameAtFive : ℕ → List Ace → List Ace → Type 0
SameAtFive rights list other = AllByRecursion (SameAt rights list other) five_paths

-- both lists grant the same at every path
abbrev pub SameAtEveryPath : ℕ → List Ace → List Ace → Type 0
SameAtEveryPath rights list other = (path : Path) → SameAt rights list other path

-- below more than one new directory, a new object has the list of its kind below one
abbrev pub SameFurtherBelow : List Ace → Type 0
SameFurtherBelow list = (count : ℕ) (kind : ChildKind) → 1 ≤ count
    → at list (below count kind) ≡ at list (below 1 kind)
