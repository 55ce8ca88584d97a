-- Up to three ACEs of the code, one after the other: this library's own.
use Rattle.std.specs.Prelude.{List, [], ◌∷◌, ◌++◌, Option, None, Some}
use Rattle.acl_nfs4.specs.Ace.{Ace, ace}
use Rattle.acl_nfs4.specs.declared.ace.AceRef.{AceRef}
use Rattle.acl_change.specs.declared.up_to_three.UpToThree.{UpToThree}

-- one ACE, or none
abbrev pub up_to_one : Option AceRef → List Ace
up_to_one None = []
up_to_one (Some item) = ace item ∷ []

-- the ACEs in order
abbrev pub up_to_three : UpToThree → List Ace
up_to_three aces = up_to_one aces.first ++ (up_to_one aces.second ++ up_to_one aces.third)
