-- Why an array of ACEs is not a list, and which ACE is refused (this library's own, over RFC 8881, section 6.2.1).
use Rattle.std.specs.Prelude.{◌≡◌, List, [], ◌∷◌, ◌++◌, length, Result, Ok, Err}
use Rattle.acl_nfs4.specs.Ace.{Ace}
use Rattle.acl_nfs4.specs.Push.{PushAnswers, push_refusal}
use Rattle.acl_nfs4.specs.declared.list.build.BuildFault.{BuildFault}

-- the place is that of the first ACE that the ACEs before it do not accept after them, and the fault says why
pub record IsBuildFault (list : List Ace) (f : BuildFault) : Type 0 where
  pub before : List Ace
  pub refused : Ace
  pub after : List Ace
  pub is : list ≡ before ++ refused ∷ after
  pub place : length before ≡ f.place
  pub why : PushAnswers (Err f.fault) (push_refusal before refused)

-- one more ACE: the longer list, or its place and why the list does not accept it
abbrev pub PushesNext : Result (Unit {0}) BuildFault → List Ace → List Ace → Ace → Type 0
PushesNext (Ok _) old new a = new ≡ old ++ a ∷ []
PushesNext (Err f) old new a = (length old ≡ f.place) × PushAnswers (Err f.fault) (push_refusal old a)
