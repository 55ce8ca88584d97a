-- What a call from C says in words of who has one right (this library's own, over RFC 8881, section 6.2.1).
use Rattle.std.specs.Prelude.{ℕ, List}
use Rattle.acl_perm.specs.Profile.{Profile}
use Rattle.acl_nfs4.specs.Ace.{Ace}
use Rattle.acl_nfs4.specs.Spelling.{Xdr}
use Rattle.acl_contain.specs.Holders.{AreHolders}

-- the bytes spell a list, and the text says who has the right
pub record NamesHolders (p : Profile) (right : ℕ) (bytes text : List ℕ) : Type 0 where
  pub list : List Ace
  pub spelled : Xdr p list bytes
  pub are : AreHolders right list text
