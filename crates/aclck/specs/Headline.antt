-- The headline: what equal bytes and equal texts say about access control lists (RFC 8881, section 6.2.1; acl(5)). The
-- lists are accepted under a profile, which has a set of the sixteen rights.
use Rattle.std.specs.Prelude.{◌≡◌, ◌↔◌, List, ℕ}
use Rattle.acl_perm.specs.Profile.{Profile}
use Rattle.acl_nfs4.specs.Ace.{Ace}
use Rattle.acl_nfs4.specs.Spelling.{Xdr}
use Rattle.acl_nfs4.specs.Within.{IsProfile}
use Rattle.acl_eval.specs.Grant.{SameGrants}
use Rattle.acl_eval.specs.declared.inherit.ChildKind.TheVariants.{Directory, File}
use Rattle.acl_normal.specs.NormalForm.{Normalizes}
use Rattle.acl_normal.specs.Paths.{SameAtEveryPath, at, below, here}
use Rattle.acl_normal.specs.Programs.{NormalizesAtPaths}
use Rattle.acl_normal.specs.declared.five_forms.FiveForms.{FiveForms}
use Rattle.acl_posix.specs.TextLaws.{ReadsBack, TextTellsApart}
use Rattle.acl_posix.specs.Texts.{canonical_text}
use Rattle.aclck.specs.Laws.{IsFiveForms, TellsListsApart}

-- the headline, part by part
pub record Headline : Type 0 where
  -- two NFSv4 lists normalize to equal bytes if and only if, in every situation and for every mask, both grant or both
  -- deny
  pub equal_bytes : TellsListsApart Normalizes SameGrants
  -- the normal form grants what its source grants
  pub same_grants : (p : Profile) (list form : List Ace) (input output : List ℕ) → IsProfile p
      → Xdr p list input → Xdr p form output → Normalizes p input output → SameGrants p.masks list form
  -- normalizing twice gives the same as normalizing once
  pub twice_is_once : (p : Profile) (input once twice : List ℕ) → IsProfile p → Normalizes p input once
      → Normalizes p once twice ↔ (twice ≡ once)
  -- two POSIX files have the same canonical text if and only if they have the same entries
  pub one_text : TextTellsApart canonical_text
  -- the canonical text reads back as the same file
  pub reads_back : ReadsBack canonical_text

-- each of the five lists grants what the list at its path grants
pub record GrantAtPaths (rights : ℕ) (list : List Ace) (forms : FiveForms) : Type 0 where
  pub object : SameGrants rights (at list here) forms.object
  pub file : SameGrants rights (at list (below 0 File)) forms.file
  pub directory : SameGrants rights (at list (below 0 Directory)) forms.directory
  pub file_in_directory : SameGrants rights (at list (below 1 File)) forms.file_in_directory
  pub directory_in_directory : SameGrants rights (at list (below 1 Directory)) forms.directory_in_directory

-- the headline over paths of creations, part by part
pub record HeadlineOverPaths : Type 0 where
  -- the five normal forms of two lists have equal bytes if and only if, at every path, in every situation and for every
  -- mask, both grant or both deny
  pub equal_bytes : TellsListsApart NormalizesAtPaths SameAtEveryPath
  -- each of the five grants what the list at its path grants
  pub same_grants : (p : Profile) (list : List Ace) (input output : List ℕ) → IsProfile p → Xdr p list input
      → (five : NormalizesAtPaths p input output) → GrantAtPaths p.masks list five.forms
  -- normalizing each of the five once more changes none of them
  pub twice_is_once : (p : Profile) (input output : List ℕ) → IsProfile p → NormalizesAtPaths p input output
      → IsFiveForms p output
