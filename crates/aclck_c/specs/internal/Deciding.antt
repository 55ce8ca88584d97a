-- The ACE that decides a right, as the code finds it (this library's own; only the code needs it).
use Rattle.std.specs.Prelude.{◌≡◌, ℕ, List, None, Option, Some, option_map}
use Rattle.acl_perm.specs.Kind.{kind_number}
use Rattle.acl_perm.specs.Profile.{Profile}
use Rattle.acl_perm.specs.Situation.{Situation}
use Rattle.acl_nfs4.specs.Ace.{Ace}
use Rattle.acl_nfs4.specs.Spelling.{Xdr}
use Rattle.acl_eval.specs.Deciding.{deciding_kind, deciding_place}
use Rattle.acl_decide.specs.declared.one_decider.Decision.{Decision}
use Rattle.aclck_c.specs.Requests.{no_decision}
use Rattle.aclck_c.specs.declared.nfs4.deciding.RawDecision.{RawDecision}

-- what is written for an ACE that decides, or for none
abbrev pub raw_decision : Option Decision → RawDecision
raw_decision (Some d) = record { place = d.place; kind = kind_number d.kind }
raw_decision None = no_decision

-- the bytes spell a list, and this ACE of it, or none, decides the right of this bit
pub record Finds (p : Profile) (bytes : List ℕ) (s : Situation) (bit : ℕ) (found : Option Decision) : Type 0 where
  pub list : List Ace
  pub spelled : Xdr p list bytes
  pub is_place : option_map (λ d. d.place) found ≡ deciding_place list s bit
  pub is_kind : option_map (λ d. d.kind) found ≡ deciding_kind list s bit
