-- `compare`: its words, and what it makes of an input (this library's own, over RFC 8881, section 6.2.1).
use Rattle.std.specs.Prelude.{◌≡◌, ◌+◌, ◌∷◌, ◌++◌, [], List, ℕ, Bool, not, codes, length, unwrap_or}
use Rattle.std.specs.List.{flat_map}
use Rattle.acl_perm.specs.Lines.{line_feed}
use Rattle.acl_perm.specs.Bits.{all_rights}
use Rattle.acl_perm.specs.Profile.{Profile}
use Rattle.acl_perm.specs.Situation.{Situation}
use Rattle.acl_nfs4.specs.AceText.{space}
use Rattle.acl_nfs4.specs.Ace.{Ace}
use Rattle.acl_nfs4.specs.BitNames.{first_name}
use Rattle.acl_nfs4.specs.Fault.{IsFault, IsWholeFault}
use Rattle.acl_nfs4.specs.Rights.{rights}
use Rattle.acl_nfs4.specs.Spelling.{Xdr}
use Rattle.acl_nfs4.specs.declared.xdr.fault.Reason.{Reason}
use Rattle.acl_eval.specs.Grant.{SameGrants}
use Rattle.acl_normal.specs.SmallSets.{IsFirstDifference}
use Rattle.aclck.specs.Answer.{Answer, IsListFault, decision, done, refused}
use Rattle.aclck.specs.declared.answer.Outcome.{Outcome}
use Rattle.aclck.specs.declared.answer.Outcome.TheVariants as outcome
use Rattle.aclck.specs.declared.answer.RunFault.{RunFault}
use Rattle.aclck.specs.Definition.{Definition, of_profile}
use Rattle.aclck.specs.Run.{of_two}

-- ---- two lists

-- the input is two lists of the profile, one after the other, and nothing more
pub record AreTwo (p : Profile) (list other : List Ace) (input : List ℕ) : Type 0 where
  pub first : List ℕ
  pub second : List ℕ
  pub parts : input ≡ first ++ second
  pub first_spelled : Xdr p list first
  pub second_spelled : Xdr p other second

-- the fault of an input that should be two lists and nothing more: that of the first list, or else that of the bytes
-- after it, which should be one list and nothing more; both count from the start of the input
pub data IsFaultOfTwo (p : Profile) (input : List ℕ) : ℕ → Reason → Type 0 where
  of_first : (offset : ℕ) (r : Reason) → IsFault p input offset r → IsFaultOfTwo p input offset r
  of_second : (list : List Ace) (first rest : List ℕ) (offset : ℕ) (r : Reason)
      → Xdr p list first → input ≡ first ++ rest → IsWholeFault p rest offset r
      → IsFaultOfTwo p input (length first + offset) r

-- the fault is one that the input has
abbrev pub IsRefusedTwo : Profile → List ℕ → RunFault → Type 0
IsRefusedTwo p input = IsListFault (IsFaultOfTwo p input)

-- ---- the text

-- a line of a word and what follows it
abbrev pub compare_line : List ℕ → List ℕ → List ℕ
compare_line word value = word ++ space ∷ (value ++ line_feed ∷ [])

-- the line which says that two lists grant the same
abbrev pub same_text : List ℕ
same_text = codes "same" ++ line_feed ∷ []

-- the object and the requester, a line for each name
abbrev pub situation_lines : Situation → List ℕ
situation_lines s =
    compare_line (codes "owner") s.owner_name
    ++ (compare_line (codes "group") s.owning_group
    ++ (compare_line (codes "user") s.user_name
    ++ flat_map (compare_line (codes "member")) s.groups))

-- the right on which the lists differ, and what each list answers
abbrev pub answer_lines : ℕ → Bool → List ℕ
answer_lines mask first_grants =
    compare_line (codes "mask") (unwrap_or (first_name rights mask) [])
    ++ (compare_line (codes "first") (decision first_grants)
    ++ compare_line (codes "second") (decision (not first_grants)))

-- the text which says where two lists differ
abbrev pub difference_text : Situation → ℕ → Bool → List ℕ
difference_text s mask first_grants =
    (codes "differ" ++ line_feed ∷ []) ++ (situation_lines s ++ answer_lines mask first_grants)

-- ---- the answer

-- the first small situation in which the lists differ, and the text that describes it
pub record TellsDifference (list other : List Ace) (text : List ℕ) : Type 0 where
  pub situation : Situation
  pub mask : ℕ
  pub first_grants : Bool
  pub is_first : IsFirstDifference list other situation mask first_grants
  pub is_text : text ≡ difference_text situation mask first_grants

-- the outcome of a comparison of two lists: Yes if they grant the same, and otherwise No
abbrev pub Compares : List Ace → List Ace → Outcome → List ℕ → Type 0
Compares list other outcome.Yes text = SameGrants all_rights list other × (text ≡ same_text)
Compares list other outcome.No text = TellsDifference list other text

-- the input is two lists of the profile, and this is their outcome and text
pub record ComparesInput (p : Profile) (input : List ℕ) (o : Outcome) (text : List ℕ) : Type 0 where
  pub list : List Ace
  pub other : List Ace
  pub two : AreTwo p list other input
  pub compares : Compares list other o text

-- the outcome and the text of the two lists, or a fault that the input has
abbrev pub CompareAnswer : Profile → List ℕ → Answer → Type 0
CompareAnswer p input (done o text) = ComparesInput p input o text
CompareAnswer p input (refused f) = IsRefusedTwo p input f

-- the command
abbrev pub compare : Definition
compare = of_profile (codes "compare") CompareAnswer of_two
