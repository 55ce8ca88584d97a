-- The rights of a list of ACEs that are needed (this library's own, over what lists grant by RFC 8881, section 6.2.1):
-- some rights of each ACE, which together grant what the list grants.
use Rattle.std.specs.Prelude.{◌≡◌, ◌≤◌, ℕ, List, [], ◌∷◌, length}
use Rattle.std.specs.List.{AllZip}
use Rattle.acl_perm.specs.Bits.{IsSubset, all_rights}
use Rattle.acl_perm.specs.Profile.{full}
use Rattle.acl_nfs4.specs.Ace.{Ace}
use Rattle.acl_nfs4.specs.Spelling.{IsAccepted}
use Rattle.acl_eval.specs.Column.{column}
use Rattle.acl_eval.specs.Grant.{SameGrants}
use Rattle.acl_normal.specs.Normal.{HasOnlyNeeded}

-- the list cut to these masks: each ACE has the mask at its place
abbrev pub cut_to : List ℕ → List Ace → List Ace
cut_to [] list = []
cut_to (mask ∷ masks) [] = []
cut_to (mask ∷ masks) (a ∷ list) = record a { mask = mask } ∷ cut_to masks list

-- for each right, every accepted list that grants the same has at least as many ACEs that take part and have the right
abbrev pub HasFewest : List Ace → Type 0
HasFewest list = (other : List Ace) → IsAccepted full other → SameGrants all_rights list other → (bit : ℕ)
    → length (column list bit) ≤ length (column other bit)

-- the masks are the needed rights of the ACEs of a list, in order
pub record AreNeeded (list : List Ace) (masks : List ℕ) : Type 0 where
  -- there is one mask for each ACE
  pub count : length masks ≡ length list
  -- each mask is part of the mask of its ACE
  pub within : AllZip (λ mask (a : Ace). IsSubset mask a.mask) masks list
  -- the list cut to the masks grants what the list grants
  pub same : SameGrants all_rights list (cut_to masks list)
  -- no right can be taken out of it
  pub needed : HasOnlyNeeded (cut_to masks list)
  -- no set of rights can be taken out of it, because no accepted list that grants the same has fewer
  pub fewest : HasFewest (cut_to masks list)
