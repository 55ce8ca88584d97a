-- What is granted of a mask, and to requesters whose groups have the same names.
use Rattle.std.proofs.Common.{◌≡◌, ℕ, Bool, List, refl, sym, ap, ◌∙◌}
use Rattle.std.specs.Prelude.{◌↔◌, ◌&&◌, option_map}
use Rattle.std.specs.List.{find}
use Rattle.std.specs.Str.{bytes_eq}
use Rattle.std.proofs.lemmas.Bool.{and_parts}
use Rattle.acl_perm.specs.Bits.{has_bit, IsSubset}
use Rattle.acl_perm.specs.Principal.{Principal, owner, user, group, group_named, everyone}
use Rattle.acl_perm.specs.Situation.{Situation, is_one_of, matches}
use Rattle.acl_nfs4.specs.Ace.{Ace}
use Rattle.acl_nfs4.specs.Who.{principal_of}
use Rattle.acl_eval.specs.Column.{column, takes_part, verdict}
use Rattle.acl_eval.specs.Deciding.{deciding_kind}
use Rattle.acl_eval.specs.Grant.{Grant, grants_bit, is_allow}
use Rattle.acl_eval.specs.Laws.{HaveSameNames}

-- a request within a mask is granted if and only if it is within the rights of the mask that are granted
pub within_granted : (list : List Ace) (s : Situation) (mask granted : ℕ)
    → ((bit : ℕ) → has_bit granted bit ≡ (has_bit mask bit && grants_bit list s bit))
    → (request : ℕ) → IsSubset request mask → Grant list s request ↔ IsSubset request granted
within_granted list s mask granted is request within = (
  λ g bit h. is bit ∙ rw (within bit h, g bit h) refl,
  λ sub bit h. (and_parts (has_bit mask bit) (grants_bit list s bit) (sym (is bit) ∙ sub bit h)).1,
)

-- requesters whose groups have the same names match the same principals
same_matches : (s t : Situation) → HaveSameNames s t → (p : Principal) → matches t p ≡ matches s p
same_matches s t same owner =
    ap (λ (a : List ℕ). bytes_eq a t.owner_name) same.user_name ∙ ap (bytes_eq s.user_name) same.owner_name
same_matches s t same (user name) = ap (λ (a : List ℕ). bytes_eq a name) same.user_name
same_matches s t same group =
    same.groups t.owning_group ∙ ap (λ (a : List ℕ). is_one_of a s.groups) same.owning_group
same_matches s t same (group_named name) = same.groups name
same_matches s t same everyone = refl

-- for requesters whose groups have the same names, an ACE of the same kind decides
pub kinds_by_names : (list : List Ace) (s t : Situation) (bit : ℕ) → HaveSameNames s t
    → deciding_kind list t bit ≡ deciding_kind list s bit
kinds_by_names list s t bit same =
    let tests : matches t ≡ matches s = λ i p. same_matches s t same p i in
    ap (λ (test : Principal → Bool). option_map (λ a. a.kind)
    (find (λ a. has_bit a.mask bit && (takes_part a && test (principal_of a))) list)) tests

-- requesters whose groups have the same names are granted the same requests
pub grants_by_names : (list : List Ace) (s t : Situation) (request : ℕ) → HaveSameNames s t
    → Grant list s request ↔ Grant list t request
grants_by_names list s t request same =
    let tests : matches t ≡ matches s = λ i p. same_matches s t same p i in
    let same_bit : (bit : ℕ) → grants_bit list t bit ≡ grants_bit list s bit =
    λ bit. ap (λ (test : Principal → Bool). is_allow (verdict test (column list bit))) tests in
    (λ granted bit asked. same_bit bit ∙ granted bit asked, λ granted bit asked. sym (same_bit bit) ∙ granted bit asked)
