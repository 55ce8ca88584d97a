use Rattle.std.proofs.Common.{◌≡◌, ◌∙◌, Bool, false, List, map, refl, sym, true, ℕ}
use Rattle.acl_perm.specs.Situation.{Situation, is_one_of}
use Rattle.acl_perm.specs.declared.kind.Kind.{Kind}
use Rattle.acl_nfs4.specs.Ace.{Ace}
use Rattle.acl_eval.specs.Deciding.{AreDecidedBy, deciding_kind}
use Rattle.acl_eval.specs.GroupSearch.{AreRisingNames}
use Rattle.acl_eval.specs.Laws.{HaveSameNames}
use Rattle.acl_eval.proofs.GrantedRights.{kinds_by_names}
use Rattle.acl_eval.proofs.GroupSearches.{all_found}
use Rattle.aclck_c.specs.Options.{says_order}
use Rattle.aclck_c.specs.Prepared.{asked_prepared, groups_asked}
use Rattle.aclck_c.specs.Requests.{asked}
use Rattle.aclck_c.proofs.laws.rising_groups_decide_alike.Goals as goal

-- groups that rise are the groups that are asked
same_groups : (said : Bool) (names : List (List ℕ)) → AreRisingNames names → (name : List ℕ)
    → is_one_of name names ≡ is_one_of name (groups_asked said names)
same_groups true names up name = sym (all_found names up name)
same_groups false names up name = refl

-- what is decided in a situation is decided in another in which the same ACEs decide
decided_alike : (kind : Kind) (list : List Ace) (s t : Situation) (mask rights : ℕ)
    → ((bit : ℕ) → deciding_kind list t bit ≡ deciding_kind list s bit)
    → AreDecidedBy kind list s mask rights → AreDecidedBy kind list t mask rights
decided_alike kind list s t mask rights kinds decided bit = (
  λ has. let both = (decided bit).0 has in (both.0, kinds bit ∙ both.1),
  λ both. (decided bit).1 (both.0, sym (kinds bit) ∙ both.1),
)

pub returns : goal.returns
returns c object question who mask list found up =
    let s = asked_prepared object question who in
    let t = asked object who in
    let same : HaveSameNames s t = record {
      owner_name = refl;
      owning_group = refl;
      user_name = refl;
      groups = same_groups (says_order question.options) (map (λ g. g.now) who.groups.now) up;
    } in
    let there : (bit : ℕ) → deciding_kind list t bit ≡ deciding_kind list s bit = λ bit.
    kinds_by_names list s t bit same in
    let back : (bit : ℕ) → deciding_kind list s bit ≡ deciding_kind list t bit = λ bit. sym (there bit) in (
      λ decided. record {
        allowed = decided_alike _ list s t mask found.allowed there decided.allowed;
        denied = decided_alike _ list s t mask found.denied there decided.denied;
      },
      λ decided. record {
        allowed = decided_alike _ list t s mask found.allowed back decided.allowed;
        denied = decided_alike _ list t s mask found.denied back decided.denied;
      },
    )
