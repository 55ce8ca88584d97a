-- Lists of rules by tags: what they grant, and when an ACL is sound for them.
use Rattle.std.proofs.Common.{◌≡◌, ◌<◌, ℕ, Bool, true, false, List, [], ◌∷◌, ◌++◌, Option, Some, refl, sym, ap, ◌∙◌, arith, inl, inr}
use Rattle.std.proofs.lemmas.Bool.{false≢true}
use Rattle.std.proofs.lemmas.List.Elements.{recursion_from_All}
use Rattle.std.specs.Prelude.{⊤, ◌⊎◌, ◌==◌, ◌&&◌, if◌then◌else◌}
use Rattle.std.specs.FinMap as fin
use Rattle.acl_perm.proofs.Sets.{subset_test}
use Rattle.acl_perm.specs.Bits.{has_bit}
use Rattle.acl_perm.specs.Kind.{is_allow}
use Rattle.acl_perm.specs.declared.kind.Kind.{Kind}
use Rattle.acl_posix.specs.Check.{Object, Requester, contains, is_contained}
use Rattle.acl_posix.specs.Entries.{Entries}
use Rattle.acl_posix.specs.Id.{IsId}
use Rattle.acl_posix.specs.Tag.{Tag, user_obj, user, group_obj, group, mask, other, IsTag}
use Rattle.acl_posix.specs.Valid.{IsValid}
use Rattle.acl_nfs4.specs.Ace.{Ace}
use Rattle.acl_eval.specs.Bridge.{image, ace_of}
use Rattle.acl_eval.specs.BridgeLaws.{IsAsked, by_name}
use Rattle.acl_eval.specs.Grant.{grants_bit}
use Rattle.acl_to_posix.specs.ToPosix.{HasShape, IsSound, EntryShape, is_in_shape}
use Rattle.acl_to_posix.specs.internal.ShapeBody.{TagColumn, always, column_decided_by, is_certain, may_match, tag_meets}
use Rattle.acl_to_posix.proofs.Passes.{always_sound}
use Rattle.acl_to_posix.proofs.PossibleTags.{may_match-meets, tag_meets-certain}
use Rattle.acl_eval.proofs.BridgeNames.{ace_with, is_one, same_name, tag_applies, tag_applies-group, tag_applies-user}
use Rattle.acl_eval.proofs.Columns.{bit_at_first}
use Rattle.acl_eval.proofs.Images.{image_right, rights}
use Rattle.acl_to_posix.proofs.shapes.ShapeChecks.{all_contain, held, looked}

-- ---- what a list of tags grants

-- an ACE of a tag matches the requester whom the tag meets
applies_tag : (object : Object) (requester : Requester) (t : Tag) → IsAsked object requester → IsTag t → (t ≡ mask → ⊥)
    → tag_applies (by_name object requester) t ≡ tag_meets object requester t
applies_tag object requester user_obj a is some = same_name requester.user object.user a.asker a.owner
applies_tag object requester (user id) a is some =
    tag_applies-user (by_name object requester) id is ∙ same_name requester.user id a.asker is
applies_tag object requester group_obj a is some =
    is_one object.group requester.groups a.owning_group (recursion_from_All IsId requester.groups a.groups)
applies_tag object requester (group id) a is some = tag_applies-group (by_name object requester) id is
    ∙ is_one id requester.groups is (recursion_from_All IsId requester.groups a.groups)
applies_tag object requester mask a is some = absurd (some refl)
applies_tag object requester other a is some = refl

-- the first ACE decides its rights for those whom its tag meets
rule_first : (k : Kind) (t : Tag) (p : ℕ) (list : List Ace) (object : Object) (requester : Requester) (b : ℕ)
    → (p == 0) ≡ false → IsTag t → (t ≡ mask → ⊥) → IsAsked object requester
    → grants_bit (ace_of k t p ++ list) (by_name object requester) b
    ≡ (if has_bit (image p) b && tag_meets object requester t then is_allow k
    else grants_bit list (by_name object requester) b)
unfolding ace_of
rule_first k t p list object requester b some is named asked =
    rw some (bit_at_first (ace_with k t (image p)) list (by_name object requester) b
    ∙ ap (λ (m : Bool). if has_bit (image p) b && m then is_allow k else grants_bit list (by_name object requester) b)
    (applies_tag object requester t asked is named))

-- a rule: a kind, a tag and permissions
abbrev pub Rule : Type 0
Rule = Kind × (Tag × ℕ)

-- the ACEs of rules, one after the other
abbrev pub rules_list : List Rule → List Ace
rules_list [] = []
rules_list ((k, (t, p)) ∷ rules) = ace_of k t p ++ rules_list rules

-- the keys of a right: the tags and kinds of the rules that have it, in order
abbrev pub rules_column : List Rule → ℕ → TagColumn
rules_column [] b = []
rules_column ((k, (t, p)) ∷ rules) b =
    if has_bit (image p) b then (t, k) ∷ rules_column rules b else rules_column rules b

-- each rule has a permission, and a tag that names by an id or not at all and is not MASK
abbrev pub AreRules : List Rule → Type 0
AreRules [] = ⊤
AreRules ((k, (t, p)) ∷ rules) = ((p == 0) ≡ false) × IsTag t × (t ≡ mask → ⊥) × AreRules rules

-- what the ACEs of rules grant is what the keys of the right decide
pub rules_decide : (rules : List Rule) (object : Object) (requester : Requester) (b : ℕ) → AreRules rules
    → IsAsked object requester → grants_bit (rules_list rules) (by_name object requester) b
    ≡ column_decided_by (tag_meets object requester) (rules_column rules b) false
rules_decide [] object requester b are asked = refl
rules_decide ((k, (t, p)) ∷ rules) object requester b (some, is, named, are) asked =
    rule_first k t p (rules_list rules) object requester b some is named asked
    ∙ by (rules_decide rules object requester b are asked) (has_bit (image p) b) refl
  where
    by : grants_bit (rules_list rules) (by_name object requester) b
        ≡ column_decided_by (tag_meets object requester) (rules_column rules b) false
        → (h : Bool) → has_bit (image p) b ≡ h
        → (if has_bit (image p) b && tag_meets object requester t then is_allow k
        else grants_bit (rules_list rules) (by_name object requester) b)
        ≡ column_decided_by (tag_meets object requester) (rules_column ((k, (t, p)) ∷ rules) b) false
    by rest true e = rw e (ap (λ (r : Bool). if tag_meets object requester t then is_allow k else r) rest)
    by rest false e = rw e rest

-- ---- sound by entries

-- an ACL is sound if the pass answers for each right of each permission that an entry has
abbrev pub Passes : List Rule → EntryShape → Tag → ℕ → Type 0
Passes rules shape t p = (b : ℕ) → has_bit (image p) b ≡ true
    → always (is_certain t) (may_match shape t) (rules_column rules b) ≡ true

-- the rights of a part of some permissions are among their rights
image_part : (p want b : ℕ) → p < 8 → want < 8 → contains p want ≡ true → has_bit (image want) b ≡ true
    → has_bit (image p) b ≡ true
image_part p want b lp lw h hb = elim (image_right want b lw hb) [
  | inl at ↦ rw at.0 (rights.read_data.same p lp ∙ (subset_test p want).0 h 2 at.1)
  | inr more ↦ elim more [
    | inl at ↦ rw at.0 (rights.write_data.same p lp ∙ (subset_test p want).0 h 1 at.1)
    | inr rest ↦ elim rest [
      | inl at ↦ rw at.0 (rights.append_data.same p lp ∙ (subset_test p want).0 h 1 at.1)
      | inr at ↦ rw at.0 (rights.execute.same p lp ∙ (subset_test p want).0 h 0 at.1)
    ]
  ]
]

-- a valid ACL of a shape is sound for rules if the permissions of each entry pass
pub sound_by_passes : (rules : List Rule) (shape : EntryShape) (E : Entries) → AreRules rules → IsValid E
    → HasShape shape E
    → ((t : Tag) → is_in_shape shape t ≡ true → (p : ℕ) × (p < 8) × (fin.get E t ≡ Some p) × Passes rules shape t p)
    → IsSound (rules_list rules) E
sound_by_passes rules shape E are valid s each object requester asked want few allowed bit hb =
    let at = looked shape E object requester want valid s (all_contain want few) allowed in
    let (p, small, found, passes) = each at.entry at.there in
    let part : contains p want ≡ true =
    ap (λ (o : Option ℕ). is_contained o want) (sym found) ∙ held E at.entry want at.holds in
    rules_decide rules object requester bit are asked
    ∙ always_sound (is_certain at.entry) (may_match shape at.entry) (tag_meets object requester)
    (rules_column rules bit) (tag_meets-certain shape object requester at.entry at.looks)
    (may_match-meets shape object requester at.entry at.looks) (passes bit (image_part p want bit small few part hb))

-- without permissions there is no right
pub no_right : (b : ℕ) → has_bit (image 0) b ≡ true → ⊥
no_right b h = elim (image_right 0 b (omega arith) h) [
  | inl at ↦ false≢true at.1
  | inr more ↦ elim more [
    | inl at ↦ false≢true at.1
    | inr rest ↦ elim rest [ inl at ↦ false≢true at.1 | inr at ↦ false≢true at.1 ]
  ]
]

-- the right of read is READ_DATA
pub read_right : (b : ℕ) → has_bit (image 4) b ≡ true → b ≡ 0
read_right b h = elim (image_right 4 b (omega arith) h) [
  | inl at ↦ at.0
  | inr more ↦ elim more [
    | inl at ↦ absurd (false≢true at.1)
    | inr rest ↦ elim rest [ inl at ↦ absurd (false≢true at.1) | inr at ↦ absurd (false≢true at.1) ]
  ]
]

-- the rights of write are WRITE_DATA and APPEND_DATA
pub write_right : (b : ℕ) → has_bit (image 2) b ≡ true → (b ≡ 1) ⊎ (b ≡ 2)
write_right b h = elim (image_right 2 b (omega arith) h) [
  | inl at ↦ absurd (false≢true at.1)
  | inr more ↦ elim more [
    | inl at ↦ inl at.0
    | inr rest ↦ elim rest [ inl at ↦ inr at.0 | inr at ↦ absurd (false≢true at.1) ]
  ]
]
