-- What the list of a POSIX ACL grants.
use Rattle.std.proofs.Common.{◌≡◌, ℕ, zero, suc, ◌^◌, ◌<◌, Bool, true, false, cond, List, [], ◌∷◌, refl, sym, subst, ◌∙◌, arith, inl, inr}
use Rattle.std.specs.Prelude.{◌&&◌, ◌==◌, ◌↔◌, unwrap_or}
use Rattle.std.specs.List.{All, AllByRecursion}
use Rattle.std.specs.FinMap as fin
use Rattle.std.proofs.lemmas.List.Elements.{All-from_recursion}
use Rattle.acl_perm.specs.Bits.{has_bit}
use Rattle.acl_perm.proofs.Sets.{subset_test}
use Rattle.acl_posix.specs.declared.id.Id.{Id}
use Rattle.acl_posix.specs.Id.{IsId}
use Rattle.acl_posix.specs.Tag.{Tag, user_obj, user, mask, other}
use Rattle.acl_posix.specs.Entries.{Entries}
use Rattle.acl_posix.specs.Mode.{perm_at}
use Rattle.acl_posix.specs.Texts.{IsAcl}
use Rattle.acl_posix.specs.Check.{Object, Requester, ids, contains, tag_matches, any_matches, any_contains, grants}
use Rattle.acl_eval.specs.Grant.{Grant, grants_bit}
use Rattle.acl_eval.specs.Bridge.{image, bridge_list}
use Rattle.acl_eval.specs.BridgeLaws.{by_name, IsAsked, GrantsSingles, KeepsGrants}
use Rattle.acl_eval.proofs.Runs.{run_grants}
use Rattle.acl_eval.proofs.Same.{only_bit}
use Rattle.acl_eval.proofs.Bits.{contains_power}
use Rattle.acl_eval.proofs.Images.{Belongs, same_below, image_bit, rights}
use Rattle.acl_eval.proofs.ValidChecks.{mask_contains, plain, plain_check}
use Rattle.acl_eval.proofs.Agree.{IsRight, agrees}
use Rattle.acl_eval.proofs.Members.{any_implies}
use Rattle.acl_eval.proofs.Singles.{single_cases}

-- the permission of a bit below 3 has the rights that belong to the bit
right_at : (j b : ℕ) → j < 3 → Belongs j b → IsRight (2 ^ j) j b
right_at zero b lt st = record { power = refl; some = omega arith; whole = refl; small = lt; belongs = st }
right_at (suc zero) b lt st = record { power = refl; some = omega arith; whole = refl; small = lt; belongs = st }
right_at (suc (suc zero)) b lt st = record { power = refl; some = omega arith; whole = refl; small = lt; belongs = st }
right_at (suc (suc (suc j))) b lt st = absurd (omega (arith, lt))

-- ---- the check of less is granted where that of more is

-- permissions that contain a request contain each part of it
contains_less : (p want less : ℕ) → contains want less ≡ true → contains p want ≡ true → contains p less ≡ true
contains_less p want less sub h =
    let s = subset_test want less in
    let t = subset_test p want in
    let u = subset_test p less in
    u.1 (λ k has. t.0 h k (s.0 sub k has))

-- if each of two tests implies another one, both together imply the other two together
and_less : {a b c d : Bool} → (a ≡ true → c ≡ true) → (b ≡ true → d ≡ true) → (a && b) ≡ true → (c && d) ≡ true
and_less {a = true} {b = true} f g h = rw (f refl, g refl) refl
and_less {a = true} {b = false} f g h = absurd cc
and_less {a = false} f g h = absurd cc

-- if each of two tests implies another one, the choice between them implies the choice between the other two
choose_less : (t : Bool) {a b c d : Bool} → (a ≡ true → b ≡ true) → (c ≡ true → d ≡ true) → cond t a c ≡ true
    → cond t b d ≡ true
choose_less true f g = f
choose_less false f g = g

-- the plain check grants each part of a request that it grants
plain_less : (E : Entries) (object : Object) (requester : Requester) (want less : ℕ) → contains want less ≡ true
    → plain E object requester want ≡ true → plain E object requester less ≡ true
plain_less E object requester want less sub =
    let u : Tag = user requester.user in
    let og : ℕ = object.group in
    let gs : List ℕ = requester.groups in
    let contained = λ (p : ℕ). contains_less p want less sub in
    let limit : mask_contains E want ≡ true → mask_contains E less ≡ true = contained (unwrap_or (fin.get E mask) 7) in
    let class : any_contains E og gs want ≡ true → any_contains E og gs less ≡ true =
    any_implies (λ e. tag_matches og gs e.0 && contains e.1 want) (λ e. tag_matches og gs e.0 && contains e.1 less)
    (fin.entries E) (λ e. and_less (λ matched. matched) (contained e.1)) in
    choose_less (requester.user == object.user) (contained (perm_at E user_obj))
    (choose_less (fin.contains_key E u) (and_less (contained (perm_at E u)) limit)
    (choose_less (any_matches E og gs) (and_less class limit) (contained (perm_at E other))))

-- ---- the laws

-- a right of an image is granted if and only if the check grants its permission
bit_granted : (E : Entries) (object : Object) (requester : Requester) (want j b : ℕ) → IsAcl E
    → IsAsked object requester → IsRight want j b
    → grants_bit (bridge_list E) (by_name object requester) b ≡ grants E object requester want
bit_granted E object requester want j b access a right =
    sym (run_grants (bridge_list E) (by_name object requester) b) ∙ agrees E object requester want j b access a right

-- the list grants the rights of one permission if and only if the check grants the permission
image_granted : (E : Entries) (object : Object) (requester : Requester) (want j b : ℕ) → IsAcl E
    → IsAsked object requester → IsRight want j b → want < 8 → has_bit (image want) b ≡ true
    → Grant (bridge_list E) (by_name object requester) (image want) ↔ (grants E object requester want ≡ true)
image_granted E object requester want j b access a right lt has = (
  λ g. sym (bit_granted E object requester want j b access a right) ∙ g b has,
  λ h k is.
      let p = image_bit want k lt is in
      let same : p.j ≡ j = only_bit j p.j (subst (λ (n : ℕ). has_bit n p.j ≡ true) right.power p.has) in
      let belongs : Belongs j k = subst (λ (i : ℕ). Belongs i k) same p.belongs in
      bit_granted E object requester want j k access a (record {
        power = right.power;
        some = right.some;
        whole = right.whole;
        small = right.small;
        belongs = belongs;
      }) ∙ h,
)

-- the list grants one permission if and only if the check grants it
pub grants_singles : GrantsSingles
unfolding image
grants_singles entries object requester want access a single = elim (single_cases want single) [
  | inl r ↦ rw r (image_granted entries object requester 4 2 0 access a
      (right_at 2 0 (omega arith) rights.read_data) (omega arith) refl)
  | inr more ↦ elim more [
    | inl w ↦ rw w (image_granted entries object requester 2 1 1 access a
        (right_at 1 1 (omega arith) rights.write_data) (omega arith) refl)
    | inr x ↦ rw x (image_granted entries object requester 1 0 5 access a
        (right_at 0 5 (omega arith) rights.execute) (omega arith) refl)
  ]
]

-- a set that has one of the bits of permissions contains the permission of that bit
contains_bit : (want j : ℕ) → j < 3 → has_bit want j ≡ true → contains want (2 ^ j) ≡ true
contains_bit want zero lt h = contains_power want 0 1 refl (omega arith) ∙ h
contains_bit want (suc zero) lt h = contains_power want 1 2 refl (omega arith) ∙ h
contains_bit want (suc (suc zero)) lt h = contains_power want 2 4 refl (omega arith) ∙ h
contains_bit want (suc (suc (suc j))) lt h = absurd (omega (arith, lt))

-- read, write and execute together contain every set of permissions
all_contain : (want : ℕ) → want < 8 → contains 7 want ≡ true
all_contain = same_below 8 (contains 7) (λ n. true) refl

-- what the check grants together, the list grants together
pub keeps_grants : KeepsGrants
keeps_grants entries object requester want access a lt granted b has =
    let p = image_bit want b lt has in
    let right : IsRight (2 ^ p.j) p.j b = right_at p.j b p.small p.belongs in
    let all : plain entries object requester want ≡ true =
    plain_check entries object requester want access.valid (all_contain want lt) ∙ granted in
    let one : plain entries object requester (2 ^ p.j) ≡ true =
    plain_less entries object requester want (2 ^ p.j) (contains_bit want p.j p.small p.has) all in
    bit_granted entries object requester (2 ^ p.j) p.j b access a right
    ∙ sym (plain_check entries object requester (2 ^ p.j) access.valid right.whole) ∙ one

-- ---- ids that the code holds

-- the number of each id that the code holds is within the limit of ids
each_id : (gs : List Id) → AllByRecursion IsId (ids gs)
each_id [] = tt
each_id (g ∷ gs) = (g.within, each_id gs)

-- the numbers of all ids that the code holds are within the limit of ids
pub All-ids : (gs : List Id) → All IsId (ids gs)
All-ids gs = All-from_recursion IsId (ids gs) (each_id gs)
