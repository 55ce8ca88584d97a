-- Whether a right is granted in every situation in which the check looks at an entry: one pass over its keys says so.
use Rattle.std.proofs.Common.{◌≡◌, ◌≤◌, ◌+◌, ℕ, Bool, true, false, List, refl, sym, ◌∙◌, arith, length}
use Rattle.std.proofs.lemmas.Bool.{true≢false}
use Rattle.std.proofs.lemmas.List.{length-map}
use Rattle.std.specs.Prelude.{◌↔◌, ◌||◌}
use Rattle.acl_perm.specs.declared.kind.Kind.{Kind}
use Rattle.acl_posix.specs.Check.{Object, Requester}
use Rattle.acl_posix.specs.Tag.{Tag, tag_of}
use Rattle.acl_nfs4.specs.Ace.{Ace}
use Rattle.acl_eval.specs.BridgeLaws.{IsAsked, by_name}
use Rattle.acl_eval.specs.Grant.{grants_bit}
use Rattle.acl_to_posix.specs.ToPosix.{EntryShape, is_in_shape, looks_at}
use Rattle.acl_to_posix.specs.internal.ShapeBody.{IsColumnOf, always, is_certain, may_match, keys_of, most_names, tag_meets}
use Rattle.acl_to_posix.specs.declared.tag_column.TagKey.{TagKey}
use Rattle.acl_to_posix.proofs.Passes.{always_complete, always_sound, column_decided_by-same, is_extra}
use Rattle.acl_to_posix.proofs.no_greatest.FreeIds.{free_ids}
use Rattle.acl_to_posix.proofs.TagRequesters.{object_at, requester_at}
use Rattle.acl_to_posix.proofs.EntrySituations.{looks, meets_at}
use Rattle.acl_to_posix.proofs.SituationIds.{HasIds, asked_at}
use Rattle.acl_to_posix.proofs.PossibleTags.{may_match-meets, tag_meets-certain}

-- the pass answers whether a list grants one right in every situation in which the check looks at the entry
pub decides_right : (list : List Ace) (bit : ℕ) (keys : List TagKey) (shape : EntryShape) (entry : Tag)
    → IsColumnOf list bit keys → HasIds shape → length shape.users + length shape.groups ≤ most_names
    → is_in_shape shape entry ≡ true
    → (always (is_certain entry) (may_match shape entry) (keys_of keys) ≡ true)
    ↔ ((object : Object) (requester : Requester) → IsAsked object requester
    → looks_at shape object requester entry ≡ true → grants_bit list (by_name object requester) bit ≡ true)
decides_right list bit keys shape entry column ids small there = (
  λ yes object requester asked h. column.decides object requester asked
      ∙ always_sound (is_certain entry) (may_match shape entry) (tag_meets object requester) (keys_of keys)
      (tag_meets-certain shape object requester entry h) (may_match-meets shape object requester entry h) yes,
  λ all. by all (always (is_certain entry) (may_match shape entry) (keys_of keys)) refl,
)
  where
    by : ((object : Object) (requester : Requester) → IsAsked object requester
        → looks_at shape object requester entry ≡ true → grants_bit list (by_name object requester) bit ≡ true)
        → (b : Bool) → always (is_certain entry) (may_match shape entry) (keys_of keys) ≡ b → b ≡ true
    by all true e = refl
    by all false e =
        let d = always_complete (is_certain entry) (may_match shape entry) (keys_of keys) column.first e in
        let long : length (keys_of keys) ≡ length keys =
        length-map {B = Tag × Kind} keys (λ key. (tag_of key.whom, key.kind)) in
        let (free, next, own, f) = free_ids shape (keys_of keys) small (omega (arith, column.few, long)) in
        let object = object_at entry d.extra free next own in
        let requester = requester_at entry d.extra free own in
        let asked = asked_at shape keys entry d.extra free next own ids f there d.is in
        let granted =
        all object requester asked (looks shape (keys_of keys) entry d.extra free next own f there d.is) in
        absurd (true≢false (sym granted ∙ (column.decides object requester asked
        ∙ (column_decided_by-same (tag_meets object requester) (λ t. is_certain entry t || is_extra d.extra t)
        (keys_of keys) false (meets_at shape (keys_of keys) entry d.extra free next own f there d.is) ∙ d.denied))))
