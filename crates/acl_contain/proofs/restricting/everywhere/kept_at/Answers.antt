use Rattle.acl_normal.proofs.Common.{HasNames, ace, aces_in, ap, arith, full, length, length-map, map-append, no_ace, slice_index_or, subst, sym, take, take_all, ◌++◌, ◌<◌, ◌∙◌, ◌∷◌, []}
use Rattle.acl_normal.proofs.unique.Accepted.{accepted_masks, accepted_names}
use Rattle.acl_contain.proofs.restriction.Keeping.{removal_accepted}
use Rattle.acl_contain.proofs.restriction.Naming.{ace_there}
use Rattle.acl_contain.proofs.restriction.PutBack.{greatest_at, left_count, names_in_place, put_back_more}
use Rattle.acl_contain.proofs.restricting.everywhere.kept_at.Goals as goal
use Rattle.acl_contain.specs.EveryPath.{AtMostAt}
use Rattle.acl_contain.specs.Removal.{IsGreatestWithin}
use Rattle.acl_contain.specs.internal.InPlace.{all_in_place, all_put_back, path_of, put_back}
use Rattle.acl_contain.specs.internal.Restriction.{IsRestricted}

pub without_excess-requires-clause-list : goal.without_excess-requires-clause-list
without_excess-requires-clause-list c =
    subst HasNames (sym (ap aces_in c.deref.ensures.value ∙ c.in_ok-shown.ensures))
    (names_in_place c.args.path (aces_in c.args.aces.now)
    (accepted_names full (aces_in c.args.aces.now) c.requires.list))

pub without_excess-requires-clause-bound : goal.without_excess-requires-clause-bound
without_excess-requires-clause-bound c =
    subst HasNames (sym (ap aces_in c.deref-2.ensures.value ∙ c.in_ok-limit.ensures))
    (names_in_place c.args.path (aces_in c.args.others.now)
    (accepted_names full (aces_in c.args.others.now) c.requires.bound))

pub index-requires : goal.index-requires
index-requires c = omega (
  arith,
  c.loop-place-test.true,
  left_count c.args.path (aces_in c.args.aces.now) (aces_in c.in_ok-left.left.items)
      (subst (λ v. IsRestricted v (aces_in c.deref-2.result.now) (aces_in c.in_ok-left.left.items))
      (ap aces_in c.deref.ensures.value ∙ c.in_ok-shown.ensures) c.in_ok-left.ensures).removal,
  length-map c.args.aces.now ace,
  length-map c.in_ok-left.left.items ace,
  c.in_ok-left.left.ok,
)

pub loop-place-preserved : goal.loop-place-preserved
loop-place-preserved c =
    let aces = aces_in c.args.aces.now in
    let left = aces_in c.in_ok-left.left.items in
    let path = c.args.path in
    let place = c.loop-place.place in
    let l : place < length aces = omega (arith, c.loop-place-test.true, length-map c.args.aces.now ace) in
    let m : place < length left = omega (
      arith,
      l,
      left_count path aces left (subst (λ v. IsRestricted v (aces_in c.deref-2.result.now) left)
          (ap aces_in c.deref.ensures.value ∙ c.in_ok-shown.ensures) c.in_ok-left.ensures).removal,
    ) in
    ap aces_in c.in_ok-push.ensures.items ∙ map-append ace c.loop-place.kept.items (c.put_back.result ∷ [])
    ∙ ap (λ v. v ++ ace c.put_back.result ∷ []) c.loop-place.invariant
    ∙ ap (λ v. all_put_back path (take place aces) left ++ v ∷ []) (
    c.put_back.ensures
    ∙ ap (λ v. put_back path v (ace c.index.result.now))
    (sym (ace_there c.args.aces.now place c.index-aces-place.result c.loop-place-test.true c.index-aces-place.is))
    ∙ ap (put_back path (slice_index_or aces place no_ace)) (sym (ace_there c.in_ok-left.left.items place
    c.index.result.now (omega (arith, m, length-map c.in_ok-left.left.items ace)) c.index.ensures))
    )
    ∙ sym (put_back_more path aces left place l m)

pub returns : goal.returns
returns c =
    let aces = aces_in c.args.aces.now in
    let others = aces_in c.args.others.now in
    let left = aces_in c.in_ok-left.left.items in
    let path = c.args.path in
    let greatest : IsGreatestWithin (λ cut. AtMostAt cut others (path_of path)) aces (aces_in c.loop-place.kept.items) =
    subst (IsGreatestWithin (λ cut. AtMostAt cut others (path_of path)) aces)
    (sym (c.loop-place.invariant
    ∙ ap (λ v. all_put_back path v left) (take_all c.loop-place.place aces (omega (
      arith,
      c.loop-place-test.false,
      length-map c.args.aces.now ace,
    )))))
    (greatest_at path aces others left (accepted_masks aces c.requires.list)
    (subst (λ v. IsRestricted (all_in_place path aces) v left)
    (ap aces_in c.deref-2.ensures.value ∙ c.in_ok-limit.ensures)
    (subst (λ v. IsRestricted v (aces_in c.deref-2.result.now) left)
    (ap aces_in c.deref.ensures.value ∙ c.in_ok-shown.ensures) c.in_ok-left.ensures))) in record {
      greatest = greatest;
      accepted = removal_accepted aces (aces_in c.loop-place.kept.items) greatest.removal c.requires.list;
    }
