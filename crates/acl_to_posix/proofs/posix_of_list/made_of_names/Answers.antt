use Rattle.std.proofs.Common.{subst}
use Rattle.acl_ids.specs.Ids.{with_ids}
use Rattle.acl_to_posix.specs.internal.ListNamesBody.{named_shape}
use Rattle.acl_to_posix.specs.Pruning.{PrunesTo}
use Rattle.acl_to_posix.specs.ToPosix.{EntryShape, IsBest}
use Rattle.acl_to_posix.proofs.shapes.EntryCounts.{small_of}
use Rattle.acl_to_posix.proofs.PosixOfLists.{exact_if_any, maximal_of}
use Rattle.acl_to_posix.proofs.posix_of_list.made_of_names.Goals as goal
use Rattle.acl_to_posix.proofs.shapes.ShapeRights.{few_ids}

pub returns-clause-rule : goal.returns-clause-rule
returns-clause-rule c = λ names.
    let list = with_ids c.args.names.now c.args.list.now in
    let rest = named_shape c.in_ok-rest.rest in record {
      known = c.requires.known;
      start = named_shape c.args.named.now;
      end = rest;
      names = names;
      few = few_ids c.args.named.now c.requires.few;
      pruned = subst (λ (s : EntryShape). PrunesTo list s rest) c.shape.ensures
          (c.in_ok-rest.ensures.pruned list c.in_ok-columns.ensures.columns);
      best = subst (λ (s : EntryShape). IsBest list s c.in_ok-acl.acl) c.shape-2.ensures
          (c.in_ok-acl.ensures list c.in_ok-columns.ensures.columns);
    }

pub returns-clause-maximal : goal.returns-clause-maximal
returns-clause-maximal c = λ names.
    let list = with_ids c.args.names.now c.args.list.now in
    let rest = named_shape c.in_ok-rest.rest in
    maximal_of c.args.names.now c.args.list.now c.args.named.now rest c.in_ok-acl.acl c.aces.ensures.accepted.count
    c.requires.few names (subst (λ (s : EntryShape). PrunesTo list s rest) c.shape.ensures
    (c.in_ok-rest.ensures.pruned list c.in_ok-columns.ensures.columns))
    (subst (λ (s : EntryShape). IsBest list s c.in_ok-acl.acl) c.shape-2.ensures
    (c.in_ok-acl.ensures list c.in_ok-columns.ensures.columns))

pub returns-clause-most : goal.returns-clause-most
returns-clause-most c = λ names.
    let list = with_ids c.args.names.now c.args.list.now in
    let rest = named_shape c.in_ok-rest.rest in
    exact_if_any c.args.names.now c.args.list.now c.args.named.now rest c.in_ok-acl.acl c.aces.ensures.accepted.count
    c.requires.few c.requires.known names (subst (λ (s : EntryShape). PrunesTo list s rest) c.shape.ensures
    (c.in_ok-rest.ensures.pruned list c.in_ok-columns.ensures.columns))
    (subst (λ (s : EntryShape). IsBest list s c.in_ok-acl.acl) c.shape-2.ensures
    (c.in_ok-acl.ensures list c.in_ok-columns.ensures.columns))

pub first_lost-requires : goal.first_lost-requires
first_lost-requires c =
    let list = with_ids c.args.names.now c.args.list.now in record {
      few = small_of list c.in_ok-columns.columns (named_shape c.in_ok-rest.rest) c.in_ok-acl.acl
          c.in_ok-columns.ensures.columns (subst (λ (s : EntryShape). IsBest list s c.in_ok-acl.acl) c.shape-2.ensures
          (c.in_ok-acl.ensures list c.in_ok-columns.ensures.columns)) c.in_ok-rest.ensures.few;
    }

pub returns-clause-lost : goal.returns-clause-lost
returns-clause-lost c =
    c.in_ok-lost.ensures.found (with_ids c.args.names.now c.args.list.now) c.in_ok-columns.ensures.columns

pub returns-clause-kept : goal.returns-clause-kept
returns-clause-kept c =
    c.in_ok-lost.ensures.none (with_ids c.args.names.now c.args.list.now) c.in_ok-columns.ensures.columns
