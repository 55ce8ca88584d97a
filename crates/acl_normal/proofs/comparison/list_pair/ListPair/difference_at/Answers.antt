use Rattle.std.proofs.Common.{◌<◌, length}
use Rattle.acl_normal.proofs.Common.{All, IsName, IsSituation, set_of, small_situation, subst, sym}
use Rattle.acl_normal.proofs.comparison.list_pair.ListPair.difference_at.Goals as goal
use Rattle.acl_normal.proofs.comparison.Asked.{few_groups, one_alone, some_bytes}
use Rattle.acl_normal.proofs.comparison.SetEvaluation.{differing_are, lowest_difference}

pub returns-clause-bit : goal.returns-clause-bit
returns-clause-bit c = lowest_difference c.differing.result.within
    (differing_are c.requires.here c.requires.there c.differing.ensures)
    c.lowest-bit.ensures.lowest c.lowest-bit.ensures.value c.requires.here c.contains.ensures.meaning

pub invariant_of-result : goal.invariant_of-result
invariant_of-result c =
    let s : IsSituation (small_situation c.strange_length-n.result (set_of c.args.set)) =
    subst (λ m. IsSituation (small_situation m (set_of c.args.set))) (sym c.strange_length-n.ensures)
    c.requires.named in
    record {
      owner_named = subst (λ v. 0 < length v) (sym c.in_ok-owner_in.ensures) s.owner_name.0;
      group_named = subst (λ v. 0 < length v) (sym c.in_ok-owning_group_in.ensures) s.owning_group.0;
      user_named = subst (λ v. 0 < length v) (sym c.in_ok-user_in.ensures) s.user_name.0;
      groups_named = some_bytes (λ g. g.items) c.in_ok-groups_in.field-0.items
          (subst (All IsName) (sym c.in_ok-groups_in.ensures) s.groups);
      few = few_groups (λ g. g.items) c.in_ok-groups_in.field-0.items c.strange_length-n.result c.args.set
          c.in_ok-groups_in.ensures;
      one_right = one_alone c.lowest-bit.result.bits _ c.lowest-bit.ensures.value c.lowest-bit.result.within;
    }
