use Rattle.std.proofs.Common.{inl}
use Rattle.acl_perm.specs.Bits.{all_rights}
use Rattle.acl_eval.proofs.Same.{equivalence}
use Rattle.aclck_c.proofs.Pairs.{spelled_again}
use Rattle.aclck_c.proofs.nfs4.compare.compared.Goals as goal

pub returns-then-are_equal-clause-ok : goal.returns-then-are_equal-clause-ok
returns-then-are_equal-clause-ok c =
    let list = c.in_ok-list.list in
    let read = c.in_ok-list.ensures.ok in
    record {
      list = list;
      other = list;
      spelled = record {
        first_spelled = read;
        second_spelled = spelled_again c.are_equal.ensures c.if-are_equal.true read;
      };
      compared =
          inl ((equivalence all_rights).reflexive list, c.no_difference.ensures.at, c.no_difference.ensures.names);
    }
