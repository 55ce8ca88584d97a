use Rattle.std.proofs.Common.{rules}
use Rattle.std.specs.List.Sorted.{IsPermutation}
use Rattle.acl_eval.proofs.Members.{same_names}
use Rattle.acl_eval.proofs.groups.sorted_names.Goals as goal

pub returns : goal.returns
returns c =
    let moved : IsPermutation c.args.names.now c.sort_unstable.new.self.items = search rules in (
      c.sort_unstable.ensures.sorted,
      same_names c.args.names.now c.sort_unstable.new.self.items moved,
    )
