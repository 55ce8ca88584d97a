use Rattle.acl_posix.proofs.Common.{All-permutation, arith, IsNonDecreasingBy-from_sort, IsPacked, IsPermutation, IsPermutation-map, List, map, packed, pairs, subst, Tag, unpacked, ℕ, ◌≡◌}
use Rattle.std.proofs.lemmas.Grind.{common_steps}
use Rattle.acl_posix.proofs.sorted.Lists.{all_entries}
use Rattle.acl_posix.proofs.packed.Packings.{all_packed, all_unpacked}
use Rattle.acl_posix.proofs.packed.sorted_keys.Goals as goal

pub returns : goal.returns
returns c =
    let ps = pairs c.args.entries.now in
    let keys = c.sort_unstable.new.self.items in
    let made : c.loop-entry.keys.items ≡ map packed ps = grind (arith, common_steps) in
    let moves : IsPermutation (map packed ps) keys = subst (λ (old : List ℕ). IsPermutation old keys)
    made c.sort_unstable.ensures.permutation in
    record {
      packed = All-permutation IsPacked (map packed ps) keys moves (all_packed ps (all_entries c.args.entries.now));
      permutation = subst (λ (qs : List (Tag × ℕ)). IsPermutation qs (map unpacked keys))
          (all_unpacked ps (all_entries c.args.entries.now)) (IsPermutation-map unpacked (map packed ps) keys moves);
      sorted = IsNonDecreasingBy-from_sort (λ x. x) keys c.sort_unstable.ensures.sorted;
    }
