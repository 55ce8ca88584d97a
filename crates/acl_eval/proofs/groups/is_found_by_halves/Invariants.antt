use Rattle.std.specs.Prelude.{◌≡◌, ◌≤◌, length, map}
use Rattle.std.specs.List.{list_any}
use Rattle.std.specs.Str.{bytes_eq}
use Rattle.acl_eval.specs.GroupSearch.{found_groups}
use Rattle.acl_eval.proofs.groups.is_found_by_halves.Given as goal

-- no names are added, and the search among those that are left ends as the search among all names
abbrev pub invariant-loop-name : goal.invariant-loop-name
invariant-loop-name l = record {
  shorter : length l.rest ≤ length l.fn.names;
  same : list_any (bytes_eq l.name) (found_groups (map (λ g. g.now) l.rest))
      ≡ list_any (bytes_eq l.name) (found_groups (map (λ g. g.now) l.fn.names));
}

abbrev pub decreases-loop-name : goal.decreases-loop-name
decreases-loop-name l = length l.rest
