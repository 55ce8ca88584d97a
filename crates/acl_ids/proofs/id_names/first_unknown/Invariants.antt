use Rattle.std.specs.Prelude.{◌≡◌}
use Rattle.std.specs.List.{position_from}
use Rattle.acl_nfs4.specs.Who.{principal_of}
use Rattle.acl_ids.specs.Ids.{HaveIds, first_unknown, is_unknown}
use Rattle.acl_ids.proofs.id_names.first_unknown.Given as goal

-- the rest of the list gives the place that the whole list gives, and if its names have ids, so have those of the whole
-- list
abbrev pub invariant-loop-place : goal.invariant-loop-place
invariant-loop-place l =
    (goal.iterator-loop-place).can_next l.place-iterator ×
    (goal.iterator-loop-place).is_finite l.place-iterator ×
    (position_from (λ a. is_unknown l.names (principal_of a)) l.place-iterator.count l.place-iterator.iter
    ≡ first_unknown l.names l.fn.list) ×
    (HaveIds l.names l.place-iterator.iter → HaveIds l.names l.fn.list)
