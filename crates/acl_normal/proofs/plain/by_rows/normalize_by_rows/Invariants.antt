use Rattle.acl_normal.proofs.Common.{aces_in, count_left, IsNormalFormOf, nothing_left, ◌≡◌}
use Rattle.acl_normal.specs.internal.Best.{HasRowColumns}
use Rattle.acl_normal.proofs.plain.InTurn.{Completing}
use Rattle.acl_normal.proofs.plain.by_rows.normalize_by_rows.Given as goal

-- what has come, before all that is emitted from the rest, is the normal form
abbrev pub invariant-emitted : goal.invariant-emitted
invariant-emitted l = record {
  completing : Completing (IsNormalFormOf l.source) (aces_in l.form.items) l.rows;
  outline : nothing_left l.rows ≡ nothing_left (aces_in l.aces.items);
  columns : HasRowColumns l.rows;
}

-- fewer keys are left each time
abbrev pub decreases-emitted : goal.decreases-emitted
decreases-emitted l = count_left 21 l.rows
