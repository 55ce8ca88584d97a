use Rattle.acl_normal.proofs.Common.{aces_in, principal, take}
use Rattle.acl_normal.proofs.rows.RisingRows.{AreRisingTo}
use Rattle.acl_normal.proofs.rows.numbers.rising_rows.Given as goal

abbrev pub invariant-loop-place : goal.invariant-loop-place
invariant-loop-place l =
    AreRisingTo (aces_in (take l.place l.aces)) l.rows.items l.row (principal l.last.principal)
