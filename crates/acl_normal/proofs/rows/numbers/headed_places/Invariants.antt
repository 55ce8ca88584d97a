use Rattle.acl_normal.proofs.Common.{aces_in, map, named_at, named_from, take, ◌≡◌}
use Rattle.std.specs.List.{All}
use Rattle.acl_normal.proofs.rows.Beginnings.{IsHeaded}
use Rattle.acl_normal.proofs.rows.numbers.headed_places.Given as goal

abbrev pub invariant-loop-place : goal.invariant-loop-place
invariant-loop-place l = record {
  names : map (named_at (aces_in l.aces)) l.places.items ≡ named_from 0 (aces_in (take l.place l.aces));
  heads : All (IsHeaded l.common (aces_in l.aces)) l.places.items;
}
