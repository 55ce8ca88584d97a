use Rattle.acl_normal.proofs.Common.{aces_with, length, vec_len, ◌≡◌}
use Rattle.acl_normal.proofs.NotedPlaces.{NotesTo}
use Rattle.acl_normal.proofs.right_table.places.Given as goal

-- the places so far are noted
abbrev pub invariant-loop-place : goal.invariant-loop-place
invariant-loop-place l = record {
  count : vec_len l.places ≡ length l.aces;
  noted : NotesTo l.right.bit (aces_with l.aces l.masks) l.places.items l.place;
}
