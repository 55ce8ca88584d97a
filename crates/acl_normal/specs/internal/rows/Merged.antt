-- What the sets of places of merged rows are to the list that is left (this library's own).
use Rattle.std.specs.Prelude.{◌≡◌, ℕ, ◌<◌, [], Bool, false, vec_len}
use Rattle.acl_perm.specs.Bits.{all_rights, has_bit}
use Rattle.acl_perm.specs.declared.kind.Kind.{Kind}
use Rattle.acl_eval.specs.Column.{column}
use Rattle.acl_normal.specs.internal.emit.Emissions.{HasOnceColumns}
use Rattle.acl_normal.specs.Places.{waits}
use Rattle.acl_normal.specs.internal.Places.{bit_count, slot_count, slot_of}
use Rattle.acl_normal.specs.internal.rows.Waiting.{has_place}
use Rattle.acl_normal.specs.declared.merged.MergedRows.TheInside.{Inside}

-- the sets of places have the places that wait in what is left
pub record IsMerged (a : Inside) : Type 0 where
  pub sets : vec_len a.waiting ≡ slot_count
  pub once : HasOnceColumns a.rest
  pub rights : (b : ℕ) → has_bit all_rights b ≡ false → column a.rest b ≡ []
  pub waiting : (k : Kind) (users : Bool) (b i : ℕ) → b < bit_count
      → has_place a.waiting.items (slot_of k users b) i ≡ waits k users b a.rest i
