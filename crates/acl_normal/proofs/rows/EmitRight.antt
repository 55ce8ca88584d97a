-- A right that is taken out, with the slot, the set and what is left as the code has them.
use Rattle.std.specs.Vec.{with_item}
use Rattle.std.specs.declared.collections.BTreeSet.{BTreeSet}
use Rattle.std.proofs.Common.{◌≡◌, ◌<◌, ◌^◌, Global}
use Rattle.acl_normal.proofs.Common.{Ace, ap, arith, Bool, first_at, has_bit, is_user, Kind, length, List, Principal, slice_index_or, slot_of, Some, subst, take_out, true, ℕ, ◌∙◌, get_or_default}
use Rattle.acl_perm.specs.Bits.{all_rights}
use Rattle.acl_normal.specs.internal.rows.Merged.{IsMerged}
use Rattle.acl_normal.specs.internal.rows.Waiting.{NoPlaces}
use Rattle.acl_normal.specs.declared.merged.MergedRows.TheInside.{Inside}
use Rattle.acl_normal.proofs.rows.BitTaken.{emit_right, Without}
use Rattle.acl_normal.proofs.rows.Slots.{slot_below}
use Rattle.acl_normal.proofs.rows.FirstAces.{right_there}

-- what is left of a principal, and its set, stay merged rows
pub emit_right_at : (s : Inside) (p : Principal) (b m : ℕ) (j : Kind) (u : Bool) (i slot : ℕ)
    (old set d : BTreeSet ℕ Global) (rest : List Ace) → IsMerged s → b < 21 → first_at b p s.rest ≡ Some (j, i)
    → u ≡ is_user p → slot ≡ slot_of j u b → old ≡ slice_index_or s.waiting.items slot d
    → Without i old.keys set.keys → (has_bit all_rights b ≡ true → m ≡ 2 ^ b) → rest ≡ take_out p m s.rest
    → IsMerged (record { rest = rest; waiting = with_item s.waiting slot set })
emit_right_at s p b m j u i slot old set d rest right low first user is here less alone taken =
    rw (at, left) (emit_right s p b j i set right low first (subst (λ v. Without i v.keys set.keys) there less))
  where
    at : slot ≡ slot_of j (is_user p) b
    at = is ∙ ap (λ v. slot_of j v b) user

    below : slot < length s.waiting.items
    below = omega (arith, at, slot_below j (is_user p) b low, s.waiting.ok, right.sets)

    there : old ≡ slice_index_or s.waiting.items (slot_of j (is_user p) b) NoPlaces
    there = here ∙ get_or_default s.waiting.items slot d NoPlaces below
        ∙ ap (λ v. slice_index_or s.waiting.items v NoPlaces) at

    left : rest ≡ take_out p (2 ^ b) s.rest
    left = taken ∙ ap (λ v. take_out p v s.rest) (alone (right_there b p s.rest (j, i) first (right.rights b)))
