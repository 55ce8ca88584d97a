use Rattle.acl_normal.proofs.Common.{ace, aces_with, Allow, arith, Bool, Deny, everyone, false, false≢true, has_bit, is_allow, Kind, kind_eq, no_bit, principal_eq, principal_of, refl, sym, true, ℕ, ◌&&◌, ◌∙◌, ◌≡◌}
use Rattle.acl_normal.proofs.emit.Risen.{shown_end, shown_here}
use Rattle.acl_normal.proofs.rows.ByPlace.{quiet_index}
use Rattle.acl_normal.proofs.reduce.LaterBits.{allows_all, allows_more, allows_start}
use Rattle.acl_normal.proofs.reduce.needless.allowed_to_everyone.Goals as goal
use Rattle.acl_normal.proofs.reduce.needless.allowed_to_everyone.Goals.{then-is_allow, else-is_allow}

-- a right of an ALLOW of everyone is allowed to everyone
allows : {z : Bool} (x y : Bool) (k : Kind) → is_allow k ≡ true → z ≡ (x && y) → z ≡ (x && (y && kind_eq k Allow))
allows {z} x y Allow e h = grind (arith, h)
allows {z} x y Deny e h = absurd (false≢true e)

-- a DENY allows nothing
denies : {z : Bool} (x y : Bool) (k : Kind) → is_allow k ≡ false → z ≡ false → z ≡ (x && (y && kind_eq k Allow))
denies {z} x y Allow e h = absurd (false≢true (sym e))
denies {z} x y Deny e h = grind (arith, h)

pub loop-place-init : goal.loop-place-init
loop-place-init c = record {
  within = refl;
  allows = allows_start (aces_with c.args.aces.now c.args.masks.now);
}

pub loop-place-preserved : goal.loop-place-preserved
loop-place-preserved c =
    let here = shown_here c.args.aces.now c.args.masks.now c.requires.places c.loop-place-test.true
    c.index-aces-place.is c.index-masks-place.is in
    let x = c.index-aces-place.result in
    let own : (b : ℕ) → has_bit c.if-is_allow.own.0 b ≡ (has_bit c.index-masks-place.result.bits b
    && (principal_eq (principal_of (ace x)) everyone && kind_eq x.kind Allow)) =
    λ b. elim c.if-is_allow.branch [
      | then-is_allow w ↦ rw w.own-is (allows (has_bit c.index-masks-place.result.bits b) (principal_eq
          (principal_of (ace x)) everyone) x.kind (sym c.is_allow.ensures ∙ w.if-is_allow.true)
          (w.of_everyone-own.ensures b))
      | else-is_allow w ↦ rw w.own-is (denies (has_bit c.index-masks-place.result.bits b) (principal_eq
          (principal_of (ace x)) everyone) x.kind (sym c.is_allow.ensures ∙ w.if-is_allow.false) (no_bit b))
    ] in
    record {
      within = c.union-allowed.result.within;
      allows =
          allows_more _ c.loop-place.place _ c.if-is_allow.own.0 _ _ c.loop-place.invariant.allows here.within
          here.item (quiet_index _ _ c.requires.tidy.quiet here.within here.item) own
          c.union-allowed.ensures.meaning;
    }

pub returns : goal.returns
returns c =
    allows_all (aces_with c.args.aces.now c.args.masks.now) c.loop-place.place _
    c.loop-place.invariant.allows
    (shown_end c.args.aces.now c.args.masks.now c.loop-place.place c.requires.places c.loop-place-test.false)
    c.requires.tidy.once
