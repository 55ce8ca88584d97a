-- How the reader of a part goes on: one more ACE, and the end.
use Rattle.acl_nfs4.proofs.Common.{[], length, length-append, weight, ◌∷◌, arith, Bool, count_ones, Err, false, true, Fault, Ok, Place, Profile, refl, suc, zero, ℕ, ◌+◌, ◌-◌, ◌<◌, ◌≡◌, ◌≤◌}
use Rattle.acl_nfs4.specs.AccessPart.{AnyAce, Part, is_for_access, kept_ace}
unfoldable use Rattle.acl_nfs4.specs.internal.PartReading.{any_ace_at, part_from}
use Rattle.acl_nfs4.specs.internal.PartReading.{with_ace}
use Rattle.acl_nfs4.proofs.xdr.Faults.{weight-push}

-- an ACE that is read is added to the part
pub part_more : (p : Profile) (left weight : ℕ) (part : Part) (at : Place) (x : AnyAce × Place) → 0 < left
    → any_ace_at p weight at ≡ Ok x
    → part_from p left weight part at
    ≡ part_from p (left - 1) (weight + count_ones x.0.mask) (with_ace part x.0) x.1
unfolding part_from
part_more p zero weight part at x lt e = absurd (omega (arith, lt))
part_more p (suc n) weight part at x lt e = let less : suc n - 1 ≡ n = omega arith in rw (e, less) refl

-- an ACE that is refused is the fault of the part
pub part_refused : (p : Profile) (left weight : ℕ) (part : Part) (at : Place) (f : Fault) → 0 < left
    → any_ace_at p weight at ≡ Err f → part_from p left weight part at ≡ Err f
unfolding part_from
part_refused p zero weight part at f lt e = absurd (omega (arith, lt))
part_refused p (suc n) weight part at f lt e = rw e refl

-- no more ACE is read
pub part_done : (p : Profile) (left weight : ℕ) (part : Part) (at : Place) → left ≡ 0
    → part_from p left weight part at ≡ Ok (part, at)
unfolding part_from
part_done p left weight part at e = rw e refl

-- no more ACEs are in a part than were read
pub part_few : (part : Part) (a : AnyAce) (left most : ℕ) → 0 < left
    → length part.kept + part.left_out + left ≤ most
    → length (with_ace part a).kept + (with_ace part a).left_out + (left - 1) ≤ most
part_few part a left most lt few = by (is_for_access a) refl
  where
    by : (t : Bool) → is_for_access a ≡ t
        → length (with_ace part a).kept + (with_ace part a).left_out + (left - 1) ≤ most
    by true e = rw e (omega (arith, lt, few, length-append part.kept (kept_ace a ∷ [])))
    by false e = rw e (omega (arith, lt, few))

-- what is kept is no heavier than what was read
pub part_heavy : (part : Part) (a : AnyAce) (n : ℕ) → weight part.kept ≤ n
    → weight (with_ace part a).kept ≤ n + count_ones a.mask
part_heavy part a n heavy = by (is_for_access a) refl
  where
    by : (t : Bool) → is_for_access a ≡ t → weight (with_ace part a).kept ≤ n + count_ones a.mask
    by true e = rw e (omega (arith, heavy, weight-push part.kept (kept_ace a)))
    by false e = rw e (omega (arith, heavy))
