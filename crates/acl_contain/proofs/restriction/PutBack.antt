-- What a list keeps under a bound at one of five paths, put back into the list.
use Rattle.acl_perm.proofs.Bools.{and_true_right}
use Rattle.acl_normal.proofs.Common.{Ace, AllByRecursion, Bool, HasMasks, HasName, HasNames, IsSubset, List, [], all_rights, ap, arith, bit_and, false, false≢true, has_bit, has_bit-and, length, no_ace, no_bit, principal_of, refl, slice_index_or, subst, suc, sym, take, true, zero, ℕ, ◌++◌, ◌+◌, ◌<◌, ◌∙◌, ◌∷◌, ◌≡◌}
use Rattle.acl_normal.proofs.Each.{all_weaker}
use Rattle.acl_eval.specs.Grant.{GrantsAtMost}
use Rattle.acl_contain.proofs.restriction.Greatest.{removal_at_most, removal_itself, restricted_is_greatest, same_mask}
use Rattle.acl_contain.proofs.restriction.InPlace.{at_most_in_place, five_at_most}
use Rattle.acl_contain.specs.EveryPath.{AtMostAt, AtMostEverywhere, IsGreatestEverywhere}
use Rattle.acl_contain.specs.Removal.{IsAceRemoval, IsGreatestRemoval, IsGreatestWithin, IsRemoval}
use Rattle.acl_contain.specs.declared.restricting.short_path.ShortPath.{ShortPath}
use Rattle.acl_contain.specs.declared.restricting.short_path.ShortPath.TheVariants.{DirectoryInDirectory, FileInDirectory, NewDirectory, NewFile, Object}
use Rattle.acl_contain.specs.internal.InPlace.{all_in_place, all_put_back, in_place, path_of, put_back, takes_part_at}
use Rattle.acl_contain.specs.internal.Restriction.{IsRestricted}

-- ---- lists with each ACE at its place

-- no right is added
masks_in_place : (path : ShortPath) (list : List Ace) → HasMasks list → HasMasks (all_in_place path list)
masks_in_place path [] masks = tt
masks_in_place path (a ∷ list) masks = (by (takes_part_at path a.flags) refl, masks_in_place path list masks.1)
  where
    by : (part : Bool) → takes_part_at path a.flags ≡ part → IsSubset (in_place path a).mask all_rights
    by true is bit has = masks.0 bit (rw is at has)
    by false is bit has = absurd (false≢true (sym (no_bit bit) ∙ rw is at has))

-- the principals are the same
pub names_in_place : (path : ShortPath) (list : List Ace) → HasNames list → HasNames (all_in_place path list)
names_in_place path [] names = tt
names_in_place path (a ∷ list) names = (
  subst HasName (sym same) names.0,
  names_in_place path list names.1,
)
  where
    same : principal_of (in_place path a) ≡ principal_of a
    same = rw (has_bit-and a.flags 0xf7 6 ∙ and_true_right (has_bit a.flags 6)) refl

-- a removal of a list is one with each ACE at its place
pub removal_in_place : (path : ShortPath) (list cut : List Ace) → IsRemoval list cut
    → IsRemoval (all_in_place path list) (all_in_place path cut)
removal_in_place path [] [] removal = tt
removal_in_place path (a ∷ list) (c ∷ cut) removal = (
  by (takes_part_at path a.flags) refl (ap (takes_part_at path) removal.0.flags),
  removal_in_place path list cut removal.1,
)
  where
    by : (part : Bool) → takes_part_at path a.flags ≡ part → takes_part_at path c.flags ≡ takes_part_at path a.flags
        → IsAceRemoval (in_place path a) (in_place path c)
    by true is same = record {
      kind = removal.0.kind;
      flags = ap (λ f. bit_and f 0xf7) removal.0.flags;
      who = removal.0.who;
      within = λ bit has. rw is (removal.0.within bit (rw (same ∙ is) at has));
      denied = λ deny. rw (is, same ∙ is) (removal.0.denied deny);
    }
    by false is same = record {
      kind = removal.0.kind;
      flags = ap (λ f. bit_and f 0xf7) removal.0.flags;
      who = removal.0.who;
      within = λ bit has. rw is (rw (same ∙ is) at has);
      denied = λ deny. rw (is, same ∙ is) refl;
    }
removal_in_place path [] (c ∷ cut) removal = absurd removal
removal_in_place path (a ∷ list) [] removal = absurd removal

-- a removal of a list grants at most what the list grants at a path
removal_at_most_at : (path : ShortPath) (list cut : List Ace) → IsRemoval list cut → AtMostAt cut list (path_of path)
removal_at_most_at path list cut removal = (at_most_in_place path cut list).1
    (removal_at_most (all_in_place path list) (all_in_place path cut) (removal_in_place path list cut removal))

-- a removal of a list grants at most what the list grants at every path
pub removal_everywhere : (list cut : List Ace) → IsRemoval list cut → AtMostEverywhere cut list
removal_everywhere list cut removal = five_at_most cut list (λ path. removal_at_most_at path list cut removal)

-- ---- rights that are put back

-- the ACE with what it kept at a path is a removal of the ACE
ace_put_back : (path : ShortPath) (a left : Ace) → IsAceRemoval (in_place path a) left
    → IsAceRemoval a (put_back path a left)
ace_put_back path a left r = by (takes_part_at path a.flags) refl
  where
    by : (part : Bool) → takes_part_at path a.flags ≡ part → IsAceRemoval a (put_back path a left)
    by true is = record {
      kind = refl;
      flags = refl;
      who = refl;
      within = λ bit has. rw is at (r.within bit (rw is at has));
      denied = λ deny. rw is (r.denied deny ∙ rw is refl);
    }
    by false is = record {
      kind = refl;
      flags = refl;
      who = refl;
      within = λ bit has. rw is at has;
      denied = λ deny. rw is refl;
    }

-- at its place it is what was kept
ace_put_in_place : (path : ShortPath) (a left : Ace) → IsAceRemoval (in_place path a) left
    → in_place path (put_back path a left) ≡ left
ace_put_in_place path a left r =
    ap (λ v. record (in_place path (put_back path a left)) { kind = v }) (sym r.kind)
    ∙ ap (λ v. record (in_place path (put_back path a left)) { kind = left.kind; flags = v }) (sym r.flags)
    ∙ ap (λ v. record left { mask = v; who = a.who }) (mask (takes_part_at path a.flags) refl)
    ∙ ap (λ v. record left { who = v }) (sym r.who)
  where
    mask : (part : Bool) → takes_part_at path a.flags ≡ part → (in_place path (put_back path a left)).mask ≡ left.mask
    mask true is = rw is refl
    mask false is = rw is (same_mask 0 left.mask (λ bit has. absurd (false≢true (sym (no_bit bit) ∙ has)))
        (λ bit has. rw is at (r.within bit has)))

-- a removal of the ACE that is a removal of what was kept is a removal of the ACE with what it kept
ace_between : (path : ShortPath) (a left other : Ace) → IsAceRemoval (in_place path a) left → IsAceRemoval a other
    → IsAceRemoval left (in_place path other) → IsAceRemoval (put_back path a left) other
ace_between path a left other r removal below = record {
  kind = removal.kind;
  flags = removal.flags;
  who = removal.who;
  within = within (takes_part_at path a.flags) refl (ap (takes_part_at path) removal.flags);
  denied = λ deny. removal.denied deny ∙ sym ((ace_put_back path a left r).denied deny);
}
  where
    within : (part : Bool) → takes_part_at path a.flags ≡ part → takes_part_at path other.flags ≡ takes_part_at path a.flags
        → IsSubset other.mask (put_back path a left).mask
    within true is same bit has = rw is (below.within bit (rw (same ∙ is) has))
    within false is same bit has = rw is (removal.within bit has)

-- the list with what it kept at a path is a removal of the list
list_put_back : (path : ShortPath) (list left : List Ace) → IsRemoval (all_in_place path list) left
    → IsRemoval list (all_put_back path list left)
list_put_back path [] [] r = tt
list_put_back path (a ∷ list) (l ∷ left) r = (ace_put_back path a l r.0, list_put_back path list left r.1)
list_put_back path [] (l ∷ left) r = absurd r
list_put_back path (a ∷ list) [] r = absurd r

-- with each ACE at its place it is what was kept
list_put_in_place : (path : ShortPath) (list left : List Ace) → IsRemoval (all_in_place path list) left
    → all_in_place path (all_put_back path list left) ≡ left
list_put_in_place path [] [] r = refl
list_put_in_place path (a ∷ list) (l ∷ left) r =
    ap (λ v. v ∷ all_in_place path (all_put_back path list left)) (ace_put_in_place path a l r.0)
    ∙ ap (λ v. l ∷ v) (list_put_in_place path list left r.1)
list_put_in_place path [] (l ∷ left) r = absurd r
list_put_in_place path (a ∷ list) [] r = absurd r

-- a removal of the list that is a removal of what was kept is a removal of the list with what it kept
list_between : (path : ShortPath) (list left other : List Ace) → IsRemoval (all_in_place path list) left
    → IsRemoval list other → IsRemoval left (all_in_place path other)
    → IsRemoval (all_put_back path list left) other
list_between path [] [] [] r removal below = tt
list_between path (a ∷ list) (l ∷ left) (o ∷ other) r removal below = (
  ace_between path a l o r.0 removal.0 below.0,
  list_between path list left other r.1 removal.1 below.1,
)
list_between path [] [] (o ∷ other) r removal below = absurd removal
list_between path [] (l ∷ left) other r removal below = absurd r
list_between path (a ∷ list) [] other r removal below = absurd r
list_between path (a ∷ list) (l ∷ left) [] r removal below = absurd removal

-- what stays by the rule at a path, put back, is the greatest removal that grants at most the bound there
pub greatest_at : (path : ShortPath) (list bound left : List Ace) → HasMasks list
    → IsRestricted (all_in_place path list) (all_in_place path bound) left
    → IsGreatestWithin (λ cut. AtMostAt cut bound (path_of path)) list (all_put_back path list left)
greatest_at path list bound left masks r = record {
  removal = list_put_back path list left g.removal;
  within = (at_most_in_place path (all_put_back path list left) bound).1
      (subst (λ v. GrantsAtMost all_rights v (all_in_place path bound))
      (sym (list_put_in_place path list left g.removal)) g.within);
  greatest = λ other removal most. list_between path list left other g.removal removal
      (g.greatest (all_in_place path other) (removal_in_place path list other removal)
      ((at_most_in_place path other bound).0 most));
}
  where
    g : IsGreatestRemoval (all_in_place path list) (all_in_place path bound) left
    g = restricted_is_greatest (all_in_place path list) (all_in_place path bound) left
        (masks_in_place path list masks) r

-- there are as many ACEs as in the list
pub left_count : (path : ShortPath) (list left : List Ace) → IsRemoval (all_in_place path list) left
    → length left ≡ length list
left_count path [] [] r = refl
left_count path (a ∷ list) (l ∷ left) r = ap suc (left_count path list left r.1)
left_count path [] (l ∷ left) r = absurd r
left_count path (a ∷ list) [] r = absurd r

-- what is put back into one more ACE comes after the others
pub put_back_more : (path : ShortPath) (list left : List Ace) (place : ℕ) → place < length list → place < length left
    → all_put_back path (take (place + 1) list) left
    ≡ all_put_back path (take place list) left
    ++ put_back path (slice_index_or list place no_ace) (slice_index_or left place no_ace) ∷ []
put_back_more path [] left place l m = absurd (omega (arith, l))
put_back_more path (a ∷ list) [] place l m = absurd (omega (arith, m))
put_back_more path (a ∷ list) (c ∷ left) zero l m = refl
put_back_more path (a ∷ list) (c ∷ left) (suc place) l m =
    let one_more : suc place + 1 ≡ suc (place + 1) = omega arith in
    ap (λ n. all_put_back path (take n (a ∷ list)) (c ∷ left)) one_more
    ∙ ap (λ v. put_back path a c ∷ v) (put_back_more path list left place (omega (arith, l)) (omega (arith, m)))

-- ---- one path after the other

-- at each of these paths the list grants at most what the bound grants
abbrev pub AtMostAtEach : List Ace → List ShortPath → List Ace → Type 0
AtMostAtEach bound paths list = AllByRecursion (λ path. AtMostAt list bound (path_of path)) paths

-- a removal of a removal is a removal
removal_trans : (list cut less : List Ace) → IsRemoval list cut → IsRemoval cut less → IsRemoval list less
removal_trans [] [] [] first second = tt
removal_trans (a ∷ list) (c ∷ cut) (l ∷ less) first second = (
  record {
    kind = second.0.kind ∙ first.0.kind;
    flags = second.0.flags ∙ first.0.flags;
    who = second.0.who ∙ first.0.who;
    within = λ bit has. first.0.within bit (second.0.within bit has);
    denied = λ deny. second.0.denied (first.0.kind ∙ deny) ∙ first.0.denied deny;
  },
  removal_trans list cut less first.1 second.1,
)
removal_trans [] [] (l ∷ less) first second = absurd second
removal_trans [] (c ∷ cut) less first second = absurd first
removal_trans (a ∷ list) [] less first second = absurd first
removal_trans (a ∷ list) (c ∷ cut) [] first second = absurd second

-- before a path is looked at, the whole list is left
pub at_no_path : (list bound : List Ace) → IsGreatestWithin (AtMostAtEach bound []) list list
at_no_path list bound = record {
  removal = removal_itself list;
  within = tt;
  greatest = λ other removal most. removal;
}

-- what is left at some paths, restricted at one more, is what is left at all of them
pub at_one_more : (bound : List Ace) (paths : List ShortPath) (path : ShortPath) (list cut less : List Ace)
    → IsGreatestWithin (AtMostAtEach bound paths) list cut
    → IsGreatestWithin (λ other. AtMostAt other bound (path_of path)) cut less
    → IsGreatestWithin (AtMostAtEach bound (path ∷ paths)) list less
at_one_more bound paths path list cut less first second = record {
  removal = removal_trans list cut less first.removal second.removal;
  within = (
    second.within,
    all_weaker (λ p. AtMostAt cut bound (path_of p)) (λ p. AtMostAt less bound (path_of p)) paths
        (λ p most s valid request inside granted. most s valid request inside
        (removal_at_most_at p cut less second.removal s valid request inside granted)) first.within,
  );
  greatest = λ other removal most. second.greatest other (first.greatest other removal most.1) most.0;
}

-- what is left at the five paths is what is left at every path
pub at_all_five : (list bound cut : List Ace) → IsGreatestWithin (AtMostAtEach bound
    (DirectoryInDirectory ∷ FileInDirectory ∷ NewDirectory ∷ NewFile ∷ Object ∷ [])) list cut
    → IsGreatestEverywhere list bound cut
at_all_five list bound cut g = record {
  removal = g.removal;
  within = five_at_most cut bound each;
  greatest = λ other removal most. g.greatest other removal (
    most (path_of DirectoryInDirectory),
    (
      most (path_of FileInDirectory),
      (most (path_of NewDirectory), (most (path_of NewFile), (most (path_of Object), tt))),
    ),
  );
}
  where
    each : (path : ShortPath) → AtMostAt cut bound (path_of path)
    each DirectoryInDirectory = g.within.0
    each FileInDirectory = g.within.1.0
    each NewDirectory = g.within.1.1.0
    each NewFile = g.within.1.1.1.0
    each Object = g.within.1.1.1.1.0
