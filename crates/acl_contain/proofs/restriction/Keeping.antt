-- Which rights a list has kept, bit by bit and place by place.
use Rattle.std.specs.Prelude.{count_ones}
use Rattle.std.specs.Int.Count.{ones_step}
use Rattle.std.proofs.lemmas.Nat.{ones_le_self}
use Rattle.std.proofs.lemmas.Nat.Bits.{bit_at-lt, bit_at-suc, bit_at_lowest}
use Rattle.acl_nfs4.proofs.Exports.{weight-cons}
use Rattle.acl_nfs4.specs.Who.{IsWho}
use Rattle.acl_normal.proofs.Common.{Ace, AllByRecursion, Allow, Deny, IsAccepted, IsAce, IsSubset, IsWithin, List, [], all_rights, and_from, and_parts, ap, arith, bits_from_mask, cases_eq, cases_lt, false, false_from_ne_true, false≢true, full, get_or-set_other, get_or-set_same, has_bit, length, length-set, no_ace, not, one_bit, only_bit, refl, slice_index_or, slice_set, subst, suc, sym, true, weight, zero, ℕ, ⊎_elim, ◌%◌, ◌+◌, ◌/◌, ◌<◌, ◌==◌, ◌^◌, ◌∙◌, ◌∷◌, ◌≡◌, ◌≤◌}
use Rattle.acl_normal.proofs.Each.{before_or_at}
use Rattle.acl_normal.proofs.unique.Bits.{no_bits}
use Rattle.acl_normal.proofs.unique.Kept.{within_fewer}
use Rattle.acl_perm.proofs.Sets.{right_below}
use Rattle.acl_contain.specs.Removal.{IsAceRemoval, IsRemoval}
use Rattle.acl_contain.specs.internal.Kept.{HasKept, HaveKept, Lacks}
use Rattle.acl_contain.specs.internal.Restriction.{IsRestricted, Stays}

-- an ACE at a place has kept what stays of one more bit if the right stays or it is no right of an ALLOW
one_more : (list bound : List Ace) (bit place : ℕ) (cut : Ace)
    → ((slice_index_or list place no_ace).kind ≡ Allow → has_bit (slice_index_or list place no_ace).mask bit ≡ true
    → has_bit all_rights bit ≡ true → Stays list bound bit place) → HasKept list bound bit place cut
    → HasKept list bound (bit + 1) place cut
one_more list bound bit place cut stays h = record {
  removal = h.removal;
  stays = λ b l right allow has. ⊎_elim (λ less. h.stays b less right allow has)
      (λ same. subst (λ v. Stays list bound v place) (sym same)
      (stays allow (subst (λ v. has_bit (slice_index_or list place no_ace).mask v ≡ true) same
      (h.removal.within b has)) (subst (λ v. has_bit all_rights v ≡ true) same right)))
      (before_or_at b bit l);
  kept = λ b allow has other. h.kept b allow has (λ less. other (omega (arith, less)));
}

-- an ALLOW at a place has kept what stays of one more bit if it lacks the bit and the right does not stay
one_less : (list bound : List Ace) (bit place : ℕ) (cut less : Ace) → (slice_index_or list place no_ace).kind ≡ Allow
    → (Stays list bound bit place → ⊥) → Lacks bit cut less → HasKept list bound bit place cut
    → HasKept list bound (bit + 1) place less
one_less list bound bit place cut less allows goes lacks h = record {
  removal = record {
    kind = lacks.kind ∙ h.removal.kind;
    flags = lacks.flags ∙ h.removal.flags;
    who = lacks.who ∙ h.removal.who;
    within = λ b has. h.removal.within b (parts b has).0;
    denied = λ deny. absurd (apart (sym allows ∙ deny));
  };
  stays = λ b l right allow has. ⊎_elim (λ below. h.stays b below right allow (parts b has).0)
      (λ same. absurd (taken b same (parts b has).1)) (before_or_at b bit l);
  kept = λ b allow has other. ⊎_elim
      (λ same. absurd (goes (subst (λ v. Stays list bound v place) same (other (omega (arith, same))))))
      (λ differs. lacks.rights b ∙ and_from _ _ (h.kept b allow has (λ below. other (omega (arith, below))))
      (ap not (false_from_ne_true (has_bit (2 ^ bit) b) (λ is. differs (only_bit bit b is)))))
      (cases_eq b bit);
}
  where
    apart : Allow ≡ Deny → ⊥
    apart e = cc

    parts : (b : ℕ) → has_bit less.mask b ≡ true → (has_bit cut.mask b ≡ true) × (not (has_bit (2 ^ bit) b) ≡ true)
    parts b has = and_parts (has_bit cut.mask b) (not (has_bit (2 ^ bit) b)) (sym (lacks.rights b) ∙ has)

    taken : (b : ℕ) → b ≡ bit → not (has_bit (2 ^ bit) b) ≡ true → ⊥
    taken b same lacking = false≢true (sym (ap not (ap (has_bit (2 ^ bit)) same ∙ one_bit bit)) ∙ lacking)

-- the turn of a bit ends at a place if at the places after it the right stays, or is no right of an ALLOW
pub next_bit : (list bound : List Ace) (bit place : ℕ) (cut : List Ace)
    → ((i : ℕ) → place ≤ i → i < length list → has_bit all_rights bit ≡ true → Stays list bound bit i)
    → HaveKept list bound bit place cut → HaveKept list bound (bit + 1) 0 cut
next_bit list bound bit place cut stays h = record {
  count = h.count;
  done = λ i l m. absurd (omega (arith, l));
  left = λ i l m. ⊎_elim (λ before. h.done i before m)
      (λ past. one_more list bound bit i _ (λ allow has right. stays i past m right) (h.left i past m))
      (cases_lt i place);
}

-- a place is passed where the right stays, or the ACE is no ALLOW with the right
pub place_passed : (list bound : List Ace) (bit place : ℕ) (cut : List Ace) → place < length list
    → ((slice_index_or list place no_ace).kind ≡ Allow → has_bit (slice_index_or list place no_ace).mask bit ≡ true
    → Stays list bound bit place) → HaveKept list bound bit place cut → HaveKept list bound bit (place + 1) cut
place_passed list bound bit place cut lt stays h = record {
  count = h.count;
  done = λ i l m. ⊎_elim (λ less. h.done i less m)
      (λ same. subst (λ v. HasKept list bound (bit + 1) v (slice_index_or cut v no_ace)) (sym same)
      (one_more list bound bit place _ (λ allow has right. stays allow has) (h.left place (omega arith) lt)))
      (before_or_at i place l);
  left = λ i l m. h.left i (omega (arith, l)) m;
}

-- a place is done where the right does not stay, and the ACE lacks it now
pub place_taken : (list bound : List Ace) (bit place : ℕ) (cut new : List Ace) (less : Ace) → place < length list
    → (slice_index_or list place no_ace).kind ≡ Allow → (Stays list bound bit place → ⊥)
    → Lacks bit (slice_index_or cut place no_ace) less → new ≡ slice_set cut place less
    → HaveKept list bound bit place cut → HaveKept list bound bit (place + 1) new
place_taken list bound bit place cut new less lt allow goes lacks is h = record {
  count = ap length is ∙ length-set cut place less ∙ h.count;
  done = λ i l m. ⊎_elim
      (λ before. subst (HasKept list bound (bit + 1) i) (sym (other i (λ same. absurd (omega (arith, same, before)))))
      (h.done i before m))
      (λ same. subst (λ v. HasKept list bound (bit + 1) v (slice_index_or new v no_ace)) (sym same)
      (subst (HasKept list bound (bit + 1) place) (sym here)
      (one_less list bound bit place _ less allow goes lacks (h.left place (omega arith) lt))))
      (before_or_at i place l);
  left = λ i l m. subst (HasKept list bound bit i) (sym (other i (λ same. absurd (omega (arith, same, l)))))
      (h.left i (omega (arith, l)) m);
}
  where
    here : slice_index_or new place no_ace ≡ less
    here = ap (λ v. slice_index_or v place no_ace) is
        ∙ get_or-set_same cut place less no_ace (omega (arith, lt, h.count))

    other : (i : ℕ) → (i ≡ place → ⊥) → slice_index_or new i no_ace ≡ slice_index_or cut i no_ace
    other i differs = ap (λ v. slice_index_or v i no_ace) is ∙ get_or-set_other cut place i less no_ace differs

-- lists whose ACEs are cuts of each other place by place are a list and a removal of it
removal_from : (list cut : List Ace) → length cut ≡ length list
    → ((i : ℕ) → i < length list → IsAceRemoval (slice_index_or list i no_ace) (slice_index_or cut i no_ace))
    → IsRemoval list cut
removal_from [] [] count each = tt
removal_from (a ∷ list) (c ∷ cut) count each = (
  each 0 (omega arith),
  removal_from list cut (omega (arith, count)) (λ i l. each (suc i) (omega (arith, l))),
)
removal_from [] (c ∷ cut) count each = absurd (omega (arith, count))
removal_from (a ∷ list) [] count each = absurd (omega (arith, count))

-- after all bits, the list has kept the rights that stay
pub all_kept : (list bound cut : List Ace) (bit : ℕ) → 21 ≤ bit → HaveKept list bound bit 0 cut
    → IsRestricted list bound cut
all_kept list bound cut bit all h = record {
  removal = removal_from list cut h.count (λ i l. (h.left i (omega arith) l).removal);
  stays = λ b place l allow right has. (h.left place (omega arith) l).stays b
      (omega (arith, all, right_below b right)) right allow has;
  kept = λ b place l allow has stays. (h.left place (omega arith) l).kept b allow has (λ below. stays);
}

-- ---- a removal of an accepted list is accepted

-- a set with fewer bits has no more bits, if it has none from bit k on
ones_fewer : (k m n : ℕ) → ((b : ℕ) → k ≤ b → has_bit m b ≡ false) → IsSubset m n → count_ones m ≤ count_ones n
ones_fewer zero m n none fewer =
    let is : m ≡ 0 = no_bits m (λ b. none b (omega arith)) in
    omega (arith, ones_le_self m, is)
ones_fewer (suc k) m n none fewer = omega (
  arith,
  ones_step m,
  ones_step n,
  ones_fewer k (m / 2) (n / 2) (λ b l. sym (behind m b) ∙ none (suc b) (omega (arith, l)))
      (λ b has. sym (behind n b) ∙ fewer (suc b) (behind m b ∙ has)),
  lowest,
)
  where
    behind : (n b : ℕ) → has_bit n (suc b) ≡ has_bit (n / 2) b
    behind n b = ap (λ v. v == 1) (bit_at-suc n b)

    lowest : m % 2 ≤ n % 2
    lowest = grind (arith, bit_at_lowest m, bit_at_lowest n, fewer 0, bit_at-lt m 0, bit_at-lt n 0)

-- a removal has as many ACEs, weighs no more, and its ACEs are accepted
cut_accepted : (list cut : List Ace) → IsRemoval list cut → AllByRecursion (IsAce full) list
    → (length cut ≡ length list) × (weight cut ≤ weight list) × AllByRecursion (IsAce full) cut
cut_accepted [] [] removal each = (refl, omega arith, tt)
cut_accepted (a ∷ list) (c ∷ cut) (r, removal) (is, each) =
    let rest = cut_accepted list cut removal each in
    let ones : count_ones c.mask ≤ count_ones a.mask =
    ones_fewer 21 c.mask a.mask (λ b l. false_from_ne_true (has_bit c.mask b) (λ has.
    absurd (omega (arith, l, right_below b (bits_from_mask a.mask b is.mask (r.within b has)))))) r.within in (
      ap suc rest.0,
      omega (arith, weight-cons a list, weight-cons c cut, rest.1, ones),
      (
        record {
          flags = subst (IsWithin full.flags) (sym r.flags) is.flags;
          mask = within_fewer full.masks c.mask a.mask is.mask r.within;
          who = subst IsWho (sym r.who) is.who;
        },
        rest.2,
      ),
    )
cut_accepted [] (c ∷ cut) removal each = absurd removal
cut_accepted (a ∷ list) [] removal each = absurd removal

-- a removal of an accepted list is accepted
pub removal_accepted : (list cut : List Ace) → IsRemoval list cut → IsAccepted full list → IsAccepted full cut
removal_accepted list cut removal ok =
    let (count, light, each) = cut_accepted list cut removal ok.each in
    record { count = omega (arith, count, ok.count); weight = omega (arith, light, ok.weight); each = each }
