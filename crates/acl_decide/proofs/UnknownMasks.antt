-- Unknown identifiers: what one pass over the rights of a mask notes of an answer, ACE by ACE.
use Rattle.std.proofs.Common.{◌≡◌, ℕ, Bool, true, false, List, [], ◌∷◌, Option, None, Some, refl, sym, ap, ◌∙◌}
use Rattle.std.specs.Prelude.{◌&&◌, ◌||◌, IsTrue, if◌then◌else◌, not}
use Rattle.std.specs.Str.{bytes_eq}
use Rattle.std.proofs.lemmas.Bool.{and_parts}
use Rattle.acl_perm.proofs.Meetings.{bytes_eq_same}
use Rattle.acl_perm.specs.Bits.{has_bit, IsDifference, IsIntersection, IsSubset, IsUnion}
use Rattle.acl_perm.proofs.Sets.{no_bit}
use Rattle.acl_perm.specs.Situation.{Situation, matches}
use Rattle.acl_perm.specs.declared.kind.Kind.{Kind}
use Rattle.acl_nfs4.specs.Ace.{Ace}
use Rattle.acl_nfs4.specs.Who.{is_unknown_special, principal_of}
use Rattle.acl_eval.specs.Column.{takes_part}
use Rattle.acl_eval.specs.Scan.{applies}
use Rattle.acl_decide.specs.internal.UnknownBody.{HaveNoted, had, is_answer, is_possible, may_answer, noted_rights, noting}
use Rattle.acl_decide.specs.declared.rights_with_unknown.Possible.{Possible}
use Rattle.std.proofs.lemmas.Map.Text.{btree_map_updates_str}
use Rattle.std.specs.BTreeMap.{BTreeMap, UpdatesBy, get_by}
use Rattle.std.specs.Borrow.{Bor}
use Rattle.std.specs.Cmp.Lexicographic.{slice_cmp}
use Rattle.std.specs.Option.{option_map_or, unwrap_or}
use Rattle.std.specs.Ordering.{nat_cmp}
use Rattle.std.specs.Map.{update}
use Rattle.acl_perm.specs.declared.mask.Mask.{Mask}
use Rattle.acl_perm.proofs.Bools.{or_false_right}
use Rattle.acl_decide.specs.internal.UnknownBody.{can_answer}
use Rattle.acl_decide.proofs.Unknowns.{can_match, can_pass, can_skip, can_unknown, counts, had_more}

-- no rights are noted before the first ACE
pub noted_none : (names : BTreeMap (Bor (List ℕ)) Mask) → names.entries ≡ [] → HaveNoted names []
noted_none names none bit who = rw none (no_bit bit)

-- the rights of a name after those of one more ACE of an unknown identifier were added
noted_by : (old new : BTreeMap (Bor (List ℕ)) Mask) (a : Ace) (rights : Mask) (earlier : List Ace)
    → ((who : List ℕ) → get_by (λ k. slice_cmp nat_cmp who k.now) new
    ≡ update bytes_eq (λ ds. get_by (λ k. slice_cmp nat_cmp ds k.now) old) a.who (Some rights) who)
    → IsUnion (noted_rights old a.who) a.mask rights.bits → (is_unknown_special a.who && takes_part a) ≡ true
    → HaveNoted old earlier → HaveNoted new (noting earlier a)
noted_by old new a rights earlier updated union takes noted bit who =
    ap (λ (found : Option Mask). has_bit (option_map_or (λ m. m.bits) found 0) bit) (updated who)
    ∙ by (bytes_eq a.who who) refl
  where
    by : (n : Bool) → bytes_eq a.who who ≡ n
        → has_bit (option_map_or (λ (m : Mask). m.bits) (update bytes_eq
        (λ ds. get_by (λ k. slice_cmp nat_cmp ds k.now) old) a.who (Some rights) who) 0) bit
        ≡ had (noting earlier a) bit who
    by true e = rw (takes, had_more earlier a bit who, e, union bit)
        (rw (sym (bytes_eq_same a.who who e)) (ap (λ t. t || has_bit a.mask bit) (noted bit a.who)
        ∙ flat (had earlier bit a.who) (has_bit a.mask bit)))
      where
        flat : (h m : Bool) → (h || m) ≡ (h || (m || false))
        flat true m = refl
        flat false true = refl
        flat false false = refl
    by false e = rw (takes, had_more earlier a bit who, e) (noted bit who ∙ sym (or_false_right (had earlier bit who)))

-- an ACE that has all rights of the earlier ones is noted at once
pub noted_once : (old new : BTreeMap (Bor (List ℕ)) Mask) (a : Ace) (mask : Mask) (earlier : List Ace)
    → UpdatesBy (λ x y. slice_cmp nat_cmp x.now y.now) (λ k. slice_cmp nat_cmp a.who k.now) old new (Some mask)
    → mask.bits ≡ a.mask → IsSubset (noted_rights old a.who) a.mask → (is_unknown_special a.who && takes_part a) ≡ true
    → HaveNoted old earlier → HaveNoted new (noting earlier a)
noted_once old new a mask earlier updates same within =
    noted_by old new a mask earlier (btree_map_updates_str a.who old new (Some mask) updates)
    (λ bit. ap (λ n. has_bit n bit) same
    ∙ covers (has_bit (noted_rights old a.who) bit) (has_bit a.mask bit) (within bit))
  where
    covers : (x y : Bool) → (IsTrue x → IsTrue y) → y ≡ (x || y)
    covers true true h = refl
    covers true false h = h refl
    covers false y h = refl

-- an ACE that lacks rights of the earlier ones is noted with them after it was noted alone
pub noted_twice : (old between new : BTreeMap (Bor (List ℕ)) Mask) (a : Ace) (mask rights : Mask) (earlier : List Ace)
    → UpdatesBy (λ x y. slice_cmp nat_cmp x.now y.now) (λ k. slice_cmp nat_cmp a.who k.now) old between (Some mask)
    → UpdatesBy (λ x y. slice_cmp nat_cmp x.now y.now) (λ k. slice_cmp nat_cmp a.who k.now) between new (Some rights)
    → IsUnion (noted_rights old a.who) a.mask rights.bits → (is_unknown_special a.who && takes_part a) ≡ true
    → HaveNoted old earlier → HaveNoted new (noting earlier a)
noted_twice old between new a mask rights earlier first second = noted_by old new a rights earlier
    (λ who. btree_map_updates_str a.who between new (Some rights) second who ∙ by who (bytes_eq a.who who) refl)
  where
    by : (who : List ℕ) (n : Bool) → bytes_eq a.who who ≡ n
        → update bytes_eq (λ ds. get_by (λ k. slice_cmp nat_cmp ds k.now) between) a.who (Some rights) who
        ≡ update bytes_eq (λ ds. get_by (λ k. slice_cmp nat_cmp ds k.now) old) a.who (Some rights) who
    by who true e = rw e refl
    by who false e = rw e (btree_map_updates_str a.who old between (Some mask) first who ∙ rw e refl)

-- the rights that a name had, if none stand for no rights
pub noted_before : (found : Option Mask) (none rights : Mask) → rights ≡ unwrap_or found none → none.bits ≡ 0
    → rights.bits ≡ option_map_or (λ m. m.bits) found 0
noted_before None none rights is zero = ap (λ (m : Mask). m.bits) is ∙ zero
noted_before (Some mask) none rights is zero = ap (λ (m : Mask). m.bits) is

-- an ACE that does not count changes nothing
pub after_skipped : (self : Possible) (earlier : List Ace) (a : Ace) (list : List Ace) (s : Situation) (bit : ℕ)
    (k : Option Kind) → (has_bit self.left.bits bit ≡ true → counts bit a ≡ false)
    → may_answer self (noting earlier a) list s bit k ≡ may_answer self earlier (a ∷ list) s bit k
after_skipped self earlier a list s bit k lacks = by (has_bit self.left.bits bit) refl
  where
    by : (t : Bool) → has_bit self.left.bits bit ≡ t
        → may_answer self (noting earlier a) list s bit k ≡ may_answer self earlier (a ∷ list) s bit k
    by true e = ap (λ t. is_possible self bit k || (has_bit self.left.bits bit && t))
        (sym (can_skip earlier a list s bit k (lacks e)))
    by false e = rw e refl

-- an ACE without a right that is left
pub after_lacking : (self : Possible) (common : ℕ) (earlier : List Ace) (a : Ace) (list : List Ace) (s : Situation)
    (bit : ℕ) (k : Option Kind) → IsIntersection self.left.bits a.mask common → common ≡ 0
    → may_answer self (noting earlier a) list s bit k ≡ may_answer self earlier (a ∷ list) s bit k
after_lacking self common earlier a list s bit k is zero = after_skipped self earlier a list s bit k (λ h.
    let lacks : has_bit a.mask bit ≡ false = sym (ap (λ t. t && has_bit a.mask bit) h) ∙ (sym (is bit)
    ∙ (ap (λ n. has_bit n bit) zero ∙ no_bit bit)) in
    rw lacks refl)

-- an ACE for new objects alone
pub after_inherited : (self : Possible) (earlier : List Ace) (a : Ace) (list : List Ace) (s : Situation)
    (bit : ℕ) (k : Option Kind) → takes_part a ≡ false
    → may_answer self (noting earlier a) list s bit k ≡ may_answer self earlier (a ∷ list) s bit k
after_inherited self earlier a list s bit k lacks =
    after_skipped self earlier a list s bit k (λ h. by (has_bit a.mask bit) refl)
  where
    by : (t : Bool) → has_bit a.mask bit ≡ t → counts bit a ≡ false
    by true e = rw (e, lacks) refl
    by false e = rw e refl

-- an ACE of an unknown identifier with the bit, as tests
unknown_counts : (p l h x r : Bool) → ((p || (((l && true) && not h) && x)) || (l && r))
    ≡ (p || (l && ((if h then false else x) || r)))
unknown_counts true l h x r = refl
unknown_counts false true true x r = refl
unknown_counts false true false x r = refl
unknown_counts false false h x r = refl

-- an ACE of an unknown identifier without the bit, as tests
unknown_lacks : (p l h x r : Bool) → ((p || (((l && false) && not h) && x)) || (l && r)) ≡ (p || (l && r))
unknown_lacks true l h x r = refl
unknown_lacks false true h x r = refl
unknown_lacks false false h x r = refl

-- an ACE of an unknown identifier
pub after_unknown : (self next : Possible) (common first : ℕ) (earlier : List Ace) (a : Ace) (list : List Ace)
    (s : Situation) (bit : ℕ) (k : Option Kind) → takes_part a ≡ true → is_unknown_special a.who ≡ true
    → IsIntersection self.left.bits a.mask common
    → has_bit first bit ≡ (has_bit common bit && not (had earlier bit a.who))
    → is_possible next bit k ≡ (is_possible self bit k || (has_bit first bit && is_answer (Some a.kind) k))
    → has_bit next.left.bits bit ≡ has_bit self.left.bits bit
    → may_answer next (noting earlier a) list s bit k ≡ may_answer self earlier (a ∷ list) s bit k
after_unknown self next common first earlier a list s bit k takes un is fresh possible left =
    rw (possible, left, fresh, is bit) (by (has_bit a.mask bit) refl)
  where
    by : (m : Bool) → has_bit a.mask bit ≡ m
        → ((is_possible self bit k || (((has_bit self.left.bits bit && has_bit a.mask bit)
        && not (had earlier bit a.who)) && is_answer (Some a.kind) k))
        || (has_bit self.left.bits bit && can_answer (noting earlier a) list s bit k))
        ≡ may_answer self earlier (a ∷ list) s bit k
    by true e = let counted : counts bit a ≡ true = rw (e, takes) refl in
        rw (e, can_unknown earlier a list s bit k counted un) (unknown_counts (is_possible self bit k)
        (has_bit self.left.bits bit) (had earlier bit a.who) (is_answer (Some a.kind) k)
        (can_answer (noting earlier a) list s bit k))
    by false e = let not_counted : counts bit a ≡ false = rw e refl in
        rw (e, can_skip earlier a list s bit k not_counted) (unknown_lacks (is_possible self bit k)
        (has_bit self.left.bits bit) (had earlier bit a.who) (is_answer (Some a.kind) k)
        (can_answer (noting earlier a) list s bit k))

-- an ACE that matches and has the bit, as tests
match_counts : (p l x r : Bool) → ((p || ((l && true) && x)) || ((l && not (l && true)) && r)) ≡ (p || (l && x))
match_counts true l x r = refl
match_counts false true true r = refl
match_counts false true false r = refl
match_counts false false x r = refl

-- an ACE that matches without the bit, as tests
match_lacks : (p l x r : Bool) → ((p || ((l && false) && x)) || ((l && not (l && false)) && r)) ≡ (p || (l && r))
match_lacks true l x r = refl
match_lacks false true x r = refl
match_lacks false false x r = refl

-- an ACE of a known name that matches
pub after_match : (self next : Possible) (common : ℕ) (earlier : List Ace) (a : Ace) (list : List Ace)
    (s : Situation) (bit : ℕ) (k : Option Kind) → is_unknown_special a.who ≡ false → applies s a ≡ true
    → IsIntersection self.left.bits a.mask common
    → is_possible next bit k ≡ (is_possible self bit k || (has_bit common bit && is_answer (Some a.kind) k))
    → IsDifference self.left.bits common next.left.bits
    → may_answer next (noting earlier a) list s bit k ≡ may_answer self earlier (a ∷ list) s bit k
after_match self next common earlier a list s bit k known matched is possible left =
    let (takes, matching) = and_parts (takes_part a) (matches s (principal_of a)) matched in
    rw (possible, left bit, is bit) (by (has_bit a.mask bit) refl takes matching)
  where
    by : (m : Bool) → has_bit a.mask bit ≡ m → takes_part a ≡ true → matches s (principal_of a) ≡ true
        → ((is_possible self bit k || ((has_bit self.left.bits bit && has_bit a.mask bit) && is_answer (Some a.kind) k))
        || ((has_bit self.left.bits bit && not (has_bit self.left.bits bit && has_bit a.mask bit))
        && can_answer (noting earlier a) list s bit k))
        ≡ may_answer self earlier (a ∷ list) s bit k
    by true e takes matching = let counted : counts bit a ≡ true = rw (e, takes) refl in
        rw (e, can_match earlier a list s bit k counted known matching) (match_counts (is_possible self bit k)
        (has_bit self.left.bits bit) (is_answer (Some a.kind) k) (can_answer (noting earlier a) list s bit k))
    by false e takes matching = let not_counted : counts bit a ≡ false = rw e refl in
        rw (e, can_skip earlier a list s bit k not_counted) (match_lacks (is_possible self bit k)
        (has_bit self.left.bits bit) (is_answer (Some a.kind) k) (can_answer (noting earlier a) list s bit k))

-- an ACE of a known name that does not match
pub after_other : (self : Possible) (earlier : List Ace) (a : Ace) (list : List Ace) (s : Situation) (bit : ℕ)
    (k : Option Kind) → is_unknown_special a.who ≡ false → takes_part a ≡ true → applies s a ≡ false
    → may_answer self (noting earlier a) list s bit k ≡ may_answer self earlier (a ∷ list) s bit k
after_other self earlier a list s bit k known takes unmatched =
    ap (λ t. is_possible self bit k || (has_bit self.left.bits bit && t)) (sym (by (has_bit a.mask bit) refl))
  where
    by : (m : Bool) → has_bit a.mask bit ≡ m
        → can_answer earlier (a ∷ list) s bit k ≡ can_answer (noting earlier a) list s bit k
    by true e = can_pass earlier a list s bit k (rw (e, takes) refl) known
        (sym (ap (λ t. t && matches s (principal_of a)) takes) ∙ unmatched)
    by false e = can_skip earlier a list s bit k (rw e refl)
