-- The ACEs that are kept of a list grant no more than the list.
use Rattle.std.proofs.Common.{◌≡◌, ◌+◌, ℕ, Bool, true, false, List, [], ◌∷◌, None, Some, length, map, refl, ap, sym, subst, arith}
use Rattle.std.specs.List.{AllByRecursion}
use Rattle.std.proofs.lemmas.Bool.Decides.{nat_tests}
use Rattle.acl_perm.specs.Situation.{Situation}
use Rattle.acl_perm.specs.declared.kind.Kind.{Kind}
use Rattle.acl_perm.specs.declared.kind.Kind.TheVariants.{Allow}
use Rattle.acl_nfs4.specs.AccessPart.{AnyAce, access_part, is_for_access, kept_ace, kind_of_type}
use Rattle.acl_nfs4.specs.Ace.{Ace}
use Rattle.acl_nfs4.specs.Who.{is_unknown_special}
use Rattle.acl_decide.specs.Unknown.{Assignment, answer_under, decides_under}
use Rattle.acl_forms.specs.Part.{HasNoUnknownDeny, PlacedAce, is_unknown_deny, kept, reason_of}
use Rattle.acl_forms.specs.declared.part.left_out.LeftOutReason.TheVariants.{AuditOrAlarm, SpecialWho}
use Rattle.acl_forms.specs.PartWords.{IsPartAce, SpelledAce, SpellsWhole}
unfoldable use Rattle.acl_forms.specs.PartWords.{placed_from}
use Rattle.aclck_c.specs.Laws.{PartGrantsNoMore}

-- what access reads of a whole list
abbrev access : List PlacedAce → List Ace
access whole = (access_part (map (λ p. p.ace) whole)).kept

-- an ACE that access reads, and of which nobody knows whom it names, allows
allows : (a : AnyAce) → is_for_access a ≡ true → is_unknown_special a.who ≡ true
    → is_unknown_deny a.type_number a.who ≡ false → kind_of_type a.type_number ≡ Allow
allows a read unknown known = let deny = rw unknown at known in grind (arith, nat_tests)

-- a bit that the kept ACEs allow, the whole list allows
bit_allowed : (v : Assignment) (s : Situation) (bit : ℕ) (whole : List PlacedAce) → HasNoUnknownDeny whole
    → answer_under v (kept whole) s bit ≡ Some Allow → answer_under v (access whole) s bit ≡ Some Allow
bit_allowed v s bit [] each e = e
bit_allowed v s bit (p ∷ whole) each e =
    by (bit_allowed v s bit whole each.1) (is_for_access p.ace) (is_unknown_special p.ace.who)
    (decides_under v s bit (kept_ace p.ace)) refl refl refl
  where
    by : (answer_under v (kept whole) s bit ≡ Some Allow → answer_under v (access whole) s bit ≡ Some Allow)
        → (read unknown decides : Bool) → is_for_access p.ace ≡ read → is_unknown_special p.ace.who ≡ unknown
        → decides_under v s bit (kept_ace p.ace) ≡ decides
        → answer_under v (access (p ∷ whole)) s bit ≡ Some Allow
    by more false unknown decides f u d =
        let left : reason_of p.ace ≡ Some AuditOrAlarm = rw f refl in rw f (more (rw left at e))
    by more true true true f u d = rw (f, d) (ap (λ (k : Kind). Some k) (allows p.ace f u each.0))
    by more true true false f u d =
        let left : reason_of p.ace ≡ Some SpecialWho = rw (f, u) refl in rw (f, d) (more (rw left at e))
    by more true false true f u d =
        let wanted : reason_of p.ace ≡ None = rw (f, u) refl in rw (f, d) (rw (wanted, d) at e)
    by more true false false f u d =
        let wanted : reason_of p.ace ≡ None = rw (f, u) refl in rw (f, d) (more (rw (wanted, d) at e))

-- what the kept ACEs grant, the whole list grants
pub no_more : PartGrantsNoMore
no_more whole v s request each grants = λ bit asked. bit_allowed v s bit whole each (grants bit asked)

-- each ACE that is spelled is no DENY of a special identifier that nobody knows
pub no_unknown_deny : (Spells : AnyAce → List ℕ → Type 0) (at : ℕ) (list : List SpelledAce)
    → AllByRecursion (IsPartAce Spells) list → HasNoUnknownDeny (placed_from at list)
unfolding placed_from
no_unknown_deny Spells at [] each = tt
no_unknown_deny Spells at (s ∷ list) each =
    (each.0.known, no_unknown_deny Spells (at + length s.bytes) list each.1)

-- so it is in the whole list of a value
pub spelled_known : (Spells : AnyAce → List ℕ → Type 0) (set : ℕ) (whole : List PlacedAce) (value : List ℕ)
    → SpellsWhole Spells set whole value → HasNoUnknownDeny whole
spelled_known Spells set whole value (spelled, is, h) =
    subst HasNoUnknownDeny (sym is) (no_unknown_deny Spells 8 spelled h.each)
