-- The ACEs that are left while an ACL is read.
use Rattle.std.proofs.Common.{◌≡◌, ◌∙◌, ◌+◌, ◌++◌, ℕ, zero, suc, Bool, true, false, cond, List, [], ◌∷◌, None, arith, refl, ap, sym, append_assoc}
use Rattle.std.specs.Prelude.{◌==◌, filter, map, not, if◌then◌else◌}
use Rattle.acl_perm.specs.declared.kind.Kind.{Kind}
use Rattle.acl_perm.specs.declared.kind.Kind.TheVariants.{Allow, Deny}
use Rattle.std.proofs.lemmas.List.Concat.{flat_map-cons}
unfoldable use Rattle.acl_nt.specs.AceAt.{nt_ace_at}
use Rattle.acl_nt.specs.AceAt.{ace_conditions, ace_size, sid_place, type_decides, other_at}
use Rattle.acl_nt.specs.AclAt.{aces_conditions, deciding_aces, other_nt_aces}
unfoldable use Rattle.acl_nt.specs.AclAt.{places}
use Rattle.acl_nt.specs.Conditions.{Condition, FailsUnder, first_unmet}
use Rattle.acl_nt.specs.Descriptor.{NtAce}
use Rattle.acl_nt.specs.Numbers.{byte_at, dword_at}
use Rattle.acl_nt.specs.Sid.{Sid}
use Rattle.acl_nt.specs.SidAt.{sid_at}
use Rattle.acl_nt.specs.internal.Parts.{aces_added}
use Rattle.acl_nt.specs.declared.ace.OtherAce.{OtherAce}
use Rattle.acl_nt.specs.declared.fault.NtFault.{NtFault}
use Rattle.acl_nt.specs.declared.role.Role.{Role}
use Rattle.acl_nt.proofs.ConditionLemmas.{fails_before, fails_same, fault_after}

-- an ACE of these parts is the one at a place
pub ace_is : (bytes : List ℕ) (at : ℕ) (kind : Kind) (flags mask : ℕ) (s : Sid)
    → kind ≡ (if byte_at bytes at == 0 then Allow else Deny) → flags ≡ byte_at bytes (at + 1)
    → mask ≡ dword_at bytes (at + 4) → s ≡ sid_at bytes (sid_place bytes at)
    → record { kind = kind; flags = flags; mask = mask; sid = s } ≡ nt_ace_at bytes at
unfolding nt_ace_at
ace_is bytes at kind flags mask s k f m is = rw (k, f, m, is) refl

-- the places of one ACE and of those that are left after it
places_more : (left next : ℕ) (bytes : List ℕ) (at size : ℕ) → left ≡ next + 1 → size ≡ ace_size bytes at
    → places left bytes at ≡ at ∷ places next bytes (at + size)
unfolding places
places_more zero next bytes at size some is = absurd (omega (arith, some))
places_more (suc n) next bytes at size some is = let same : next ≡ n = omega (arith, some) in rw (same, is) refl

-- no place is left
pub places_done : (left : ℕ) (bytes : List ℕ) (at : ℕ) → left ≡ 0 → places left bytes at ≡ []
unfolding places
places_done left bytes at e = rw e refl

-- the conditions on ACEs that are left after others
abbrev conditions_left : Role → List ℕ → ℕ → ℕ → ℕ → List Condition
conditions_left role bytes end left at = aces_conditions role bytes end (places left bytes at)

-- the first fault of ACEs is that of the first of them and of those that are left after it
first_of : (role : Role) (bytes : List ℕ) (end left next at size : ℕ) → left ≡ next + 1 → size ≡ ace_size bytes at
    → first_unmet (conditions_left role bytes end left at)
    ≡ first_unmet (ace_conditions role bytes end at ++ conditions_left role bytes end next (at + size))
first_of role bytes end left next at size some is =
    ap (λ l. first_unmet (aces_conditions role bytes end l)) (places_more left next bytes at size some is)
    ∙ ap first_unmet (flat_map-cons (ace_conditions role bytes end) at (places next bytes (at + size)))

-- after an ACE without a fault the first fault is among those that are left
pub faults_left : (role : Role) (bytes : List ℕ) (end left next at size : ℕ) → left ≡ next + 1
    → size ≡ ace_size bytes at → first_unmet (ace_conditions role bytes end at) ≡ None
    → first_unmet (conditions_left role bytes end next (at + size))
    ≡ first_unmet (conditions_left role bytes end left at)
faults_left role bytes end left next at size some is none = sym (first_of role bytes end left next at size some is
    ∙ fault_after (ace_conditions role bytes end at) (conditions_left role bytes end next (at + size)) none)

-- the fault of an ACE is the first of those that are left
pub fails_here : (f : NtFault) (role : Role) (bytes : List ℕ) (end left next at : ℕ) (all : List Condition)
    → left ≡ next + 1 → first_unmet (conditions_left role bytes end left at) ≡ first_unmet all
    → FailsUnder f (ace_conditions role bytes end at) → FailsUnder f all
fails_here f role bytes end left next at all some same fails =
    fails_same f all
    (ace_conditions role bytes end at ++ conditions_left role bytes end next (at + ace_size bytes at))
    (sym same ∙ first_of role bytes end left next at (ace_size bytes at) some refl)
    (fails_before f (ace_conditions role bytes end at)
    (conditions_left role bytes end next (at + ace_size bytes at)) fails)

-- ---- the ACEs so far, with those that are left

with_deciding : (h : Bool) (bytes : List ℕ) (at : ℕ) (a : List NtAce × List OtherAce) (other : OtherAce) (rest : List ℕ)
    → (if◌then◌else◌ {A = List NtAce × List OtherAce} h (a.0 ++ nt_ace_at bytes at ∷ [], a.1) (a.0, a.1 ++ other ∷ [])).0
    ++ map (nt_ace_at bytes) rest ≡ a.0 ++ map (nt_ace_at bytes) (cond h (at ∷ rest) rest)
with_deciding true bytes at a other rest = append_assoc a.0 (nt_ace_at bytes at ∷ []) (map (nt_ace_at bytes) rest)
with_deciding false bytes at a other rest = refl

with_other : (h : Bool) (bytes : List ℕ) (at : ℕ) (a : List NtAce × List OtherAce) (ace : NtAce) (rest : List ℕ)
    → (if◌then◌else◌ {A = List NtAce × List OtherAce} h (a.0 ++ ace ∷ [], a.1) (a.0, a.1 ++ other_at bytes at ∷ [])).1
    ++ map (other_at bytes) rest ≡ a.1 ++ map (other_at bytes) (cond (not h) (at ∷ rest) rest)
with_other true bytes at a ace rest = refl
with_other false bytes at a ace rest = append_assoc a.1 (other_at bytes at ∷ []) (map (other_at bytes) rest)

-- an ACE is read from a place, and its type and place too
pub record IsAceRead (bytes : List ℕ) (at : ℕ) (ace : NtAce) (other : OtherAce) : Type 0 where
  pub ace_is : ace ≡ nt_ace_at bytes at
  pub other_is : other ≡ other_at bytes at

-- the ACEs with this one
added_is : (role : Role) (bytes : List ℕ) (at : ℕ) (a new : List NtAce × List OtherAce) (ace : NtAce)
    (other : OtherAce) → new ≡ aces_added role a ace other → IsAceRead bytes at ace other
    → new ≡ aces_added role a (nt_ace_at bytes at) (other_at bytes at)
added_is role bytes at a new ace other e read =
    e ∙ ap (λ x. aces_added role a x other) read.ace_is ∙ ap (λ y. aces_added role a (nt_ace_at bytes at) y) read.other_is

-- an ACE that is read is added to those that decide, if it does
pub deciding_left : (role : Role) (bytes : List ℕ) (left next at size : ℕ) (a new : List NtAce × List OtherAce)
    (ace : NtAce) (other : OtherAce) → left ≡ next + 1 → size ≡ ace_size bytes at → new ≡ aces_added role a ace other
    → IsAceRead bytes at ace other → new.0 ++ deciding_aces role bytes (places next bytes (at + size))
    ≡ a.0 ++ deciding_aces role bytes (places left bytes at)
deciding_left role bytes left next at size a new ace other some is e read =
    ap (λ (z : List NtAce × List OtherAce). z.0 ++ deciding_aces role bytes (places next bytes (at + size)))
    (added_is role bytes at a new ace other e read)
    ∙ with_deciding (type_decides role (byte_at bytes at)) bytes at a (other_at bytes at)
    (filter (λ p. type_decides role (byte_at bytes p)) (places next bytes (at + size)))
    ∙ sym (ap (λ l. a.0 ++ deciding_aces role bytes l) (places_more left next bytes at size some is))

-- and to the others, if it does not
pub others_left : (role : Role) (bytes : List ℕ) (left next at size : ℕ) (a new : List NtAce × List OtherAce)
    (ace : NtAce) (other : OtherAce) → left ≡ next + 1 → size ≡ ace_size bytes at → new ≡ aces_added role a ace other
    → IsAceRead bytes at ace other → new.1 ++ other_nt_aces role bytes (places next bytes (at + size))
    ≡ a.1 ++ other_nt_aces role bytes (places left bytes at)
others_left role bytes left next at size a new ace other some is e read =
    ap (λ (z : List NtAce × List OtherAce). z.1 ++ other_nt_aces role bytes (places next bytes (at + size)))
    (added_is role bytes at a new ace other e read)
    ∙ with_other (type_decides role (byte_at bytes at)) bytes at a (nt_ace_at bytes at)
    (filter (λ p. not (type_decides role (byte_at bytes p))) (places next bytes (at + size)))
    ∙ sym (ap (λ l. a.1 ++ other_nt_aces role bytes l) (places_more left next bytes at size some is))

-- two values that are those of a pair
pub pair_is : {A B : Type 0} (p : A × B) (a : A) (b : B) → p.0 ≡ a → p.1 ≡ b → p ≡ (a, b)
pair_is p a b first second = ap (λ x. (x, p.1)) first ∙ ap (λ y. (a, y)) second
