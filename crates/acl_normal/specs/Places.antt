-- ACEs by their places in a list (RFC 8881, section 6.2.1): which wait with a right, by kind and class, and which is
-- first.
use Rattle.std.specs.Prelude.{ℕ, zero, suc, Bool, true, false, cond, not, ◌&&◌, List, [], ◌∷◌, Option, Some, None, option_map, map}
use Rattle.acl_perm.specs.Principal.{Principal, is_user}
use Rattle.acl_perm.specs.declared.kind.Kind.{Kind}
use Rattle.acl_nfs4.specs.Ace.{Ace}
use Rattle.acl_nfs4.specs.Who.{principal_of}
use Rattle.acl_eval.specs.Scan.{without}
use Rattle.acl_normal.specs.Keys.{principal_eq, kind_eq}
use Rattle.acl_normal.specs.Normal.{counts, is_inherit_only}

-- both are users, or both are not
abbrev pub same_class : Bool → Bool → Bool
same_class true true = true
same_class false false = true
same_class true false = false
same_class false true = false

-- the ACE waits with the right, in its kind and class
abbrev pub is_waiting : Kind → Bool → ℕ → Ace → Bool
is_waiting k users b a = counts b a && (kind_eq a.kind k && same_class (is_user (principal_of a)) users)

-- the ACE at a place waits
abbrev pub waits : Kind → Bool → ℕ → List Ace → ℕ → Bool
waits k users b [] i = false
waits k users b (a ∷ xs) zero = is_waiting k users b a
waits k users b (a ∷ xs) (suc i) = waits k users b xs i

-- the kind and the place of the first ACE of a principal with the right
abbrev pub first_at : ℕ → Principal → List Ace → Option (Kind × ℕ)
first_at b p [] = None
first_at b p (a ∷ xs) =
    cond (counts b a && principal_eq (principal_of a) p) (Some (a.kind, 0))
    (option_map (λ e. (e.0, suc e.1)) (first_at b p xs))

-- the ACE without these rights if it names the principal and takes part, and otherwise the ACE
abbrev pub without_bits : Principal → ℕ → Ace → Ace
without_bits p m a =
    cond (principal_eq (principal_of a) p && not (is_inherit_only a)) (record a { mask = without a.mask m }) a

-- the list without these rights of a principal
abbrev pub take_out : Principal → ℕ → List Ace → List Ace
take_out p m = map (without_bits p m)

-- the list with empty masks
abbrev pub nothing_left : List Ace → List Ace
nothing_left = map (λ (a : Ace). record a { mask = 0 })
