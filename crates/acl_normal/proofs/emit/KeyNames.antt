-- The principal of each key of a list has a who, and what is emitted for the key names it.
use Rattle.acl_normal.proofs.Common.{Ace, Bool, ColumnKey, List, Principal, [], bytes_eq, everyone_name, false, flags_for, group_name, has_bit, key_here, owner_name, principal_of, refl, suc, true, who_for, zero, ℕ, ◌∷◌, ◌≡◌}
use Rattle.acl_normal.specs.internal.Places.{principal_named}
use Rattle.acl_normal.specs.internal.emit.Ready.{emitted}

-- the who and the flags of a principal name it again
pub named_again : (w : List ℕ) (g : Bool)
    → principal_named (who_for (principal_named w g)) (has_bit (flags_for (principal_named w g)) 6) ≡ principal_named
    w g
named_again w g = go (bytes_eq w owner_name) (bytes_eq w group_name) (bytes_eq w everyone_name) g refl refl refl
  where
    go : (x y z g : Bool) → bytes_eq w owner_name ≡ x → bytes_eq w group_name ≡ y → bytes_eq w everyone_name ≡ z
        → principal_named (who_for (principal_named w g)) (has_bit (flags_for (principal_named w g)) 6)
        ≡ principal_named w g
    go true y z g a b c = rw a refl
    go false true z g a b c = rw (a, b) refl
    go false false true g a b c = rw (a, b, c) refl
    go false false false true a b c = rw (a, b, c) (rw (a, b, c) refl)
    go false false false false a b c = rw (a, b, c) (rw (a, b, c) refl)

-- some who, with IDENTIFIER_GROUP or without it, names the principal
pub record IsNamed (p : Principal) : Type 0 where
  pub who : List ℕ
  pub is_group : Bool
  pub is : p ≡ principal_named who is_group

-- the principal of each ACE is named
pub here_named : (xs : List Ace) (i : ℕ) → IsNamed (key_here xs i).0
here_named [] i = record { who = everyone_name; is_group = false; is = refl }
here_named (a ∷ xs) zero = record { who = a.who; is_group = has_bit a.flags 6; is = refl }
here_named (a ∷ xs) (suc i) = here_named xs i

-- what is emitted names the principal of its key
pub emitted_principal : (k : ColumnKey) (m : ℕ) → IsNamed k.0 → principal_of (emitted k m) ≡ k.0
emitted_principal k m n = rw n.is (named_again n.who n.is_group)
