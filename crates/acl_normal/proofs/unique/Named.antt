-- The principals of an irreducible column have names.
use Rattle.acl_normal.proofs.Common.{[], AllByRecursion, Bool, bytes_eq, Column, everyone, false, group, group_named, HasName, HaveNames, IsIrreducible, IsName, Kind, length, List, nat_lt, or_cases, owner, Principal, refl, subst, sym, true, user, ℕ, ⊎_elim, ◌&&◌, ◌++◌, ◌<◌, ◌∷◌, ◌≡◌}
use Rattle.std.specs.Bool.{Decides}
use Rattle.std.proofs.lemmas.List.Elements.{recursion_from_All}
use Rattle.std.proofs.lemmas.Bool.Decides.{Decides-by_and, Decides-ltb, Decides-and, not_from_Decides}
use Rattle.acl_perm.specs.Situation.{is_one_of}
use Rattle.acl_normal.proofs.Each.{from_splits}
use Rattle.acl_normal.proofs.unique.Names.{bytes_eq_same}
use Rattle.acl_normal.proofs.unique.Irreducible.{not_needless}

-- each number is a byte, as a test
abbrev pub are_bytes : List ℕ → Bool
are_bytes [] = true
are_bytes (b ∷ a) = nat_lt b 256 && are_bytes a

-- the test for bytes, at least one, decides what is a name
Decides-is_name : (a : List ℕ) → Decides (nat_lt 0 (length a) && are_bytes a) (IsName a)
Decides-is_name a =
    Decides-and (nat_lt 0 (length a)) (are_bytes a) (Decides-ltb 0 (length a))
    (Decides-by_and (λ b. nat_lt b 256) (λ b. b < 256) are_bytes (λ b. Decides-ltb b 256) refl (λ _ _. refl) a)

-- one of some names is a name
one_of_names : (a : List ℕ) (names : List (List ℕ)) → AllByRecursion IsName names → is_one_of a names ≡ true → IsName a
one_of_names a [] h i = absurd (cc)
one_of_names a (x ∷ names) h i =
    ⊎_elim (λ e. subst (λ v. IsName v) (sym (bytes_eq_same a x e)) h.0) (λ e. one_of_names a names h.1 e)
    (or_cases (bytes_eq a x) (is_one_of a names) i)

-- if it can't be that some bytes are no name, they are a name
name_unless : (a : List ℕ) → ((IsName a → ⊥) → ⊥) → IsName a
name_unless a h = go (nat_lt 0 (length a) && are_bytes a) refl
  where
    go : (b : Bool) → (nat_lt 0 (length a) && are_bytes a) ≡ b → IsName a
    go true e = (Decides-is_name a).0 e
    go false e = absurd (h (not_from_Decides _ (Decides-is_name a) e))

-- a key of an irreducible column has a name, since no situation has another
key_named : (c l r : Column) (p : Principal) (k : Kind) → IsIrreducible c → c ≡ l ++ (p, k) ∷ r → HasName p
key_named c l r owner k irr is = tt
key_named c l r group k irr is = tt
key_named c l r everyone k irr is = tt
key_named c l r (user a) k irr is =
    name_unless a (λ e. not_needless c l r (user a) k irr is
    (λ s valid none at. absurd (e (subst (λ v. IsName v) (bytes_eq_same s.user_name a at) valid.user_name))))
key_named c l r (group_named a) k irr is =
    name_unless a (λ e. not_needless c l r (group_named a) k irr is
    (λ s valid none at. absurd (e
    (one_of_names a s.groups (recursion_from_All IsName s.groups valid.groups) at))))

-- the principals of an irreducible column have names that a situation may have
pub irreducible_named : (c : Column) → IsIrreducible c → HaveNames c
irreducible_named c irr = from_splits (λ e. HasName e.0) c (λ l e r is. key_named c l r e.0 e.1 irr is)
