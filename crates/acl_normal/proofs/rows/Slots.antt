-- When two slots, two classes or two places are the same.
use Rattle.acl_normal.proofs.Common.{Bool, Equal, Kind, ap, arith, false, is_eq, nat_cmp, nat_cmp_is, refl, same_class, slot_of, sym, true, ℕ, ◌<◌, ◌≡◌}
use Rattle.std.specs.Cmp.{Equal-is}
use Rattle.std.proofs.lemmas.Map.Lookups.{exact_unsigned}

-- a slot is one of 84
pub slot_below : (k : Kind) (u : Bool) (b : ℕ) → b < 21 → slot_of k u b < 84
slot_below k u b h = grind arith

-- equal slots are of one kind, one class and one bit
pub slot_same : (k j : Kind) (u v : Bool) (b c : ℕ) → slot_of k u b ≡ slot_of j v c → (k ≡ j) × (u ≡ v) × (b ≡ c)
slot_same k j u v b c h = (grind arith, grind arith, grind arith)

-- classes that pass the test for the same class are equal
pub class_same : (u v : Bool) → same_class u v ≡ true → u ≡ v
class_same true true h = refl
class_same false false h = refl
class_same _ _ h = cc

-- a class passes the test for the same class with itself
pub same_class_itself : (v : Bool) → same_class v v ≡ true
same_class_itself true = refl
same_class_itself false = refl

-- a place is equal to itself in the order
pub is_eq_itself : (i : ℕ) → is_eq (nat_cmp i i) ≡ true
is_eq_itself i = ap is_eq (sym (nat_cmp_is i i Equal refl))

-- places that are equal in the order are equal
pub is_eq_same : (i l : ℕ) → is_eq (nat_cmp i l) ≡ true → i ≡ l
is_eq_same i l t = exact_unsigned i l ((Equal-is (nat_cmp i l)).0 t)
