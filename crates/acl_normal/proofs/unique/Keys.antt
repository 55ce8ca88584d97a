-- Keys that are equal in their order are equal.
use Rattle.std.proofs.Common.{refl, true, ◌≡◌}
use Rattle.acl_normal.proofs.Common.{ColumnKey, Equal, Greater, Less, Ordering, ap, compare_keys, is_le, key_order, key_record}
use Rattle.acl_perm.specs.internal.Totality.{key_total}

-- a key is equal to itself in the order
pub key_itself : (k : ColumnKey) → compare_keys k k ≡ Equal
key_itself k = (key_order.equal (key_record k) (key_record k)).1 refl

-- keys that are equal in the order are equal
pub key_equal : (k l : ColumnKey) → compare_keys k l ≡ Equal → k ≡ l
key_equal k l h = ap (λ v. (v.principal, v.kind)) ((key_order.equal (key_record k) (key_record l)).0 h)

-- two keys, each at most the other, are one
pub key_antisymmetric : (k l : ColumnKey) → is_le (compare_keys k l) ≡ true → is_le (compare_keys l k) ≡ true → k ≡ l
key_antisymmetric k l h i = go (compare_keys k l) (compare_keys l k) refl refl h i
  where
    go : (a b : Ordering) → compare_keys k l ≡ a → compare_keys l k ≡ b → is_le a ≡ true → is_le b ≡ true → k ≡ l
    go Equal b e f h i = key_equal k l e
    go Greater b e f h i = cc
    go Less Greater e f h i = cc
    go Less b e f h i =
        let turned = key_total.antisymm (key_record k) (key_record l) in
        absurd (cc)
