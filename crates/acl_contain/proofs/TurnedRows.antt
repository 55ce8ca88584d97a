-- The rows of a table in reverse.
use Rattle.acl_normal.proofs.Common.{List, [], ap, map, map-append, refl, sym, ◌++◌, ◌∙◌, ◌∷◌, ◌≡◌}
use Rattle.std.proofs.lemmas.Grind.{reverse_onto}
use Rattle.std.specs.Prelude.{reverse}

-- what is made of the elements of a reversed list is what is made of the elements, reversed
pub map_reversed : {X Y : Type 0} (f : X → Y) (xs : List X) → map f (reverse xs) ≡ reverse (map f xs)
map_reversed f [] = refl
map_reversed f (x ∷ xs) = ap (map f) (reverse_onto xs x []) ∙ map-append f (reverse xs) (x ∷ [])
    ∙ ap (λ v. v ++ f x ∷ []) (map_reversed f xs) ∙ sym (reverse_onto (map f xs) (f x) [])
