-- Lists that are equal are fed alike to a hasher (this library's own). The proof is here because `Hash` of the code
-- cites it, and code can cite only what is in specs/.
use Rattle.std.proofs.Common.{◌≡◌, List, [], ◌∷◌, length, take, drop, refl, sym, ap, ◌∙◌}
use Rattle.std.specs.Prelude.{true}
use Rattle.std.specs.Cmp.Lexicographic.{bytes_decides}
use Rattle.std.specs.List.{flat_map}
use Rattle.std.proofs.lemmas.List.{take_at, drop_at}
use Rattle.acl_nfs4.specs.Ace.{Ace}
use Rattle.acl_nfs4.specs.Owned.{list_writes, same_list}
use Rattle.acl_nfs4.specs.Spelling.{piece, spelling, word}

-- equal lists are fed alike
pub list_alike : (a b : List Ace) → same_list a b ≡ true → list_writes a ≡ list_writes b
list_alike a b h =
    let e : spelling a ≡ spelling b = (bytes_decides (spelling a) (spelling b)).0 h in
    let counts : word (length a) ≡ word (length b) =
    sym (take_at (word (length a)) (flat_map piece a) 4 refl) ∙ ap (take 4) e
    ∙ take_at (word (length b)) (flat_map piece b) 4 refl in
    let pieces : flat_map piece a ≡ flat_map piece b =
    sym (drop_at (word (length a)) (flat_map piece a) 4 refl) ∙ ap (drop 4) e
    ∙ drop_at (word (length b)) (flat_map piece b) 4 refl in
    λ i. counts i ∷ pieces i ∷ []
