-- The number of bytes of an accepted list is limited.
use Rattle.acl_nfs4.proofs.Common.{[], Ace, aces_of, AllByRecursion, ap, arith, flat_map, full, IsAccepted, IsAce, IsList, length, length-append, length-replicate, List, pad_len, piece, Profile, replicate, spelling, word, ℕ, ◌*◌, ◌+◌, ◌<◌, ◌^◌, ◌∷◌, ◌≡◌, ◌≤◌}
use Rattle.acl_nfs4.proofs.xdr.Fields.{who_bounds}

-- the piece of an ACE has at most 1,044 bytes
ace_short : (p : Profile) (a : Ace) → IsAce p a → length (piece a) ≤ 1044
ace_short p a is =
    let long = length-append a.who (replicate (pad_len (length a.who)) 0) in
    let pad = length-replicate {A = ℕ} (pad_len (length a.who)) 0 in
    omega (arith, (who_bounds a.who is.who).1)

-- the pieces of a list have at most 1,044 bytes per ACE
pieces_short : (p : Profile) (list : List Ace) → AllByRecursion (IsAce p) list
    → length (flat_map piece list) ≤ 1044 * length list
pieces_short p [] each = omega arith
pieces_short p (a ∷ list) each =
    omega (arith, length-append (piece a) (flat_map piece list), ace_short p a each.0, pieces_short p list each.1)

-- the spelling of an accepted list has less than 2 ^ 31 bytes
pub spelling_short : (p : Profile) (list : List Ace) → IsAccepted p list → length (spelling list) < 2 ^ 31
spelling_short p list is = omega (arith, pieces_short p list is.each, is.count)

-- the spelling of the list of a body has less than 2 ^ 31 bytes
pub list_short : (count : ℕ) (body : List ℕ) → IsList count body → length (spelling (aces_of count body)) < 2 ^ 31
list_short count body is =
    let s = is.body.spells in
    spelling_short full (aces_of count body)
    (record { count = omega (arith, is.body.whole, is.small); weight = s.weight; each = s.each })

-- the spelling of a list has four bytes more than its body
pub list_len : (count : ℕ) (body : List ℕ) → IsList count body
    → 4 + length body ≡ length (spelling (aces_of count body))
list_len count body is =
    let long = ap length is.body.spells.spelled in
    omega (arith, length-append (word (length (aces_of count body))) (flat_map piece (aces_of count body)))
