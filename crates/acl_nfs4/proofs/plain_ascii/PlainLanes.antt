-- What the answer of a test of lanes says about the bytes that were loaded.
use Rattle.acl_nfs4.proofs.Common.{All-from_all_within, ap, ArePlain, arith, Bool, cond, count_trailing_zeros, eqb, false, get_or, get_or-take, get_or_default, is_plain_ascii, leb, length, length-map, length-take, List, list_all, list_all-from_AllPass, map, nat_tests, not, prefix_len, refl, replicate, subst, sym, take, true, w8, ℕ, ◌%◌, ◌+◌, ◌-◌, ◌<◌, ◌^◌, ◌∙◌, ◌≡◌, ◌≤◌}
use Rattle.std.proofs.Common.{Fits}
use Rattle.std.specs.Simd.Lanes.{zip2, mask_l, chunk, top}
use Rattle.std.proofs.lemmas.Simd.{length-chunk, zip2_splat, zip2_splat_left, map-map, tops_compared, mask_l-mod, none_from_empty_mask, first_set_mask_l, run_in_chunk_fails}

-- a byte minus another, with wrapping
abbrev less : ℕ → ℕ → ℕ
less a b = (a + (256 - b)) % 256

-- whether a byte is not plain ASCII, as a lane tests it
abbrev is_beyond : ℕ → Bool
is_beyond b = leb 95 (less b 32)

-- the answer of each lane, for lanes that were reduced by 32
abbrev beyond_lanes : ℕ → List ℕ → List ℕ
beyond_lanes n lowered = zip2 (λ a b. cond (leb a b) 255 0) (replicate n 95) lowered

-- the answer of all lanes of a load
abbrev pub beyond : ℕ → List ℕ → ℕ
beyond n lanes = mask_l (map (top 7) (beyond_lanes n (zip2 less lanes (replicate n 32)))) % 2 ^ 64

-- if its lane is not set, a byte is plain ASCII
plain_byte : (b : ℕ) → b < 256 → is_beyond b ≡ false → is_plain_ascii b ≡ true
plain_byte b small e = grind (arith, nat_tests)

-- the answer of all lanes is the mask of the bytes that are not plain ASCII
beyond_is : (n : ℕ) (lanes : List ℕ) → length lanes ≡ n → n ≤ 64 → beyond n lanes ≡ mask_l (map is_beyond lanes)
beyond_is n lanes long most =
    let lowered : List ℕ = map (λ b. less b 32) lanes in
    let as_long : length lowered ≡ n = omega (arith, long, length-map lanes (λ b. less b 32)) in
    let tests : map (top 7) (beyond_lanes n (zip2 less lanes (replicate n 32))) ≡ map is_beyond lanes =
    ap (λ ls. map (top 7) (beyond_lanes n ls)) (zip2_splat less lanes n 32 long)
    ∙ tops_compared w8 leb (replicate n 95) lowered ∙ zip2_splat_left leb 95 n lowered as_long
    ∙ map-map (λ b. leb 95 b) (λ b. less b 32) lanes in
    ap (λ ms. mask_l ms % 2 ^ 64) tests
    ∙ mask_l-mod (map is_beyond lanes) 64 (omega (arith, length-map lanes is_beyond))

-- if no lane is set, each loaded byte is plain ASCII
pub plain_where_none : (bytes : List ℕ) (at n : ℕ) → ((k : ℕ) → Fits w8 (get_or bytes k 0)) → n ≤ 64
    → at + n ≤ length bytes → beyond n (chunk at n bytes) ≡ 0 → ArePlain bytes at (at + n)
plain_where_none bytes at n fits most inside e = λ k d from to.
    let none : mask_l (map is_beyond (chunk at n bytes)) ≡ 0 =
    sym (beyond_is n (chunk at n bytes) (length-chunk at n bytes inside) most) ∙ e in
    let here : get_or bytes k d ≡ get_or bytes k 0 = get_or_default bytes k d 0 (omega arith) in
    rw here (plain_byte (get_or bytes k 0) (fits k).fits
    (none_from_empty_mask is_beyond bytes at n 0 inside none k from to))

-- bytes that are all plain ASCII pass the test of each byte
pub plain_whole : (bytes : List ℕ) → ArePlain bytes 0 (length bytes) → list_all is_plain_ascii bytes ≡ true
plain_whole bytes plain = list_all-from_AllPass is_plain_ascii bytes
    (All-from_all_within (λ b. is_plain_ascii b ≡ true) bytes plain)

-- if the first lane that is set is after a front, each byte of the front is plain ASCII
pub plain_front : (bytes : List ℕ) (n len : ℕ) → ((k : ℕ) → Fits w8 (get_or bytes k 0)) → n ≤ 64
    → n ≤ length bytes → len ≤ n → len ≤ count_trailing_zeros 64 (beyond n (chunk 0 n bytes)) → ArePlain bytes 0 len
plain_front bytes n len fits most inside short behind = λ k d from to.
    let lanes = chunk 0 n bytes in
    let room : 0 + n ≤ length bytes = omega (arith, inside) in
    let long : length lanes ≡ n = length-chunk 0 n bytes room in
    let is : beyond n lanes ≡ mask_l (map is_beyond lanes) = beyond_is n lanes long most in
    let first = first_set_mask_l is_beyond lanes n long most in
    let hits = mask_l (map is_beyond lanes) in
    let least : len ≤ cond (eqb hits 0) n (count_trailing_zeros 64 hits) =
    elim (eqb hits 0) as (λ b. len ≤ cond b n (count_trailing_zeros 64 hits)) [
      | true ↦ short
      | false ↦ subst (λ (z : ℕ). len ≤ count_trailing_zeros 64 z) is behind
    ] in
    let run : len ≤ prefix_len (λ b. not (is_beyond b)) lanes = subst (λ (z : ℕ). len ≤ z) first least in
    let here : get_or bytes k d ≡ get_or bytes k 0 = get_or_default bytes k d 0 (omega (arith, to, short, inside)) in
    rw here (plain_byte (get_or bytes k 0) (fits k).fits
    (run_in_chunk_fails is_beyond bytes 0 n (prefix_len (λ b. not (is_beyond b)) lanes) 0 room refl k from
    (omega (arith, to, run))))

-- a front of plain ASCII passes the test of each byte
pub plain_front_whole : (bytes : List ℕ) (len : ℕ) → len ≤ length bytes → ArePlain bytes 0 len
    → list_all is_plain_ascii (take len bytes) ≡ true
plain_front_whole bytes len inside plain = plain_whole (take len bytes) (λ k d from to.
    let lt : k < len = omega (arith, to, length-take len bytes) in
    rw (get_or-take len bytes k d lt) (plain k d from lt))
