-- The hashes of names, and which are marked.
use Rattle.std.proofs.Common.{◌≡◌, ◌≢◌, ◌⊎◌, ℕ, ◌+◌, ◌*◌, ◌/◌, ◌%◌, ◌^◌, ◌<◌, Bool, true, false, List, [], ◌∷◌, refl, sym, ap, ◌∙◌, arith, inl, inr, eqb, length, get_or, set}
use Rattle.std.proofs.lemmas.Bool.{cases_eq, eq-eqb, ne_eqb, or_right}
use Rattle.std.proofs.lemmas.List.{get_or-set_other, get_or-set_same}
use Rattle.std.proofs.lemmas.Nat.Bits.{bit_at_set_other, bit_at_set_same}
use Rattle.std.proofs.lemmas.Slice.Eq.{bytes_eq-Decides}
use Rattle.std.proofs.lemmas.List.Folds.{list_any_more}
use Rattle.std.proofs.Math.Bool.{or-false}
use Rattle.std.specs.Prelude.{◌||◌, bit_or, fold, map, nat_lt, take}
use Rattle.std.specs.Borrow.{Bor}
use Rattle.std.specs.Int.{w64}
use Rattle.std.specs.List.{list_any}
use Rattle.std.specs.Str.{bytes_eq}
use Rattle.acl_perm.specs.Bits.{has_bit}
use Rattle.acl_prepared.specs.Prepared.{name_hash}
use Rattle.acl_prepared.specs.internal.NameHashes.{AreHashesOf, is_marked}
use Rattle.acl_eval.proofs.Members.{any_now}

-- a hash is a byte
fold_below : (hash : ℕ) (name : List ℕ) → hash < 256 → fold (λ hash byte. (31 * hash + byte) % 256) hash name < 256
fold_below hash [] h = h
fold_below hash (b ∷ name) h = fold_below ((31 * hash + b) % 256) name (omega arith)

-- a hash is a byte
pub hash_below : (name : List ℕ) → name_hash name < 256
unfolding name_hash
hash_below name = by (nat_lt (length name) 8) refl
  where
    by : (short : Bool) → nat_lt (length name) 8 ≡ short → name_hash name < 256
    by true e = rw e (fold_below 0 name (omega arith))
    by false e = rw e (omega arith)

-- a hash is marked by setting its bit in its word
pub hash_set : (marks : List ℕ) (hash : ℕ) → hash / 64 < length marks → (other : ℕ)
    → is_marked (set marks (hash / 64) (bit_or (get_or marks (hash / 64) 0) (1 * 2 ^ (hash % 64) % 2 ^ 64))) other
    ≡ (is_marked marks other || eqb other hash)
hash_set marks hash lt other = elim (cases_eq (other / 64) (hash / 64)) [
  | inl word ↦ ap (λ (n : ℕ). has_bit n (other % 64)) (ap (λ (i : ℕ). get_or new i 0) word ∙ here)
      ∙ in_word word (cases_eq (other % 64) (hash % 64))
  | inr differ ↦ ap (λ (n : ℕ). has_bit n (other % 64)) (get_or-set_other marks (hash / 64) (other / 64) more 0 differ)
      ∙ unchanged (λ same. differ (ap (λ (k : ℕ). k / 64) same))
]
  where
    old : ℕ
    old = get_or marks (hash / 64) 0

    more : ℕ
    more = bit_or old (1 * 2 ^ (hash % 64) % 2 ^ 64)

    new : List ℕ
    new = set marks (hash / 64) more

    here : get_or new (hash / 64) 0 ≡ more
    here = get_or-set_same marks (hash / 64) more 0 lt

    unchanged : other ≢ hash → is_marked marks other ≡ (is_marked marks other || eqb other hash)
    unchanged differ = sym (ap (λ (b : Bool). is_marked marks other || b) (ne_eqb other hash differ)
        ∙ or-false (is_marked marks other))

    in_word : other / 64 ≡ hash / 64 → (other % 64 ≡ hash % 64) ⊎ (other % 64 ≢ hash % 64)
        → has_bit more (other % 64) ≡ (is_marked marks other || eqb other hash)
    in_word word (inl bit) =
        ap (has_bit more) bit ∙ ap (λ (d : ℕ). eqb d 1) (bit_at_set_same w64 old (hash % 64) (omega arith))
        ∙ sym (or_right (is_marked marks other) (eqb other hash) (eq-eqb other hash (omega arith)))
    in_word word (inr differ) =
        ap (λ (d : ℕ). eqb d 1) (bit_at_set_other w64 old (hash % 64) (omega arith) (other % 64) differ)
        ∙ ap (λ (i : ℕ). has_bit (get_or marks i 0) (other % 64)) (sym word)
        ∙ unchanged (λ same. differ (ap (λ (k : ℕ). k % 64) same))

-- all hashes of these names are marked after one more name is marked
pub hashes_more : (marks new : List ℕ) (names : List (Bor (List ℕ))) (i hash : ℕ) (name : Bor (List ℕ))
    → i < length names → hash ≡ name_hash (get_or names i name).now
    → ((other : ℕ) → is_marked new other ≡ (is_marked marks other || eqb other hash))
    → AreHashesOf marks (map (λ g. g.now) (take i names))
    → AreHashesOf new (map (λ g. g.now) (take (i + 1) names))
hashes_more marks new names i hash name lt is added old other h =
    added (name_hash other) ∙ by (list_any (λ g. bytes_eq other g.now) (take i names)) refl
  where
    some : (list_any (λ g. bytes_eq other g.now) (take i names) || bytes_eq other (get_or names i name).now) ≡ true
    some = sym (list_any_more (λ g. bytes_eq other g.now) names i name lt)
        ∙ sym (any_now (bytes_eq other) (take (i + 1) names)) ∙ h

    by : (t : Bool) → list_any (λ g. bytes_eq other g.now) (take i names) ≡ t
        → (is_marked marks (name_hash other) || eqb (name_hash other) hash) ≡ true
    by true e =
        ap (λ (b : Bool). b || eqb (name_hash other) hash) (old other (any_now (bytes_eq other) (take i names) ∙ e))
    by false e =
        let found : bytes_eq other (get_or names i name).now ≡ true = rw e at some in
        let same : name_hash other ≡ hash =
        ap name_hash ((bytes_eq-Decides other (get_or names i name).now).0 found) ∙ sym is in
        or_right (is_marked marks (name_hash other)) (eqb (name_hash other) hash) (eq-eqb (name_hash other) hash same)
