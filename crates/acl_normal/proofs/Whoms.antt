-- Whos: those that do not end in `@` are names, and principals of one rank are in the order of their whos.
use Rattle.acl_normal.proofs.Common.{[], Ace, AceRef, aces_in, ap, arith, bytes_eq, everyone, everyone_name, false, false_from_ne_true, group, group_name, group_named, has_bit, identifier_group, if◌then◌else◌, length, List, nat_cmp, owner, owner_name, Principal, principal_cmp, principal_here, principal_of, refl, slice_cmp, slice_index_or, suc, sym, true, user, who_here, zero, ℕ, ◌<◌, ◌∙◌, ◌∷◌, ◌≡◌, ◌≤◌, who_for}
use Rattle.acl_perm.specs.Order.{principal_rank}
use Rattle.acl_normal.proofs.unique.Names.{bytes_eq_same}
use Rattle.acl_nfs4.specs.Who.{ends_in_at}

-- a who that does not end in `@` is not equal to a name that ends in `@`
no_special : (who name : List ℕ) → ends_in_at name ≡ true → ends_in_at who ≡ false → bytes_eq who name ≡ false
no_special who name h l =
    false_from_ne_true (bytes_eq who name)
    (λ e. let same = bytes_eq_same who name e in
    let clash : true ≡ false = sym h ∙ sym (ap ends_in_at same) ∙ l in
    cc)

-- the who of an ACE is that of its principal
pub who_is : (a : Ace) → who_for (principal_of a) ≡ a.who
who_is a = grind (arith, bytes_eq_same a.who)

-- two principals of one rank are in the order of their whos
whos_compare : (p q : Principal) → principal_rank p ≡ principal_rank q
    → principal_cmp p q ≡ slice_cmp nat_cmp (who_for p) (who_for q)
whos_compare (user a) (user b) e = refl
whos_compare (group_named a) (group_named b) e = refl
whos_compare owner owner e = refl
whos_compare group group e = refl
whos_compare everyone everyone e = refl
whos_compare _ _ e = absurd (omega (arith, e))

-- the who at a place is that of the principal there
who_at : (xs : List Ace) (i : ℕ) → i < length xs → who_for (principal_here xs i) ≡ who_here xs i
who_at [] i l = absurd (omega (arith, l))
who_at (a ∷ xs) zero l = who_is a
who_at (a ∷ xs) (suc i) l = who_at xs i (omega (arith, l))

-- if the principals at two places have one rank, they are in the order of the whos there
pub compared_by_whos : (xs : List Ace) (i j : ℕ) → i < length xs → j < length xs
    → principal_rank (principal_here xs i) ≡ principal_rank (principal_here xs j)
    → principal_cmp (principal_here xs i) (principal_here xs j)
    ≡ slice_cmp nat_cmp (who_here xs i) (who_here xs j)
compared_by_whos xs i j l u e =
    whos_compare (principal_here xs i) (principal_here xs j) e
    ∙ ap (λ v. slice_cmp nat_cmp v (who_for (principal_here xs j))) (who_at xs i l)
    ∙ ap (slice_cmp nat_cmp (who_here xs i)) (who_at xs j u)

-- the who that the code reads at a place is the one of the list there
pub who_in : (aces : List AceRef) (i : ℕ) (a : AceRef) → i < length aces → a ≡ slice_index_or aces i a
    → a.who.now ≡ who_here (aces_in aces) i
who_in [] i a l e = absurd (omega (arith, l))
who_in (b ∷ aces) zero a l e = ap (λ (v : AceRef). v.who.now) e
who_in (b ∷ aces) (suc i) a l e = who_in aces i a (omega (arith, l)) e

-- after the last place there is no who
pub who_after : (aces : List AceRef) (i : ℕ) → length aces ≤ i → who_here (aces_in aces) i ≡ []
who_after [] i l = refl
who_after (b ∷ aces) zero l = absurd (omega (arith, l))
who_after (b ∷ aces) (suc i) l = who_after aces i (omega (arith, l))

-- a who that does not end in `@` is the name of a user or of a group
pub plain_who : (a : Ace) → ends_in_at a.who ≡ false
    → principal_of a ≡ (if has_bit a.flags identifier_group then group_named a.who else user a.who)
plain_who a h =
    rw (no_special a.who owner_name refl h, no_special a.who group_name refl h, no_special a.who everyone_name refl h)
    refl
