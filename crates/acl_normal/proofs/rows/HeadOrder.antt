-- A head that is less is of a principal that comes first.
use Rattle.std.specs.Prelude.{get_or}
use Rattle.acl_normal.proofs.Common.{[], ap, arith, BeginsWith, cases_lt, drop, Equal, everyone, Greater, group, group_named, inl, inr, length, Less, List, nat_cmp, nat_cmp_is, Ordering, owner, Principal, principal, principal_cmp, principal_name, refl, slice_cmp, subst, suc, sym, take, user, zero, ℕ, true, ◌%◌, ◌*◌, ◌+◌, ◌<◌, ◌∙◌, ◌∷◌, ◌≡◌, ◌≤◌, ◌⊎◌}
use Rattle.std.specs.Ordering.{ordering_then}
use Rattle.std.proofs.lemmas.Map.Lookups.{exact_unsigned}
use Rattle.std.proofs.lemmas.Bool.{ltb-true}
use Rattle.acl_perm.specs.Order.{principal_rank}
use Rattle.acl_perm.specs.declared.principal.Principal.{Principal as PrincipalRef}
use Rattle.acl_nfs4.specs.internal.Progress.{IsBytes}
use Rattle.acl_normal.specs.internal.rows.Heads.{HasHead, IsHeadOf, count_to, head_from, is_whole, principal_head}
use Rattle.acl_nfs4.proofs.Exports.{IsBytes-drop}

-- a number that is less than another is less in the order
less : (x y : ℕ) → x < y → nat_cmp x y ≡ Less
less x y l = sym (nat_cmp_is x y Less l)

-- equal numbers are equal in the order
equal : (x y : ℕ) → x ≡ y → nat_cmp x y ≡ Equal
equal x y e = sym (nat_cmp_is x y Equal e)

-- a number that is greater than another is greater in the order
greater : (x y : ℕ) → y < x → nat_cmp x y ≡ Greater
greater x y l = sym (nat_cmp_is x y Greater l)

-- bytes without the first one are bytes
tail_bytes : (b : ℕ) (xs : List ℕ) → IsBytes (b ∷ xs) → IsBytes xs
tail_bytes b xs h i = h (suc i)

-- the empty list is one of bytes
no_bytes : IsBytes []
no_bytes i = omega arith

-- there are as many bytes as the number at most
count_most : (n : ℕ) (xs : List ℕ) → count_to n xs ≤ n
count_most zero xs = omega arith
count_most (suc n) [] = omega arith
count_most (suc n) (b ∷ xs) = omega (arith, count_most n xs)

-- the lowest byte of a head is the count
count_lowest : (n m c : ℕ) (xs : List ℕ) → c < 256 → head_from m n xs c % 256 ≡ c
count_lowest zero m c xs l = omega (arith, l)
count_lowest (suc n) m c xs l = count_lowest n (m * 256 + get_or xs 0 0) c (drop 1 xs) l

-- the number before the bytes decides which of two heads is less
before_decides : (n m k c d : ℕ) (xs ys : List ℕ) → c < 256 → IsBytes xs → m < k
    → head_from m n xs c < head_from k n ys d
before_decides zero m k c d xs ys u h l = omega (arith, u, l)
before_decides (suc n) m k c d xs ys u h l =
    before_decides n (m * 256 + get_or xs 0 0) (k * 256 + get_or ys 0 0) c d (drop 1 xs) (drop 1 ys) u (rest xs h)
    (omega (arith, h 0, l))
  where
    rest : (xs : List ℕ) → IsBytes xs → IsBytes (drop 1 xs)
    rest [] h = h
    rest (b ∷ xs) h = tail_bytes b xs h

-- the head of no bytes is at most the head of any bytes with the same number before
nothing_first : (n m c d : ℕ) (ys : List ℕ) → c ≤ d → c < 256 → head_from m n [] c ≤ head_from m n ys d
nothing_first zero m c d ys l u = omega (arith, l)
nothing_first (suc n) m c d ys l u = go (nothing_first n (m * 256 + 0) c d (drop 1 ys) l u) (get_or ys 0 0) refl
  where
    go : head_from (m * 256 + 0) n [] c ≤ head_from (m * 256 + 0) n (drop 1 ys) d → (b : ℕ) → get_or ys 0 0 ≡ b
        → head_from m (suc n) [] c ≤ head_from m (suc n) ys d
    go h zero e = rw e h
    go h (suc b) e =
        let l = before_decides n (m * 256 + 0) (m * 256 + get_or ys 0 0) c d [] (drop 1 ys) u no_bytes
        (omega (arith, e)) in
        omega (arith, l)

-- one of two numbers is less, or they are one number
numbers_compared : {A : Type 0} (m k : ℕ) → (m < k → A) → (k < m → A) → (m ≡ k → A) → A
numbers_compared {A} m k below above same = go (cases_lt m k) (cases_lt k m)
  where
    go : (m < k) ⊎ (k ≤ m) → (k < m) ⊎ (m ≤ k) → A
    go (inl l) _ = below l
    go (inr l) (inl u) = above u
    go (inr l) (inr u) = same (omega (arith, l, u))

-- two numbers, compared first, leave an answer as it is
abbrev Agrees : ℕ → ℕ → Ordering → Type 0
Agrees m k o = ordering_then (nat_cmp m k) o ≡ o

-- numbers that never say other than the answer
agrees_from : (m k : ℕ) (o : Ordering) → (m < k → o ≡ Less) → (k < m → o ≡ Greater) → Agrees m k o
agrees_from m k o below above =
    numbers_compared m k (λ l. rw (less m k l) (sym (below l))) (λ l. rw (greater m k l) (sym (above l)))
    (λ e. rw (equal m k e) refl)

-- heads that follow the bytes before them, and agree with the rest where these are equal
agrees_decided : (b c m k : ℕ) (rest : Ordering) → (b < c → m < k) → (c < b → k < m) → (b ≡ c → Agrees m k rest)
    → Agrees m k (ordering_then (nat_cmp b c) rest)
agrees_decided b c m k rest below above same =
    numbers_compared b c
    (λ l. rw (less b c l) (agrees_from m k Less (λ h. refl) (λ h. absurd (omega (arith, h, below l)))))
    (λ l. rw (greater b c l) (agrees_from m k Greater (λ h. absurd (omega (arith, h, above l))) (λ h. refl)))
    (λ e. rw (equal b c e) (same e))

-- the counts of two names, after this many of their bytes were passed
record AreCounts (n before c d : ℕ) (xs ys : List ℕ) : Type 0 where
  first : c ≡ before + count_to (suc n) xs
  second : d ≡ before + count_to (suc n) ys
  low : c < 256
  also : d < 256

-- the counts of two names are those of what is after one byte more
counts_on : (n before c d b e : ℕ) (xs ys : List ℕ) → AreCounts (suc n) before c d (b ∷ xs) (e ∷ ys)
    → AreCounts n (before + 1) c d xs ys
counts_on n before c d b e xs ys h = record {
  first = omega (arith, h.first);
  second = omega (arith, h.second);
  low = h.low;
  also = h.also;
}

-- after equal bytes, the heads never say other than the names
names_agree : (n before m k c d : ℕ) (xs ys : List ℕ) → AreCounts n before c d xs ys → IsBytes xs → IsBytes ys → m ≡ k
    → Agrees (head_from m n xs c) (head_from k n ys d) (slice_cmp nat_cmp xs ys)
names_agree zero before m k c d [] [] h f g e =
    rw (equal (m * 256 + c) (k * 256 + d) (omega (arith, e, h.first, h.second))) refl
names_agree zero before m k c d [] (y ∷ ys) h f g e =
    rw (less (m * 256 + c) (k * 256 + d) (omega (arith, e, h.first, h.second))) refl
names_agree zero before m k c d (x ∷ xs) [] h f g e =
    rw (greater (m * 256 + c) (k * 256 + d) (omega (arith, e, h.first, h.second))) refl
names_agree zero before m k c d (x ∷ xs) (y ∷ ys) h f g e =
    rw (equal (m * 256 + c) (k * 256 + d) (omega (arith, e, h.first, h.second))) refl
names_agree (suc n) before m k c d [] [] h f g e =
    let same : c ≡ d = omega (arith, h.first, h.second) in
    rw (e, same) (rw (equal (head_from k (suc n) [] d) (head_from k (suc n) [] d) refl) refl)
names_agree (suc n) before m k c d [] (y ∷ ys) h f g e =
    rw e
    (agrees_from (head_from k (suc n) [] c) (head_from k (suc n) (y ∷ ys) d) Less (λ l. refl)
    (λ l. absurd (omega (
      arith,
      l,
      nothing_first (suc n) k c d (y ∷ ys) (omega (arith, h.first, h.second)) h.low,
    ))))
names_agree (suc n) before m k c d (x ∷ xs) [] h f g e =
    rw e
    (agrees_from (head_from k (suc n) (x ∷ xs) c) (head_from k (suc n) [] d) Greater
    (λ l. absurd (omega (
      arith,
      l,
      nothing_first (suc n) k d c (x ∷ xs) (omega (arith, h.first, h.second)) h.also,
    ))) (λ l. refl))
names_agree (suc n) before m k c d (x ∷ xs) (y ∷ ys) h f g e =
    agrees_decided x y (head_from (m * 256 + x) n xs c) (head_from (k * 256 + y) n ys d) (slice_cmp nat_cmp xs ys)
    (λ l. before_decides n (m * 256 + x) (k * 256 + y) c d xs ys h.low (tail_bytes x xs f) (omega (arith, e, l)))
    (λ l. before_decides n (k * 256 + y) (m * 256 + x) d c ys xs h.also (tail_bytes y ys g) (omega (arith, e, l)))
    (λ l. names_agree n (before + 1) (m * 256 + x) (k * 256 + y) c d xs ys (counts_on n before c d x y xs ys h)
    (tail_bytes x xs f) (tail_bytes y ys g) (omega (arith, e, l)))

-- where the heads are one number and have the whole names, the names are the same
names_same : (n before m k c : ℕ) (xs ys : List ℕ) → AreCounts n before c c xs ys → c ≤ before + n → IsBytes xs
    → IsBytes ys → m ≡ k → head_from m n xs c ≡ head_from k n ys c → slice_cmp nat_cmp xs ys ≡ Equal
names_same n before m k c [] [] h w f g e is = refl
names_same n before m k c [] (y ∷ ys) h w f g e is = absurd (omega (arith, h.first, h.second))
names_same n before m k c (x ∷ xs) [] h w f g e is = absurd (omega (arith, h.first, h.second))
names_same zero before m k c (x ∷ xs) (y ∷ ys) h w f g e is = absurd (omega (arith, h.first, w))
names_same (suc n) before m k c (x ∷ xs) (y ∷ ys) h w f g e is =
    numbers_compared x y
    (λ l. absurd (omega (
      arith,
      is,
      before_decides n (m * 256 + x) (k * 256 + y) c c xs ys h.low (tail_bytes x xs f) (omega (arith, e, l)),
    )))
    (λ l. absurd (omega (
      arith,
      is,
      before_decides n (k * 256 + y) (m * 256 + x) c c ys xs h.low (tail_bytes y ys g) (omega (arith, e, l)),
    )))
    (λ l. ap (λ o. ordering_then o (slice_cmp nat_cmp xs ys)) (equal x y l)
    ∙ names_same n (before + 1) (m * 256 + x) (k * 256 + y) c xs ys (counts_on n before c c x y xs ys h)
    (omega (arith, w)) (tail_bytes x xs f) (tail_bytes y ys g) (omega (arith, e, l)) is)

-- names with equal first bytes are ordered as what is after these bytes
compared_behind : (c : ℕ) (xs ys : List ℕ) → take c xs ≡ take c ys
    → slice_cmp nat_cmp (drop c xs) (drop c ys) ≡ slice_cmp nat_cmp xs ys
compared_behind zero xs ys e = refl
compared_behind (suc c) [] [] e = refl
compared_behind (suc c) [] (y ∷ ys) e = absurd (cc)
compared_behind (suc c) (x ∷ xs) [] e = absurd (cc)
compared_behind (suc c) (x ∷ xs) (y ∷ ys) e =
    compared_behind c xs ys (ap (drop 1) e)
    ∙ sym (ap (λ o. ordering_then o (slice_cmp nat_cmp xs ys)) (equal x y (ap (λ v. get_or v 0 0) e)))

-- the bytes of a name after the first ones
abbrev rest_of : ℕ → Principal → List ℕ
rest_of c p = drop c (principal_name p)

-- how many bytes of a name are after the first ones, where 7 is for more
abbrev count_of : ℕ → Principal → ℕ
count_of c p = count_to 7 (rest_of c p)

-- the counts of two names are those of their bytes after the first ones
counts_of : (c : ℕ) (p q : Principal) → AreCounts 6 0 (count_of c p) (count_of c q) (rest_of c p) (rest_of c q)
counts_of c p q = record {
  first = omega arith;
  second = omega arith;
  low = omega (arith, count_most 7 (rest_of c p));
  also = omega (arith, count_most 7 (rest_of c q));
}

-- the principal with the lesser rank has the lesser head
rank_decides : (c : ℕ) (p q : Principal) → IsBytes (principal_name p) → principal_rank p < principal_rank q
    → principal_head c p < principal_head c q
rank_decides c p q bytes l =
    before_decides 6 (principal_rank p) (principal_rank q) (count_of c p) (count_of c q) (rest_of c p) (rest_of c q)
    (counts_of c p q).low (IsBytes-drop c (principal_name p) bytes) l

-- the heads never say other than the principals, where names of one rank begin alike
heads_agree : (c m k : ℕ) (p q : Principal) → IsHeadOf c m p → IsHeadOf c k q
    → (principal_rank p ≡ principal_rank q → take c (principal_name p) ≡ take c (principal_name q))
    → Agrees m k (principal_cmp p q)
heads_agree c m k p q f g alike =
    rw (f.is, g.is)
    (agrees_decided (principal_rank p) (principal_rank q) (principal_head c p) (principal_head c q)
    (slice_cmp nat_cmp (principal_name p) (principal_name q))
    (rank_decides c p q f.bytes) (rank_decides c q p g.bytes)
    (λ e. subst (Agrees (principal_head c p) (principal_head c q))
    (compared_behind c (principal_name p) (principal_name q) (alike e))
    (names_agree 6 0 (principal_rank p) (principal_rank q) (count_of c p) (count_of c q) (rest_of c p) (rest_of c q)
    (counts_of c p q) (IsBytes-drop c (principal_name p) f.bytes) (IsBytes-drop c (principal_name q) g.bytes) e)))

-- if the heads of two principals differ, the principals are in the order of the heads
pub compared_as : (p q : PrincipalRef) (m k : ℕ) (answer : Ordering) → HasHead m p → HasHead k q
    → answer ≡ nat_cmp m k → (m ≡ k → ⊥) → answer ≡ principal_cmp (principal p) (principal q)
compared_as p q m k answer f g e unlike = e ∙ go (nat_cmp m k) refl ∙ whole
  where
    principals : Ordering
    principals = principal_cmp (principal p) (principal q)

    whole : Agrees m k principals
    whole = heads_agree 0 m k (principal p) (principal q) f g (λ _. refl)

    go : (o : Ordering) → nat_cmp m k ≡ o → o ≡ ordering_then o principals
    go Less is = refl
    go Equal is = absurd (unlike (exact_unsigned m k is))
    go Greater is = refl

-- names of one rank that begin with the same bytes have equal first bytes
begin_alike : (start : List ℕ) (p q : Principal) → BeginsWith start p → BeginsWith start q
    → principal_rank p ≡ principal_rank q
    → take (length start) (principal_name p) ≡ take (length start) (principal_name q)
begin_alike start (user a) (user b) h l e = sym (h a refl) ∙ l b refl
begin_alike start (group_named a) (group_named b) h l e = sym (h a refl) ∙ l b refl
begin_alike start owner owner h l e = refl
begin_alike start group group h l e = refl
begin_alike start everyone everyone h l e = refl
begin_alike start _ _ h l e = absurd (omega (arith, e))

-- the principal with the lesser head is the lesser one
pub lesser_head : (start : List ℕ) (m k : ℕ) (p q : Principal) → IsHeadOf (length start) m p
    → IsHeadOf (length start) k q → BeginsWith start p → BeginsWith start q → m < k → principal_cmp p q ≡ Less
lesser_head start m k p q f g h l below =
    sym (heads_agree (length start) m k p q f g (begin_alike start p q h l))
    ∙ ap (λ o. ordering_then o (principal_cmp p q)) (less m k below)

-- principals with the same head have one rank
pub ranks_alike : (c m k : ℕ) (p q : Principal) → IsHeadOf c m p → IsHeadOf c k q → m ≡ k
    → principal_rank p ≡ principal_rank q
ranks_alike c m k p q f g e =
    numbers_compared (principal_rank p) (principal_rank q)
    (λ l. absurd (omega (arith, e, f.is, g.is, rank_decides c p q f.bytes l)))
    (λ l. absurd (omega (arith, e, f.is, g.is, rank_decides c q p g.bytes l)))
    (λ e. e)

-- two principals with the same head, which has the whole name, are equal in the order
pub whole_same : (start : List ℕ) (m k : ℕ) (p q : Principal) → IsHeadOf (length start) m p
    → IsHeadOf (length start) k q → BeginsWith start p → BeginsWith start q → m ≡ k → is_whole m ≡ true
    → principal_cmp p q ≡ Equal
whole_same start m k p q f g h l e whole =
    ap (λ o. ordering_then o (slice_cmp nat_cmp (principal_name p) (principal_name q)))
    (equal (principal_rank p) (principal_rank q) ranks)
    ∙ sym (compared_behind c (principal_name p) (principal_name q) (begin_alike start p q h l ranks))
    ∙ names_same 6 0 (principal_rank p) (principal_rank q) (count_of c p) (rest_of c p) (rest_of c q)
    (subst (λ v. AreCounts 6 0 (count_of c p) v (rest_of c p) (rest_of c q)) (sym count) (counts_of c p q))
    (omega (arith, ltb-true (m % 256) 7 whole, ap (λ v. v % 256) f.is, first))
    (IsBytes-drop c (principal_name p) f.bytes) (IsBytes-drop c (principal_name q) g.bytes) ranks
    (sym f.is ∙ e ∙ g.is ∙ ap (head_from (principal_rank q) 6 (rest_of c q)) (sym count))
  where
    c : ℕ
    c = length start

    ranks : principal_rank p ≡ principal_rank q
    ranks = ranks_alike c m k p q f g e

    first : principal_head c p % 256 ≡ count_of c p
    first = count_lowest 6 (principal_rank p) (count_of c p) (rest_of c p) (counts_of c p q).low

    second : principal_head c q % 256 ≡ count_of c q
    second = count_lowest 6 (principal_rank q) (count_of c q) (rest_of c q) (counts_of c p q).also

    count : count_of c p ≡ count_of c q
    count = sym first ∙ ap (λ v. v % 256) (sym f.is ∙ e ∙ g.is) ∙ second
