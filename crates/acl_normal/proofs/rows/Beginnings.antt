-- The bytes with which the names of a list begin, and heads of what is after them.
use Rattle.acl_normal.proofs.Common.{[], Ace, ace, AceRef, aces_in, ap, arith, BeginsWith, Bool, cases_lt, false, inl, inr, length, length-map, List, map, named_at, named_from, nat_cmp, Principal, principal_cmp, principal_here, principal_of, refl, slice_cmp, slice_index_or, subst, suc, sym, take, take_all, true, zero, ℕ, ◌+◌, ◌<◌, ◌∙◌, ◌∷◌, ◌≡◌, ◌≤◌, ◌⊎◌}
use Rattle.std.specs.List.{All, Contains}
use Rattle.acl_normal.specs.declared.rows.numbers.HeadedPlace.{HeadedPlace}
use Rattle.acl_normal.specs.internal.rows.Heads.{AllBegin, IsHeadOf, is_whole}
use Rattle.acl_normal.specs.internal.rows.RowNumbers.{AreHeaded, DoHeadsTell, tail_here}
use Rattle.acl_normal.proofs.rows.HeadOrder.{lesser_head, ranks_alike, whole_same}
use Rattle.acl_normal.proofs.Whoms.{compared_by_whos}
use Rattle.acl_normal.proofs.rows.ByPlace.{named_in}
use Rattle.std.proofs.lemmas.List.{length-take}

-- the first bytes of the first bytes are the first bytes
take_within : (k n : ℕ) (xs : List ℕ) → k ≤ n → take k (take n xs) ≡ take k xs
take_within zero n xs l = refl
take_within (suc k) zero xs l = absurd (omega (arith, l))
take_within (suc k) (suc n) [] l = refl
take_within (suc k) (suc n) (x ∷ xs) l = ap (λ v. x ∷ v) (take_within k n xs (omega (arith, l)))

-- a name that begins with some bytes begins with the first of these bytes
begins_shorter : (start less : List ℕ) (p : Principal) → less ≡ take (length less) start → BeginsWith start p
    → BeginsWith less p
begins_shorter start less p e h name n =
    e ∙ ap (take (length less)) (h name n)
    ∙ take_within (length less) (length start) name
    (omega (arith, ap length e, length-take (length less) start))

-- if the next name and those before begin with the shorter bytes, all names up to the next one do
pub begin_more : (aces : List AceRef) (start less : List ℕ) (i : ℕ) (a : AceRef) → i < length aces
    → a ≡ slice_index_or aces i a → less ≡ take (length less) start → BeginsWith less (principal_of (ace a))
    → ((k : ℕ) → k < i → BeginsWith start (principal_here (aces_in aces) k))
    → (k : ℕ) → k < i + 1 → BeginsWith less (principal_here (aces_in aces) k)
begin_more aces start less i a l here e last before k u = go (cases_lt k i)
  where
    go : (k < i) ⊎ (i ≤ k) → BeginsWith less (principal_here (aces_in aces) k)
    go (inl b) = begins_shorter start less (principal_here (aces_in aces) k) e (before k b)
    go (inr b) =
        let same : i ≡ k = omega (arith, u, b) in
        subst (BeginsWith less) (named_in aces i a l here ∙ ap (principal_here (aces_in aces)) same) last

-- the place is one of the list, and the head is of whom its ACE names
pub record IsHeaded (common : ℕ) (xs : List Ace) (n : HeadedPlace) : Type 0 where
  pub within : n.place < length xs
  pub head : IsHeadOf common n.head (principal_here xs n.place)

-- heads of the names after a common beginning show the order of the places
pub heads_tell : (start : List ℕ) (xs : List Ace) (places : List HeadedPlace) → AllBegin start xs
    → All (IsHeaded (length start) xs) places → DoHeadsTell xs places
heads_tell start xs places begin h = record {
  lesser = λ m n c d l. let at = is m c in
      let other = is n d in
      lesser_head start m.head n.head (principal_here xs m.place) (principal_here xs n.place) at.head other.head
      (begin m.place at.within) (begin n.place other.within) l;
  same = λ m n c d e. alike m n (is m c) (is n d) e (is_whole m.head) refl;
}
  where
    alike : (m n : HeadedPlace) → IsHeaded (length start) xs m → IsHeaded (length start) xs n → m.head ≡ n.head
        → (whole : Bool) → is_whole m.head ≡ whole
        → principal_cmp (principal_here xs m.place) (principal_here xs n.place)
        ≡ slice_cmp nat_cmp (tail_here xs m) (tail_here xs n)
    alike m n at other e true is =
        whole_same start m.head n.head (principal_here xs m.place) (principal_here xs n.place) at.head other.head
        (begin m.place at.within) (begin n.place other.within) e is
        ∙ sym (rw (is, sym (ap is_whole e) ∙ is) refl)
    alike m n at other e false is =
        compared_by_whos xs m.place n.place at.within other.within
        (ranks_alike (length start) m.head n.head (principal_here xs m.place) (principal_here xs n.place) at.head
        other.head e)
        ∙ sym (rw (is, sym (ap is_whole e) ∙ is) refl)

    is : (n : HeadedPlace) → Contains places n → IsHeaded (length start) xs n
    is n c = subst (IsHeaded (length start) xs) c.2 (h c.0 n c.1)

-- the place of an ACE and the head of its principal make a headed place
pub headed_here : (common : ℕ) (aces : List AceRef) (i : ℕ) (a : AceRef) (head : ℕ) {p : Principal} → i < length aces
    → a ≡ slice_index_or aces i a → p ≡ principal_of (ace a) → IsHeadOf common head p
    → IsHeaded common (aces_in aces) (record { head = head; place = i })
headed_here common aces i a head l here whom is = record {
  within = omega (arith, l, length-map aces ace);
  head = subst (IsHeadOf common head) (whom ∙ named_in aces i a l here) is;
}

-- after the last place, all places have their heads
pub headed_all : (start : List ℕ) (aces : List AceRef) (places : List HeadedPlace) (i : ℕ) → length aces ≤ i
    → AllBegin start (aces_in aces)
    → map (named_at (aces_in aces)) places ≡ named_from 0 (aces_in (take i aces))
    → All (IsHeaded (length start) (aces_in aces)) places → AreHeaded (aces_in aces) places
headed_all start aces places i l begin names heads = record {
  names = names ∙ ap (λ v. named_from 0 (aces_in v)) (take_all i aces l);
  heads = heads_tell start (aces_in aces) places begin heads;
}
