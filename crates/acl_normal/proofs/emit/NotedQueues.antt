-- The queues of a list are made from the last place to the first, bit by bit.
use Rattle.acl_normal.proofs.Common.{Ace, AreNoted, AreQueues, Bool, Kind, List, [], and_parts, ap, arith, cases_eq, cases_lt, counts, false, has_bit, inl, inr, is_at, is_user, kind_eq, length, length-append, length-set, list_any, mask_here, nat_cmp, or_cases, or_right, principal_here, principal_of, refl, same_class, slot_of, subst, suc, sym, true, waits, zero, ℕ, ⊎_elim, ◌&&◌, ◌++◌, ◌+◌, ◌<◌, ◌∙◌, ◌∷◌, ◌≡◌, ◌≤◌, ◌⊎◌}
use Rattle.acl_normal.specs.internal.NextRight.{LacksFrom}
use Rattle.acl_normal.specs.internal.Places.{kind_here}
use Rattle.acl_normal.proofs.unique.NextRight.{past_absent}
use Rattle.acl_normal.specs.internal.emit.Queues.{IsChain, IsNoted, IsNotedAt, PutsPlace, head_in}
use Rattle.acl_normal.specs.internal.rows.Remaining.{IsRemainder}
use Rattle.acl_normal.specs.declared.emit.queues.Link.{Link}
use Rattle.acl_normal.specs.declared.emit.queues.Queues.{Queues}
use Rattle.acl_normal.proofs.emit.RemainingLemmas.{waits_has}
use Rattle.acl_normal.proofs.emit.Chains.{chain_grows, chain_put}
use Rattle.acl_normal.proofs.emit.QueueChains.{head_kept, head_set, slot_there}
use Rattle.acl_normal.proofs.unique.Names.{kind_eq_same}
use Rattle.acl_normal.proofs.rows.Slots.{class_same, is_eq_same, slot_same}
use Rattle.acl_normal.proofs.rows.WaitingKeys.{waits_within}
use Rattle.acl_normal.proofs.rows.PlaceLists.{front_in, none_sorted, sorted_before}

-- the kind and the class in which a place waits are those of the key there
waits_key : (k : Kind) (u : Bool) (b : ℕ) (xs : List Ace) (i : ℕ) → waits k u b xs i ≡ true
    → (kind_here xs i ≡ k) × (is_user (principal_here xs i) ≡ u)
waits_key k u b [] i h = cc
waits_key k u b (a ∷ xs) zero h =
    let both = and_parts (counts b a) (kind_eq a.kind k && same_class (is_user (principal_of a)) u) h in
    let rest = and_parts (kind_eq a.kind k) (same_class (is_user (principal_of a)) u) both.1 in
    (kind_eq_same a.kind k rest.0, class_same (is_user (principal_of a)) u rest.1)
waits_key k u b (a ∷ xs) (suc i) h = waits_key k u b xs i h

-- what is noted of the bits below m is noted of the bits below m + 1
noted_more : (n m b i : ℕ) → IsNoted n m b i → IsNoted n (m + 1) b i
noted_more n m b i (inl h) = inl h
noted_more n m b i (inr h) = inr (h.0, omega (arith, h.1))

-- if what waits is noted at one pair of bounds if and only if it is at another, its chain serves for both
noted_as : (k : Kind) (u : Bool) (b : ℕ) (xs : List Ace) (n m i j : ℕ) {links more : List Link} {at : ℕ}
    → ((places : List ℕ) → IsChain links at places → IsChain more at places)
    → ((place : ℕ) → IsNoted n m b place → IsNoted i j b place)
    → ((place : ℕ) → waits k u b xs place ≡ true → IsNoted i j b place → IsNoted n m b place)
    → IsNotedAt k u b xs n m links at → IsNotedAt k u b xs i j more at
noted_as k u b xs n m i j chain there back q = record {
  places = q.places;
  chain = chain q.places q.chain;
  sorted = q.sorted;
  noted = λ place h. there place (q.noted place h);
  waiting = q.waiting;
  all = λ place noted w. q.all place (back place w noted) w;
}

-- before the first turn no place is noted, and all queues are empty
pub noted_none : (xs : List Ace) (queues : Queues) → length queues.heads.items ≡ 84 → 0 < length queues.links.items
    → ((slot : ℕ) → head_in queues slot ≡ 0) → AreNoted xs (length xs) 0 queues
noted_none xs queues slots some none = record {
  slots = slots;
  some = some;
  each = λ k u b l. record {
    places = [];
    chain = none (slot_of k u b);
    sorted = none_sorted;
    noted = λ i h. cc h;
    waiting = λ i h. cc h;
    all = λ i noted w. absurd (beyond (waits_within k u b xs i w) noted);
  };
}
  where
    beyond : {i b : ℕ} → i < length xs → IsNoted (length xs) 0 b i → ⊥
    beyond l (inl h) = omega (arith, l, h)
    beyond l (inr h) = omega (arith, h.1)

-- if the ACE of the place lacks bit m, its bits below m + 1 are noted if those below m are
pub noted_skip : (xs : List Ace) (place m : ℕ) (queues : Queues) → has_bit (mask_here xs place) m ≡ false
    → AreNoted xs (place + 1) m queues → AreNoted xs (place + 1) (m + 1) queues
noted_skip xs place m queues lacks qs = record {
  slots = qs.slots;
  some = qs.some;
  each = λ k u b l.
      noted_as k u b xs (place + 1) m (place + 1) (m + 1) (λ places chain. chain) (noted_more (place + 1) m b)
      (less k u b) (qs.each k u b l);
}
  where
    less : (k : Kind) (u : Bool) (b i : ℕ) → waits k u b xs i ≡ true → IsNoted (place + 1) (m + 1) b i
        → IsNoted (place + 1) m b i
    less k u b i w (inl h) = inl h
    less k u b i w (inr h) = ⊎_elim (λ l. inr (h.0, l)) (λ g. absurd (clash (omega (arith, g, h.1)))) (cases_lt b m)
      where
        clash : b ≡ m → ⊥
        clash e =
            let has : has_bit (mask_here xs place) m ≡ true =
            ap (λ v. has_bit (mask_here xs v) m) (omega (arith, h.0))
            ∙ ap (has_bit (mask_here xs i)) (sym e) ∙ waits_has k u b xs i w in
            cc (sym has ∙ lacks)

-- if the place lacks the bits from m up to n, the queues with it below m are those with it below n
pub noted_up_to : (xs : List Ace) (place : ℕ) {mask m n : ℕ} (queues : Queues) → mask ≡ mask_here xs place → m ≤ n
    → LacksFrom mask m n → AreNoted xs (place + 1) m queues → AreNoted xs (place + 1) n queues
noted_up_to xs place {mask} {m} {n} queues is from lacks qs =
    past_absent (λ v. AreNoted xs (place + 1) v queues) mask m n
    (λ v so none. noted_skip xs place v queues (ap (λ w. has_bit w v) (sym is) ∙ none) so) from lacks qs

-- a queue of another slot than the one into which the place was put has what it had
noted_elsewhere : (kind : Kind) (users : Bool) (xs : List Ace) (place m : ℕ) (k : Kind) (u : Bool) (b : ℕ)
    {links : List Link} {at : ℕ} (link : Link) → waits kind users m xs place ≡ true
    → (slot_of k u b ≡ slot_of kind users m → ⊥) → IsNotedAt k u b xs (place + 1) m links at
    → IsNotedAt k u b xs (place + 1) (m + 1) (links ++ link ∷ []) at
noted_elsewhere kind users xs place m k u b {links} {at} link waiting d =
    noted_as k u b xs (place + 1) m (place + 1) (m + 1) (chain_grows links link at) (noted_more (place + 1) m b) less
  where
    less : (i : ℕ) → waits k u b xs i ≡ true → IsNoted (place + 1) (m + 1) b i → IsNoted (place + 1) m b i
    less i w (inl h) = inl h
    less i w (inr h) =
        ⊎_elim (λ l. inr (h.0, l)) (λ g. absurd (clash (omega (arith, g, h.1)))) (cases_lt b m)
      where
        clash : b ≡ m → ⊥
        clash e =
            let here = waits_key kind users m xs place waiting in
            let there = waits_key k u b xs i w in
            let same : i ≡ place = omega (arith, h.0) in
            d (ap (λ v. slot_of v u b) (sym there.0 ∙ ap (kind_here xs) same ∙ here.0)
            ∙ ap (λ v. slot_of kind v b) (sym there.1 ∙ ap (λ v. is_user (principal_here xs v)) same ∙ here.1)
            ∙ ap (slot_of kind users) e)

-- with the place in front, a queue has the places that wait with its bit from this place on
noted_front : (kind : Kind) (users : Bool) (xs : List Ace) (place m : ℕ) {links : List Link} {at : ℕ}
    → waits kind users m xs place ≡ true → 0 < length links
    → IsNotedAt kind users m xs (place + 1) m links at
    → IsNotedAt kind users m xs (place + 1) (m + 1) (links ++ record { place = place; next = at } ∷ []) (length links)
noted_front kind users xs place m {links} {at} waiting some q = record {
  places = place ∷ q.places;
  chain = chain_put links place at q.places some q.chain;
  sorted = sorted_before place q.places q.sorted (λ j h. behind j (q.noted j h));
  noted = λ i h. ⊎_elim (λ e. here i (is_eq_same i place e)) (λ e. noted_more (place + 1) m m i (q.noted i e))
      (or_cases (is_at (nat_cmp i) place) (list_any (is_at (nat_cmp i)) q.places) h);
  waiting = λ i h. ⊎_elim (λ e. ap (waits kind users m xs) (is_eq_same i place e) ∙ waiting) (λ e. q.waiting i e)
      (or_cases (is_at (nat_cmp i) place) (list_any (is_at (nat_cmp i)) q.places) h);
  all = λ i noted w. listed i noted w;
}
  where
    behind : (j : ℕ) → IsNoted (place + 1) m m j → place < j
    behind j (inl h) = omega (arith, h)
    behind j (inr h) = absurd (omega (arith, h.1))

    here : (i : ℕ) → i ≡ place → IsNoted (place + 1) (m + 1) m i
    here i e = inr (omega (arith, e), omega arith)

    listed : (i : ℕ) → IsNoted (place + 1) (m + 1) m i → waits kind users m xs i ≡ true
        → list_any (is_at (nat_cmp i)) (place ∷ q.places) ≡ true
    listed i (inl h) w =
        or_right (is_at (nat_cmp i) place) (list_any (is_at (nat_cmp i)) q.places) (q.all i (inl h) w)
    listed i (inr h) w =
        let same : i ≡ place = omega (arith, h.0) in
        ap (λ v. list_any (is_at (nat_cmp v)) (place ∷ q.places)) same ∙ front_in place q.places

-- if the place was put into the queue of bit m, its bits below m + 1 are noted
pub noted_on : (kind : Kind) (users : Bool) (xs : List Ace) (place m : ℕ) (old new : Queues)
    → waits kind users m xs place ≡ true → m < 21 → PutsPlace place (slot_of kind users m) old new
    → AreNoted xs (place + 1) m old → AreNoted xs (place + 1) (m + 1) new
noted_on kind users xs place m old new waiting low puts qs = record {
  slots = ap length puts.heads ∙ length-set old.heads.items (slot_of kind users m) (length old.links.items) ∙ qs.slots;
  some = omega (arith, ap length puts.links, length-append old.links.items (link ∷ []), qs.some);
  each = λ k u b l. rw puts.links (from k u b l (cases_eq (slot_of k u b) (slot_of kind users m)));
}
  where
    link : Link
    link = record { place = place; next = head_in old (slot_of kind users m) }

    from : (k : Kind) (u : Bool) (b : ℕ) → b < 21
        → (slot_of k u b ≡ slot_of kind users m) ⊎ (slot_of k u b ≡ slot_of kind users m → ⊥)
        → IsNotedAt k u b xs (place + 1) (m + 1) (old.links.items ++ link ∷ []) (head_in new (slot_of k u b))
    from k u b l (inr d) =
        subst (IsNotedAt k u b xs (place + 1) (m + 1) (old.links.items ++ link ∷ []))
        (sym (head_kept old new (slot_of kind users m) (length old.links.items) (slot_of k u b) puts.heads d))
        (noted_elsewhere kind users xs place m k u b link waiting d (qs.each k u b l))
    from k u b l (inl e) =
        let parts = slot_same k kind u users b m e in
        rw (
          e,
          head_set old new (slot_of kind users m) (length old.links.items) puts.heads
              (slot_there kind users m _ old qs.slots low refl),
          parts.0,
          parts.1,
          parts.2,
        ) (noted_front kind users xs place m waiting qs.some (qs.each kind users m low))

-- when all bits of a place are noted, the places from it on are
pub noted_place : (xs : List Ace) (place : ℕ) (queues : Queues) → AreNoted xs (place + 1) 21 queues
    → AreNoted xs place 0 queues
noted_place xs place queues qs = record {
  slots = qs.slots;
  some = qs.some;
  each = λ k u b l.
      noted_as k u b xs (place + 1) 21 place 0 (λ places chain. chain) (λ i h. inl (from i b h))
      (λ i w noted. back i b l noted) (qs.each k u b l);
}
  where
    from : (i b : ℕ) → IsNoted (place + 1) 21 b i → place ≤ i
    from i b (inl h) = omega (arith, h)
    from i b (inr h) = omega (arith, h.0)

    back : (i b : ℕ) → b < 21 → IsNoted place 0 b i → IsNoted (place + 1) 21 b i
    back i b l (inl h) = ⊎_elim (λ e. inr (omega (arith, e), l)) (λ d. inl (above d)) (cases_eq i place)
      where
        above : (i ≡ place → ⊥) → place + 1 ≤ i
        above d = ⊎_elim (λ g. omega (arith, g)) (λ g. absurd (d (omega (arith, g, h)))) (cases_lt place i)
    back i b l (inr h) = absurd (omega (arith, h.1))

-- when all places are noted, the queues are those of the list
pub noted_all : (xs : List Ace) (queues : Queues) → IsRemainder xs → AreNoted xs 0 0 queues → AreQueues xs queues
noted_all xs queues list qs = record {
  list = list;
  slots = qs.slots;
  each = λ k u b l.
      let q = qs.each k u b l in
      record {
        places = q.places;
        chain = q.chain;
        queue = record {
          sorted = q.sorted;
          within = λ i h. waits_within k u b xs i (q.waiting i h);
          listed = λ i h. q.waiting i h ∙ sym (waits_has k u b xs i (q.waiting i h));
          all = λ i w. q.all i (inl (omega arith)) w;
        };
      };
}
