-- The queues of a list, each a chain of links: what is left of them when bits are taken out, and the walk along one.
use Rattle.acl_normal.proofs.Common.{Ace, AreQueues, Bool, Enters, IsOnce, IsQueue, IsQueueAt, Kind, List, Marked, Principal, [], ap, arith, cases_eq, cases_lt, column, false, get_or-set_other, get_or-set_same, has_bit, inl, inr, is_blocked, key_here, length, length-map, length-set, mask_here, refl, slice_index_or, slice_set, slot_of, subst, sym, take_out, true, without_bits, ℕ, ⊎_elim, ◌+◌, ◌<◌, ◌∙◌, ◌≡◌, ◌≢◌, ◌⊎◌}
use Rattle.acl_normal.specs.internal.Places.{kind_here}
use Rattle.acl_normal.specs.internal.emit.Ready.{AddsMark}
use Rattle.acl_normal.specs.internal.emit.Queues.{BeginsWaiting, IsChain, MovesOn, head_in, link_in}
use Rattle.acl_normal.specs.declared.emit.queues.Link.{Link}
use Rattle.acl_normal.specs.declared.emit.queues.Queues.{Queues}
use Rattle.acl_normal.proofs.emit.RemainingLemmas.{queue_on, queue_taken}
use Rattle.acl_normal.proofs.emit.Walk.{Walks, head_kind, head_within, walk_done, walk_on, walk_past, walk_stops}
use Rattle.acl_normal.proofs.rows.Quiet.{tidy_taken}
use Rattle.acl_normal.proofs.rows.TakeOut.{none_taken}
use Rattle.acl_normal.proofs.emit.Chains.{Step, chain_ends, chain_goes, chain_step}
use Rattle.acl_normal.proofs.rows.Slots.{slot_below, slot_same}

-- a queue whose first place no longer waits continues after that place
pub queue_next : (k : Kind) (u : Bool) (b : ℕ) (xs : List Ace) (links : List Link) (at : ℕ) (l : Link)
    → (q : IsQueueAt k u b xs links at) → Step links at q.places l → has_bit (mask_here xs l.place) b ≡ false
    → IsQueueAt k u b xs links l.next
queue_next k u b xs links at l q step none = record {
  places = step.rest;
  chain = step.chain;
  queue = queue_on k u b xs l.place step.rest (subst (IsQueue k u b xs) step.is q.queue) none;
}

-- a queue that has ended has no place
pub queue_ends : (k : Kind) (u : Bool) (b : ℕ) (xs : List Ace) (links : List Link) (at : ℕ)
    → IsQueueAt k u b xs links at → at ≡ 0 → IsQueue k u b xs []
queue_ends k u b xs links at q none = subst (IsQueue k u b xs) (chain_ends links at q.places q.chain none) q.queue

-- the walk over the places from the link of a number on
pub record WalksAt (k : Kind) (u : Bool) (b : ℕ) (xs : List Ace) (links : List Link) (at : ℕ) (old new : Marked)
    : Type 0 where
  pub places : List ℕ
  pub chain : IsChain links at places
  pub walks : Walks k u b xs places old new

-- the place of the link that a walk has reached
module _ {k : Kind} {u : Bool} {b : ℕ} {xs : List Ace} {links : List Link} {at : ℕ} {l : Link} {old new : Marked}
    (w : WalksAt k u b xs links at old new) (d : Link) (some : at ≢ 0) (e : l ≡ slice_index_or links at d) where
  -- the chain continues with the link that the walk has reached
  step : Step links at w.places l
  step = chain_step links at w.places d l w.chain some e

  -- the link that follows has a lower number
  pub reached_falls : l.next < at
  reached_falls = step.falls

  -- the place of the link is one of the list
  pub reached_within : l.place < length xs
  reached_within = head_within k u b xs l.place w.places step.rest old new w.walks step.is

  -- if the place of the link waits, its key has the kind
  pub reached_kind : IsOnce (column xs b) → has_bit (mask_here xs l.place) b ≡ true → kind_here xs l.place ≡ k
  reached_kind once has = head_kind k u b xs l.place w.places step.rest old new once w.walks step.is has

  -- if the place of the link is blocked, the walk ends
  pub reached_blocked : IsOnce (column xs b) → is_blocked k u b xs l.place ≡ true → Enters k u b xs old new
  reached_blocked once blocked = walk_stops k u b xs l.place w.places step.rest old new once w.walks step.is blocked

  -- if the place of the link no longer waits, the walk continues
  pub reached_past : has_bit (mask_here xs l.place) b ≡ false → WalksAt k u b xs links l.next old new
  reached_past lacks = record {
    places = step.rest;
    chain = step.chain;
    walks = walk_past k u b xs l.place w.places step.rest old new w.walks step.is lacks;
  }

  -- if the place of the link is not blocked and its key is marked, the walk continues
  pub reached_free : {more : Marked} → IsOnce (column xs b) → is_blocked k u b xs l.place ≡ false
      → has_bit (mask_here xs l.place) b ≡ true → AddsMark (key_here xs l.place) b new more
      → WalksAt k u b xs links l.next old more
  reached_free {more} once clear has adds = record {
    places = step.rest;
    chain = step.chain;
    walks = walk_on k u b xs l.place w.places step.rest old new more once w.walks step.is clear has adds;
  }

-- a walk that has not ended has reached a link
pub reached_link : {k : Kind} {u : Bool} {b : ℕ} {xs : List Ace} {links : List Link} {at : ℕ} {old new : Marked}
    → WalksAt k u b xs links at old new → at ≢ 0 → at < length links
reached_link {k} {u} {b} {xs} {links} {at} w some = (chain_goes links at w.places w.chain some).within

-- after the last link the walk ends
pub walk_over : {k : Kind} {u : Bool} {b : ℕ} {xs : List Ace} {links : List Link} {at : ℕ} {old new : Marked}
    → WalksAt k u b xs links at old new → IsOnce (column xs b) → at ≡ 0 → Enters k u b xs old new
walk_over {k} {u} {b} {xs} {links} {at} {old} {new} w once none =
    walk_done k u b xs w.places old new once w.walks (chain_ends links at w.places w.chain none)

-- the queues of a list are those of what is left of it
queues_taken : (p : Principal) (m : ℕ) (xs : List Ace) (queues : Queues) → AreQueues xs queues
    → AreQueues (take_out p m xs) queues
queues_taken p m xs queues qs = record {
  list = record {
    few = omega (arith, qs.list.few, length-map xs (without_bits p m));
    tidy = tidy_taken p m xs qs.list.tidy;
    rights = λ b none. none_taken p m xs b (qs.list.rights b none);
  };
  slots = qs.slots;
  each = λ k u b l.
      let q = qs.each k u b l in
      record { places = q.places; chain = q.chain; queue = queue_taken k u b p m xs q.places q.queue };
}

-- the queues of a list are those of a list that equals what is left of it
pub queues_left : (p : Principal) (m : ℕ) (xs ys : List Ace) (queues : Queues) → ys ≡ take_out p m xs
    → AreQueues xs queues → AreQueues ys queues
queues_left p m xs ys queues is qs = subst (λ v. AreQueues v queues) (sym is) (queues_taken p m xs queues qs)

-- the slot of a kind, a class and a right is one of the heads
pub slot_there : (k : Kind) (u : Bool) (b at : ℕ) (queues : Queues) → length queues.heads.items ≡ 84 → b < 21
    → at ≡ slot_of k u b → at < length queues.heads.items
slot_there k u b at queues slots low is = omega (arith, is, slot_below k u b low, slots)

-- the head of a slot that was set is what was set
pub head_set : (old new : Queues) (at first : ℕ) → new.heads.items ≡ slice_set old.heads.items at first
    → at < length old.heads.items → head_in new at ≡ first
head_set old new at first is l =
    ap (λ v. slice_index_or v at 0) is ∙ get_or-set_same old.heads.items at first 0 l

-- the head of each other slot is as before
pub head_kept : (old new : Queues) (at first slot : ℕ) → new.heads.items ≡ slice_set old.heads.items at first
    → slot ≢ at → head_in new slot ≡ head_in old slot
head_kept old new at first slot is d =
    ap (λ v. slice_index_or v slot 0) is ∙ get_or-set_other old.heads.items at slot first 0 d

-- the queues of a list stay its queues when the head of one was moved on in its chain
pub queues_moved : (k : Kind) (u : Bool) (b : ℕ) (xs : List Ace) (old new : Queues) (first : ℕ) → AreQueues xs old
    → b < 21 → new.links.items ≡ old.links.items → new.heads.items ≡ slice_set old.heads.items (slot_of k u b) first
    → IsQueueAt k u b xs old.links.items first → AreQueues xs new
queues_moved k u b xs old new first qs low links heads queue = record {
  list = qs.list;
  slots = ap length heads ∙ length-set old.heads.items (slot_of k u b) first ∙ qs.slots;
  each = λ j v c l. rw links (from j v c l (cases_eq (slot_of j v c) (slot_of k u b)));
}
  where
    from : (j : Kind) (v : Bool) (c : ℕ) → c < 21
        → (slot_of j v c ≡ slot_of k u b) ⊎ (slot_of j v c ≡ slot_of k u b → ⊥)
        → IsQueueAt j v c xs old.links.items (head_in new (slot_of j v c))
    from j v c l (inr d) =
        subst (IsQueueAt j v c xs old.links.items)
        (sym (head_kept old new (slot_of k u b) first (slot_of j v c) heads d))
        (qs.each j v c l)
    from j v c l (inl e) =
        let parts = slot_same j k v u c b e in
        rw (
          e,
          head_set old new (slot_of k u b) first heads (slot_there k u b _ old qs.slots low refl),
          parts.0,
          parts.1,
          parts.2,
        ) queue

-- a queue whose head was set to a link whose place has the bit, or to none, moves on
pub queue_moves : (k : Kind) (u : Bool) (b : ℕ) (xs : List Ace) (old new : Queues) (first : ℕ)
    → length old.heads.items ≡ 84 → b < 21 → new.links.items ≡ old.links.items
    → new.heads.items ≡ slice_set old.heads.items (slot_of k u b) first
    → (first ≢ 0 → has_bit (mask_here xs (link_in old.links.items first).place) b ≡ true) → MovesOn k u b xs old new
queue_moves k u b xs old new first slots low links heads waiting = record {
  links = links;
  first = subst (λ h. h ≢ 0 → has_bit (mask_here xs (link_in new.links.items h).place) b ≡ true)
      (sym (head_set old new (slot_of k u b) first heads (slot_there k u b _ old slots low refl)))
      (subst (λ v. first ≢ 0 → has_bit (mask_here xs (link_in v first).place) b ≡ true) (sym links) waiting);
  others = λ slot d. head_kept old new (slot_of k u b) first slot heads d;
}

-- the queues of the bits of a mask below a place begin where a place has the bit
abbrev pub BeginBelow : Kind → Bool → List Ace → ℕ → Queues → ℕ → Type 0
BeginBelow k u xs mask queues n = (b : ℕ) → b < n → has_bit mask b ≡ true → BeginsWaiting k u xs queues b

-- if the mask lacks bit n, the queues of its bits below n + 1 begin so if those below n do
pub begin_skip : (k : Kind) (u : Bool) (xs : List Ace) (mask : ℕ) (queues : Queues) (n : ℕ)
    → BeginBelow k u xs mask queues n → has_bit mask n ≡ false → BeginBelow k u xs mask queues (n + 1)
begin_skip k u xs mask queues n below lacks = λ b l has.
    ⊎_elim (λ h. below b h has) (λ h. absurd (clash b (omega (arith, l, h)) has)) (cases_lt b n)
  where
    clash : (b : ℕ) → b ≡ n → has_bit mask b ≡ true → ⊥
    clash b e has = cc (sym has ∙ ap (has_bit mask) e ∙ lacks)

-- if the queue of bit n moved on, the queues of the bits below n + 1 begin so
pub begin_on : (k : Kind) (u : Bool) (xs : List Ace) (mask : ℕ) (old new : Queues) (n : ℕ)
    → BeginBelow k u xs mask old n → MovesOn k u n xs old new → BeginBelow k u xs mask new (n + 1)
begin_on k u xs mask old new n below moved = λ b l has. from b l has (cases_eq b n)
  where
    from : (b : ℕ) → b < n + 1 → has_bit mask b ≡ true → (b ≡ n) ⊎ (b ≡ n → ⊥) → BeginsWaiting k u xs new b
    from b l has (inl e) = subst (BeginsWaiting k u xs new) (sym e) moved.first
    from b l has (inr d) =
        let head : head_in new (slot_of k u b) ≡ head_in old (slot_of k u b) =
        moved.others (slot_of k u b) (λ same. d (slot_same k k u u b n same).2) in
        let less : b < n = ⊎_elim (λ h. h) (λ h. absurd (d (omega (arith, l, h)))) (cases_lt b n) in
        subst (λ h. h ≢ 0 → has_bit (mask_here xs (link_in new.links.items h).place) b ≡ true) (sym head)
        (subst (λ v. head_in old (slot_of k u b) ≢ 0
        → has_bit (mask_here xs (link_in v (head_in old (slot_of k u b))).place) b ≡ true) (sym moved.links)
        (below b less has))
