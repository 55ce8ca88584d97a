-- The loop that emits: what it keeps, what a turn does, and that it ends.
use Rattle.acl_normal.proofs.unique.Shorter.{without_no_longer, without_shorter}
use Rattle.acl_normal.proofs.Common.{Ace, Bool, Column, ColumnKey, Emitted, FitsKeys, HasOnceColumns, IsEmission, IsMask, IsRowOf, IsStep, List, Marked, Principal, [], ace_key, all_rights, and_from, and_parts, ap, arith, bit_at-zero, cases_eq, cases_lt, column, compare_keys, cond, conflicts, count_left, emitted_ace, emitted_aces, false, false_from_ne_true, false≢true, flags_for, has_bit, inl, inr, is_free, is_le, is_principal_of, is_user, key_eq, key_number, kind_eq, length, marks, may_overlap, not, nothing_left, other_kind, principal_eq, principal_of, refl, same_answers, slice_index_or, slice_set, subst, suc, sym, take_out, true, without_principal, zero, ℕ, ⊎_elim, ◌++◌, ◌/◌, ◌<◌, ◌==◌, ◌∙◌, ◌∷◌, ◌≡◌, ◌≢◌, ◌≤◌, ◌⊎◌}
use Rattle.acl_perm.proofs.Sets.{mask_from_bits}
use Rattle.acl_normal.specs.internal.emit.Ready.{Frees, HoldsFree, IsKeyNumber, IsLeastReady, Popped, TakesBits, emitted}
use Rattle.acl_normal.proofs.unique.Names.{key_eq_itself, key_eq_same, kind_eq_itself, overlaps_itself, principal_eq_same}
use Rattle.acl_normal.proofs.unique.Free.{ahead_from_free, head_is_free}
use Rattle.acl_normal.proofs.unique.Bits.{no_bits, some_below}
use Rattle.acl_normal.proofs.emit.SoFar.{Completes, completes_all, completes_more}
use Rattle.acl_normal.proofs.rows.TakeOut.{column_taken, low_taken, none_taken, once_taken}
use Rattle.acl_normal.proofs.emit.Marks.{fits_written, mark_named, mark_written, number_order, number_row, number_within, some_bits}
use Rattle.acl_normal.proofs.emit.Walk.{free_at}
use Rattle.acl_normal.proofs.emit.FreeWithout.{free_back, free_without, kinds_differ, lacks_free, one_free, one_is_other}
use Rattle.acl_normal.proofs.emit.KeyNames.{IsNamed, emitted_principal, here_named}
use Rattle.acl_normal.proofs.rows.RowsAlike.{named_outline, outline_taken, row_outline}

-- the bits of the least number are those of the least key
pub least_popped : (xs : List Ace) (old new : List ℕ) (n m : ℕ) → FitsKeys xs old → IsLeastReady old n m
    → new ≡ slice_set old n 0 → (k : IsKeyNumber xs n) → Popped (marks xs old) k.key m (marks xs new)
least_popped xs old new n m f l set k = record {
  is = mark_named k.key xs old k.named ∙ ap (λ v. slice_index_or old v 0) (sym k.is) ∙ sym l.is;
  some = l.some;
  after = λ e. mark_written xs old new n 0 k.key e k.named k.is (number_within old n there) set;
  least = λ e some. go e some (is_principal_of e.0 xs) refl;
}
  where
    there : slice_index_or old n 0 ≢ 0
    there none = l.some (l.is ∙ none)

    go : (e : ColumnKey) → marks xs old e ≢ 0 → (t : Bool) → is_principal_of e.0 xs ≡ t
        → is_le (compare_keys k.key e) ≡ true
    go e some true named =
        let less : n ≤ key_number e xs = l.least (key_number e xs) (λ none. some (mark_named e xs old named ∙ none)) in
        number_order k.key e xs k.named named (subst (λ v. v ≤ key_number e xs) k.is less)
    go e some false unnamed = absurd (some (rw unnamed refl))

-- the key of the least number is taken, whatever key has that number
pub least_taken : {xs : List Ace} {old new : List ℕ} {n m : ℕ} {q : ColumnKey} → FitsKeys (nothing_left xs) old
    → IsLeastReady old n m → new ≡ slice_set old n 0
    → ((k : ColumnKey) → is_principal_of k.0 xs ≡ true → n ≡ key_number k xs → q ≡ k) → TakesBits xs old new (n / 2) q m
least_taken {xs} {old} {new} {n} {m} {q} f l set whose = go (f.sound n (λ none. l.some (l.is ∙ none)))
  where
    go : IsKeyNumber (nothing_left xs) n → TakesBits xs old new (n / 2) q m
    go k =
        let named : is_principal_of k.key.0 xs ≡ true = sym (named_outline k.key.0 xs) ∙ k.named in
        let is : n ≡ key_number k.key xs = omega (arith, k.is, row_outline k.key.0 xs) in
        let same : k.key ≡ q = sym (whose k.key named is) in
        record {
          at_row =
              subst (λ (e : ColumnKey). IsRowOf (n / 2) e.0 xs) same (record {
                named = named;
                is = number_row k.key xs n is;
              });
          popped =
              subst (λ e. Popped (marks (nothing_left xs) old) e m (marks (nothing_left xs) new)) same
              (least_popped (nothing_left xs) old new n m f l set k);
          fits = fits_written (nothing_left xs) old new n 0 f k set;
        }

-- what is left has the outline that was
pub outline_left : (p : Principal) (m : ℕ) (xs ys : List Ace) → ys ≡ take_out p m xs → nothing_left ys ≡ nothing_left xs
outline_left p m xs ys taken = ap nothing_left taken ∙ outline_taken p m xs

-- the columns of bits that are no rights are empty
abbrev pub HasRights : List Ace → Type 0
HasRights xs = (b : ℕ) → has_bit all_rights b ≡ false → column xs b ≡ []

-- what the loop keeps: what is left, that just the free keys are marked, and that what is left completes the list
pub record Drains (whole : List Ace) (out : List Emitted) (ready : Marked) (xs : List Ace) : Type 0 where
  pub once : HasOnceColumns xs
  pub low : (b : ℕ) → 21 ≤ b → column xs b ≡ []
  pub rights : HasRights xs
  pub free : HoldsFree ready xs
  pub completes : Completes whole out xs

-- before the first turn the whole list is left
pub drain_starts : (xs : List Ace) (ready : Marked) → HasOnceColumns xs → ((b : ℕ) → 21 ≤ b → column xs b ≡ [])
    → HasRights xs → HoldsFree ready xs → Drains xs [] ready xs
drain_starts xs ready once low rights free =
    record { once = once; low = low; rights = rights; free = free; completes = λ ns e. e }

-- what is marked at the key that was popped is what is free there
pub popped_bits : (old rest : Marked) (q : ColumnKey) (m : ℕ) (xs : List Ace) → HoldsFree old xs → Popped old q m rest
    → (b : ℕ) → has_bit m b ≡ is_free (column xs b) q
popped_bits old rest q m xs h p b = ap (λ v. has_bit v b) (sym p.is) ∙ h q b

-- the bits of a marked key are among the first 21
pub popped_low : (whole : List Ace) (out : List Emitted) (old rest : Marked) (q : ColumnKey) (m : ℕ) (xs : List Ace)
    → Drains whole out old xs → Popped old q m rest → (b : ℕ) → 21 ≤ b → has_bit m b ≡ false
popped_low whole out old rest q m xs d p b l =
    popped_bits old rest q m xs d.free p b ∙ ap (λ c. is_free c q) (d.low b l)

-- the bits of the key that was popped are rights
pub popped_mask : (old rest : Marked) (q : ColumnKey) (m : ℕ) (xs : List Ace) → HoldsFree old xs → HasRights xs
    → Popped old q m rest → IsMask m
popped_mask old rest q m xs free rights p = mask_from_bits m (λ b has. go b has (has_bit all_rights b) refl)
  where
    go : (b : ℕ) → has_bit m b ≡ true → (t : Bool) → has_bit all_rights b ≡ t → has_bit all_rights b ≡ true
    go b has true is = is
    go b has false is =
        clash (sym has ∙ popped_bits old rest q m xs free p b ∙ ap (λ c. is_free c q) (rights b is))
      where
        clash : true ≡ false → has_bit all_rights b ≡ true
        clash h = cc

-- some who names the principal of the key that was popped
pub popped_named : (whole : List Ace) (out : List Emitted) (old rest : Marked) (q : ColumnKey) (m : ℕ) (xs : List Ace)
    → Drains whole out old xs → Popped old q m rest → IsNamed q.0
popped_named whole out old rest q m xs d p = go (some_below m 21)
  where
    go : ((b : ℕ) × (has_bit m b ≡ true)) ⊎ ((b : ℕ) → b < 21 → has_bit m b ≡ false) → IsNamed q.0
    go (inl (b, e)) =
        let s =
        free_at q.1 (is_user q.0) b xs q.0 (d.once b) refl
        (sym (popped_bits old rest q m xs d.free p b) ∙ e) in
        subst (λ (k : ColumnKey). IsNamed k.0) s.plain_key (here_named xs s.place)
    go (inr f) =
        absurd (p.some (no_bits m (λ b. ⊎_elim (λ l. f b l) (λ l. popped_low whole out old rest q m xs d p b l)
        (cases_lt b 21))))

-- the key that was popped, with its bits, is the ACE that comes first
pub popped_first : (whole : List Ace) (out : List Emitted) (old rest : Marked) (q : ColumnKey) (m : ℕ) (xs : List Ace)
    → Drains whole out old xs → Popped old q m rest
    → IsStep xs (emitted q m) (take_out q.0 m xs)
popped_first whole out old rest q m xs d p = record {
  flags = ap flags_for (sym named);
  mask = p.some;
  least =
      λ l b free. subst (λ v. is_le (compare_keys v l) ≡ true) (sym whole_key)
      (p.least l (some_bits (old l) b (d.free l b ∙ free)));
  all = λ b. popped_bits old rest q m xs d.free p b ∙ ap (is_free (column xs b)) (sym whole_key);
  taken = λ b h. column_taken b q.0 m xs ∙ rw h (ap (λ v. without_principal v (column xs b)) (sym named));
  kept = λ b h. column_taken b q.0 m xs ∙ rw h refl;
}
  where
    named : principal_of (emitted q m) ≡ q.0
    named = emitted_principal q m (popped_named whole out old rest q m xs d p)

    whole_key : ace_key (emitted q m) ≡ q
    whole_key = ap (λ v. (v, q.1)) named

-- a right of the mask leaves its column without the principal
column_less : (p : Principal) (m : ℕ) (xs : List Ace) (b : ℕ) → has_bit m b ≡ true
    → column (take_out p m xs) b ≡ without_principal p (column xs b)
column_less p m xs b h = column_taken b p m xs ∙ rw h refl

-- any other right leaves its column as it is
column_same : (p : Principal) (m : ℕ) (xs : List Ace) (b : ℕ) → has_bit m b ≡ false
    → column (take_out p m xs) b ≡ column xs b
column_same p m xs b h = column_taken b p m xs ∙ rw h refl

-- a turn of the loop: what the loop kept before it, the key that was popped, and what was marked then
record IsTurn (whole : List Ace) (out : List Emitted) (old rest next : Marked) (q : ColumnKey) (m : ℕ)
    (xs : List Ace) : Type 0 where
  drains : Drains whole out old xs
  pop : Popped old q m rest
  frees : Frees q m (take_out q.0 m xs) rest next

-- the popped key has exactly the rights on which it was free
popped_free : {whole : List Ace} {out : List Emitted} {old rest next : Marked} {q : ColumnKey} {m : ℕ} {xs : List Ace}
    → IsTurn whole out old rest next q m xs → (b : ℕ) → has_bit m b ≡ is_free (column xs b) q
popped_free {whole} {out} {old} {rest} {next} {q} {m} {xs} h b = popped_bits old rest q m xs h.drains.free h.pop b

-- every other key has the marks that it had
others_kept : {whole : List Ace} {out : List Emitted} {old rest next : Marked} {q : ColumnKey} {m : ℕ} {xs : List Ace}
    → IsTurn whole out old rest next q m xs → (l : ColumnKey) → key_eq l q ≡ false → old l ≡ rest l
others_kept h l n = sym (h.pop.after l ∙ rw n refl)

-- a key that still has a mark is not the popped one
marked_apart : {whole : List Ace} {out : List Emitted} {old rest next : Marked} {q : ColumnKey} {m : ℕ} {xs : List Ace}
    → IsTurn whole out old rest next q m xs → (l : ColumnKey) (b : ℕ) → has_bit (rest l) b ≡ true
    → key_eq l q ≡ false
marked_apart {whole} {out} {old} {rest} {next} {q} {m} {xs} h l b has =
    false_from_ne_true _ (λ t. absurd
    (false≢true (sym gone ∙ sym (ap (λ v. has_bit (rest v) b) (key_eq_same l q t)) ∙ has)))
  where
    gone : has_bit (rest q) b ≡ false
    gone = ap (λ v. has_bit v b) (h.pop.after q ∙ rw (key_eq_itself q) refl) ∙ ap (λ v. v == 1) (bit_at-zero b)

-- on a right of the popped key, a free key that is not the popped one has another principal
free_apart : {whole : List Ace} {out : List Emitted} {old rest next : Marked} {q : ColumnKey} {m : ℕ} {xs : List Ace}
    → IsTurn whole out old rest next q m xs → (l : ColumnKey) (b : ℕ) → has_bit m b ≡ true → key_eq l q ≡ false
    → is_free (column xs b) l ≡ true → principal_eq l.0 q.0 ≡ false
free_apart {whole} {out} {old} {rest} {next} {q} {m} {xs} h l b e apart was =
    false_from_ne_true _ (λ t. absurd (same t))
  where
    same : principal_eq l.0 q.0 ≡ true → ⊥
    same t =
        let kind : l.1 ≡ q.1 =
        one_free (column xs b) q.0 l.1 q.1
        (subst (λ v. is_free (column xs b) (v, l.1) ≡ true) (principal_eq_same l.0 q.0 t) was)
        (sym (popped_free h b) ∙ e) in
        let equal : key_eq l q ≡ true =
        and_from (principal_eq l.0 q.0) (kind_eq l.1 q.1) t
        (subst (λ v. kind_eq l.1 v ≡ true) kind (kind_eq_itself l.1)) in
        false≢true (sym apart ∙ equal)

-- a key that still has a mark is free after the turn
marked_free : {whole : List Ace} {out : List Emitted} {old rest next : Marked} {q : ColumnKey} {m : ℕ} {xs : List Ace}
    → IsTurn whole out old rest next q m xs → (l : ColumnKey) (b : ℕ) → has_bit (rest l) b ≡ true
    → is_free (column (take_out q.0 m xs) b) l ≡ true
marked_free {whole} {out} {old} {rest} {next} {q} {m} {xs} h l b has = at (has_bit m b) refl
  where
    apart : key_eq l q ≡ false
    apart = marked_apart h l b has

    was : is_free (column xs b) l ≡ true
    was = sym (h.drains.free l b) ∙ ap (λ v. has_bit v b) (others_kept h l apart) ∙ has

    at : (t : Bool) → has_bit m b ≡ t → is_free (column (take_out q.0 m xs) b) l ≡ true
    at false e = rw (column_same q.0 m xs b e) was
    at true e = rw (column_less q.0 m xs b e) (free_without (column xs b) q.0 l (free_apart h l b e apart was) was)

-- a key that was free and is not the popped one keeps its mark
stays_marked : {whole : List Ace} {out : List Emitted} {old rest next : Marked} {q : ColumnKey} {m : ℕ} {xs : List Ace}
    → IsTurn whole out old rest next q m xs → (l : ColumnKey) (b : ℕ) → key_eq l q ≡ false
    → is_free (column xs b) l ≡ true → has_bit (next l) b ≡ true
stays_marked h l b n was =
    h.frees.grows.kept l b (ap (λ v. has_bit v b) (sym (others_kept h l n)) ∙ h.drains.free l b ∙ was)

-- a key that conflicts with the popped one and is free after the turn is marked
newly_marked : {whole : List Ace} {out : List Emitted} {old rest next : Marked} {q : ColumnKey} {m : ℕ} {xs : List Ace}
    → IsTurn whole out old rest next q m xs → (l : ColumnKey) (b : ℕ) → has_bit m b ≡ true
    → principal_eq l.0 q.0 ≡ false → conflicts q l ≡ true → is_free (column (take_out q.0 m xs) b) l ≡ true
    → has_bit (next l) b ≡ true
newly_marked {whole} {out} {old} {rest} {next} {q} {m} {xs} h l b e other c free =
    let both = and_parts (may_overlap q.0 l.0) (not (kind_eq q.1 l.1)) c in
    let same : (l.0, other_kind q.1) ≡ l = ap (λ v. (l.0, v)) (sym (kinds_differ q.1 l.1 both.1)) in
    subst (λ v. has_bit (next v) b ≡ true) same
    (h.frees.all l.0 b low e (one_is_other q.0 l.0 both.0 other)
    (subst (λ v. is_free (column (take_out q.0 m xs) b) v ≡ true) (sym same) free))
  where
    low : b < 21
    low =
        ⊎_elim (λ g. g)
        (λ g. absurd (false≢true (sym (popped_low whole out old rest q m xs h.drains h.pop b g) ∙ e)))
        (cases_lt b 21)

-- on a right of the popped key, a key that is free after the turn is marked
free_taken : {whole : List Ace} {out : List Emitted} {old rest next : Marked} {q : ColumnKey} {m : ℕ} {xs : List Ace}
    → IsTurn whole out old rest next q m xs → (l : ColumnKey) (b : ℕ) → has_bit m b ≡ true
    → is_free (column (take_out q.0 m xs) b) l ≡ true → has_bit (next l) b ≡ true
free_taken {whole} {out} {old} {rest} {next} {q} {m} {xs} h l b e free = by (conflicts q l) refl
  where
    left : is_free (without_principal q.0 (column xs b)) l ≡ true
    left = subst (λ c. is_free c l ≡ true) (column_less q.0 m xs b e) free

    other : principal_eq l.0 q.0 ≡ false
    other =
        false_from_ne_true _ (λ t. absurd
        (lacks_free (column xs b) q.0 l.1
        (subst (λ v. is_free (without_principal q.0 (column xs b)) (v, l.1) ≡ true)
        (principal_eq_same l.0 q.0 t) left)))

    by : (t : Bool) → conflicts q l ≡ t → has_bit (next l) b ≡ true
    by false c =
        let own : is_free (column xs b) (q.0, q.1) ≡ true = sym (popped_free h b) ∙ e in
        stays_marked h l b (rw other refl) (free_back (column xs b) q.0 q.1 l (h.drains.once b) own c left)
    by true c = newly_marked h l b e other c free

-- on any other right, a key that is free after the turn is marked
free_kept : {whole : List Ace} {out : List Emitted} {old rest next : Marked} {q : ColumnKey} {m : ℕ} {xs : List Ace}
    → IsTurn whole out old rest next q m xs → (l : ColumnKey) (b : ℕ) → has_bit m b ≡ false
    → is_free (column (take_out q.0 m xs) b) l ≡ true → has_bit (next l) b ≡ true
free_kept {whole} {out} {old} {rest} {next} {q} {m} {xs} h l b e free = stays_marked h l b other was
  where
    was : is_free (column xs b) l ≡ true
    was = subst (λ c. is_free c l ≡ true) (column_same q.0 m xs b e) free

    other : key_eq l q ≡ false
    other =
        false_from_ne_true _ (λ t. absurd
        (false≢true (sym e ∙ popped_free h b ∙ sym (ap (is_free (column xs b)) (key_eq_same l q t)) ∙ was)))

-- after a turn just the free keys are marked
holds_on : {whole : List Ace} {out : List Emitted} {old rest next : Marked} {q : ColumnKey} {m : ℕ} {xs : List Ace}
    → IsTurn whole out old rest next q m xs → HoldsFree next (take_out q.0 m xs)
holds_on {whole} {out} {old} {rest} {next} {q} {m} {xs} h l b =
    same_answers (has_bit (next l) b) (is_free (column (take_out q.0 m xs) b) l)
    (λ marked. ⊎_elim (λ k. marked_free h l b k) (λ k. k) (h.frees.grows.sound l b marked))
    (λ free. at (has_bit m b) refl free)
  where
    at : (t : Bool) → has_bit m b ≡ t → is_free (column (take_out q.0 m xs) b) l ≡ true → has_bit (next l) b ≡ true
    at true e free = free_taken h l b e free
    at false e free = free_kept h l b e free

-- a turn keeps what the loop keeps
pub drain_on : (whole : List Ace) (out more : List Emitted) (old rest next : Marked) (q : ColumnKey) (m : ℕ)
    (xs : List Ace) (a : Emitted) → Drains whole out old xs → Popped old q m rest → more ≡ out ++ a ∷ []
    → emitted_ace a ≡ emitted q m → Frees q m (take_out q.0 m xs) rest next
    → Drains whole more next (take_out q.0 m xs)
drain_on whole out more old rest next q m xs a d p is same f =
    let step =
    subst (λ v. IsStep xs v (take_out q.0 m xs)) (sym same) (popped_first whole out old rest q m xs d p) in
    record {
      once = once_taken q.0 m xs d.once;
      low = low_taken q.0 m xs d.low;
      rights = λ b none. none_taken q.0 m xs b (d.rights b none);
      free = holds_on (record { drains = d; pop = p; frees = f });
      completes = completes_more whole out more xs (take_out q.0 m xs) a is d.once step d.completes;
    }

-- a turn keeps what the loop keeps, with the bits by number
pub drain_turn : (whole : List Ace) (out more : List Emitted) (old rest next : List ℕ) (row m : ℕ) (q : ColumnKey)
    (xs ys : List Ace) (a : Emitted) → Drains whole out (marks (nothing_left xs) old) xs → TakesBits xs old rest row q m
    → more ≡ out ++ a ∷ [] → emitted_ace a ≡ emitted q m → ys ≡ take_out q.0 m xs
    → Frees q m ys (marks (nothing_left ys) rest) (marks (nothing_left ys) next)
    → Drains whole more (marks (nothing_left ys) next) ys
drain_turn whole out more old rest next row m q xs ys a d t is same taken f =
    let outline : nothing_left ys ≡ nothing_left xs = outline_left q.0 m xs ys taken in
    let frees : Frees q m (take_out q.0 m xs) (marks (nothing_left xs) rest) (marks (nothing_left xs) next) =
    subst (λ v. Frees q m v (marks (nothing_left xs) rest) (marks (nothing_left xs) next)) taken
    (subst (λ v. Frees q m ys (marks v rest) (marks v next)) outline f) in
    subst (λ v. Drains whole more (marks v next) ys) (sym outline)
    (subst (λ v. Drains whole more (marks (nothing_left xs) next) v) (sym taken)
    (drain_on whole out more (marks (nothing_left xs) old) (marks (nothing_left xs) rest)
    (marks (nothing_left xs) next) q m xs a d t.popped is same frees))

-- when no key is marked, all is emitted
pub drain_ends : (whole : List Ace) (out : List Emitted) (ready : Marked) (xs : List Ace) → Drains whole out ready xs
    → ((k : ColumnKey) → ready k ≡ 0) → IsEmission whole (emitted_aces out)
drain_ends whole out ready xs d empty = completes_all whole out xs d.completes (λ b. go b (column xs b) refl)
  where
    go : (b : ℕ) (c : Column) → column xs b ≡ c → column xs b ≡ []
    go b [] e = e
    go b (k ∷ c) e =
        let free : is_free (column xs b) k ≡ true = ap (λ v. is_free v k) e ∙ head_is_free k c in
        let none : has_bit (ready k) b ≡ false =
        ap (λ v. has_bit v b) (empty k) ∙ ap (λ v. v == 1) (bit_at-zero b) in
        cc (d.free k b)

-- the columns have no more keys in all when bits are taken out
pub count_kept : (n : ℕ) (p : Principal) (m : ℕ) (xs : List Ace) → count_left n (take_out p m xs) ≤ count_left n xs
count_kept zero p m xs = omega arith
count_kept (suc n) p m xs =
    let here : length (column (take_out p m xs) n) ≤ length (column xs n) =
    rw (column_taken n p m xs) (go (has_bit m n)) in
    omega (arith, here, count_kept n p m xs)
  where
    go : (t : Bool) → length (cond t (without_principal p (column xs n)) (column xs n)) ≤ length (column xs n)
    go true = without_no_longer p (column xs n)
    go false = omega arith

-- the columns have fewer keys in all if one of them has fewer
pub count_falls : (n : ℕ) (p : Principal) (m : ℕ) (xs : List Ace) (b : ℕ) → b < n
    → length (column (take_out p m xs) b) < length (column xs b) → count_left n (take_out p m xs) < count_left n xs
count_falls zero p m xs b l h = absurd (omega (arith, l))
count_falls (suc n) p m xs b l h = go (cases_eq b n) (count_falls n p m xs b)
  where
    at : (t : Bool) → length (cond t (without_principal p (column xs n)) (column xs n)) ≤ length (column xs n)
    at true = without_no_longer p (column xs n)
    at false = omega arith

    go : (b ≡ n) ⊎ (b ≡ n → ⊥)
        → (b < n → length (column (take_out p m xs) b) < length (column xs b) → count_left n (take_out p m xs)
        < count_left n xs) → count_left (suc n) (take_out p m xs) < count_left (suc n) xs
    go (inl e) ih =
        let here : length (column (take_out p m xs) n) < length (column xs n) =
        subst (λ v. length (column (take_out p m xs) v) < length (column xs v)) e h in
        omega (arith, here, count_kept n p m xs)
    go (inr e) ih =
        let below : b < n = ⊎_elim (λ g. g) (λ g. absurd (e (omega (arith, g, l)))) (cases_lt b n) in
        let here : length (column (take_out p m xs) n) ≤ length (column xs n) =
        rw (column_taken n p m xs) (at (has_bit m n)) in
        omega (arith, here, ih below h)

-- each turn leaves fewer keys
pub drain_falls : (whole : List Ace) (out : List Emitted) (old rest : Marked) (q : ColumnKey) (m : ℕ) (xs : List Ace)
    → Drains whole out old xs → Popped old q m rest → count_left 21 (take_out q.0 m xs) < count_left 21 xs
drain_falls whole out old rest q m xs d p = go (some_below m 21)
  where
    go : ((b : ℕ) × (has_bit m b ≡ true)) ⊎ ((b : ℕ) → b < 21 → has_bit m b ≡ false)
        → count_left 21 (take_out q.0 m xs) < count_left 21 xs
    go (inl (b, e)) =
        let free = sym (popped_bits old rest q m xs d.free p b) ∙ e in
        let first =
        ahead_from_free (column xs b) q.0 q.1 free q.0
        (overlaps_itself q.0) in
        count_falls 21 q.0 m xs b
        (⊎_elim (λ l. l) (λ l. absurd (clash (sym e ∙ popped_low whole out old rest q m xs d p b l)))
        (cases_lt b 21)) (rw (column_taken b q.0 m xs, e)
        (without_shorter q.0 (column xs b) q.1 first))
      where
        clash : true ≡ false → ⊥
        clash h = cc
    go (inr f) =
        absurd (p.some (no_bits m (λ b. ⊎_elim (λ l. f b l) (λ l. popped_low whole out old rest q m xs d p b l)
        (cases_lt b 21))))
