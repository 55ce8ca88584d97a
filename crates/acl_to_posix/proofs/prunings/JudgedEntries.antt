-- When an entry stays as it is without a user or a group: the answers of the pass before and after, and the places at
-- which rights are decided and denied.
use Rattle.std.proofs.Common.{◌≡◌, ◌<◌, ◌+◌, ℕ, Bool, true, false, List, [], ◌∷◌, Option, None, Some, cond, refl, sym, ap, ◌∙◌, arith, length}
use Rattle.std.proofs.lemmas.Bool.{eqb-true, false≢true, true≢false, ltb-true, ltb-false, and_from}
use Rattle.std.proofs.lemmas.List.Sums.{prefix_len-le-length}
use Rattle.std.specs.Prelude.{◌==◌, ◌&&◌, ◌||◌, not, if◌then◌else◌, bit_and, nat_lt, unwrap_or}
use Rattle.std.specs.List.{position, position_or_len}
use Rattle.std.specs.Ordering.{eq_by_cmp}
use Rattle.acl_perm.proofs.Bools.{and_true, and_false_right, or_false_right, or_true_right, same_answers}
use Rattle.acl_perm.specs.Bits.{has_bit}
use Rattle.acl_perm.specs.Kind.{is_allow}
use Rattle.acl_posix.specs.Check.{is_member}
use Rattle.acl_posix.specs.Tag.{Tag, user_obj, user, group_obj, group, mask, other, is_named, tag_cmp, tag_of}
use Rattle.acl_eval.specs.Permissions.{execute, read, write}
use Rattle.acl_to_posix.specs.Pruning.{shape_without, is_shared, taken_out}
use Rattle.acl_to_posix.specs.ToPosix.{EntryShape}
use Rattle.acl_to_posix.specs.internal.PruningBody.{AreDecidedAt, AreDenied, decided_if, decided_place, denied_place, is_asked_more, are_before}
use Rattle.acl_to_posix.specs.internal.ShapeBody.{HasPassAnswers, TagColumn, always, answer, is_certain, keys_of, may_match}
use Rattle.acl_to_posix.specs.declared.judged_entry.Places.{Places}
use Rattle.acl_to_posix.specs.declared.tag_column.TagColumns.{TagColumns}
use Rattle.acl_to_posix.specs.declared.tag_column.TagKey.{TagKey}
use Rattle.acl_to_posix.proofs.TagRequesters.{is_eq-nat_cmp}
use Rattle.acl_eval.proofs.Images.{same_below}
use Rattle.acl_to_posix.proofs.prunings.Losses.{but_lacks}

-- ---- the pass with more that may match

-- the pass denies if it denies for one of two tests of what may match
always_either : (certain one two : Tag → Bool) (keys : TagColumn)
    → always certain (λ t. one t || two t) keys ≡ (always certain one keys && always certain two keys)
always_either certain one two [] = refl
always_either certain one two ((t, k) ∷ keys) =
    by (always_either certain one two keys) (certain t) (is_allow k) (one t) (two t)
  where
    by : always certain (λ t. one t || two t) keys ≡ (always certain one keys && always certain two keys)
        → (c a p q : Bool)
        → (if c then a else (if a || not (p || q) then always certain (λ t. one t || two t) keys else false))
        ≡ ((if c then a else (if a || not p then always certain one keys else false))
        && (if c then a else (if a || not q then always certain two keys else false)))
    by rest true true p q = refl
    by rest true false p q = refl
    by rest false true p q = rest
    by rest false false true q = refl
    by rest false false false true = sym (and_false_right (always certain one keys))
    by rest false false false false = rest

-- two tests with the same answers
always_same : (certain one two : Tag → Bool) (keys : TagColumn) → ((t : Tag) → one t ≡ two t)
    → always certain one keys ≡ always certain two keys
always_same certain one two [] same = refl
always_same certain one two ((t, k) ∷ keys) same = rw (same t, always_same certain one two keys same) refl

-- ---- what may match without a name

-- another number is still there
other_there : (u v : ℕ) (xs : List ℕ) → (u == v) ≡ false → is_member v (shape_without u xs) ≡ is_member v xs
other_there u v [] differ = refl
other_there u v (x ∷ xs) differ = by (other_there u v xs differ) (x == u) refl
  where
    by : is_member v (shape_without u xs) ≡ is_member v xs → (b : Bool) → (x == u) ≡ b
        → is_member v (if not b then x ∷ shape_without u xs else shape_without u xs) ≡ is_member v (x ∷ xs)
    by rest true e =
        rest ∙ sym (ap (λ (b : Bool). b || is_member v xs) (ap (λ (n : ℕ). n == v) (eqb-true x u e) ∙ differ))
    by rest false e = ap (λ (b : Bool). (x == v) || b) rest

-- a number is is_member-shape_without if it was is_member-shape_without, or is the one that was taken out
is_member-shape_without : (u v : ℕ) (xs : List ℕ)
    → not (is_member v (shape_without u xs)) ≡ (not (is_member v xs) || (u == v))
is_member-shape_without u v xs = by (u == v) refl
  where
    by : (b : Bool) → (u == v) ≡ b → not (is_member v (shape_without u xs)) ≡ (not (is_member v xs) || b)
    by true e = ap (λ (n : ℕ). not (is_member n (shape_without u xs))) (sym (eqb-true u v e))
        ∙ ap (λ (b : Bool). not b) (but_lacks u xs) ∙ sym (or_true_right (not (is_member v xs)))
    by false e = ap (λ (b : Bool). not b) (other_there u v xs e) ∙ sym (or_false_right (not (is_member v xs)))

-- what may match when a user is taken out: the user as well
user_out : (shape : EntryShape) (u : ℕ) (entry : Tag) → is_shared entry ≡ true → (t : Tag)
    → may_match (taken_out (user u) shape) entry t ≡ (may_match shape entry t || eq_by_cmp tag_cmp t (user u))
user_out shape u entry s user_obj = refl
user_out shape u user_obj s (user v) = absurd (false≢true s)
user_out shape u (user w) s (user v) = absurd (false≢true s)
user_out shape u group_obj s (user v) =
    is_member-shape_without u v shape.users
    ∙ ap (λ (b : Bool). not (is_member v shape.users) || b) (sym (is_eq-nat_cmp v u))
user_out shape u (group w) s (user v) =
    is_member-shape_without u v shape.users
    ∙ ap (λ (b : Bool). not (is_member v shape.users) || b) (sym (is_eq-nat_cmp v u))
user_out shape u mask s (user v) = absurd (false≢true s)
user_out shape u other s (user v) =
    is_member-shape_without u v shape.users
    ∙ ap (λ (b : Bool). not (is_member v shape.users) || b) (sym (is_eq-nat_cmp v u))
user_out shape u entry s group_obj = sym (or_false_right _)
user_out shape u entry s (group w) = sym (or_false_right _)
user_out shape u entry s mask = refl
user_out shape u entry s other = refl

-- what may match when a group is taken out: for OTHER, the group as well
group_out : (shape : EntryShape) (g : ℕ) (entry : Tag) → is_shared entry ≡ true → (t : Tag)
    → may_match (taken_out (group g) shape) entry t
    ≡ (may_match shape entry t || (eq_by_cmp tag_cmp entry other && eq_by_cmp tag_cmp t (group g)))
group_out shape g user_obj s t = absurd (false≢true s)
group_out shape g (user w) s t = absurd (false≢true s)
group_out shape g mask s t = absurd (false≢true s)
group_out shape g group_obj s t = sym (or_false_right _)
group_out shape g (group w) s t = sym (or_false_right _)
group_out shape g other s user_obj = refl
group_out shape g other s (user v) = sym (or_false_right _)
group_out shape g other s group_obj = refl
group_out shape g other s (group v) =
    is_member-shape_without g v shape.groups
    ∙ ap (λ (b : Bool). not (is_member v shape.groups) || b) (sym (is_eq-nat_cmp v g))
group_out shape g other s mask = refl
group_out shape g other s other = refl

-- what may match when a user or a group is taken out: this one as well, if more requesters come to the entry
out_matches : (shape : EntryShape) (name entry : Tag) → is_named name ≡ true → is_shared entry ≡ true → (t : Tag)
    → may_match (taken_out name shape) entry t
    ≡ (may_match shape entry t || (is_asked_more entry name && eq_by_cmp tag_cmp t name))
out_matches shape user_obj entry n s t = absurd (false≢true n)
out_matches shape (user u) entry n s t = user_out shape u entry s t
out_matches shape group_obj entry n s t = absurd (false≢true n)
out_matches shape (group g) entry n s t = group_out shape g entry s t
out_matches shape mask entry n s t = absurd (false≢true n)
out_matches shape other entry n s t = absurd (false≢true n)

-- the answer without the name: if the check looks at the entry in more situations, the name must not deny
asked_answer : (shape : EntryShape) (name entry : Tag) (keys : List TagKey) → is_named name ≡ true
    → is_shared entry ≡ true → is_asked_more entry name ≡ true → answer (taken_out name shape) entry keys
    ≡ (answer shape entry keys && always (is_certain entry) (λ t. eq_by_cmp tag_cmp t name) (keys_of keys))
asked_answer shape name entry keys n s more =
    always_same (is_certain entry) (may_match (taken_out name shape) entry)
    (λ t. may_match shape entry t || eq_by_cmp tag_cmp t name) (keys_of keys)
    (λ t. out_matches shape name entry n s t
    ∙ ap (λ (m : Bool). may_match shape entry t || (m && eq_by_cmp tag_cmp t name)) more)
    ∙ always_either (is_certain entry) (may_match shape entry) (λ t. eq_by_cmp tag_cmp t name) (keys_of keys)

-- otherwise the answer stays the same
same_answer : (shape : EntryShape) (name entry : Tag) (keys : List TagKey) → is_named name ≡ true
    → is_shared entry ≡ true
    → is_asked_more entry name ≡ false → answer (taken_out name shape) entry keys ≡ answer shape entry keys
same_answer shape name entry keys n s more =
    always_same (is_certain entry) (may_match (taken_out name shape) entry) (may_match shape entry) (keys_of keys)
    (λ t. out_matches shape name entry n s t
    ∙ ap (λ (m : Bool). may_match shape entry t || (m && eq_by_cmp tag_cmp t name)) more
    ∙ or_false_right (may_match shape entry t))

-- ---- places

-- no number is below 0
none_below : (n : ℕ) → nat_lt n 0 ≡ false
none_below n = by (nat_lt n 0) refl
  where
    by : (b : Bool) → nat_lt n 0 ≡ b → b ≡ false
    by true e = let lt = ltb-true n 0 e in absurd (omega (arith, lt))
    by false e = refl

-- 0 is below each number that follows another
zero_below : (n : ℕ) → nat_lt 0 (1 + n) ≡ true
zero_below n = by (nat_lt 0 (1 + n)) refl
  where
    by : (b : Bool) → nat_lt 0 (1 + n) ≡ b → b ≡ true
    by true e = refl
    by false e = let le = ltb-false 0 (1 + n) e in absurd (omega (arith, le))

-- two numbers are in the order of those that follow them
next_below : (m n : ℕ) → nat_lt (1 + m) (1 + n) ≡ nat_lt m n
next_below m n = by (nat_lt (1 + m) (1 + n)) (nat_lt m n) refl refl
  where
    by : (a b : Bool) → nat_lt (1 + m) (1 + n) ≡ a → nat_lt m n ≡ b → a ≡ b
    by true true p q = refl
    by true false p q =
        let lt = ltb-true (1 + m) (1 + n) p in let le = ltb-false m n q in absurd (omega (arith, lt, le))
    by false true p q =
        let le = ltb-false (1 + m) (1 + n) p in let lt = ltb-true m n q in absurd (omega (arith, lt, le))
    by false false p q = refl

-- a right that an entry has stays granted if and only if the name is not denied before the place where it is decided
places_decide : (name entry : Tag) (possible : Tag → Bool) (keys : List TagKey)
    → always (is_certain entry) possible (keys_of keys) ≡ true
    → always (is_certain entry) (λ t. eq_by_cmp tag_cmp t name) (keys_of keys)
    ≡ not (nat_lt (denied_place name keys) (decided_place entry keys))
places_decide name entry possible [] h = absurd cc
places_decide name entry possible (x ∷ keys) h =
    by (places_decide name entry possible keys) (is_certain entry (tag_of x.whom)) (is_allow x.kind)
    (eq_by_cmp tag_cmp (tag_of x.whom) name) (possible (tag_of x.whom)) h
  where
    by : (always (is_certain entry) possible (keys_of keys) ≡ true
        → always (is_certain entry) (λ t. eq_by_cmp tag_cmp t name) (keys_of keys)
        ≡ not (nat_lt (denied_place name keys) (decided_place entry keys)))
        → (c a e p : Bool)
        → (if c then a else (if a || not p then always (is_certain entry) possible (keys_of keys) else false)) ≡ true
        → (if c then a else (if a || not e then always (is_certain entry) (λ t. eq_by_cmp tag_cmp t name)
        (keys_of keys) else false))
        ≡ not (nat_lt (if not (e && not a) then 1 + denied_place name keys else 0)
        (if not c then 1 + decided_place entry keys else 0))
    by rest true true e p h = ap (λ (b : Bool). not b) (sym (none_below _))
    by rest true false e p h = absurd (false≢true h)
    by rest false true true p h = rest h ∙ ap (λ (b : Bool). not b) (sym (next_below _ _))
    by rest false true false p h = rest h ∙ ap (λ (b : Bool). not b) (sym (next_below _ _))
    by rest false false e true h = absurd (false≢true h)
    by rest false false true false h = ap (λ (b : Bool). not b) (sym (zero_below _))
    by rest false false false false h = rest h ∙ ap (λ (b : Bool). not b) (sym (next_below _ _))

-- an entry that has a right keeps it
keeps_right : (shape : EntryShape) (name entry : Tag) (keys : List TagKey) (has : Bool) (decided denied : ℕ)
    → is_named name ≡ true → is_shared entry ≡ true → (has ≡ true → answer shape entry keys ≡ true)
    → decided ≡ decided_if has entry keys → denied ≡ denied_place name keys
    → (is_asked_more entry name ≡ true → not (nat_lt denied decided) ≡ true)
    → has ≡ true → answer (taken_out name shape) entry keys ≡ true
keeps_right shape name entry keys has decided denied n s answers at deny before h = by (is_asked_more entry name) refl
  where
    yes : answer shape entry keys ≡ true
    yes = answers h

    place : decided ≡ decided_place entry keys
    place = at ∙ ap (λ (b : Bool). decided_if b entry keys) h

    by : (m : Bool) → is_asked_more entry name ≡ m → answer (taken_out name shape) entry keys ≡ true
    by true e = asked_answer shape name entry keys n s e
        ∙ ap (λ (b : Bool). b && always (is_certain entry) (λ t. eq_by_cmp tag_cmp t name) (keys_of keys)) yes
        ∙ places_decide name entry (may_match shape entry) keys yes
        ∙ ap (λ (d : ℕ). not (nat_lt d (decided_place entry keys))) (sym deny)
        ∙ ap (λ (d : ℕ). not (nat_lt denied d)) (sym place) ∙ before e
    by false e = same_answer shape name entry keys n s e ∙ yes

-- what is granted without the name was granted with it
less_answer : (shape : EntryShape) (name entry : Tag) (keys : List TagKey) → is_named name ≡ true
    → is_shared entry ≡ true → answer (taken_out name shape) entry keys ≡ true → answer shape entry keys ≡ true
less_answer shape name entry keys n s h = by (is_asked_more entry name) refl
  where
    by : (m : Bool) → is_asked_more entry name ≡ m → answer shape entry keys ≡ true
    by true e = (and_true (answer shape entry keys) _ (sym (asked_answer shape name entry keys n s e) ∙ h)).0
    by false e = sym (same_answer shape name entry keys n s e) ∙ h

-- a right that stays is decided before it is denied
stays_before : (shape : EntryShape) (name entry : Tag) (keys : List TagKey) (has : Bool) (decided denied : ℕ)
    → is_named name ≡ true → is_shared entry ≡ true
    → (has ≡ true → answer (taken_out name shape) entry keys ≡ true)
    → decided ≡ decided_if has entry keys → denied ≡ denied_place name keys
    → is_asked_more entry name ≡ true → not (nat_lt denied decided) ≡ true
stays_before shape name entry keys true decided denied n s stays at deny more =
    let two = and_true (answer shape entry keys) _ (sym (asked_answer shape name entry keys n s more) ∙ stays refl) in
    ap (λ (d : ℕ). not (nat_lt denied d)) at ∙ ap (λ (d : ℕ). not (nat_lt d (decided_place entry keys))) deny
    ∙ sym (places_decide name entry (may_match shape entry) keys two.0) ∙ two.1
stays_before shape name entry keys false decided denied n s stays at deny more =
    ap (λ (d : ℕ). not (nat_lt denied d)) at ∙ ap (λ (b : Bool). not b) (none_below denied)

-- ---- the permissions of an entry

-- the four parts of the test of places
record AreAllBefore (decided denied : Places) : Type 0 where
  of_read : not (nat_lt denied.read decided.read) ≡ true
  of_write : not (nat_lt denied.write decided.write) ≡ true
  of_append : not (nat_lt denied.append decided.append) ≡ true
  of_execute : not (nat_lt denied.execute decided.execute) ≡ true

-- all four parts hold if the test of places passes
all_before : (decided denied : Places) → are_before decided denied ≡ true → AreAllBefore decided denied
all_before decided denied h =
    let one = and_true (not (nat_lt denied.read decided.read)) _ h in
    let two = and_true (not (nat_lt denied.write decided.write)) _ one.1 in
    let three = and_true (not (nat_lt denied.append decided.append)) _ two.1 in
    record { of_read = one.0; of_write = two.0; of_append = three.0; of_execute = three.1 }

-- an entry that keeps what it has, has the same permissions without the name
pub same_permissions : (columns : TagColumns) (shape : EntryShape) (name entry : Tag) (perm : ℕ) (decided denied : Places)
    → is_named name ≡ true → is_shared entry ≡ true → HasPassAnswers columns shape entry perm
    → AreDecidedAt columns entry perm decided → AreDenied columns name denied
    → (is_asked_more entry name ≡ true → are_before decided denied ≡ true)
    → HasPassAnswers columns (taken_out name shape) entry perm
same_permissions columns shape name entry perm decided denied n s has at deny before =
    let part = λ (more : is_asked_more entry name ≡ true). all_before decided denied (before more) in
    let out = taken_out name shape in record {
      of_read = same_answers _ _
          (keeps_right shape name entry columns.read.items (has_bit perm read) decided.read denied.read n s
          (λ h. sym has.of_read ∙ h) at.of_read deny.of_read (λ more. (part more).of_read))
          (λ h. has.of_read ∙ less_answer shape name entry columns.read.items n s h);
      of_write = same_answers _ _
          (λ h. and_from (answer out entry columns.write.items) (answer out entry columns.append.items)
          (keeps_right shape name entry columns.write.items (has_bit perm write) decided.write denied.write n s
          (λ g. (and_true (answer shape entry columns.write.items) _ (sym has.of_write ∙ g)).0)
          at.of_write deny.of_write (λ more. (part more).of_write) h)
          (keeps_right shape name entry columns.append.items (has_bit perm write) decided.append denied.append n s
          (λ g. (and_true (answer shape entry columns.write.items) _ (sym has.of_write ∙ g)).1)
          at.of_append deny.of_append (λ more. (part more).of_append) h))
          (λ h. let two = and_true (answer out entry columns.write.items) _ h in
          has.of_write ∙ and_from (answer shape entry columns.write.items) (answer shape entry columns.append.items)
          (less_answer shape name entry columns.write.items n s two.0)
          (less_answer shape name entry columns.append.items n s two.1));
      of_execute = same_answers _ _
          (keeps_right shape name entry columns.execute.items (has_bit perm execute) decided.execute denied.execute n s
          (λ h. sym has.of_execute ∙ h) at.of_execute deny.of_execute (λ more. (part more).of_execute))
          (λ h. has.of_execute ∙ less_answer shape name entry columns.execute.items n s h);
    }

-- an entry of a user, and USER_OBJ, have what they had whatever is taken out
not_shared : (shape : EntryShape) (name entry : Tag) → is_shared entry ≡ false → (t : Tag)
    → may_match (taken_out name shape) entry t ≡ may_match shape entry t
not_shared shape name user_obj s user_obj = refl
not_shared shape name user_obj s (user v) = refl
not_shared shape name user_obj s group_obj = refl
not_shared shape name user_obj s (group v) = refl
not_shared shape name user_obj s mask = refl
not_shared shape name user_obj s other = refl
not_shared shape name (user w) s user_obj = refl
not_shared shape name (user w) s (user v) = refl
not_shared shape name (user w) s group_obj = refl
not_shared shape name (user w) s (group v) = refl
not_shared shape name (user w) s mask = refl
not_shared shape name (user w) s other = refl
not_shared shape name group_obj s t = absurd (true≢false s)
not_shared shape name (group w) s t = absurd (true≢false s)
not_shared shape name mask s user_obj = refl
not_shared shape name mask s (user v) = refl
not_shared shape name mask s group_obj = refl
not_shared shape name mask s (group v) = refl
not_shared shape name mask s mask = refl
not_shared shape name mask s other = refl
not_shared shape name other s t = absurd (true≢false s)

-- an entry that is not shared keeps its permissions when a name is taken out
pub own_permissions : (columns : TagColumns) (shape : EntryShape) (name entry : Tag) (perm : ℕ) → is_shared entry ≡ false
    → HasPassAnswers columns shape entry perm → HasPassAnswers columns (taken_out name shape) entry perm
own_permissions columns shape name entry perm s has = record {
  of_read = has.of_read ∙ sym (same columns.read.items);
  of_write = has.of_write ∙ rw (same columns.write.items, same columns.append.items) refl;
  of_execute = has.of_execute ∙ sym (same columns.execute.items);
}
  where
    same : (keys : List TagKey) → answer (taken_out name shape) entry keys ≡ answer shape entry keys
    same keys =
        always_same (is_certain entry) (may_match (taken_out name shape) entry) (may_match shape entry) (keys_of keys)
        (not_shared shape name entry s)

-- if an entry has its permissions without the name too, each right of them is decided before it is denied to the name
pub before_all : (columns : TagColumns) (shape : EntryShape) (name entry : Tag) (perm : ℕ) (decided denied : Places)
    → is_named name ≡ true → is_shared entry ≡ true
    → (has_bit perm read ≡ true → answer (taken_out name shape) entry columns.read.items ≡ true)
    → (has_bit perm write ≡ true → answer (taken_out name shape) entry columns.write.items ≡ true)
    → (has_bit perm write ≡ true → answer (taken_out name shape) entry columns.append.items ≡ true)
    → (has_bit perm execute ≡ true → answer (taken_out name shape) entry columns.execute.items ≡ true)
    → AreDecidedAt columns entry perm decided → AreDenied columns name denied
    → is_asked_more entry name ≡ true → are_before decided denied ≡ true
before_all columns shape name entry perm decided denied n s reads writes appends executes at deny more = rw (
  stays_before shape name entry columns.read.items (has_bit perm read) decided.read denied.read n s reads at.of_read
      deny.of_read more,
  stays_before shape name entry columns.write.items (has_bit perm write) decided.write denied.write n s writes
      at.of_write deny.of_write more,
  stays_before shape name entry columns.append.items (has_bit perm write) decided.append denied.append n s appends
      at.of_append deny.of_append more,
  stays_before shape name entry columns.execute.items (has_bit perm execute) decided.execute denied.execute n s executes
      at.of_execute deny.of_execute more,
) refl

-- ---- the places as the code finds them

-- the first place that passes, or the number of elements
pub place_or_len : {X : Type 0} (p : X → Bool) (xs : List X) (o : Option ℕ) (n : ℕ) → o ≡ position p xs
    → n ≡ unwrap_or o (length xs) → n ≡ position_or_len p xs
place_or_len p xs o n found is = is ∙ ap (λ (o : Option ℕ). unwrap_or o (length xs)) found
    ∙ by (nat_lt (position_or_len p xs) (length xs)) refl
  where
    by : (b : Bool) → nat_lt (position_or_len p xs) (length xs) ≡ b
        → unwrap_or (cond b (Some (position_or_len p xs)) None) (length xs) ≡ position_or_len p xs
    by true e = refl
    by false e =
        let most = prefix_len-le-length (λ x. not (p x)) xs in
        let least = ltb-false (position_or_len p xs) (length xs) e in
        omega (arith, most, least)

-- the test of r is its bit
pub read_bit : (p : ℕ) → p < 8 → (bit_and p 4 == 4) ≡ has_bit p read
read_bit = same_below 8 (λ p. bit_and p 4 == 4) (λ p. has_bit p 2) refl

-- the same for w
pub write_bit : (p : ℕ) → p < 8 → (bit_and p 2 == 2) ≡ has_bit p write
write_bit = same_below 8 (λ p. bit_and p 2 == 2) (λ p. has_bit p 1) refl

-- the same for x
pub execute_bit : (p : ℕ) → p < 8 → (bit_and p 1 == 1) ≡ has_bit p execute
execute_bit = same_below 8 (λ p. bit_and p 1 == 1) (λ p. has_bit p 0) refl

-- a place that was found in the keys that were given
pub place_in : (entry : Tag) (place : ℕ) (has bit : Bool) (given keys : List TagKey)
    → place ≡ decided_if has entry given → has ≡ bit → given ≡ keys → place ≡ decided_if bit entry keys
place_in entry place has bit given keys is same at =
    is ∙ ap (λ (b : Bool). decided_if b entry given) same ∙ ap (decided_if bit entry) at
