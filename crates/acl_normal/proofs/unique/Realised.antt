-- The small situations: which principals match in them.
use Rattle.acl_normal.proofs.Common.{[], AllByRecursion, ap, arith, Bool, bytes_eq, Column, Deny, everyone, false, false_from_ne_true, first_kind, group, group_named, HasName, inl, inr, is_among, is_either_or_everyone, IsName, IsSituation, length, length-replicate, List, lit<, matches, max, may_overlap, None, Option, or_from, or_left, owner, Principal, principal_eq, principal_name, refl, replicate, same_Some, SameVerdicts, small_situation, Some, subst, suc, sym, true, unwrap_or, user, verdict, zero, ℕ, ◌<◌, ◌||◌, ◌∙◌, ◌∷◌, ◌≡◌, ◌⊎◌, same_answers}
use Rattle.std.proofs.lemmas.List.Elements.{All-replicate, All-from_recursion}
use Rattle.std.proofs.lemmas.Slice.Eq.{bytes_eq-Decides}
use Rattle.acl_perm.specs.Situation.{is_one_of}
use Rattle.acl_normal.specs.SmallSituations.{first_user, group_names, first_or, names_or}
use Rattle.acl_normal.proofs.unique.Names.{bytes_eq_itself, bytes_eq_turned, bytes_eq_same, principal_eq_same, longest_name}
use Rattle.acl_normal.proofs.Each.{cond_holds}

-- names of different lengths are different
other_length : (a b : List ℕ) → (length a ≡ length b → ⊥) → bytes_eq a b ≡ false
other_length a b h = false_from_ne_true (bytes_eq a b) (λ e. h (ap (λ x. length x) (bytes_eq_same a b e)))

-- each name has fewer than n bytes
abbrev pub AreShort : ℕ → List Principal → Type 0
AreShort n ps = AllByRecursion (λ p. length (principal_name p) < n) ps

-- at most one user name
abbrev pub HasOneUser : List Principal → Type 0
HasOneUser ps = (a b : List ℕ) → is_among (user a) ps ≡ true → is_among (user b) ps ≡ true → a ≡ b

-- the first user is among the principals
user_is_among : (ps : List Principal) (b : List ℕ) → first_user ps ≡ Some b → is_among (user b) ps ≡ true
user_is_among [] b h = cc
user_is_among (p ∷ ps) b h = grind (arith, user_is_among ps b, bytes_eq_itself b)

-- if there is no first user, no user is among the principals
no_user_among : (ps : List Principal) (a : List ℕ) → first_user ps ≡ None → is_among (user a) ps ≡ false
no_user_among [] a h = refl
no_user_among (p ∷ ps) a h = grind (arith, no_user_among ps a)

-- what holds of each principal holds of the user
first_user_has : (P : Principal → Type 0) (ps : List Principal) (b : List ℕ) → AllByRecursion P ps
    → first_user ps ≡ Some b → P (user b)
first_user_has P [] b s h = cc
first_user_has P (user a ∷ ps) b s h = subst (λ v. P (user v)) (same_Some a b h) s.0
first_user_has P (owner ∷ ps) b s h = first_user_has P ps b s.1 h
first_user_has P (_ ∷ ps) b s h = first_user_has P ps b s.1 h

-- a name is one of the group names if and only if its group is among the principals
group_names_are : (ps : List Principal) (a : List ℕ) → is_one_of a (group_names ps) ≡ is_among (group_named a) ps
group_names_are [] a = refl
group_names_are (p ∷ ps) a = grind (arith, group_names_are ps a)

-- n bytes are none of the group names, if each name is shorter
stranger_is_none : (n : ℕ) (ps : List Principal) (a : List ℕ) → AreShort n ps → length a ≡ n
    → is_one_of a (group_names ps) ≡ false
stranger_is_none n [] a s h = refl
stranger_is_none n (group_named b ∷ ps) a s h =
    or_from _ _ (other_length a b (λ e. absurd (omega (arith, s.0)))) (stranger_is_none n ps a s.1 h)
stranger_is_none n (owner ∷ ps) a s h = stranger_is_none n ps a s.1 h
stranger_is_none n (_ ∷ ps) a s h = stranger_is_none n ps a s.1 h

-- the strange user and the strange owner have different names
strangers_differ : (n : ℕ) → 0 < n → bytes_eq (replicate n 117) (replicate n 111) ≡ false
strangers_differ zero h = absurd (omega arith)
strangers_differ (suc n) h = refl

-- the user of the small situation is the user name among the principals
user_matches : (n : ℕ) (ps : List Principal) (a : List ℕ) → HasOneUser ps → length a < n
    → bytes_eq a (unwrap_or (first_user ps) (replicate n 117)) ≡ is_among (user a) ps
user_matches n ps a only h = go (first_user ps) refl
  where
    go : (o : Option (List ℕ)) → first_user ps ≡ o
        → bytes_eq a (unwrap_or (first_user ps) (replicate n 117)) ≡ is_among (user a) ps
    go None e =
        rw (e, no_user_among ps a e) (other_length a (replicate n 117)
        (λ same. absurd (omega (arith, same ∙ length-replicate n 117))))
    go (Some b) e =
        rw e (same_answers _ _
        (λ i. subst (λ v. is_among (user v) ps ≡ true) (sym (bytes_eq_same a b i)) (user_is_among ps b e))
        (λ i. (bytes_eq-Decides a b).1 (only a b i (user_is_among ps b e))))

-- the owner matches in the small situation if and only if it is among the principals
owner_matches : (n : ℕ) (ps : List Principal) → AreShort n ps → 0 < n
    → matches (small_situation n ps) owner ≡ is_among owner ps
owner_matches n ps s h = go (is_among owner ps) refl (first_user ps) refl
  where
    go : (b : Bool) → is_among owner ps ≡ b → (o : Option (List ℕ)) → first_user ps ≡ o
        → matches (small_situation n ps) owner ≡ is_among owner ps
    go true e o i = rw e (bytes_eq_itself (unwrap_or (first_user ps) (replicate n 117)))
    go false e None i = rw (e, i) (strangers_differ n h)
    go false e (Some b) i =
        rw (e, i) (other_length b (replicate n 111)
        (λ same. absurd (omega (
          arith,
          same ∙ length-replicate n 111,
          first_user_has (λ p. length (principal_name p) < n) ps b s i,
        ))))

-- the owning group matches in the small situation if and only if it is among the principals
group_matches : (n : ℕ) (ps : List Principal) → AreShort n ps → matches (small_situation n ps) group ≡ is_among group ps
group_matches n ps s = go (is_among group ps) refl (group_names ps) refl
  where
    go : (b : Bool) → is_among group ps ≡ b → (names : List (List ℕ)) → group_names ps ≡ names
        → matches (small_situation n ps) group ≡ is_among group ps
    go true e [] i = rw (e, i) (or_left _ _ (bytes_eq_itself (replicate n 103)))
    go true e (x ∷ xs) i = rw (e, i) (or_left _ _ (bytes_eq_itself x))
    go false e names i = rw e (stranger_is_none n ps (replicate n 103) s (length-replicate n 103))

-- a named group matches in the small situation if and only if it is among the principals
group_named_matches : (n : ℕ) (ps : List Principal) (a : List ℕ) → length a < n
    → matches (small_situation n ps) (group_named a) ≡ is_among (group_named a) ps
group_named_matches n ps a h = go (is_among group ps) refl (group_names ps) refl
  where
    go : (b : Bool) → is_among group ps ≡ b → (names : List (List ℕ)) → group_names ps ≡ names
        → matches (small_situation n ps) (group_named a) ≡ is_among (group_named a) ps
    go true e [] i =
        rw (e, i) (or_from _ _ (other_length a (replicate n 103)
        (λ same. absurd (omega (arith, same ∙ length-replicate n 103)))) refl ∙ ap (is_one_of a) (sym i)
        ∙ group_names_are ps a)
    go true e (x ∷ xs) i = rw (e, i) (ap (is_one_of a) (sym i) ∙ group_names_are ps a)
    go false e names i = rw e (group_names_are ps a)

-- in the small situation exactly these principals match, and everyone
pub small_matches : (n : ℕ) (ps : List Principal) → AreShort n ps → HasOneUser ps → 0 < n → (r : Principal)
    → length (principal_name r) < n → matches (small_situation n ps) r ≡ is_among r (everyone ∷ ps)
small_matches n ps s only h owner l = owner_matches n ps s h
small_matches n ps s only h (user a) l = bytes_eq_turned _ a ∙ user_matches n ps a only l
small_matches n ps s only h group l = group_matches n ps s
small_matches n ps s only h (group_named a) l = group_named_matches n ps a l
small_matches n ps s only h everyone l = refl

-- tests that answer alike at short names find the same
pub first_kind_alike : (m n : Principal → Bool) (c : Column) (len : ℕ)
    → ((r : Principal) → length (principal_name r) < len → m r ≡ n r) → longest_name c < len
    → first_kind m c ≡ first_kind n c
first_kind_alike m n [] len same short = refl
first_kind_alike m n ((p, k) ∷ c) len same short =
    let here : m p ≡ n p = same p (omega arith) in
    let there = first_kind_alike m n c len same (omega arith) in
    rw (here, there)

-- some bytes, all of them one byte, are a name
stranger_is_name : (n x : ℕ) → 0 < n → x < 256 → IsName (replicate n x)
stranger_is_name n x h l = (omega (arith, length-replicate n x), All-replicate (λ b. b < 256) n x l)

-- each is a name
abbrev AreNames : List (List ℕ) → Type 0
AreNames names = AllByRecursion IsName names

-- each has a name, where it is a user or a group name
abbrev pub AllNamed : List Principal → Type 0
AllNamed ps = AllByRecursion HasName ps

-- the group names of principals that have names are names
group_names_named : (ps : List Principal) → AllNamed ps → AreNames (group_names ps)
group_names_named [] s = tt
group_names_named (group_named a ∷ ps) s = (s.0, group_names_named ps s.1)
group_names_named (owner ∷ ps) s = group_names_named ps s.1
group_names_named (_ ∷ ps) s = group_names_named ps s.1

-- the first of some names, or a name where there is none, is a name
first_or_named : (names : List (List ℕ)) (x : List ℕ) → AreNames names → IsName x → IsName (first_or names x)
first_or_named [] x s h = h
first_or_named (y ∷ names) x s h = s.0

-- some names, or one name where there is none, are names
names_or_named : (names : List (List ℕ)) (x : List ℕ) → AreNames names → IsName x → AreNames (names_or names x)
names_or_named [] x s h = (h, tt)
names_or_named (y ∷ names) x s h = s

-- a name that may be there, or a name where there is none, is a name
unwrap_named : (o : Option (List ℕ)) (x : List ℕ) → ((b : List ℕ) → o ≡ Some b → IsName b) → IsName x
    → IsName (unwrap_or o x)
unwrap_named None x h i = i
unwrap_named (Some b) x h i = h b refl

-- the names of a small situation are names
pub small_is_situation : (n : ℕ) (ps : List Principal) → 0 < n → AllNamed ps → IsSituation (small_situation n ps)
small_is_situation n ps h s =
    let stranger = stranger_is_name n 103 h (lit< tt) in
    let asking =
    unwrap_named (first_user ps) (replicate n 117) (λ b e. first_user_has HasName ps b s e)
    (stranger_is_name n 117 h (lit< tt)) in
    let groups = group_names_named ps s in
    record {
      owner_name = cond_holds IsName (is_among owner ps) _ _ asking (stranger_is_name n 111 h (lit< tt));
      owning_group = cond_holds IsName (is_among group ps) _ _
          (first_or_named (group_names ps) _ groups stranger) stranger;
      user_name = asking;
      groups = All-from_recursion IsName _
          (cond_holds AreNames (is_among group ps) _ _ (names_or_named (group_names ps) _ groups stranger) groups);
    }

-- a test for everyone or one of two is the same with everyone first or last
pub everyone_moved : (a b e : Bool) → (e || (a || (b || false))) ≡ ((a || b) || e)
everyone_moved a b e = grind arith

-- a principal that is among two is the first or the second
among_two : (p q r : Principal) → is_among r (p ∷ q ∷ []) ≡ true → (r ≡ p) ⊎ (r ≡ q)
among_two p q r h = grind (arith, principal_eq_same)

-- of two that overlap at most one is a user name
pub one_user : (p q : Principal) → may_overlap p q ≡ true → HasOneUser (p ∷ q ∷ [])
one_user p q o a b h i = go (among_two p q (user a) h) (among_two p q (user b) i)
  where
    go : (user a ≡ p) ⊎ (user a ≡ q) → (user b ≡ p) ⊎ (user b ≡ q) → a ≡ b
    go (inl e) (inl f) = ap principal_name (e ∙ sym f)
    go (inr e) (inr f) = ap principal_name (e ∙ sym f)
    go (inl e) (inr f) = bytes_eq_same a b (rw (← e, ← f) at o)
    go (inr e) (inl f) = sym (bytes_eq_same b a (rw (← e, ← f) at o))

-- columns that decide alike in every situation do so for two principals that overlap, and everyone
pub pairs_from_situations : (c d : Column) (p q : Principal) → SameVerdicts c d → HasName p → HasName q
    → may_overlap p q ≡ true → verdict (is_either_or_everyone p q) c ≡ verdict (is_either_or_everyone p q) d
pairs_from_situations c d p q same np nq o =
    let n : ℕ =
    suc (max (max (longest_name c) (longest_name d))
    (max (length (principal_name p)) (length (principal_name q)))) in
    let m = matches (small_situation n (p ∷ q ∷ [])) in
    let are : (r : Principal) → length (principal_name r) < n → m r ≡ is_either_or_everyone p q r =
    λ r l. small_matches n (p ∷ q ∷ []) (omega arith, (omega arith, tt)) (one_user p q o) (omega arith) r l
    ∙ everyone_moved (principal_eq r p) (principal_eq r q) (principal_eq r everyone) in
    let first = ap (λ x. unwrap_or x Deny) (first_kind_alike m (is_either_or_everyone p q) c n are (omega arith)) in
    let second = ap (λ x. unwrap_or x Deny) (first_kind_alike m (is_either_or_everyone p q) d n are (omega arith)) in
    sym first ∙ same (small_situation n (p ∷ q ∷ []))
    (small_is_situation n (p ∷ q ∷ []) (omega arith) (np, (nq, tt))) ∙ second
