-- The requester with a token, in the words of NFSv4.
use Rattle.std.proofs.Common.{◌≡◌, ℕ, Bool, true, false, List, [], ◌∷◌, refl, sym, ap, subst, ◌∙◌}
use Rattle.std.specs.Prelude.{codes, map, ◌&&◌, ◌||◌}
use Rattle.std.specs.List.{AllByRecursion, list_any}
use Rattle.std.specs.Str.{bytes_eq}
use Rattle.std.proofs.lemmas.Bool.{eq-eqb, true≢false}
use Rattle.std.proofs.lemmas.Slice.Eq.{bytes_eq-Decides}
use Rattle.acl_perm.specs.Situation.{Situation, matches}
use Rattle.acl_eval.specs.Situation.{named_situation}
use Rattle.acl_nt.specs.NtCheck.{is_sid_in, same_sid}
use Rattle.acl_nt.specs.NtList.{BelongsTo, HasOneUser, sid_principal, token_user}
use Rattle.acl_nt.specs.Sid.{IsSid, Sid}
use Rattle.acl_nt.specs.SidName.{sid_name}
use Rattle.acl_nt.proofs.Mapped.{any_mapped}
use Rattle.acl_nt.proofs.NtGrants.{same_sid_is}
use Rattle.acl_nt.proofs.SidNames.{one_name}

-- two tests that imply each other are the same
same_test : (s t : Bool) → (s ≡ true → t ≡ true) → (t ≡ true → s ≡ true) → s ≡ t
same_test true t f g = sym (f refl)
same_test false true f g = g refl
same_test false false f g = refl

-- equal names pass the test
names_equal : (a b : List ℕ) → a ≡ b → bytes_eq a b ≡ true
names_equal a b e = (bytes_eq-Decides a b).1 e

-- a SID passes the test with itself
same_self : (x y : Sid) → x ≡ y → same_sid x y ≡ true
same_self x y e = subst (λ (z : Sid). same_sid x z ≡ true) e
    (ap (λ (t : Bool). t && bytes_eq x.words x.words) (eq-eqb x.authority x.authority refl)
    ∙ names_equal x.words x.words refl)

-- the test of two names is the test of their SIDs
names_as_sids : (x y : Sid) → IsSid x → IsSid y → bytes_eq (sid_name x) (sid_name y) ≡ same_sid x y
names_as_sids x y xs ys = same_test (bytes_eq (sid_name x) (sid_name y)) (same_sid x y)
    (λ h. same_self x y (one_name x y xs ys ((bytes_eq-Decides (sid_name x) (sid_name y)).0 h)))
    (λ h. names_equal (sid_name x) (sid_name y) (ap sid_name (same_sid_is x y h)))

-- the name of a SID is one of the names of a token if and only if the SID is in the token
name_is_one : (x : Sid) (token : List Sid) → IsSid x → AllByRecursion IsSid token
    → list_any (λ y. bytes_eq (sid_name x) (sid_name y)) token ≡ is_sid_in x token
name_is_one x [] xs each = refl
name_is_one x (y ∷ token) xs each =
    ap (λ (t : Bool). t || list_any (λ z. bytes_eq (sid_name x) (sid_name z)) token) (names_as_sids x y xs each.0)
    ∙ ap (λ (t : Bool). same_sid x y || t) (name_is_one x token xs each.1)

-- a test or one that holds
or_true : (s t : Bool) → t ≡ true → (s || t) ≡ true
or_true true t e = refl
or_true false t e = e

-- the name of the user is that of a user in the token
user_is_in : (users token : List Sid) (x : Sid) → IsSid x → AllByRecursion IsSid token
    → token_user users token ≡ sid_name x → is_sid_in x token ≡ true
user_is_in users [] x xs each e = absurd (true≢false (sym (names_equal (codes "nobody") (sid_name x) e)))
user_is_in users (y ∷ token) x xs each e = by (is_sid_in y users) refl (user_is_in users token x xs each.1)
  where
    by : (t : Bool) → is_sid_in y users ≡ t → (token_user users token ≡ sid_name x → is_sid_in x token ≡ true)
        → is_sid_in x (y ∷ token) ≡ true
    by true f rest = ap (λ (t : Bool). t || is_sid_in x token)
        (same_self x y (sym (one_name y x each.0 xs (rw f at e))))
    by false f rest = or_true (same_sid x y) (is_sid_in x token) (rest (rw f at e))

-- a user in the token has the name of the user
is_the_user : (users token : List Sid) (x : Sid) → is_sid_in x users ≡ true → HasOneUser users token
    → is_sid_in x token ≡ true → token_user users token ≡ sid_name x
is_the_user users [] x is one e = absurd (true≢false (sym e))
is_the_user users (y ∷ token) x is one e =
    by (is_sid_in y users) (same_sid x y) refl refl (is_the_user users token x is fewer)
  where
    fewer : HasOneUser users token
    fewer v w vu wu vt wt = one v w vu wu (or_true (same_sid v y) (is_sid_in v token) vt)
        (or_true (same_sid w y) (is_sid_in w token) wt)

    first : is_sid_in y (y ∷ token) ≡ true
    first = ap (λ (t : Bool). t || is_sid_in y token) (same_self y y refl)

    by : (t u : Bool) → is_sid_in y users ≡ t → same_sid x y ≡ u
        → (is_sid_in x token ≡ true → token_user users token ≡ sid_name x)
        → token_user users (y ∷ token) ≡ sid_name x
    by true u f g rest = rw f (ap sid_name (one y x f is first e))
    by false true f g rest = absurd (true≢false (sym is
        ∙ ap (λ (z : Sid). is_sid_in z users) (same_sid_is x y g) ∙ f))
    by false false f g rest = rw f (rest (sym (ap (λ (t : Bool). t || is_sid_in x token) g) ∙ e))

-- the requester belongs to the token
pub belongs : (users token : List Sid) (owner group : List ℕ) → AllByRecursion IsSid token → HasOneUser users token
    → BelongsTo users token (named_situation owner group (token_user users token) (map sid_name token))
belongs users token owner group each one x xs other = by (is_sid_in x users) refl
  where
    s : Situation
    s = named_situation owner group (token_user users token) (map sid_name token)

    by : (t : Bool) → is_sid_in x users ≡ t → matches s (sid_principal users x) ≡ is_sid_in x token
    by true e = rw e (same_test (bytes_eq (token_user users token) (sid_name x)) (is_sid_in x token)
        (λ h. user_is_in users token x xs each ((bytes_eq-Decides (token_user users token) (sid_name x)).0 h))
        (λ h. names_equal (token_user users token) (sid_name x) (is_the_user users token x e one h)))
    by false e = rw e (any_mapped (bytes_eq (sid_name x)) sid_name token ∙ name_is_one x token xs each)
