-- What holds of each element of a list, and lists that are cut at a place.
use Rattle.acl_normal.proofs.Common.{AllByRecursion, AllZip, Bool, List, [], ap, cases_lt, cond, drop, drop_more, false, inl, inr, refl, subst, sym, take, true, ℕ, ⊎_elim, ◌++◌, ◌+◌, ◌<◌, ◌∙◌, ◌∷◌, ◌≡◌, ◌≤◌, ◌⊎◌}
use Rattle.std.proofs.Common.{arith, length, slice_index_or, suc, zero}
pub use Rattle.std.proofs.lemmas.Slice.Zip.{AllZip-long as zip_length, all_zipped_more as zip_push}
use Rattle.std.proofs.lemmas.List.{take-append-drop}

-- what holds of each element of two lists together holds of each element of the second
pub all_right : {X : Type 0} (P : X → Type 0) (xs ys : List X) → AllByRecursion P (xs ++ ys) → AllByRecursion P ys
all_right P [] ys h = h
all_right P (x ∷ xs) ys h = all_right P xs ys h.1

-- what holds of each element of a list holds of the one at a place
pub at_split : {X : Type 0} (P : X → Type 0) (whole before : List X) (x : X) (after : List X)
    → whole ≡ before ++ x ∷ after → AllByRecursion P whole → P x
at_split P whole before x after is h =
    (all_right P before (x ∷ after) (subst (λ v. AllByRecursion P v) is h)).0

-- what holds of the element at each place of a list holds of each element
pub from_splits : {X : Type 0} (P : X → Type 0) (xs : List X)
    → ((l : List X) (x : X) (r : List X) → xs ≡ l ++ x ∷ r → P x) → AllByRecursion P xs
from_splits P [] h = tt
from_splits P (x ∷ xs) h = (h [] x xs refl, from_splits P xs (λ l y r e. h (x ∷ l) y r (ap (λ v. x ∷ v) e)))

-- what holds of two lists, place by place, holds at each place
pub zip_at : {A B : Type 0} (R : A → B → Type 0) (xs : List A) (ys : List B) (i : ℕ) (d : A) (e : B) → i < length xs
    → AllZip R xs ys → R (slice_index_or xs i d) (slice_index_or ys i e)
zip_at R [] _ i d e l z = absurd (omega (arith, l))
zip_at R (x ∷ xs) (y ∷ ys) zero d e l z = z.0
zip_at R (x ∷ xs) (y ∷ ys) (suc i) d e l z = zip_at R xs ys i d e (omega (arith, l)) z.1
zip_at R (x ∷ xs) [] i d e l z = absurd z

-- what holds of two pairs of lists, place by place, holds of both together
pub zip_append : {A B : Type 0} (R : A → B → Type 0) (xs vs : List A) (ys ws : List B) → AllZip R xs ys → AllZip R vs ws
    → AllZip R (xs ++ vs) (ys ++ ws)
zip_append R [] vs [] ws z h = h
zip_append R (x ∷ xs) vs (y ∷ ys) ws z h = (z.0, zip_append R xs vs ys ws z.1 h)
zip_append R [] vs (y ∷ ys) ws z h = absurd z
zip_append R (x ∷ xs) vs [] ws z h = absurd z

-- what holds of each element of a list holds of the one at a place
pub all_at : {X : Type 0} (P : X → Type 0) (xs : List X) (i : ℕ) (d : X) → i < length xs → AllByRecursion P xs
    → P (slice_index_or xs i d)
all_at P [] i d l h = absurd (omega (arith, l))
all_at P (x ∷ xs) zero d l h = h.0
all_at P (x ∷ xs) (suc i) d l h = all_at P xs i d (omega (arith, l)) h.1

-- what holds of the element at each place of a list holds of each element
pub all_from : {X : Type 0} (P : X → Type 0) (xs : List X) (d : X)
    → ((i : ℕ) → i < length xs → P (slice_index_or xs i d)) → AllByRecursion P xs
all_from P [] d h = tt
all_from P (x ∷ xs) d h = (h 0 (omega arith), all_from P xs d (λ i l. h (suc i) (omega (arith, l))))

-- if one fact implies another, and the first holds of each element, the second does too
pub all_weaker : {X : Type 0} (P Q : X → Type 0) (xs : List X) → ((x : X) → P x → Q x) → AllByRecursion P xs
    → AllByRecursion Q xs
all_weaker P Q [] f h = tt
all_weaker P Q (x ∷ xs) f h = (f x h.0, all_weaker P Q xs f h.1)

-- what holds of each element of two lists holds of each element of both together
pub all_append : {X : Type 0} (P : X → Type 0) (xs ys : List X) → AllByRecursion P xs → AllByRecursion P ys
    → AllByRecursion P (xs ++ ys)
all_append P [] ys h i = i
all_append P (x ∷ xs) ys h i = (h.0, all_append P xs ys h.1 i)

-- what holds of each element of two lists together holds of each element of the first
pub all_left : {X : Type 0} (P : X → Type 0) (xs ys : List X) → AllByRecursion P (xs ++ ys) → AllByRecursion P xs
all_left P [] ys h = tt
all_left P (x ∷ xs) ys h = (h.0, all_left P xs ys h.1)

-- ---- places

-- a place before the next one is before this one, or it is this one
pub before_or_at : (j i : ℕ) → j < i + 1 → (j < i) ⊎ (j ≡ i)
before_or_at j i l = ⊎_elim inl (λ (g : i ≤ j). inr (omega (arith, l, g))) (cases_lt j i)

-- a list is the elements before a place, the one at the place, and those after it
pub split_there : {X : Type 0} (xs : List X) (i : ℕ) (d : X) → i < length xs
    → xs ≡ take i xs ++ slice_index_or xs i d ∷ drop (i + 1) xs
split_there xs i d l = sym (take-append-drop i xs) ∙ ap (λ v. take i xs ++ v) (drop_more xs i d l)

-- what holds of both holds of either
pub cond_holds : {A : Type 0} (P : A → Type 0) (b : Bool) (x y : A) → P x → P y → P (cond b x y)
cond_holds P true x y h i = h
cond_holds P false x y h i = i
