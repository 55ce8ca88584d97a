-- Tags that compare as equal are equal, what a list of entries has at a tag, and tags as numbers.
use Rattle.acl_posix.proofs.Common.{[], ap, arith, Bool, Entry, eq_by_cmp, false, get_or, group, insert, is_some, IsAntisymmetric, IsTag, length, length-map, Less, List, list_any, map, nat_cmp, None, Option, ordering_then, pair_of, pairs, qualifier, rank, refl, Some, suc, sym, Tag, tag_again, tag_cmp, tag_from, tag_of, tags, true, user, user_obj, zero, ℕ, ◌*◌, ◌+◌, ◌<◌, ◌||◌, ◌∙◌, ◌∷◌, ◌≡◌}
use Rattle.std.proofs.lemmas.Map.Lookups.{exact_pairs, exact_unsigned}
use Rattle.acl_perm.specs.internal.FedAlike.{is_equal}

-- tags that compare as equal are equal
pub exact_tags : IsAntisymmetric tag_cmp
exact_tags x y e =
    let both = exact_pairs nat_cmp nat_cmp exact_unsigned exact_unsigned (rank x, qualifier x)
    (rank y, qualifier y) e in
    sym (tag_again x) ∙ ap (λ (p : ℕ × ℕ). tag_from p.0 p.1) both ∙ tag_again y

-- tags that a test finds equal are equal
pub same_tag : (q l : Tag) → eq_by_cmp tag_cmp q l ≡ true → q ≡ l
same_tag q l h = exact_tags q l (is_equal (tag_cmp q l) h)

-- ---- a list of entries and its tags, place by place

-- the tag at a place of a list
pub tag_read : (es : List Entry) (i : ℕ) (d : Entry) (l : Tag) → i < length es
    → get_or (tags (pairs es)) i l ≡ tag_of (get_or es i d).tag
tag_read [] i d l lt = absurd (omega (arith, lt))
tag_read (e ∷ es) zero d l lt = refl
tag_read (e ∷ es) (suc i) d l lt = tag_read es i d l (omega (arith, lt))

-- a list of entries has as many tags
pub length-tags : (es : List Entry) → length (tags (pairs es)) ≡ length es
length-tags es = length-map (pairs es) (λ (p : Tag × ℕ). p.0) ∙ length-map es pair_of

-- a list of pairs has as many tags
pub length-tags_of : (ps : List (Tag × ℕ)) → length (tags ps) ≡ length ps
length-tags_of ps = length-map ps (λ (p : Tag × ℕ). p.0)

-- the pairs of a list with one entry more
pub pairs-insert : (es : List Entry) (i : ℕ) (e : Entry) → pairs (insert es i e) ≡ insert (pairs es) i (pair_of e)
pairs-insert es zero e = refl
pairs-insert [] (suc i) e = refl
pairs-insert (x ∷ es) (suc i) e = ap (λ (ps : List (Tag × ℕ)). pair_of x ∷ ps) (pairs-insert es i e)

-- an option that is not Some is None
pub is_none : {X : Type 0} (o : Option X) → is_some o ≡ false → o ≡ None
is_none None e = refl
is_none (Some x) e = absurd cc

-- a test of some element of a list of values is a test of what they are values of
pub list_any-map : {X Y : Type 0} (p : Y → Bool) (f : X → Y) (xs : List X)
    → list_any p (map f xs) ≡ list_any (λ x. p (f x)) xs
list_any-map p f [] = refl
list_any-map p f (x ∷ xs) = ap (λ b. p (f x) || b) (list_any-map p f xs)

-- ---- tags as numbers

-- a qualifier is below 2^32
pub qualifier_below : (tag : Tag) → IsTag tag → qualifier tag < 4294967296
qualifier_below (user id) h = omega (arith, h)
qualifier_below (group id) h = omega (arith, h)
qualifier_below tag h = omega arith

-- there are six ranks
pub rank_below : (tag : Tag) → rank tag < 6
rank_below user_obj = omega arith
rank_below tag = omega arith

-- a tag as one number
abbrev pub number : Tag → ℕ
number tag = rank tag * 4294967296 + qualifier tag

-- numbers of two parts, the second below 2^32, compare by the first part, then by the second
by_parts : (a b x y : ℕ) → x < 4294967296 → y < 4294967296
    → nat_cmp (a * 4294967296 + x) (b * 4294967296 + y) ≡ ordering_then (nat_cmp a b) (nat_cmp x y)
by_parts a b x y p q = grind arith

-- two numbers compare as their tags do
pub number_cmp : (s t : Tag) → IsTag s → IsTag t → nat_cmp (number s) (number t) ≡ tag_cmp s t
number_cmp s t of_s of_t =
    by_parts (rank s) (rank t) (qualifier s) (qualifier t) (qualifier_below s of_s) (qualifier_below t of_t)

-- a number that compares as less than another is less
less_is : (x y : ℕ) → nat_cmp x y ≡ Less → x < y
less_is x y h = grind arith

-- a tag that is before another has the smaller number
pub less_rises : (s t : Tag) → IsTag s → IsTag t → tag_cmp s t ≡ Less → number s < number t
less_rises s t of_s of_t h = less_is (number s) (number t) (number_cmp s t of_s of_t ∙ h)
