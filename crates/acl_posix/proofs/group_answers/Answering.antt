-- What a set answers to several groups together, by its answers to each of them.
use Rattle.acl_posix.proofs.Common.{[], and_true, arith, any_contains, ap, Bool, cond, Entries, entry_contains, eqb-true, eq_by_cmp, false, get_or_default, group, group_contains, group_obj, inl, inr, is_contained, is_some, length, List, list_any, mask, None, Option, or_true, other, refl, Some, subst, sym, Tag, tag_at, tag_cmp, true, unwrap_or, ℕ, ◌&&◌, ◌<◌, ◌==◌, ◌||◌, ◌∙◌, ◌∷◌, ◌≡◌, ◌⊎◌, Any-from_list_any}
use Rattle.std.specs.Int.Bits.{and_zero_r}
use mathlib.Core.Bool.{beq}
use Rattle.std.specs.FinMap as fin
use Rattle.std.proofs.lemmas.Bool.{or_right}
use Rattle.acl_posix.specs.internal.GroupAnswers.{group_answer, group_id, HasAnswers, IsGroupExcess, stranger_grants}
use Rattle.acl_posix.proofs.sorted.Groups.{any_group, contains_empty}
use Rattle.acl_posix.proofs.tag.Tags.{length-tags_of, same_tag}

-- two answers together: some answer grants; if none does, some answer denies; or there is none
abbrev pub join : Option Bool → Option Bool → Option Bool
join None y = y
join (Some x) None = Some x
join (Some x) (Some y) = Some (x || y)

-- the answers to a list of groups together
abbrev pub joined : (ℕ → Option Bool) → List ℕ → Option Bool
joined answer [] = None
joined answer (g ∷ gs) = join (answer g) (joined answer gs)

-- ---- the answer to several groups is made of the answers to each

-- the answer of a set in parts: whether a group matches, whether there is a MASK, whether it has the request, whether a
-- group has it, whether GROUP_OBJ has it
abbrev part : Bool → Bool → Bool → Bool → Bool → Option Bool
part f masked m k go = cond f (Some (cond masked (m && k) go)) None

-- two answers together, in parts: one of the two groups has the request
some_either : (masked m k l go : Bool)
    → join (Some (cond masked (m && k) go)) (Some (cond masked (m && l) go)) ≡ Some (cond masked (m && (k || l)) go)
some_either true true k l go = refl
some_either true false k l go = refl
some_either false m k l true = refl
some_either false m k l false = refl

-- the same if they may be absent, and a group that has the request matches
join_parts : (f h masked m k l go : Bool) → (k ≡ true → f ≡ true) → (l ≡ true → h ≡ true)
    → join (part f masked m k go) (part h masked m l go) ≡ part (f || h) masked m (k || l) go
join_parts true true masked m k l go p q = some_either masked m k l go
join_parts true false masked m true false go p q = refl
join_parts true false masked m false false go p q = refl
join_parts true false masked m k true go p q = let wrong = q refl in absurd cc
join_parts false h masked m false l go p q = refl
join_parts false h masked m true l go p q = let wrong = p refl in absurd cc

-- what contains a request contains the empty request
contains_none : (o : Option ℕ) (r : ℕ) → is_contained o r ≡ true → is_contained o 0 ≡ true
contains_none None r h = absurd cc
contains_none (Some p) r h = rw (and_zero_r p) refl

-- a group whose entry contains a request matches an entry
has_match : (E : Entries) (og r g : ℕ) → group_contains E og r g ≡ true → group_contains E og 0 g ≡ true
has_match E og r g h = elim (or_true ((g == og) && entry_contains E group_obj r) (entry_contains E (group g) r) h) [
  | inl owning ↦
      let both = and_true (g == og) (entry_contains E group_obj r) owning in
      rw (both.0, contains_none (fin.get E group_obj) r both.1) refl
  | inr held ↦ or_right _ _ (contains_none (fin.get E (group g)) r held)
]

-- if a group passes a test, a group passes each test that is weaker
any_weaker : (p q : ℕ → Bool) → ((g : ℕ) → p g ≡ true → q g ≡ true) → (gs : List ℕ) → list_any p gs ≡ true
    → list_any q gs ≡ true
any_weaker p q to [] h = absurd cc
any_weaker p q to (g ∷ gs) h = elim (or_true (p g) (list_any p gs) h) [
  | inl here ↦ rw (to g here) refl
  | inr later ↦ or_right _ _ (any_weaker p q to gs later)
]

-- the answers to a list of groups, in parts
joined_is : (E : Entries) (og r : ℕ) (gs : List ℕ) → joined (group_answer E og r) gs
    ≡ part (list_any (group_contains E og 0) gs) (fin.contains_key E mask) (entry_contains E mask r)
    (list_any (group_contains E og r) gs) (entry_contains E group_obj r)
unfolding group_answer
joined_is E og r [] = refl
joined_is E og r (g ∷ gs) =
    ap (join (group_answer E og r g)) (joined_is E og r gs)
    ∙ join_parts (group_contains E og 0 g) (list_any (group_contains E og 0) gs) (fin.contains_key E mask)
    (entry_contains E mask r) (group_contains E og r g) (list_any (group_contains E og r) gs)
    (entry_contains E group_obj r) (has_match E og r g)
    (any_weaker (group_contains E og r) (group_contains E og 0) (has_match E og r) gs)

-- the answer in parts, or another if no group matches
unwrap_part : (f masked m k go o : Bool)
    → unwrap_or (part f masked m k go) o ≡ cond f (cond masked (m && k) go) o
unwrap_part true masked m k go o = refl
unwrap_part false masked m k go o = refl

-- the answer to a requester by the answers to each group
pub stranger_parts : (E : Entries) (og r : ℕ) (gs : List ℕ) → stranger_grants E og gs r
    ≡ cond (list_any (group_contains E og 0) gs) (cond (fin.contains_key E mask) (entry_contains E mask r
    && list_any (group_contains E og r) gs) (entry_contains E group_obj r)) (entry_contains E other r)
unfolding stranger_grants
stranger_parts E og r gs =
    let o = entry_contains E other r in
    let go = entry_contains E group_obj r in
    let m = entry_contains E mask r in
    let masked = fin.contains_key E mask in
    let any = any_group E og 0 gs ∙ contains_empty E og gs in
    ap (λ (f : Bool). cond f (cond masked (m && any_contains E og gs r) go) o) (sym any)
    ∙ ap (λ (k : Bool). cond (list_any (group_contains E og 0) gs) (cond masked (m && k) go) o)
    (sym (any_group E og r gs))

-- the answer to a requester is the answer to the groups together, or that of OTHER
pub stranger_is : (E : Entries) (og r : ℕ) (gs : List ℕ)
    → stranger_grants E og gs r ≡ unwrap_or (joined (group_answer E og r) gs) (entry_contains E other r)
stranger_is E og r gs =
    stranger_parts E og r gs
    ∙ sym (unwrap_part (list_any (group_contains E og 0) gs) (fin.contains_key E mask) (entry_contains E mask r)
    (list_any (group_contains E og r) gs) (entry_contains E group_obj r) (entry_contains E other r))
    ∙ ap (λ (a : Option Bool). unwrap_or a (entry_contains E other r)) (sym (joined_is E og r gs))

-- ---- the answers to several groups

-- two answers together are one of them
join_either : (a b : Option Bool) (c : Bool) → join a b ≡ Some c → (a ≡ Some c) ⊎ (b ≡ Some c)
join_either None b c h = inr h
join_either (Some x) None c h = inl h
join_either (Some true) (Some y) c h = inl h
join_either (Some false) (Some y) c h = inr h

-- two answers together grant if the first grants
join_left : (a b : Option Bool) → a ≡ Some true → join a b ≡ Some true
join_left None b h = absurd cc
join_left (Some true) None h = refl
join_left (Some true) (Some y) h = refl
join_left (Some false) b h = absurd cc

-- two answers together grant if the second grants
join_right : (a b : Option Bool) → b ≡ Some true → join a b ≡ Some true
join_right None b h = h
join_right (Some x) None h = absurd cc
join_right (Some true) (Some y) h = refl
join_right (Some false) (Some y) h = h

-- two answers together are absent only if both are
join_none : (a b : Option Bool) → join a b ≡ None → (a ≡ None) × (b ≡ None)
join_none None b h = (refl, h)
join_none (Some x) None h = absurd cc
join_none (Some x) (Some y) h = absurd cc

-- if each group that grants by one answer grants by the other, so do several groups
pub joined_true : (x y : ℕ → Option Bool) → ((g : ℕ) → x g ≡ Some true → y g ≡ Some true) → (gs : List ℕ)
    → joined x gs ≡ Some true → joined y gs ≡ Some true
joined_true x y to [] h = absurd cc
joined_true x y to (g ∷ gs) h = elim (join_either (x g) (joined x gs) true h) [
  | inl here ↦ join_left (y g) (joined y gs) (to g here)
  | inr later ↦ join_right (y g) (joined y gs) (joined_true x y to gs later)
]

-- if no group without an answer of the one is denied by the other, no groups without an answer are
pub joined_none : (x y : ℕ → Option Bool) → ((g : ℕ) → x g ≡ None → y g ≡ Some false → ⊥) → (gs : List ℕ)
    → joined x gs ≡ None → joined y gs ≡ Some false → ⊥
joined_none x y apart [] h d = absurd cc
joined_none x y apart (g ∷ gs) h d =
    let both = join_none (x g) (joined x gs) h in
    elim (join_either (y g) (joined y gs) false d) [
      | inl here ↦ apart g both.0 here
      | inr later ↦ joined_none x y apart gs both.1 later
    ]

-- what no group is answered, several groups are not answered
pub joined_never : (y : ℕ → Option Bool) (b : Bool) → ((g : ℕ) → y g ≡ Some b → ⊥) → (gs : List ℕ)
    → joined y gs ≡ Some b → ⊥
joined_never y b never [] h = absurd cc
joined_never y b never (g ∷ gs) h = elim (join_either (y g) (joined y gs) b h) [
  | inl here ↦ never g here
  | inr later ↦ joined_never y b never gs later
]

-- ---- the answers with no group, one group and two groups

-- with no group, OTHER decides
pub with_none : (E : Entries) (og r : ℕ) → stranger_grants E og [] r ≡ entry_contains E other r
with_none E og r = stranger_is E og r []

-- an answer together with none is the answer
join_alone : (a : Option Bool) → join a None ≡ a
join_alone None = refl
join_alone (Some x) = refl

-- with one group, its answer decides, or OTHER if it has none
pub with_one : (E : Entries) (og r g : ℕ)
    → stranger_grants E og (g ∷ []) r ≡ unwrap_or (group_answer E og r g) (entry_contains E other r)
with_one E og r g = stranger_is E og r (g ∷ [])
    ∙ ap (λ (a : Option Bool). unwrap_or a (entry_contains E other r)) (join_alone (group_answer E og r g))

-- with two groups, both answers together decide, or OTHER if neither group has one
pub with_two : (E : Entries) (og r g h : ℕ) → stranger_grants E og (g ∷ (h ∷ [])) r
    ≡ unwrap_or (join (group_answer E og r g) (group_answer E og r h)) (entry_contains E other r)
with_two E og r g h = stranger_is E og r (g ∷ (h ∷ []))
    ∙ ap (λ (a : Option Bool). unwrap_or (join (group_answer E og r g) a) (entry_contains E other r))
    (join_alone (group_answer E og r h))

-- ---- which groups match an entry

-- an answer given if a test passes is there only if it does
cond_some : {X : Type 0} (f : Bool) (x y : X) → cond f (Some x) None ≡ Some y → f ≡ true
cond_some true x y h = refl
cond_some false x y h = absurd cc

-- a group with an answer matches an entry
answer_matches : (E : Entries) (og r g : ℕ) (b : Bool) → group_answer E og r g ≡ Some b
    → group_contains E og 0 g ≡ true
unfolding group_answer
answer_matches E og r g b h = cond_some (group_contains E og 0 g) _ b h

-- permissions that contain a request are there
pub contained_some : (o : Option ℕ) (r : ℕ) → is_contained o r ≡ true → is_some o ≡ true
contained_some None r h = absurd cc
contained_some (Some p) r h = refl

-- the place of a tag that has an entry
pub key_at : (E : Entries) (t : Tag) → fin.contains_key E t ≡ true
    → (j : ℕ) × (j < length (fin.entries E)) × (tag_at (fin.entries E) j ≡ t)
key_at E t some =
    let one = Any-from_list_any (eq_by_cmp tag_cmp t) (fin.keys E) (sym (fin.contains_key-keys E t) ∙ some) in (
      one.0,
      omega (arith, one.2, length-tags_of (fin.entries E)),
      get_or_default (fin.keys E) one.0 other one.1 one.2 ∙ one.3 ∙ sym (same_tag t one.1 one.4),
    )

-- a group with an answer is the owning group, or has an entry
pub answered_at : (E : Entries) (og r g : ℕ) (b : Bool) → group_answer E og r g ≡ Some b
    → (g ≡ og) ⊎ ((j : ℕ) × (j < length (fin.entries E)) × (group_id (tag_at (fin.entries E) j) ≡ Some g))
answered_at E og r g b h = elim (or_true ((g == og) && entry_contains E group_obj 0) (entry_contains E (group g) 0)
    (answer_matches E og r g b h)) [
      | inl owning ↦ inl (eqb-true g og (and_true (g == og) (entry_contains E group_obj 0) owning).0)
      | inr held ↦
          let at = key_at E (group g) (contained_some (fin.get E (group g)) 0 held) in
          inr (at.0, at.1, ap group_id at.2)
    ]

-- no group has two answers, if neither the owning group nor the group of an entry has them
pub none_answered : (A B : Entries) (og r : ℕ) (own : Bool) (others : Option Bool)
    → (HasAnswers A B og r own others og → ⊥)
    → ((j g : ℕ) → j < length (fin.entries A) → group_id (tag_at (fin.entries A) j) ≡ Some g
    → HasAnswers A B og r own others g → ⊥) → (g : ℕ) → HasAnswers A B og r own others g → ⊥
none_answered A B og r own others owning entry g h = elim (answered_at A og r g own h.own_is) [
  | inl same ↦ owning (subst (HasAnswers A B og r own others) same h)
  | inr at ↦ entry at.0 g at.1 at.2 h
]

-- ---- what one set grants and another denies

-- a group is an excess if its answers, or OTHER for an absent one, grant in the first set and deny in the second
with_answers : (A B : Entries) (og r g : ℕ) (a b : Option Bool) → group_answer A og r g ≡ a → group_answer B og r g ≡ b
    → unwrap_or a (entry_contains A other r) ≡ true → unwrap_or b (entry_contains B other r) ≡ false
    → IsGroupExcess A B og r (g ∷ [])
with_answers A B og r g a b is_a is_b grants denies = record {
  granted = with_one A og r g ∙ ap (λ (x : Option Bool). unwrap_or x (entry_contains A other r)) is_a ∙ grants;
  denied = with_one B og r g ∙ ap (λ (x : Option Bool). unwrap_or x (entry_contains B other r)) is_b ∙ denies;
}

-- with no group, the first set grants and the second denies if OTHER does
pub excess_none : (A B : Entries) (og r : ℕ) → entry_contains A other r ≡ true → entry_contains B other r ≡ false
    → IsGroupExcess A B og r []
excess_none A B og r grants denies =
    record { granted = with_none A og r ∙ grants; denied = with_none B og r ∙ denies }

-- a group that the first set grants and the second denies is enough
pub excess_both : (A B : Entries) (og r g : ℕ) → HasAnswers A B og r true (Some false) g
    → IsGroupExcess A B og r (g ∷ [])
excess_both A B og r g h = with_answers A B og r g (Some true) (Some false) h.own_is h.others_is refl refl

-- if OTHER of the first set grants, a group that only the second set has, and denies, is enough
pub excess_denied : (A B : Entries) (og r g : ℕ) → HasAnswers B A og r false None g
    → entry_contains A other r ≡ true → IsGroupExcess A B og r (g ∷ [])
excess_denied A B og r g h grants = with_answers A B og r g None (Some false) h.others_is h.own_is grants refl

-- if OTHER of the second set denies, a group that only the first set has, and grants, is enough
pub excess_granted : (A B : Entries) (og r g : ℕ) → HasAnswers A B og r true None g
    → entry_contains B other r ≡ false → IsGroupExcess A B og r (g ∷ [])
excess_granted A B og r g h denies = with_answers A B og r g (Some true) None h.own_is h.others_is refl denies

-- a group that only the first set has, and grants, and a group that the second set denies are enough
pub excess_two : (A B : Entries) (og r g h : ℕ) → HasAnswers A B og r true None g
    → HasAnswers B B og r false (Some false) h → IsGroupExcess A B og r (g ∷ (h ∷ []))
excess_two A B og r g h grants denies =
    let o = entry_contains A other r in
    let p = entry_contains B other r in
    record {
      granted = with_two A og r g h ∙ ap (λ (x : Option Bool). unwrap_or x o)
          (join_left (group_answer A og r g) (group_answer A og r h) grants.own_is);
      denied = with_two B og r g h
          ∙ ap (λ (x : Option Bool). unwrap_or (join x (group_answer B og r h)) p) grants.others_is
          ∙ ap (λ (x : Option Bool). unwrap_or (join None x) p) denies.own_is;
    }

-- an answer that is there and does not deny grants
grants_left : (y : Option Bool) → (y ≡ Some false → ⊥) → (y ≡ None → ⊥) → y ≡ Some true
grants_left None f n = absurd (n refl)
grants_left (Some true) f n = refl
grants_left (Some false) f n = absurd (f refl)

-- what the first set grants the second does not deny, if so it is for their answers and for OTHER
settled : (a b : Option Bool) (o p : Bool) → (a ≡ Some true → b ≡ Some true)
    → (o ≡ true → a ≡ None → b ≡ Some false → ⊥) → (o ≡ true → p ≡ false → ⊥)
    → unwrap_or a o ≡ true → unwrap_or b p ≡ false → ⊥
settled (Some true) None o p to apart others g d = let wrong = to refl in absurd cc
settled (Some true) (Some true) o p to apart others g d = absurd cc
settled (Some true) (Some false) o p to apart others g d = let wrong = to refl in absurd cc
settled (Some false) b o p to apart others g d = absurd cc
settled None None o p to apart others g d = others g d
settled None (Some true) o p to apart others g d = absurd cc
settled None (Some false) o p to apart others g d = apart g refl refl

-- no excess, if each group that makes the first set grant makes the second grant
pub no_excess : (A B : Entries) (og r : ℕ) → (entry_contains A other r ≡ true → entry_contains B other r ≡ false → ⊥)
    → ((g : ℕ) → HasAnswers A B og r true (Some false) g → ⊥)
    → (entry_contains A other r ≡ true → (g : ℕ) → HasAnswers B A og r false None g → ⊥)
    → ((g : ℕ) → HasAnswers A B og r true None g → ⊥) → (gs : List ℕ) → IsGroupExcess A B og r gs → ⊥
no_excess A B og r others both denied granted gs h =
    let x = group_answer A og r in
    let y = group_answer B og r in
    settled (joined x gs) (joined y gs) (entry_contains A other r) (entry_contains B other r)
    (joined_true x y (λ g is. grants_left (y g) (λ f. both g (record { own_is = is; others_is = f }))
    (λ n. granted g (record { own_is = is; others_is = n }))) gs)
    (λ o. joined_none x y (λ g n f. denied o g (record { own_is = f; others_is = n })) gs)
    others (sym (stranger_is A og r gs) ∙ h.granted) (sym (stranger_is B og r gs) ∙ h.denied)

-- what no answer denies and OTHER grants is not denied
not_denied : (b : Option Bool) (p : Bool) → (b ≡ Some false → ⊥) → p ≡ true → unwrap_or b p ≡ false → ⊥
not_denied None p never o d = absurd cc
not_denied (Some true) p never o d = absurd cc
not_denied (Some false) p never o d = never refl

-- no excess, if the second set denies nothing
pub none_denied : (A B : Entries) (og r : ℕ) → entry_contains B other r ≡ true
    → ((g : ℕ) → HasAnswers B B og r false (Some false) g → ⊥) → (gs : List ℕ) → IsGroupExcess A B og r gs → ⊥
none_denied A B og r grants never gs h =
    let y = group_answer B og r in
    not_denied (joined y gs) (entry_contains B other r)
    (joined_never y false (λ g is. never g (record { own_is = is; others_is = is })) gs) grants
    (sym (stranger_is B og r gs) ∙ h.denied)

-- ---- groups with which a set gives an answer

-- answers that a test finds equal are equal
pub same_answer : (a b : Bool) → beq a b ≡ true → a ≡ b
same_answer true true h = refl
same_answer true false h = sym h
same_answer false true h = h
same_answer false false h = refl

-- answers that a test finds different are not equal
pub other_answer : (a b : Bool) → beq a b ≡ false → a ≡ b → ⊥
other_answer true true h is = absurd cc
other_answer true false h is = absurd cc
other_answer false true h is = absurd cc
other_answer false false h is = absurd cc

-- with no group, the answer is that of OTHER
pub reached_none : (E : Entries) (og r : ℕ) (b : Bool) → entry_contains E other r ≡ b
    → stranger_grants E og [] r ≡ b
reached_none E og r b is = with_none E og r ∙ is

-- with one group that has an answer, the answer is that of the group
pub reached_one : (E : Entries) (og r g : ℕ) (b : Bool) → group_answer E og r g ≡ Some b
    → stranger_grants E og (g ∷ []) r ≡ b
reached_one E og r g b is =
    with_one E og r g ∙ ap (λ (x : Option Bool). unwrap_or x (entry_contains E other r)) is

-- a result that neither the answer nor OTHER gives is not given
unwrapped : (a : Option Bool) (o b : Bool) → (a ≡ Some b → ⊥) → (o ≡ b → ⊥) → unwrap_or a o ≡ b → ⊥
unwrapped None o b never differs h = differs h
unwrapped (Some x) o b never differs h = never (ap (λ (y : Bool). Some y) h)

-- an answer that neither OTHER nor a group gives is never given
pub not_reached : (E : Entries) (og r : ℕ) (b : Bool) → (entry_contains E other r ≡ b → ⊥)
    → ((g : ℕ) → HasAnswers E E og r b (Some b) g → ⊥) → (gs : List ℕ) → stranger_grants E og gs r ≡ b → ⊥
not_reached E og r b differs never gs h =
    let y = group_answer E og r in
    unwrapped (joined y gs) (entry_contains E other r) b
    (joined_never y b (λ g is. never g (record { own_is = is; others_is = is })) gs) differs
    (sym (stranger_is E og r gs) ∙ h)
