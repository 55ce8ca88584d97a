-- A request where names are unknown: what the ACEs that decide its rights say, and which ACEs were passed before.
use Rattle.std.proofs.Common.{◌≡◌, ◌≢◌, ℕ, ◌+◌, ◌<◌, ◌≤◌, Bool, true, false, List, [], ◌∷◌, ◌++◌, length, take, drop, get_or, set, None, Some, refl, sym, ap, subst, arith, inl, inr, ◌∙◌}
use Rattle.std.specs.Prelude.{◌&&◌, ◌||◌, ◌↔◌, IsTrue, map, not}
use Rattle.std.specs.Str.{bytes_eq}
use Rattle.std.proofs.lemmas.Bool.{cases_eq, true≢false}
use Rattle.std.proofs.lemmas.List.{get_or-set_other, get_or-set_same, map-append, take-append-drop}
use Rattle.acl_perm.proofs.Meetings.{bytes_eq_same, itself}
use Rattle.acl_perm.proofs.Sets.{IsMask-lt, some_bit}
use Rattle.acl_perm.specs.Bits.{has_bit, IsDifference, IsMask, IsUnion}
use Rattle.acl_perm.specs.Situation.{Situation}
use Rattle.acl_perm.specs.declared.kind.Kind.{Kind}
use Rattle.acl_perm.specs.declared.kind.Kind.TheVariants.{Deny, Allow}
use Rattle.acl_nfs4.specs.Ace.{Ace, ace}
use Rattle.acl_nfs4.specs.Who.{is_unknown_special}
use Rattle.acl_nfs4.specs.declared.ace.AceRef.{AceRef}
use Rattle.acl_eval.specs.Column.{takes_part}
use Rattle.acl_decide.specs.Unknown.{AlwaysAnswers, Assignment, GrantsUnder, MayAnswer, MayNotGrant, NeverGrants, answer_under, matches_under}
use Rattle.acl_decide.specs.internal.RequestBody.{AllowsFrom, ArePassed, HasPassed, IsNamed, IsOneMore, LeavesOut, MayBeGranted, Says, SaysAce, all_but, applies_but, is_open_name, open_names}
use Rattle.acl_decide.specs.declared.request_with_unknown.Verdict.{Verdict}
use Rattle.acl_decide.specs.declared.request_with_unknown.Verdict.TheVariants.{Granted, Denied, Against}
use Rattle.acl_decide.proofs.Unknowns.{answer_here, answer_passes, answer_skips, match_known, match_unknown}
use Rattle.acl_decide.proofs.Assignments.{rest_is, deny_allow, none_allow}

-- ---- ACEs that do not decide

-- what does not match where all names match but some does not match where fewer do
matches_fewer : (v : Assignment) (out : List ℕ → Bool) (s : Situation) (a : Ace) → LeavesOut v out
    → matches_under (all_but out) s a ≡ false → matches_under v s a ≡ false
matches_fewer v out s a leaves lacks = by (is_unknown_special a.who) (out a.who) refl refl
  where
    by : (u o : Bool) → is_unknown_special a.who ≡ u → out a.who ≡ o → matches_under v s a ≡ false
    by true true ue oe = match_unknown v s a ue ∙ leaves a.who oe
    by true false ue oe = absurd (true≢false (sym (ap not oe)
        ∙ (sym (match_unknown (all_but out) s a ue) ∙ lacks)))
    by false o ue oe = match_known v s a ue ∙ (sym (match_known (all_but out) s a ue) ∙ lacks)

-- all names but some match leaves these out
all_but_leaves : (out : List ℕ → Bool) → LeavesOut (all_but out) out
all_but_leaves out who h = ap not h

-- an ACE that does not apply changes no answer
passed : (v : Assignment) (out : List ℕ → Bool) (s : Situation) (a : Ace) (rest : List Ace) (bit : ℕ) → LeavesOut v out
    → (takes_part a && matches_under (all_but out) s a) ≡ false
    → answer_under v (a ∷ rest) s bit ≡ answer_under v rest s bit
passed v out s a rest bit leaves lacks = by (has_bit a.mask bit) (takes_part a) refl refl
  where
    by : (h t : Bool) → has_bit a.mask bit ≡ h → takes_part a ≡ t
        → answer_under v (a ∷ rest) s bit ≡ answer_under v rest s bit
    by true true he te = answer_passes v a rest s bit (rw (he, te) refl)
        (matches_fewer v out s a leaves (sym (ap (λ t. t && matches_under (all_but out) s a) te) ∙ lacks))
    by true false he te = answer_skips v a rest s bit (rw (he, te) refl)
    by false t he te = answer_skips v a rest s bit (rw he refl)

-- an ACE that applies and has the bit decides it
decided : (v : Assignment) (s : Situation) (a : Ace) (rest : List Ace) (bit : ℕ) → has_bit a.mask bit ≡ true
    → takes_part a ≡ true → matches_under v s a ≡ true → answer_under v (a ∷ rest) s bit ≡ Some a.kind
decided v s a rest bit he te me = answer_here v a rest s bit (rw (he, te) refl) me

-- an ACE that does not decide the right is passed
pub passed_one : (aces : List AceRef) (item : AceRef) (s : Situation) (bit : ℕ) (out : List ℕ → Bool) (first place : ℕ)
    → place < length aces → item ≡ get_or aces place item
    → (has_bit item.mask.bits bit && applies_but out s (ace item)) ≡ false → HasPassed aces s bit out first place
    → HasPassed aces s bit out first (place + 1)
passed_one aces item s bit out first place lt read lacks before v leaves = before v leaves
    ∙ (ap (λ (list : List Ace). answer_under v list s bit) (rest_is aces place item lt read)
    ∙ by (has_bit item.mask.bits bit) refl)
  where
    rest : List Ace
    rest = map ace (drop (place + 1) aces)

    by : (h : Bool) → has_bit item.mask.bits bit ≡ h → answer_under v (ace item ∷ rest) s bit ≡ answer_under v rest s bit
    by true he = passed v out s (ace item) rest bit leaves
        (sym (ap (λ t. t && applies_but out s (ace item)) he) ∙ lacks)
    by false he = answer_skips v (ace item) rest s bit (rw he refl)

-- ---- one more name

-- an assignment that leaves more names out leaves fewer out
leaves_fewer : (v : Assignment) (out more : List ℕ → Bool) (name : List ℕ) → IsOneMore out name more
    → LeavesOut v more → LeavesOut v out
leaves_fewer v out more name adds leaves who h = leaves who (adds who ∙ rw h refl)

-- an assignment that leaves names out and does not match one more leaves all of these out
pub leaves_more : (v : Assignment) (out more : List ℕ → Bool) (name : List ℕ) → IsOneMore out name more
    → LeavesOut v out → v name ≡ false → LeavesOut v more
leaves_more v out more name adds leaves lacks who h = by (out who) (bytes_eq who name) refl refl
  where
    by : (x y : Bool) → out who ≡ x → bytes_eq who name ≡ y → v who ≡ false
    by true y xe ye = leaves who xe
    by false true xe ye = ap v (bytes_eq_same who name ye) ∙ lacks
    by false false xe ye = absurd (true≢false (sym h ∙ (adds who ∙ rw (xe, ye) refl)))

-- fewer names are open after one more is out
open_less : (out more : List ℕ → Bool) (name : List ℕ) (a : Ace) → IsOneMore out name more
    → is_open_name more a ≡ true → is_open_name out a ≡ true
open_less out more name a adds h = by (is_unknown_special a.who) (out a.who) refl refl
  where
    by : (u o : Bool) → is_unknown_special a.who ≡ u → out a.who ≡ o → is_open_name out a ≡ true
    by true true ue oe = absurd (true≢false (sym h ∙ rw (ue, adds a.who, oe) refl))
    by true false ue oe = rw (ue, oe) refl
    by false o ue oe = absurd (true≢false (sym h ∙ rw ue refl))

-- no list has more open names after one more is out
open_names_le : (out more : List ℕ → Bool) (name : List ℕ) (list : List Ace) → IsOneMore out name more
    → open_names more list ≤ open_names out list
open_names_le out more name [] adds = omega arith
open_names_le out more name (a ∷ list) adds = by (open_names_le out more name list adds) (is_open_name more a)
    (is_open_name out a) refl refl
  where
    by : open_names more list ≤ open_names out list → (x y : Bool) → is_open_name more a ≡ x → is_open_name out a ≡ y
        → open_names more (a ∷ list) ≤ open_names out (a ∷ list)
    by rest true true xe ye = rw (xe, ye) (omega (arith, rest))
    by rest true false xe ye = absurd (true≢false (sym (open_less out more name a adds xe) ∙ ye))
    by rest false true xe ye = rw (xe, ye) (omega (arith, rest))
    by rest false false xe ye = rw (xe, ye) rest

-- a list with an ACE of an open name has fewer open names after this name is out
pub open_names_lt : (out more : List ℕ → Bool) (front : List Ace) (a : Ace) (rest : List Ace)
    → IsOneMore out a.who more → is_open_name out a ≡ true
    → open_names more (front ++ a ∷ rest) < open_names out (front ++ a ∷ rest)
open_names_lt out more [] a rest adds is =
    let lacks : is_open_name more a ≡ false = closed (is_unknown_special a.who) (out a.who) refl refl in
    rw (lacks, is) (omega (arith, open_names_le out more a.who rest adds))
  where
    closed : (u o : Bool) → is_unknown_special a.who ≡ u → out a.who ≡ o → is_open_name more a ≡ false
    closed true true ue oe = rw (ue, adds a.who, oe) refl
    closed true false ue oe = rw (ue, adds a.who, oe, itself a.who) refl
    closed false o ue oe = rw ue refl
open_names_lt out more (b ∷ front) a rest adds is = by (open_names_lt out more front a rest adds is)
    (is_open_name more b) (is_open_name out b) refl refl
  where
    by : open_names more (front ++ a ∷ rest) < open_names out (front ++ a ∷ rest) → (x y : Bool)
        → is_open_name more b ≡ x → is_open_name out b ≡ y
        → open_names more (b ∷ front ++ a ∷ rest) < open_names out (b ∷ front ++ a ∷ rest)
    by less true true xe ye = rw (xe, ye) (omega (arith, less))
    by less true false xe ye = absurd (true≢false (sym (open_less out more a.who b adds xe) ∙ ye))
    by less false true xe ye = rw (xe, ye) (omega (arith, less))
    by less false false xe ye = rw (xe, ye) less

-- ---- the places of the rights

-- after the place of one right moved
pub passed_at : (aces : List AceRef) (s : Situation) (request right place : ℕ) (out : List ℕ → Bool)
    (places : List ℕ) → right < length places → HasPassed aces s right out (get_or places right 0) place
    → ArePassed aces s request out places → ArePassed aces s request out (set places right place)
passed_at aces s request right place out places lt moved passed bit asked = elim (cases_eq bit right) [
  | inl same ↦ λ v leaves. passed bit asked v leaves
      ∙ subst (λ (b : ℕ). answer_under v (map ace (drop (get_or places b 0) aces)) s b
      ≡ answer_under v (map ace (drop (get_or (set places right place) b 0) aces)) s b) (sym same)
      (moved v leaves ∙ ap (λ p. answer_under v (map ace (drop p aces)) s right)
      (sym (get_or-set_same places right place 0 lt)))
  | inr differ ↦ λ v leaves. passed bit asked v leaves
      ∙ ap (λ p. answer_under v (map ace (drop p aces)) s bit)
      (sym (get_or-set_other places right bit place 0 differ))
]

-- the right that moved has passed the ACEs before its place
pub passed_here : (aces : List AceRef) (s : Situation) (request right place : ℕ) (out : List ℕ → Bool)
    (places : List ℕ) → has_bit request right ≡ true → HasPassed aces s right out (get_or places right 0) place
    → ArePassed aces s request out places → HasPassed aces s right out 0 place
passed_here aces s request right place out places asked moved passed v leaves =
    passed right asked v leaves ∙ moved v leaves

-- the same ACEs are passed if more names are out
pub passed_still : (aces : List AceRef) (s : Situation) (request : ℕ) (out more : List ℕ → Bool) (name : List ℕ)
    (places : List ℕ) → IsOneMore out name more → ArePassed aces s request out places
    → ArePassed aces s request more places
passed_still aces s request out more name places adds passed bit asked v leaves =
    passed bit asked v (leaves_fewer v out more name adds leaves)

-- a list is its front, the next ACE and the rest
parts_are : (aces : List AceRef) (i : ℕ) (item : AceRef) → i < length aces → item ≡ get_or aces i item
    → map ace aces ≡ map ace (take i aces) ++ ace item ∷ map ace (drop (i + 1) aces)
parts_are aces i item lt read =
    ap (map ace) (sym (take-append-drop i aces)) ∙ map-append ace (take i aces) (drop i aces)
    ∙ ap (λ (xs : List Ace). map ace (take i aces) ++ xs) (rest_is aces i item lt read)

-- ---- what is said of a right, and of the request

-- the parts of an ACE that decides
decides_parts : (m t n : Bool) → (m && (t && n)) ≡ true → (m ≡ true) × (t ≡ true) × (n ≡ true)
decides_parts true true true e = (refl, refl, refl)
decides_parts true true false e = absurd (true≢false (sym e))
decides_parts true false n e = absurd (true≢false (sym e))
decides_parts false t n e = absurd (true≢false (sym e))

-- the ACE at the place decides the right
pub says_here : (aces : List AceRef) (item : AceRef) (s : Situation) (bit : ℕ) (out : List ℕ → Bool) (place : ℕ)
    (verdict : Verdict) → place < length aces → item ≡ get_or aces place item
    → (has_bit item.mask.bits bit && applies_but out s (ace item)) ≡ true → SaysAce (ace item) verdict
    → Says aces out (AllowsFrom aces s bit place) verdict
says_here aces item s bit out place verdict lt read decides says =
    let (m, t, n) = decides_parts (has_bit item.mask.bits bit) (takes_part (ace item))
    (matches_under (all_but out) s (ace item)) decides in by verdict says m t n
  where
    rest : List Ace
    rest = map ace (drop (place + 1) aces)

    here : (v : Assignment) → has_bit item.mask.bits bit ≡ true → takes_part (ace item) ≡ true
        → matches_under v s (ace item) ≡ true
        → answer_under v (map ace (drop place aces)) s bit ≡ Some item.kind
    here v m t n = ap (λ (list : List Ace). answer_under v list s bit) (rest_is aces place item lt read)
        ∙ decided v s (ace item) rest bit m t n

    denies : (v : Assignment) → item.kind ≡ Deny → has_bit item.mask.bits bit ≡ true → takes_part (ace item) ≡ true
        → matches_under v s (ace item) ≡ true → AllowsFrom aces s bit place v → ⊥
    denies v kind m t n allows =
        deny_allow (sym (ap (λ (k : Kind). Some k) kind) ∙ (sym (here v m t n) ∙ allows))

    never : (v : Assignment) → item.kind ≡ Deny → is_unknown_special item.who.now ≡ true
        → has_bit item.mask.bits bit ≡ true → takes_part (ace item) ≡ true → AllowsFrom aces s bit place v
        → (b : Bool) → v item.who.now ≡ b → v item.who.now ≡ false
    never v kind un m t allows true e = absurd (denies v kind m t (match_unknown v s (ace item) un ∙ e) allows)
    never v kind un m t allows false e = e

    by : (verdict : Verdict) → SaysAce (ace item) verdict → has_bit item.mask.bits bit ≡ true → takes_part (ace item) ≡ true
        → matches_under (all_but out) s (ace item) ≡ true → Says aces out (AllowsFrom aces s bit place) verdict
    by Granted kind m t n = here (all_but out) m t n ∙ ap (λ (k : Kind). Some k) kind
    by Denied (kind, known) m t n = λ v leaves allows. denies v kind m t
        (match_known v s (ace item) known ∙ (sym (match_known (all_but out) s (ace item) known) ∙ n)) allows
    by (Against who) (kind, same, un) m t n = rw same (
      λ more adds. subst (λ (l : List Ace). open_names more l < open_names out l)
          (sym (parts_are aces place item lt read)) (open_names_lt out more (map ace (take place aces)) (ace item) rest
          adds (rw un (sym (match_unknown (all_but out) s (ace item) un) ∙ n))),
      λ v leaves allows. never v kind un m t allows (v item.who.now) refl,
    )

-- a name that must not match is that of the ACE at the place
pub named_here : (aces : List AceRef) (item : AceRef) (place : ℕ) (verdict : Verdict) → place < length aces
    → item ≡ get_or aces place item → SaysAce (ace item) verdict → IsNamed aces verdict
named_here aces item place verdict lt read says who is =
    let (kind, same, un) = subst (SaysAce (ace item)) is says in
    (item, place, record { below = lt; is = read }, sym same, un)

-- a right that is denied by the ACE at its place denies the request that has it
pub says_request : (aces : List AceRef) (s : Situation) (request bit : ℕ) (out : List ℕ → Bool) (place : ℕ)
    (verdict : Verdict) → has_bit request bit ≡ true → HasPassed aces s bit out 0 place → (verdict ≡ Granted → ⊥)
    → Says aces out (AllowsFrom aces s bit place) verdict
    → Says aces out (λ v. GrantsUnder v (map ace aces) s request) verdict
says_request aces s request bit out place Granted asked passed refused says = absurd (refused refl)
says_request aces s request bit out place Denied asked passed refused says = λ v leaves grants.
    says v leaves (sym (passed v leaves) ∙ grants bit asked)
says_request aces s request bit out place (Against who) asked passed refused (fewer, never) = (
  fewer,
  λ v leaves grants. never v leaves (sym (passed v leaves) ∙ grants bit asked),
)

-- the right is allowed where all names match but those that are out
pub allowed_here : (aces : List AceRef) (s : Situation) (bit : ℕ) (out : List ℕ → Bool) (place : ℕ)
    → HasPassed aces s bit out 0 place → AllowsFrom aces s bit place (all_but out)
    → answer_under (all_but out) (map ace aces) s bit ≡ Some Allow
allowed_here aces s bit out place passed allows = passed (all_but out) (all_but_leaves out) ∙ allows

-- ---- the answer for a request

-- a request with a right that is not allowed is not always granted
pub not_always : (list : List Ace) (s : Situation) (mask others allowed denied undecided unknown : ℕ)
    → IsDifference mask allowed others → IsMask others → others ≢ 0
    → ((bit : ℕ) → has_bit mask bit
    ≡ (has_bit allowed bit || (has_bit denied bit || (has_bit undecided bit || has_bit unknown bit))))
    → ((bit : ℕ) → IsTrue (has_bit denied bit)
    ↔ (IsTrue (has_bit mask bit) × NeverGrants list s bit × MayAnswer list s bit (Some Deny)))
    → ((bit : ℕ) → IsTrue (has_bit undecided bit) ↔ (IsTrue (has_bit mask bit) × AlwaysAnswers list s bit None))
    → ((bit : ℕ) → IsTrue (has_bit unknown bit)
    ↔ (IsTrue (has_bit mask bit) × MayAnswer list s bit (Some Allow) × MayNotGrant list s bit))
    → (v : Assignment) × (GrantsUnder v list s mask → ⊥)
not_always list s mask others allowed denied undecided unknown is within some whole den und unk =
    let (bit, h) = some_bit others (IsMask-lt others within) some in
    by bit (has_bit mask bit) (has_bit allowed bit) (has_bit denied bit) (has_bit undecided bit) (has_bit unknown bit)
    refl refl refl refl refl (sym (is bit) ∙ h) (whole bit)
  where
    by : (bit : ℕ) (m a d n u : Bool) → has_bit mask bit ≡ m → has_bit allowed bit ≡ a → has_bit denied bit ≡ d
        → has_bit undecided bit ≡ n → has_bit unknown bit ≡ u → (has_bit mask bit && not (has_bit allowed bit)) ≡ true
        → has_bit mask bit
        ≡ (has_bit allowed bit || (has_bit denied bit || (has_bit undecided bit || has_bit unknown bit)))
        → (v : Assignment) × (GrantsUnder v list s mask → ⊥)
    by bit false a d n u me ae de ne ue h w = absurd (true≢false (sym h ∙ rw me refl))
    by bit true true d n u me ae de ne ue h w = absurd (true≢false (sym h ∙ rw (me, ae) refl))
    by bit true false true n u me ae de ne ue h w =
        (λ who. false, λ g. ((den bit).0 de).1 (λ who. false) (g bit me))
    by bit true false false true u me ae de ne ue h w =
        (λ who. false, λ g. none_allow (sym (((und bit).0 ne).1 (λ who. false)) ∙ g bit me))
    by bit true false false false true me ae de ne ue h w =
        let (v, lacks) = ((unk bit).0 ue).2 in (v, λ g. lacks (g bit me))
    by bit true false false false false me ae de ne ue h w =
        absurd (true≢false (sym me ∙ (w ∙ rw (ae, de, ne, ue) refl)))

-- a request with a right that is granted in no case is granted in none
pub never_granted : (list : List Ace) (s : Situation) (mask denied undecided refused : ℕ)
    → IsUnion denied undecided refused → IsMask refused → refused ≢ 0
    → ((bit : ℕ) → IsTrue (has_bit denied bit)
    ↔ (IsTrue (has_bit mask bit) × NeverGrants list s bit × MayAnswer list s bit (Some Deny)))
    → ((bit : ℕ) → IsTrue (has_bit undecided bit) ↔ (IsTrue (has_bit mask bit) × AlwaysAnswers list s bit None))
    → (v : Assignment) → GrantsUnder v list s mask → ⊥
never_granted list s mask denied undecided refused is within some den und v grants =
    let (bit, h) = some_bit refused (IsMask-lt refused within) some in
    by bit (has_bit denied bit) (has_bit undecided bit) refl refl (sym (is bit) ∙ h)
  where
    by : (bit : ℕ) (d u : Bool) → has_bit denied bit ≡ d → has_bit undecided bit ≡ u
        → (has_bit denied bit || has_bit undecided bit) ≡ true → ⊥
    by bit true u de ue h = let (has, never, may) = (den bit).0 de in never v (grants bit has)
    by bit false true de ue h = let (has, none) = (und bit).0 ue in none_allow (sym (none v) ∙ grants bit has)
    by bit false false de ue h = true≢false (sym h ∙ rw (de, ue) refl)

-- an assignment that grants the request, for the part and the situation that are asked about
pub may_of_part : (list kept : List Ace) (s t : Situation) (request : ℕ) (b : Bool) → list ≡ kept → s ≡ t → b ≡ true
    → MayBeGranted list s request b → (v : Assignment) × GrantsUnder v kept t request
may_of_part list kept s t request false same asked e may = absurd (true≢false (sym e))
may_of_part list kept s t request true same asked e may =
    subst (λ (x : List Ace). (v : Assignment) × GrantsUnder v x t request) same
    (subst (λ (u : Situation). (v : Assignment) × GrantsUnder v list u request) asked may)
