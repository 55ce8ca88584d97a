-- The first ACE that concerns a principal in each of two lists, and what it says (this library's own).
use Rattle.std.specs.Prelude.{◌≡◌, ℕ, ◌<◌, ◌≤◌, ◌+◌, Bool, true, false, not, ◌&&◌, if◌then◌else◌, nat_lt, ◌==◌, drop, slice_index_or, slice_set, List, [], ◌∷◌, length}
use Rattle.std.specs.List.{AllByRecursion, AllZip, list_any}
use Rattle.acl_eval.specs.Column.{takes_part}
use Rattle.acl_eval.specs.Grant.{is_allow}
use Rattle.acl_nfs4.specs.Ace.{Ace}
use Rattle.acl_nfs4.specs.Who.{principal_of}
use Rattle.acl_normal.specs.Classes.{is_users}
use Rattle.acl_normal.specs.internal.comparison.Directions.{differ_in}
use Rattle.acl_normal.specs.internal.comparison.SetSearch.{AlikeAt, GrantAlikeTo, is_granted_to}
use Rattle.acl_normal.specs.declared.comparison.direction.Direction.{Direction}
use Rattle.acl_normal.specs.Keys.{principal_eq}
use Rattle.acl_normal.specs.SmallSituations.{is_among}
use Rattle.acl_normal.specs.declared.principal_class.Class.TheVariants.{Users}
use Rattle.acl_normal.specs.declared.comparison.placing.First.{First}
use Rattle.acl_normal.specs.declared.comparison.placing.Placing.{Placing}
use Rattle.acl_normal.specs.declared.comparison.placing.Whom.{Whom}
use Rattle.acl_normal.specs.declared.comparison.placing.Whom.TheVariants.{Everyone, Nobody, One}
use Rattle.acl_perm.specs.Bits.{all_rights, has_bit}
use Rattle.acl_perm.specs.Overlap.{may_overlap}
use Rattle.acl_perm.specs.Principal.{Principal, everyone, is_user}
use Rattle.acl_perm.specs.declared.kind.Kind.TheVariants.{Deny}

-- the place of the first ACE that has the right, takes part, and is of the set or everyone; the length of the list
-- where there is none
abbrev pub first_place : List Principal → ℕ → List Ace → ℕ
first_place set bit [] = 0
first_place set bit (a ∷ list) =
    if (has_bit a.mask bit && takes_part a) && is_among (principal_of a) (everyone ∷ set) then 0
    else first_place set bit list + 1

-- the first ACE of a principal, or of everyone
pub record IsFirst (list : List Ace) (bit : ℕ) (p : Principal) (f : First) : Type 0 where
  pub place : f.place ≡ first_place (p ∷ []) bit list
  pub allows : is_allow f.kind ≡ is_granted_to list (p ∷ []) bit

-- the first ACE that concerns a principal in each of both lists
pub record IsPlacing (list other : List Ace) (bit : ℕ) (p : Principal) (r : Placing) : Type 0 where
  pub here : IsFirst list bit p r.here
  pub there : IsFirst other bit p r.there
  pub class : is_users r.class ≡ is_user p

-- of two first ACEs, that which comes first is an ALLOW
abbrev pub earlier_allows : First → First → Bool
earlier_allows f g = if nat_lt g.place f.place then is_allow g.kind else is_allow f.kind

-- two may overlap, and for both together the answers of the lists differ in the direction, since the two come in
-- different orders
abbrev pub inverts : Direction → Placing → Placing → Bool
inverts way r s = not (is_users r.class && is_users s.class)
    && differ_in way (earlier_allows r.here s.here) (earlier_allows r.there s.there)

-- a principal inverts one of the others
abbrev pub inverts_any : Direction → Placing → List Placing → Bool
inverts_any way r = list_any (inverts way r)

-- on one right, the lists do not differ in the direction wherever this principal and another that may overlap match
abbrev pub AgreesAt : Direction → List Ace → List Ace → List Principal → ℕ → Principal → Type 0
AgreesAt way list other whole bit p =
    AllByRecursion (λ q. may_overlap p q ≡ true → AlikeAt way list other (p ∷ q ∷ []) bit) whole

-- on all rights, the lists do not differ in the direction wherever this principal and another that may overlap match
abbrev pub Agrees : Direction → List Ace → List Ace → List Principal → Principal → Type 0
Agrees way list other whole p =
    AllByRecursion (λ q. may_overlap p q ≡ true → GrantAlikeTo way list other (p ∷ q ∷ [])) whole

-- the ACE takes part, and is of the principal or of everyone
abbrev pub is_of : Ace → Principal → Bool
is_of a p = takes_part a && is_among (principal_of a) (everyone ∷ p ∷ [])

-- the number is one of those that are named
abbrev pub hits : Whom → ℕ → Bool
hits Nobody k = false
hits (One i) k = k == i
hits Everyone k = true

-- a number that is named is less than n
abbrev pub IsWhomWithin : Whom → ℕ → Type 0
IsWhomWithin Nobody n = Unit {0}
IsWhomWithin (One i) n = i < n
IsWhomWithin Everyone n = Unit {0}

-- someone is named
abbrev pub names_any : Whom → Bool
names_any Nobody = false
names_any (One i) = true
names_any Everyone = true

-- everyone is named
abbrev pub names_all : Whom → Bool
names_all Nobody = false
names_all (One i) = false
names_all Everyone = true

-- the same are named
abbrev pub same_whom : Whom → Whom → Bool
same_whom Nobody Nobody = true
same_whom (One i) (One k) = i == k
same_whom Everyone Everyone = true
same_whom _ _ = false

-- of the principals, by their numbers, just those are named that the ACE is of; nobody is named if it takes no part,
-- and everyone if it is of everyone
pub record IsWhom (whole : List Principal) (a : Ace) (w : Whom) : Type 0 where
  pub within : IsWhomWithin w (length whole)
  pub part : takes_part a ≡ names_any w
  pub all : (takes_part a && principal_eq (principal_of a) everyone) ≡ names_all w
  pub hit : (k : ℕ) → k < length whole → is_of a (slice_index_or whole k everyone) ≡ hits w k

-- whom each ACE names
abbrev pub AreWhoms : List Principal → List Ace → List Whom → Type 0
AreWhoms whole list ws = AllZip (IsWhom whole) list ws

-- the default for a first ACE after the end of a list
abbrev pub no_first : First
no_first = record { place = 0; kind = Deny }

-- the first ACE from a place on that concerns a principal
pub record IsFirstFrom (list : List Ace) (bit i : ℕ) (p : Principal) (f : First) : Type 0 where
  pub place : f.place ≡ first_place (p ∷ []) bit (drop i list) + i
  pub allows : is_allow f.kind ≡ is_granted_to (drop i list) (p ∷ []) bit

-- for each principal, the first ACE from a place on that concerns it
pub record AreFirstFrom (whole : List Principal) (list : List Ace) (bit i : ℕ) (firsts : List First) : Type 0 where
  pub count : length firsts ≡ length whole
  pub each : (k : ℕ) → k < length whole
      → IsFirstFrom list bit i (slice_index_or whole k everyone) (slice_index_or firsts k no_first)

-- the placing of each principal
pub record ArePlacings (whole : List Principal) (list other : List Ace) (bit : ℕ) (placings : List Placing) :
    Type 0 where
  pub each : AllZip (IsPlacing list other bit) whole placings

-- the default for an ACE after the end of a list
abbrev pub no_ace : Ace
no_ace = record { kind = Deny; flags = 0; mask = 0; who = [] }

-- the ACE has the right and names everyone
abbrev pub stops : ℕ → Ace → Whom → Bool
stops bit a Nobody = false
stops bit a (One i) = false
stops bit a Everyone = has_bit a.mask bit

-- the ACE at a place has the right and names everyone
abbrev pub stops_at : List Ace → List Whom → ℕ → ℕ → Bool
stops_at list ws bit k = stops bit (slice_index_or list k no_ace) (slice_index_or ws k Nobody)

-- an ACE put before what the later ones say
abbrev pub put : List First → Ace → Whom → ℕ → ℕ → List First
put firsts a Nobody place bit = firsts
put firsts a (One i) place bit =
    if has_bit a.mask bit then slice_set firsts i (record { place = place; kind = a.kind }) else firsts
put firsts a Everyone place bit = firsts

-- the default for a placing after the end of a list
abbrev pub no_placing : Placing
no_placing = record { here = no_first; there = no_first; class = Users }

-- for the principal alone, the answers of the lists differ in the direction
abbrev pub is_unlike : Direction → Placing → Bool
is_unlike way r = differ_in way (is_allow r.here.kind) (is_allow r.there.kind)

-- for the principal alone, the answers of the lists do not differ in the direction
abbrev pub SameAlone : Direction → Placing → Type 0
SameAlone way r = is_unlike way r ≡ false

-- the first below a limit that passes a test, or the limit
pub record IsFirstBelow (test : Placing → Bool) (placings : List Placing) (limit first : ℕ) : Type 0 where
  pub within : first ≤ limit
  pub before : (k : ℕ) → k < first → test (slice_index_or placings k no_placing) ≡ false
  pub at : first < limit → test (slice_index_or placings first no_placing) ≡ true

-- Q holds for each right
abbrev pub OnAll : (ℕ → ℕ → Type 0) → ℕ → Type 0
OnAll Q k = (bit : ℕ) → has_bit all_rights bit ≡ true → Q bit k

-- the least number below n for which P doesn't hold, or n
pub record IsLeast (P : ℕ → Type 0) (n least : ℕ) : Type 0 where
  pub within : least ≤ n
  pub before : (k : ℕ) → k < least → P k
  pub at : least < n → P least → ⊥

-- the lists do not differ in the direction for one principal alone
abbrev pub AlikeAlone : Direction → List Ace → List Ace → List Principal → ℕ → ℕ → Type 0
AlikeAlone way list other whole bit k = AlikeAt way list other (slice_index_or whole k everyone ∷ []) bit

-- the lists do not differ in the direction for one principal and any other that it may overlap
abbrev pub AlikeWithAll : Direction → List Ace → List Ace → List Principal → ℕ → ℕ → Type 0
AlikeWithAll way list other whole bit k = AgreesAt way list other whole bit (slice_index_or whole k everyone)

-- the lists do not differ in the direction for a principal and this other one, if the two may overlap
abbrev pub AlikeWith : Direction → List Ace → List Ace → Principal → List Principal → ℕ → ℕ → Type 0
AlikeWith way list other p rest bit k = may_overlap p (slice_index_or rest k everyone) ≡ true
    → AlikeAt way list other (p ∷ slice_index_or rest k everyone ∷ []) bit
