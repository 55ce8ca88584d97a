-- The search for an assignment that grants a request, from the greatest downwards: this library's own.
use Rattle.std.specs.Prelude.{◌≡◌, ◌<◌, ℕ, Bool, true, false, ◌&&◌, ◌||◌, not, List, drop, length, map, slice_index_or, Some}
use Rattle.std.specs.Borrow.{Bor}
use Rattle.std.specs.List.{filter}
use Rattle.std.specs.Str.{bytes_eq}
use Rattle.acl_perm.specs.Bits.{has_bit}
use Rattle.acl_perm.specs.Situation.{Situation}
use Rattle.acl_perm.specs.declared.kind.Kind.TheVariants.{Allow, Deny}
use Rattle.acl_nfs4.specs.Ace.{Ace, ace}
use Rattle.acl_nfs4.specs.Who.{is_unknown_special}
use Rattle.acl_nfs4.specs.declared.ace.AceRef.{AceRef}
use Rattle.acl_eval.specs.Column.{takes_part}
use Rattle.acl_decide.specs.internal.OutNames.{IsUnknownNameIn}
use Rattle.acl_decide.specs.Unknown.{Assignment, GrantsUnder, answer_under, matches_under}
use Rattle.acl_decide.specs.declared.request_with_unknown.Verdict.{Verdict}
use Rattle.acl_decide.specs.declared.request_with_unknown.Verdict.TheVariants.{Granted, Denied, Against}

-- the same names are out, and this one
abbrev pub IsOneMore : (List ℕ → Bool) → List ℕ → (List ℕ → Bool) → Type 0
IsOneMore out name more = (who : List ℕ) → more who ≡ (out who || bytes_eq who name)

-- all names match but those that are out
abbrev pub all_but : (List ℕ → Bool) → Assignment
all_but out who = not (out who)

-- the assignment matches none of the names that are out
abbrev pub LeavesOut : Assignment → (List ℕ → Bool) → Type 0
LeavesOut v out = (who : List ℕ) → out who ≡ true → v who ≡ false

-- the ACE has an unknown identifier that is not out
abbrev pub is_open_name : (List ℕ → Bool) → Ace → Bool
is_open_name out a = is_unknown_special a.who && not (out a.who)

-- how many ACEs have an unknown identifier that is not out
abbrev pub open_names : (List ℕ → Bool) → List Ace → ℕ
open_names out list = length (filter (is_open_name out) list)

-- some assignment grants the request, or none does
abbrev pub MayBeGranted : List Ace → Situation → ℕ → Bool → Type 0
MayBeGranted list s request true = (v : Assignment) × GrantsUnder v list s request
MayBeGranted list s request false = (v : Assignment) → GrantsUnder v list s request → ⊥

-- the ACEs from this place on allow the right under the assignment
abbrev pub AllowsFrom : List AceRef → Situation → ℕ → ℕ → Assignment → Type 0
AllowsFrom aces s bit place v = answer_under v (map ace (drop place aces)) s bit ≡ Some Allow

-- no assignment that leaves these names out decides the right by an ACE from one place up to another
abbrev pub HasPassed : List AceRef → Situation → ℕ → (List ℕ → Bool) → ℕ → ℕ → Type 0
HasPassed aces s bit out from to = (v : Assignment) → LeavesOut v out
    → answer_under v (map ace (drop from aces)) s bit ≡ answer_under v (map ace (drop to aces)) s bit

-- for each right of the request, no assignment that leaves these names out decides the right by an ACE before its place
abbrev pub ArePassed : List AceRef → Situation → ℕ → (List ℕ → Bool) → List ℕ → Type 0
ArePassed aces s request out places = (bit : ℕ) → has_bit request bit ≡ true
    → HasPassed aces s bit out 0 (slice_index_or places bit 0)

-- what is said of a goal, where all names match but those that are out: it is reached; no assignment that leaves these
-- names out reaches it; or an assignment that does so must leave out one more name
abbrev pub Says : List AceRef → (List ℕ → Bool) → (Assignment → Type 0) → Verdict → Type 0
Says aces out Reaches Granted = Reaches (all_but out)
Says aces out Reaches Denied = (v : Assignment) → LeavesOut v out → Reaches v → ⊥
Says aces out Reaches (Against who) = ((more : List ℕ → Bool) → IsOneMore out who.now more
    → open_names more (map ace aces) < open_names out (map ace aces))
    × ((v : Assignment) → LeavesOut v out → Reaches v → v who.now ≡ false)

-- a name that must not match is that of one of the ACEs
abbrev pub IsNamed : List AceRef → Verdict → Type 0
IsNamed aces verdict = (who : Bor (List ℕ)) → verdict ≡ Against who → IsUnknownNameIn aces who.now

-- the ACE takes part and matches where all names match but those that are out
abbrev pub applies_but : (List ℕ → Bool) → Situation → Ace → Bool
applies_but out s a = takes_part a && matches_under (all_but out) s a

-- what an ACE says that decides a right: an ALLOW grants it, a DENY of a known name denies, and an unknown identifier
-- that denies must not match
abbrev pub SaysAce : Ace → Verdict → Type 0
SaysAce a Granted = a.kind ≡ Allow
SaysAce a Denied = (a.kind ≡ Deny) × (is_unknown_special a.who ≡ false)
SaysAce a (Against who) = (a.kind ≡ Deny) × (who.now ≡ a.who) × (is_unknown_special a.who ≡ true)
