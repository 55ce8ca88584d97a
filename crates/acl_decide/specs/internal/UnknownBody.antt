-- The answers that are possible for a right, as one pass finds them: this library's own.
use Rattle.std.specs.Prelude.{◌≡◌, ℕ, Bool, true, false, ◌&&◌, ◌||◌, if◌then◌else◌, List, [], ◌∷◌, ◌++◌, Option, None, Some}
use Rattle.std.specs.List.{list_any}
use Rattle.std.specs.Str.{bytes_eq}
use Rattle.std.specs.BTreeMap.{BTreeMap, get_by}
use Rattle.std.specs.Borrow.{Bor}
use Rattle.std.specs.Cmp.Lexicographic.{slice_cmp}
use Rattle.std.specs.Option.{option_map_or}
use Rattle.std.specs.Ordering.{nat_cmp}
use Rattle.acl_perm.specs.Bits.{has_bit}
use Rattle.acl_perm.specs.declared.mask.Mask.{Mask}
use Rattle.acl_perm.specs.Situation.{Situation, matches}
use Rattle.acl_perm.specs.declared.kind.Kind.{Kind}
use Rattle.acl_perm.specs.declared.kind.Kind.TheVariants.{Deny, Allow}
use Rattle.acl_nfs4.specs.Ace.{Ace}
use Rattle.acl_nfs4.specs.Who.{is_unknown_special, principal_of}
use Rattle.acl_eval.specs.Column.{takes_part}
use Rattle.acl_decide.specs.Unknown.{Assignment}
use Rattle.acl_decide.specs.declared.rights_with_unknown.Possible.{Possible}

-- both answers are the same
abbrev pub is_answer : Option Kind → Option Kind → Bool
is_answer None None = true
is_answer None (Some kind) = false
is_answer (Some kind) None = false
is_answer (Some Allow) (Some Allow) = true
is_answer (Some Allow) (Some Deny) = false
is_answer (Some Deny) (Some Allow) = false
is_answer (Some Deny) (Some Deny) = true

-- an earlier ACE of the name has the bit
abbrev pub had : List Ace → ℕ → List ℕ → Bool
had earlier bit who = list_any (λ a. bytes_eq a.who who && has_bit a.mask bit) earlier

-- the ACEs of unknown identifiers that take part, so far
abbrev pub noting : List Ace → Ace → List Ace
noting earlier a = if is_unknown_special a.who && takes_part a then earlier ++ a ∷ [] else earlier

-- the rights that a map of names has for a name
abbrev pub noted_rights : BTreeMap (Bor (List ℕ)) Mask → List ℕ → ℕ
noted_rights names who = option_map_or (λ mask. mask.bits) (get_by (λ k. slice_cmp nat_cmp who k.now) names) 0

-- the map has for each name the rights that the earlier ACEs of the name have
abbrev pub HaveNoted : BTreeMap (Bor (List ℕ)) Mask → List Ace → Type 0
HaveNoted names earlier = (bit : ℕ) (who : List ℕ) → has_bit (noted_rights names who) bit ≡ had earlier bit who

-- if the ACE takes part and its name is unknown, the rights are those that the earlier ACEs of the name have
abbrev pub AreHad : ℕ → Ace → List Ace → Type 0
AreHad rights a earlier = (is_unknown_special a.who && takes_part a) ≡ true → (bit : ℕ)
    → has_bit rights bit ≡ had earlier bit a.who

-- whether the answer is possible for the bit: the first ACE of an unknown identifier that has the bit may decide or
-- not, a later one cannot, and any other ACE that matches decides
unfoldable pub can_answer : List Ace → List Ace → Situation → ℕ → Option Kind → Bool
can_answer earlier [] s bit answer = is_answer None answer
can_answer earlier (a ∷ list) s bit answer =
    if has_bit a.mask bit && takes_part a
    then (if is_unknown_special a.who
    then ((if had earlier bit a.who then false else is_answer (Some a.kind) answer)
    || can_answer (noting earlier a) list s bit answer)
    else (if matches s (principal_of a) then is_answer (Some a.kind) answer
    else can_answer (noting earlier a) list s bit answer))
    else can_answer (noting earlier a) list s bit answer

-- the assignment matches no name of which an earlier ACE has the bit
abbrev pub PassesOver : Assignment → List Ace → ℕ → Type 0
PassesOver v earlier bit = (who : List ℕ) → had earlier bit who ≡ true → v who ≡ false

-- what is known of an answer for the bit: it is possible already
abbrev pub is_possible : Possible → ℕ → Option Kind → Bool
is_possible so_far bit None = false
is_possible so_far bit (Some Allow) = has_bit so_far.allow.bits bit
is_possible so_far bit (Some Deny) = has_bit so_far.deny.bits bit

-- the answer is possible already, or the bit is left and the rest of the list may give the answer
abbrev pub may_answer : Possible → List Ace → List Ace → Situation → ℕ → Option Kind → Bool
may_answer so_far earlier list s bit answer = is_possible so_far bit answer
    || (has_bit so_far.left.bits bit && can_answer earlier list s bit answer)
