-- The list while it is made, ACE by ACE.
use Rattle.std.proofs.Common.{◌≡◌, ℕ, ◌+◌, ◌<◌, Bool, true, false, List, [], ◌∷◌, ◌++◌, drop, get_or, length, take, refl, sym, ap, subst, ◌∙◌, append_assoc}
use Rattle.std.specs.Prelude.{map, ◌||◌, Option}
use Rattle.std.specs.List.{list_any}
use Rattle.std.proofs.lemmas.List.{map-append, take-append-drop, take_more}
use Rattle.acl_perm.specs.Profile.{full}
use Rattle.acl_nfs4.proofs.Exports.{front_accepted}
use Rattle.acl_nfs4.specs.Ace.{Ace}
use Rattle.acl_nfs4.specs.Spelling.{IsAccepted}
use Rattle.acl_nt.specs.Descriptor.{NtAce, nt_ace}
use Rattle.acl_nt.specs.NtCheck.{is_for_object}
use Rattle.acl_nt.specs.NtList.{IsNtListFault, object_ace, object_aces}
use Rattle.acl_nt.specs.Sid.{Sid}
use Rattle.acl_nt.specs.declared.ace.NtAce.{NtAce as AceOfCode}
use Rattle.acl_nt.specs.declared.mapping.NtListFault.{NtListFault}
use Rattle.acl_nt.specs.declared.mapping.NtListFault.TheVariants.{Limits, Memory}

-- a member of a list after a function passes a test if and only if a member before passes it after the function
pub any_mapped : {X Y : Type 0} (p : Y → Bool) (f : X → Y) (xs : List X)
    → list_any p (map f xs) ≡ list_any (λ x. p (f x)) xs
any_mapped p f [] = refl
any_mapped p f (x ∷ xs) = ap (λ (t : Bool). p (f x) || t) (any_mapped p f xs)

-- the ACEs of two lists, one after the other
objects-append : (users : List Sid) (owner : Option Sid) (xs ys : List NtAce)
    → object_aces users owner (xs ++ ys) ≡ object_aces users owner xs ++ object_aces users owner ys
objects-append users owner [] ys = refl
objects-append users owner (x ∷ xs) ys = by (is_for_object x) refl (objects-append users owner xs ys)
  where
    by : (t : Bool) → is_for_object x ≡ t
        → object_aces users owner (xs ++ ys) ≡ object_aces users owner xs ++ object_aces users owner ys
        → object_aces users owner (x ∷ (xs ++ ys)) ≡ object_aces users owner (x ∷ xs) ++ object_aces users owner ys
    by true e more = rw e (ap (λ (l : List Ace). object_ace users owner x ∷ l) more)
    by false e more = rw e more

-- an ACE that is for the object
pub for_object : (users : List Sid) (owner : Option Sid) (a : NtAce) → is_for_object a ≡ true
    → object_aces users owner (a ∷ []) ≡ object_ace users owner a ∷ []
for_object users owner a e = rw e refl

-- an ACE that is not
pub for_others : (users : List Sid) (owner : Option Sid) (a : NtAce) → is_for_object a ≡ false
    → object_aces users owner (a ∷ []) ≡ []
for_others users owner a e = rw e refl

-- the ACEs after one more ACE of the code
pub taken : (users : List Sid) (owner : Option Sid) (aces : List AceOfCode) (i : ℕ) (item : AceOfCode)
    (start list : List Ace) → i < length aces → item ≡ get_or aces i item
    → list ≡ start ++ object_aces users owner (map nt_ace (take i aces))
    → list ++ object_aces users owner (nt_ace item ∷ [])
    ≡ start ++ object_aces users owner (map nt_ace (take (i + 1) aces))
taken users owner aces i item start list below is so_far =
    ap (λ (l : List Ace). l ++ object_aces users owner (nt_ace item ∷ [])) so_far
    ∙ append_assoc start (object_aces users owner (map nt_ace (take i aces)))
    (object_aces users owner (nt_ace item ∷ []))
    ∙ ap (λ (l : List Ace). start ++ l)
    (sym (objects-append users owner (map nt_ace (take i aces)) (nt_ace item ∷ []))
    ∙ ap (object_aces users owner) (sym (map-append nt_ace (take i aces) (item ∷ [])))
    ∙ ap (λ (l : List AceOfCode). object_aces users owner (map nt_ace l))
    (sym (take_more aces i item below ∙ ap (λ (x : AceOfCode). take i aces ++ x ∷ []) (sym is))))

-- a fault of a part of the list is one of the list
pub fault_grows : (users : List Sid) (owner : Option Sid) (aces : List AceOfCode) (i : ℕ) (start part : List Ace)
    → part ≡ start ++ object_aces users owner (map nt_ace (take i aces)) → (f : NtListFault) → IsNtListFault part f
    → IsNtListFault (start ++ object_aces users owner (map nt_ace aces)) f
fault_grows users owner aces i start part is Memory fault = tt
fault_grows users owner aces i start part is Limits fault =
    λ ok. fault (front_accepted full part rest (subst (IsAccepted full) (sym whole) ok))
  where
    rest : List Ace
    rest = object_aces users owner (map nt_ace (drop i aces))

    whole : part ++ rest ≡ start ++ object_aces users owner (map nt_ace aces)
    whole = ap (λ (l : List Ace). l ++ rest) is
        ∙ append_assoc start (object_aces users owner (map nt_ace (take i aces))) rest
        ∙ ap (λ (l : List Ace). start ++ l)
        (sym (objects-append users owner (map nt_ace (take i aces)) (map nt_ace (drop i aces)))
        ∙ ap (object_aces users owner) (sym (map-append nt_ace (take i aces) (drop i aces)))
        ∙ ap (λ (l : List AceOfCode). object_aces users owner (map nt_ace l)) (take-append-drop i aces))
