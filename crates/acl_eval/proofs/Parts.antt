-- A list that grows, entry by entry and part by part, and stays accepted.
use Rattle.std.proofs.Common.{◌≡◌, ℕ, ◌+◌, ◌<◌, Bool, true, false, cond, eqb, List, [], ◌∷◌, ◌++◌, length, get_or, take, drop, refl, sym, ap, subst, ◌∙◌, append_assoc}
use Rattle.std.specs.List.{filter, flat_map}
use Rattle.std.specs.FinMap as fin
use Rattle.std.proofs.lemmas.Bool.{eqb-true}
use Rattle.std.proofs.lemmas.List.{append-nil, take_more, take-append-drop, map-append}
use Rattle.std.proofs.lemmas.List.Elements.{filter-append}
use Rattle.std.proofs.lemmas.Grind.{flat_map-append}
use Rattle.acl_perm.specs.declared.kind.Kind.{Kind}
use Rattle.acl_posix.specs.declared.entry.Entry.{Entry}
use Rattle.acl_posix.specs.Tag.{Tag}
use Rattle.acl_posix.specs.Entries.{Entries, pairs, pair_of}
use Rattle.acl_nfs4.specs.Ace.{Ace}
use Rattle.acl_nfs4.specs.Spelling.{IsAccepted}
use Rattle.acl_eval.specs.declared.bridging.ListPart.{ListPart}
use Rattle.acl_eval.specs.declared.bridging.ListPart.TheVariants.{Users, GroupAllows, GroupDenies, Others}
use Rattle.acl_eval.specs.Bridge.{image, bridged_who, bridged_flags, ace_of, each, is_user_tag, is_group_tag, is_other_tag, allow_of, deny_of, decide_of, bridge_list}
use Rattle.acl_eval.specs.internal.BridgeBody.{bridged_part}
use Rattle.acl_nfs4.proofs.Exports.{front_accepted}
use Rattle.acl_perm.specs.Profile.{full}

-- ---- one ACE

-- without permissions no ACE is added
pub none_of : (k : Kind) (l : Tag) (p : ℕ) (xs : List Ace) → p ≡ 0 → xs ≡ xs ++ ace_of k l p
unfolding ace_of
none_of k l p xs e = rw e (sym (append-nil xs))

-- with some permissions one ACE is added
pub one_of : (k : Kind) (l : Tag) (p : ℕ) {flags rights : ℕ} {who : List ℕ} → (p ≡ 0 → ⊥) → flags ≡ bridged_flags l
    → rights ≡ image p → who ≡ bridged_who l
    → record { kind = k; flags = flags; mask = rights; who = who } ∷ [] ≡ ace_of k l p
unfolding ace_of
one_of k l p {flags = flags} {rights = rights} {who = who} some fe me we =
    elim (eqb p 0) as (λ t. eqb p 0 ≡ t → ◌≡◌ {A = List Ace} (record {
      kind = k;
      flags = flags;
      mask = rights;
      who =
          who;
    } ∷ []) (cond t [] (record { kind = k; flags = bridged_flags l; mask = image p; who = bridged_who l } ∷ []))) [
      | true ↦ λ e. absurd (some (eqb-true p 0 e))
      | false ↦ λ e i. record { kind = k; flags = fe i; mask = me i; who = we i } ∷ []
    ] refl

-- ---- what an entry allows, and then what it denies

-- if a list is accepted with two more parts, it is accepted with the first of them
pub first_fits : (old a b : List Ace) → IsAccepted full (old ++ (a ++ b)) → IsAccepted full (old ++ a)
first_fits old a b ok =
    front_accepted full (old ++ a) b (subst (λ (l : List Ace). IsAccepted full l) (sym (append_assoc old a b)) ok)

-- ---- one entry after the other

-- the ACEs of two lists of entries together are those of the first and then those of the second
each-append : (which : Tag → Bool) (f : Tag × ℕ → List Ace) (xs ys : List (Tag × ℕ)) → each which f (xs ++ ys)
    ≡ each which f xs ++ each which f ys
each-append which f xs ys = ap (flat_map f) (filter-append (λ (e : Tag × ℕ). which e.0) xs ys)
    ∙ flat_map-append f (filter (λ (e : Tag × ℕ). which e.0) xs) (filter (λ (e : Tag × ℕ). which e.0) ys)

-- a part of two lists of entries together is the part of the first, and then the part of the second
part-append : (E : Entries) (part : ListPart) (xs ys : List (Tag × ℕ)) → bridged_part E part (xs ++ ys)
    ≡ bridged_part E part xs ++ bridged_part E part ys
part-append E Users xs ys = each-append is_user_tag (decide_of E) xs ys
part-append E GroupAllows xs ys = each-append is_group_tag (allow_of E) xs ys
part-append E GroupDenies xs ys = each-append is_group_tag (deny_of E) xs ys
part-append E Others xs ys = each-append is_other_tag (allow_of E) xs ys

-- a part of one more entry is the part so far and the ACEs of this entry
part_more : (E : Entries) (part : ListPart) (es : List Entry) (i : ℕ) (e : Entry) → i < length es → e ≡ get_or es i e
    → bridged_part E part (pairs (take (i + 1) es))
    ≡ bridged_part E part (pairs (take i es)) ++ bridged_part E part (pair_of e ∷ [])
part_more E part es i e lt read =
    ap (λ (xs : List Entry). bridged_part E part (pairs xs)) (take_more es i e lt)
    ∙ ap (bridged_part E part) (map-append pair_of (take i es) (get_or es i e ∷ []))
    ∙ part-append E part (pairs (take i es)) (pair_of (get_or es i e) ∷ [])
    ∙ ap (λ (x : Entry). bridged_part E part (pairs (take i es)) ++ bridged_part E part (pair_of x ∷ [])) (sym read)

-- one more entry adds its ACEs to the part
pub part_kept : (E : Entries) (part : ListPart) (es : List Entry) (i : ℕ) (e : Entry) (old mid next : List Ace)
    → i < length es → e ≡ get_or es i e
    → mid ≡ old ++ bridged_part E part (pairs (take i es)) → next ≡ mid ++ bridged_part E part (pair_of e ∷ [])
    → next ≡ old ++ bridged_part E part (pairs (take (i + 1) es))
part_kept E part es i e old mid next lt read so_far step =
    step ∙ ap (λ (l : List Ace). l ++ bridged_part E part (pair_of e ∷ [])) so_far
    ∙ append_assoc old (bridged_part E part (pairs (take i es))) (bridged_part E part (pair_of e ∷ []))
    ∙ ap (λ (l : List Ace). old ++ l) (sym (part_more E part es i e lt read))

-- if the list is accepted with the whole part, it is accepted with the ACEs of one more entry
pub entry_fits : (E : Entries) (part : ListPart) (es : List Entry) (i : ℕ) (e : Entry) (old mid : List Ace)
    → i < length es → e ≡ get_or es i e → pairs es ≡ fin.entries E
    → mid ≡ old ++ bridged_part E part (pairs (take i es))
    → IsAccepted full (old ++ bridged_part E part (fin.entries E))
    → IsAccepted full (mid ++ bridged_part E part (pair_of e ∷ []))
entry_fits E part es i e old mid lt read is so_far ok =
    let front : List Ace = bridged_part E part (pairs (take (i + 1) es)) in
    let more : List Ace = bridged_part E part (pairs (drop (i + 1) es)) in
    let here : mid ++ bridged_part E part (pair_of e ∷ []) ≡ old ++ front =
    part_kept E part es i e old mid (mid ++ bridged_part E part (pair_of e ∷ [])) lt read so_far refl in
    let joined : front ++ more ≡ bridged_part E part (fin.entries E) =
    sym (part-append E part (pairs (take (i + 1) es)) (pairs (drop (i + 1) es)))
    ∙ ap (bridged_part E part) (sym (map-append pair_of (take (i + 1) es) (drop (i + 1) es))
    ∙ ap pairs (take-append-drop (i + 1) es) ∙ is) in
    subst (λ (l : List Ace). IsAccepted full l) (sym here)
    (first_fits old front more (subst (λ (l : List Ace). IsAccepted full (old ++ l)) (sym joined) ok))

-- ---- one part after the other

-- a part of the list, from all entries
abbrev all_of : Entries → ListPart → List Ace
all_of E part = bridged_part E part (fin.entries E)

-- the four parts, one after the other, are the list
pub four_parts : (E : Entries) (a b c d e : List Ace) → a ≡ [] → b ≡ a ++ all_of E Users → c ≡ b ++ all_of E GroupAllows
    → d ≡ c ++ all_of E GroupDenies → e ≡ d ++ all_of E Others → e ≡ bridge_list E
unfolding bridge_list
four_parts E a b c d e ae be ce de ee =
    ee ∙ ap (λ (l : List Ace). l ++ all_of E Others) (de
    ∙ ap (λ (l : List Ace). l ++ all_of E GroupDenies) (ce
    ∙ ap (λ (l : List Ace). l ++ all_of E GroupAllows) (be
    ∙ ap (λ (l : List Ace). l ++ all_of E Users) ae)))

-- the list is accepted after each of its parts
record Fronts (E : Entries) : Type 0 where
  pub users : IsAccepted full (all_of E Users)
  pub allows : IsAccepted full (all_of E Users ++ all_of E GroupAllows)
  pub denies : IsAccepted full (all_of E Users ++ all_of E GroupAllows ++ all_of E GroupDenies)
  pub others : IsAccepted full (all_of E Users ++ all_of E GroupAllows ++ all_of E GroupDenies ++ all_of E Others)

-- if the list is accepted, it is accepted after each of its parts
accepted_fronts : (E : Entries) → IsAccepted full (bridge_list E) → Fronts E
unfolding bridge_list
accepted_fronts E ok =
    let U = all_of E Users in
    let A = all_of E GroupAllows in
    let D = all_of E GroupDenies in
    let denies = front_accepted full (U ++ A ++ D) (all_of E Others) ok in
    let allows = front_accepted full (U ++ A) D denies in
    record { users = front_accepted full U A allows; allows = allows; denies = denies; others = ok }

-- if the whole list is accepted, its first part is
pub users_fit : (E : Entries) (a : List Ace) → a ≡ [] → IsAccepted full (bridge_list E)
    → IsAccepted full (a ++ all_of E Users)
users_fit E a ae ok =
    subst (λ (l : List Ace). IsAccepted full (l ++ all_of E Users)) (sym ae) (accepted_fronts E ok).users

-- if the whole list is accepted, its first two parts are
pub allows_fit : (E : Entries) (a b : List Ace) → a ≡ [] → b ≡ a ++ all_of E Users → IsAccepted full (bridge_list E)
    → IsAccepted full (b ++ all_of E GroupAllows)
allows_fit E a b ae be ok =
    subst (λ (l : List Ace). IsAccepted full (l ++ all_of E GroupAllows))
    (sym (be ∙ ap (λ (l : List Ace). l ++ all_of E Users) ae)) (accepted_fronts E ok).allows

-- if the whole list is accepted, its first three parts are
pub denies_fit : (E : Entries) (a b c : List Ace) → a ≡ [] → b ≡ a ++ all_of E Users → c ≡ b ++ all_of E GroupAllows
    → IsAccepted full (bridge_list E) → IsAccepted full (c ++ all_of E GroupDenies)
denies_fit E a b c ae be ce ok =
    subst (λ (l : List Ace). IsAccepted full (l ++ all_of E GroupDenies))
    (sym (ce ∙ ap (λ (l : List Ace). l ++ all_of E GroupAllows) (be ∙ ap (λ (l : List Ace). l ++ all_of E Users) ae)))
    (accepted_fronts E ok).denies

-- if the whole list is accepted, its four parts together are
pub others_fit : (E : Entries) (a b c d : List Ace) → a ≡ [] → b ≡ a ++ all_of E Users
    → c ≡ b ++ all_of E GroupAllows → d ≡ c ++ all_of E GroupDenies → IsAccepted full (bridge_list E)
    → IsAccepted full (d ++ all_of E Others)
others_fit E a b c d ae be ce de ok =
    subst (λ (l : List Ace). IsAccepted full l) (sym (four_parts E a b c d (d ++ all_of E Others) ae be ce de refl)) ok
