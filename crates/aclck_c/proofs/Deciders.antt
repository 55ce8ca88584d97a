-- The entry that decides is one of the entries of a valid ACL.
use Rattle.std.proofs.Common.{◌≡◌, ℕ, Bool, true, false, cond, List, [], ◌∷◌, Option, Some, None, refl, sym, subst}
use Rattle.std.specs.Prelude.{◌==◌, IfSome, IsSome, option_map, not, if◌then◌else◌}
use Rattle.std.specs.FinMap as set
use Rattle.std.specs.FinMap.Entries as sorted
use Rattle.std.specs.List as list
use Rattle.std.specs.Ordering.{eq_by_cmp}
use Rattle.acl_posix.specs.Check.{Object, Requester, any_matches}
use Rattle.acl_posix.specs.Deciding.{decider, first_match}
use Rattle.acl_posix.specs.Entries.{Entries}
use Rattle.acl_posix.specs.Tag.{Tag, group_obj, other, tag_cmp, user, user_obj}
use Rattle.acl_posix.specs.Valid.{IsValid, missing}
use Rattle.acl_posix.proofs.Exports.{eq_by_cmp-refl}
use Rattle.aclck_c.specs.internal.Deciders.{HasEntry}

-- what is found after an entry is found with it too
later : (q : Tag) (e : Tag × ℕ) (es : List (Tag × ℕ)) → IsSome (sorted.find tag_cmp q es)
    → IsSome (sorted.find tag_cmp q (e ∷ es))
later q e es some = by (eq_by_cmp tag_cmp q e.0)
  where
    by : (b : Bool) → IsSome (cond b (Some e.1) (sorted.find tag_cmp q es))
    by true = refl
    by false = some

-- the tag of the first entry that passes a test is found
found_in : (test : Tag × ℕ → Bool) (es : List (Tag × ℕ))
    → IfSome (list.find test es) (λ e. IsSome (sorted.find tag_cmp e.0 es))
found_in test [] = tt
found_in test (e ∷ es) = by (found_in test es) (test e)
  where
    own : IsSome (sorted.find tag_cmp e.0 (e ∷ es))
    own = subst (λ b. IsSome (cond b (Some e.1) (sorted.find tag_cmp e.0 es))) (sym (eq_by_cmp-refl e.0)) refl

    rest : (o : Option (Tag × ℕ)) → IfSome o (λ x. IsSome (sorted.find tag_cmp x.0 es))
        → IfSome o (λ x. IsSome (sorted.find tag_cmp x.0 (e ∷ es)))
    rest None h = tt
    rest (Some x) h = later x.0 e es h

    by : IfSome (list.find test es) (λ x. IsSome (sorted.find tag_cmp x.0 es)) → (b : Bool)
        → IfSome (cond b (Some e) (list.find test es)) (λ x. IsSome (sorted.find tag_cmp x.0 (e ∷ es)))
    by h true = own
    by h false = rest (list.find test es) h

-- the tag of the first entry that passes a test has an entry
first_has_entry : (acl : Entries) (test : Tag × ℕ → Bool)
    → IfSome (option_map (λ e. e.0) (list.find test (set.entries acl))) (HasEntry acl)
first_has_entry acl test = by (list.find test (set.entries acl)) (found_in test (set.entries acl))
  where
    by : (o : Option (Tag × ℕ)) → IfSome o (λ x. IsSome (sorted.find tag_cmp x.0 (set.entries acl)))
        → IfSome (option_map (λ e. e.0) o) (HasEntry acl)
    by None h = tt
    by (Some x) h = subst IsSome (sym (set.get-entries acl x.0)) h

-- USER_OBJ and OTHER have entries
required : (acl : Entries) → IsValid acl → HasEntry acl user_obj × HasEntry acl other
unfolding missing
required acl valid =
    by (set.contains_key acl user_obj) refl (set.contains_key acl group_obj) (set.contains_key acl other) refl _ valid
  where
    by : (owner : Bool) → set.contains_key acl user_obj ≡ owner → (class others : Bool)
        → set.contains_key acl other ≡ others → (rest : Option Tag)
        → (if not owner then Some user_obj else (if not class then Some group_obj else (if not others then Some other
        else rest))) ≡ None → HasEntry acl user_obj × HasEntry acl other
    by true e true true f rest h = (e, f)
    by true e true false f rest h = absurd (cc h)
    by true e false others f rest h = absurd (cc h)
    by false e class others f rest h = absurd (cc h)

-- the entry that decides is one of the entries
pub decider_has_entry : (acl : Entries) (object : Object) (requester : Requester) (want : ℕ) → IsValid acl
    → IfSome (decider acl object requester want) (HasEntry acl)
unfolding decider
decider_has_entry acl object requester want valid =
    by (requester.user == object.user) (set.contains_key acl (user requester.user)) refl
    (any_matches acl object.group requester.groups)
  where
    by : (owns named : Bool) → set.contains_key acl (user requester.user) ≡ named → (met : Bool)
        → IfSome (if owns then Some user_obj else (if named then Some (user requester.user)
        else (if met then option_map (λ entry. entry.0) (first_match acl object.group requester.groups want)
        else Some other))) (HasEntry acl)
    by true named e met = (required acl valid).0
    by false true e met = e
    by false false e true = first_has_entry acl _
    by false false e false = (required acl valid).1
