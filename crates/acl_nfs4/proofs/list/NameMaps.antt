-- The maps of names that the code makes.
use Rattle.acl_nfs4.proofs.Common.{ap, Bool, bytes_eq, cond, false, List, Option, option_map, refl, Some, sym, true, ℕ, ◌&&◌, ◌∙◌, ◌≡◌}
use Rattle.std.specs.BTreeMap.{BTreeMap, get_by, UpdatesBy}
use Rattle.std.specs.Cmp.Lexicographic.{slice_cmp}
use Rattle.std.specs.Ordering.{nat_cmp}
use Rattle.std.proofs.lemmas.Map.Text.{btree_map_updates_str}
use Rattle.std.proofs.Math.Path.{fun_ext}
use Rattle.std.proofs.Common.{Bor}
use Rattle.acl_nfs4.specs.Renamed.{same_sort}
use Rattle.acl_nfs4.specs.declared.list.renaming.NameMap.{NameMap}
use Rattle.acl_nfs4.specs.internal.NameMap.{has_other, name_for, with_new_name}
use Rattle.acl_nfs4.proofs.list.RenamingTable.{Names}

-- a name is put into one of the two maps
half_put : (old after : BTreeMap (Bor (List ℕ)) (Bor (List ℕ))) (name : List ℕ) (value : Bor (List ℕ))
    → UpdatesBy (λ x y. slice_cmp nat_cmp x.now y.now) (λ k. slice_cmp nat_cmp name k.now) old after (Some value)
    → (q : List ℕ) → option_map (λ v. v.now) (get_by (λ k. slice_cmp nat_cmp q k.now) after)
    ≡ cond (bytes_eq name q) (Some value.now) (option_map (λ v. v.now) (get_by (λ k. slice_cmp nat_cmp q k.now) old))
half_put old after name value u q =
    ap (option_map (λ (v : Bor (List ℕ)). v.now)) (btree_map_updates_str name old after (Some value) u q)
    ∙ by (bytes_eq name q) (get_by (λ k. slice_cmp nat_cmp q k.now) old)
  where
    by : (t : Bool) (o : Option (Bor (List ℕ))) → option_map (λ v. v.now) (cond t (Some value) o)
        ≡ cond t (Some value.now) (option_map (λ v. v.now) o)
    by true o = refl
    by false o = refl

-- the name of a group is put
pub put_group : (m : NameMap) (after : BTreeMap (Bor (List ℕ)) (Bor (List ℕ))) (is_group : Bool) (name : List ℕ)
    (value : Bor (List ℕ)) → is_group ≡ true
    → UpdatesBy (λ x y. slice_cmp nat_cmp x.now y.now) (λ k. slice_cmp nat_cmp name k.now) m.groups after (Some value)
    → (g : Bool) (q : List ℕ)
    → name_for (record { users = m.users; groups = after }) g q ≡ with_new_name (name_for m) is_group name value.now g q
put_group m after is_group name value e u true q = half_put m.groups after name value u q
    ∙ sym (ap (λ (k : Bool). cond (same_sort k true && bytes_eq name q) (Some value.now) (name_for m true q)) e)
put_group m after is_group name value e u false q =
    sym (ap (λ (k : Bool). cond (same_sort k false && bytes_eq name q) (Some value.now) (name_for m false q)) e)

-- the name of a user is put
pub put_user : (m : NameMap) (after : BTreeMap (Bor (List ℕ)) (Bor (List ℕ))) (is_group : Bool) (name : List ℕ)
    (value : Bor (List ℕ)) → is_group ≡ false
    → UpdatesBy (λ x y. slice_cmp nat_cmp x.now y.now) (λ k. slice_cmp nat_cmp name k.now) m.users after (Some value)
    → (g : Bool) (q : List ℕ)
    → name_for (record { users = after; groups = m.groups }) g q
    ≡ with_new_name (name_for m) is_group name value.now g q
put_user m after is_group name value e u false q = half_put m.users after name value u q
    ∙ sym (ap (λ (k : Bool). cond (same_sort k false && bytes_eq name q) (Some value.now) (name_for m false q)) e)
put_user m after is_group name value e u true q =
    sym (ap (λ (k : Bool). cond (same_sort k true && bytes_eq name q) (Some value.now) (name_for m true q)) e)

-- a test of the map says so of the ACE
pub tested : (olds : Names) (g h : Bool) (n k w : List ℕ) (r t : Bool) → g ≡ h → n ≡ k → r ≡ has_other olds g n w
    → r ≡ t → has_other olds h k w ≡ t
tested olds g h n k w r t e f is so = ap (λ (x : List ℕ). has_other olds h x w) (sym f)
    ∙ ap (λ (x : Bool). has_other olds x n w) (sym e) ∙ sym is ∙ so

-- what is put into the map is the name of the ACE
pub put_as : (after olds : Names) (g h : Bool) (n k w : List ℕ) → g ≡ h → n ≡ k
    → ((x : Bool) (q : List ℕ) → after x q ≡ with_new_name olds g n w x q)
    → (x : Bool) (q : List ℕ) → after x q ≡ with_new_name olds h k w x q
put_as after olds g h n k w e f put x q = put x q ∙ ap (λ (y : Bool). with_new_name olds y n w x q) e
    ∙ ap (λ (y : List ℕ). with_new_name olds h y w x q) f

-- names that are the same for each name
pub same_names : (f h : Names) → ((g : Bool) (q : List ℕ) → f g q ≡ h g q) → f ≡ h
same_names f h same = fun_ext (λ g. fun_ext (λ q. same g q))
