use Rattle.acl_normal.proofs.Common.{Ace, AceRef, IfOk-weaker, List, [], aces_in, subst, ◌∷◌, ◌≡◌}
use Rattle.acl_contain.proofs.restriction.PutBack.{AtMostAtEach, at_all_five, at_no_path, at_one_more}
use Rattle.acl_contain.proofs.restricting.everywhere.kept_everywhere.Goals as goal
use Rattle.acl_contain.specs.EveryPath.{AtMostAt}
use Rattle.acl_contain.specs.Removal.{IsGreatestWithin}
use Rattle.acl_contain.specs.declared.restricting.short_path.ShortPath.{ShortPath}
use Rattle.acl_contain.specs.declared.restricting.short_path.ShortPath.TheVariants.{DirectoryInDirectory, FileInDirectory, NewDirectory, NewFile, Object}
use Rattle.acl_contain.specs.internal.InPlace.{path_of}

-- one more path, for the ACEs that were kept at the paths before
next : (bound : List Ace) (paths : List ShortPath) (path : ShortPath) {list less : List Ace} {kept shown : List AceRef}
    → IsGreatestWithin (AtMostAtEach bound paths) list (aces_in kept) → shown ≡ kept
    → IsGreatestWithin (λ other. AtMostAt other bound (path_of path)) (aces_in shown) less
    → IsGreatestWithin (AtMostAtEach bound (path ∷ paths)) list less
next bound paths path {list} {less} {kept} first same second = at_one_more bound paths path list (aces_in kept) less first
    (subst (λ v. IsGreatestWithin (λ other. AtMostAt other bound (path_of path)) (aces_in v) less) same second)

pub returns : goal.returns
returns c =
    let list = aces_in c.args.aces.now in
    let bound = aces_in c.args.others.now in
    IfOk-weaker c.kept_at-5.result _ _ (λ kept last. at_all_five list bound (aces_in kept.items)
    (next bound (FileInDirectory ∷ NewDirectory ∷ NewFile ∷ Object ∷ []) DirectoryInDirectory
    (next bound (NewDirectory ∷ NewFile ∷ Object ∷ []) FileInDirectory
    (next bound (NewFile ∷ Object ∷ []) NewDirectory
    (next bound (Object ∷ []) NewFile
    (at_one_more bound [] Object list list _ (at_no_path list bound) c.in_ok-kept.ensures.greatest)
    c.deref.ensures.value c.in_ok-kept-2.ensures.greatest) c.deref-2.ensures.value c.in_ok-kept-3.ensures.greatest)
    c.deref-3.ensures.value c.in_ok-kept-4.ensures.greatest) c.deref-4.ensures.value last)) c.kept_at-5.ensures.greatest
