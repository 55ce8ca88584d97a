-- What the searches of all permissions say of a list and an ACL, and the bound of what they look at.
use Rattle.std.proofs.Common.{◌≡◌, ◌≤◌, ◌+◌, ◌-◌, ℕ, Bool, true, false, List, Option, None, Some, refl, sym, ap, subst, ◌∙◌, arith, inl, inr, length}
use Rattle.std.proofs.lemmas.Bool.{cases_lt}
use Rattle.std.specs.Prelude.{◌⊎◌, Err, IfOk, IfSome, Ok, Result}
use Rattle.std.specs.FinMap as fin
use Rattle.acl_posix.specs.Check.{Object, Requester, grants, is_member}
use Rattle.acl_posix.specs.Entries.{Entries, pair_of, pairs}
use Rattle.acl_posix.specs.declared.entry.Entry.{Entry}
use Rattle.acl_posix.specs.Names.{Table}
use Rattle.acl_posix.specs.Tag.{Tag, qualifier}
use Rattle.acl_posix.specs.Valid.{IsValid}
use Rattle.acl_nfs4.specs.Ace.{Ace}
use Rattle.acl_eval.specs.Bridge.{image}
use Rattle.acl_eval.specs.BridgeLaws.{IsAsked, by_name}
use Rattle.acl_eval.specs.Grant.{Grant, grants_bit}
use Rattle.acl_to_posix.specs.LostGrants.{AreAtMost, AreMoreThan, IsLossOf, KeepsSingles, lost_object, lost_requester}
use Rattle.acl_to_posix.specs.internal.LossBody.{AreKept, AreSmall, AreUnused, IsFoundOr, IsKeptWith, LossSearch, chosen_object, chosen_requester, is_lost, search_of, used_numbers}
use Rattle.acl_to_posix.specs.internal.ShapeBody.{AreColumns, IsColumnOf, has_tag, keys_of}
use Rattle.acl_to_posix.specs.declared.losing.LostGrant.{LostGrant}
use Rattle.acl_to_posix.specs.declared.losing.unused.Unused.{Unused}
use Rattle.acl_to_posix.specs.declared.losing.Wanted.{Wanted}
use Rattle.std.specs.declared.alloc.AllocError.{AllocError}
use Rattle.acl_to_posix.specs.declared.tag_column.TagColumns.{TagColumns}
use Rattle.acl_to_posix.specs.declared.tag_column.TagKey.{TagKey}
use Rattle.acl_eval.proofs.Singles.{single_cases}
use Rattle.std.proofs.lemmas.List.{length-map}
use Rattle.acl_to_posix.proofs.ListNames.{all_names}
use Rattle.acl_to_posix.proofs.losses.LossSearches.{IsRefused, IsSearchOf, append_granted, execute_granted, found, found_execute, kept, read_granted, tags_used, write_granted}

-- ---- the answers

-- a situation that is no loss
pub kept_with : (s : LossSearch) (a b c : Tag) (lost : LostGrant) (r : Bool)
    → lost_object lost ≡ chosen_object s.one s.next a b c → lost_requester lost ≡ chosen_requester s.one a b c
    → r ≡ is_lost s.first s.second s.entries s.want (lost_object lost) (lost_requester lost) → r ≡ false
    → IsKeptWith s a b c
kept_with s a b c lost r object requester is denied =
    ap (λ (o : Object). is_lost s.first s.second s.entries s.want o (chosen_requester s.one a b c)) (sym object)
    ∙ (ap (λ (q : Requester). is_lost s.first s.second s.entries s.want (lost_object lost) q) (sym requester)
    ∙ (sym is ∙ denied))

-- what is wanted is a search of the list if its columns are those of the two rights
pub search_is : (list : List Ace) (E : Entries) (bit second want : ℕ) (one two : List TagKey) (wanted : Wanted)
    → IsColumnOf list bit one → IsColumnOf list second two → wanted.first.now ≡ one → wanted.second.now ≡ two
    → wanted.perm.bits ≡ want → IsValid E → IsSearchOf list E bit second want wanted
search_is list E bit second want one two wanted first next f n perm valid = record {
  one = subst (IsColumnOf list bit) (sym f) first;
  two = subst (IsColumnOf list second) (sym n) next;
  perm = perm;
  valid = valid;
}

-- an answer of a search is a situation in which the ACL denies what the list grants
pub found_at : (list : List Ace) (E : Entries) (bit second want : ℕ) (wanted : Wanted) (unused : Unused)
    (lost : LostGrant)
    (answer : Option LostGrant) (K : Type 0) → IsSearchOf list E bit second want wanted → answer ≡ Some lost
    → IsFoundOr (search_of wanted E unused) K answer → IsRefused list E bit second want lost
found_at list E bit second want wanted unused lost answer K is e h =
    found list E bit second want wanted unused lost is (subst (IsFoundOr (search_of wanted E unused) K) e h)

-- no answer
pub none_at : (s : LossSearch) (K : Type 0) (answer : Option LostGrant) → ((lost : LostGrant) → answer ≡ Some lost → ⊥)
    → IsFoundOr s K answer → K
none_at s K None lacking h = h
none_at s K (Some lost) lacking h = absurd (lacking lost refl)

-- an answer of the search for x is a loss
pub answer_lost : (list : List Ace) (E : Entries) (wanted : Wanted) (unused : Unused) (K : Type 0)
    → IsSearchOf list E 5 5 1 wanted → (r : Result (Option LostGrant) AllocError)
    → IfOk r (IsFoundOr (search_of wanted E unused) K) → IfOk r (λ lost. IfSome lost (IsLossOf list E))
answer_lost list E wanted unused K is (Ok None) h = tt
answer_lost list E wanted unused K is (Ok (Some lost)) h =
    found_execute list E lost (found list E 5 5 1 wanted unused lost is h)
answer_lost list E wanted unused K is (Err e) h = tt

-- the ACL grants a permission wherever the list grants two rights
abbrev KeepsRights : List Ace → Entries → ℕ → ℕ → ℕ → Type 0
KeepsRights list E bit second want = (object : Object) (requester : Requester) → IsAsked object requester
    → grants_bit list (by_name object requester) bit ≡ true → grants_bit list (by_name object requester) second ≡ true
    → grants E object requester want ≡ true

-- an ACL that keeps read, write and execute keeps each of them wherever the list grants its rights
all_kept : (list : List Ace) (E : Entries) → KeepsRights list E 0 0 4 → KeepsRights list E 1 2 2
    → KeepsRights list E 5 5 1 → KeepsSingles list E
all_kept list E read write execute object requester want asked single granted =
    by want (single_cases want single) granted
  where
    by : (want : ℕ) → (want ≡ 4) ⊎ ((want ≡ 2) ⊎ (want ≡ 1)) → Grant list (by_name object requester) (image want)
        → grants E object requester want ≡ true
    by want (inl e) g =
        subst (λ (w : ℕ). Grant list (by_name object requester) (image w) → grants E object requester w ≡ true)
        (sym e) (λ h. read object requester asked (read_granted list (by_name object requester) h)
        (read_granted list (by_name object requester) h)) g
    by want (inr (inl e)) g =
        subst (λ (w : ℕ). Grant list (by_name object requester) (image w) → grants E object requester w ≡ true)
        (sym e) (λ h. write object requester asked (write_granted list (by_name object requester) h)
        (append_granted list (by_name object requester) h)) g
    by want (inr (inr e)) g =
        subst (λ (w : ℕ). Grant list (by_name object requester) (image w) → grants E object requester w ≡ true)
        (sym e) (λ h. execute object requester asked (execute_granted list (by_name object requester) h)
        (execute_granted list (by_name object requester) h)) g

-- the keys of a search are those of a column whose tags have used numbers
named_keys : (keys given : List TagKey) (used : List ℕ) → given ≡ keys
    → ((t : Tag) → has_tag t (keys_of keys) ≡ true → is_member (qualifier t) used ≡ true)
    → (t : Tag) → has_tag t (keys_of given) ≡ true → is_member (qualifier t) used ≡ true
named_keys keys given used is named t h = named t (ap (λ (ks : List TagKey). has_tag t (keys_of ks)) (sym is) ∙ h)

-- if the searches for r, w and x find nothing, the ACL grants each single permission that the list grants
pub answer_kept : (list : List Ace) (E : Entries) (columns : TagColumns) (unused : Unused) (read write execute : Wanted)
    → read.first.now ≡ columns.read.items → read.second.now ≡ columns.read.items
    → write.first.now ≡ columns.write.items → write.second.now ≡ columns.append.items
    → execute.first.now ≡ columns.execute.items → execute.second.now ≡ columns.execute.items
    → IsSearchOf list E 0 0 4 read → IsSearchOf list E 1 2 2 write → IsSearchOf list E 5 5 1 execute
    → AreUnused (used_numbers columns E) unused
    → (one : Option LostGrant)
    → IsFoundOr (search_of read E unused) (AreKept (search_of read E unused) (fin.entries E)) one
    → ((lost : LostGrant) → one ≡ Some lost → ⊥)
    → (two : Option LostGrant)
    → IsFoundOr (search_of write E unused) (AreKept (search_of write E unused) (fin.entries E)) two
    → ((lost : LostGrant) → two ≡ Some lost → ⊥)
    → (r : Result (Option LostGrant) AllocError)
    → IfOk r (IsFoundOr (search_of execute E unused) (AreKept (search_of execute E unused) (fin.entries E)))
    → IfOk r (λ lost. lost ≡ None → KeepsSingles list E)
answer_kept list E columns unused read write execute rf rs wf ws xf xs isr isw isx u one h p two g q (Ok None) k =
    λ e. let t = tags_used columns E in
    let used = used_numbers columns E in
    all_kept list E
    (kept list E 0 0 4 read unused used isr u (named_keys columns.read.items read.first.now used rf t.read)
    (named_keys columns.read.items read.second.now used rs t.read) t.entries
    (none_at (search_of read E unused) _ one p h))
    (kept list E 1 2 2 write unused used isw u (named_keys columns.write.items write.first.now used wf t.write)
    (named_keys columns.append.items write.second.now used ws t.append) t.entries
    (none_at (search_of write E unused) _ two q g))
    (kept list E 5 5 1 execute unused used isx u (named_keys columns.execute.items execute.first.now used xf t.execute)
    (named_keys columns.execute.items execute.second.now used xs t.execute) t.entries k)
answer_kept list E columns unused read write execute rf rs wf ws xf xs isr isw isx u one h p two g q
    (Ok (Some lost)) k =
    λ e. absurd cc
answer_kept list E columns unused read write execute rf rs wf ws xf xs isr isw isx u one h p two g q (Err e) k = tt

-- ---- the bound

-- the entries of the code are as many as those of the ACL
same_entries : (es : List Entry) (E : Entries) → pairs es ≡ fin.entries E → length (fin.entries E) ≡ length es
same_entries es E same = ap (λ xs. length xs) (sym same) ∙ length-map es pair_of

-- with more entries than the bound, names and entries are more
pub more_entries : (table : Table) (list : List Ace) (E : Entries) (es : List Entry) (most : ℕ)
    → pairs es ≡ fin.entries E → (length es ≤ most → ⊥) → AreMoreThan most table list E
more_entries table list E es most same above =
    let count = same_entries es E same in record {
      named = _;
      names = all_names table list;
      more = elim (cases_lt most (length es)) [
        | inl more ↦ omega (arith, more, count)
        | inr less ↦ absurd (above less)
      ];
    }

-- what the entries leave of the bound
pub entries_left : (E : Entries) (es : List Entry) (most left : ℕ) → pairs es ≡ fin.entries E → length es ≤ most
    → left ≡ most - length es → left + length (fin.entries E) ≡ most
entries_left E es most left same few is = let count = same_entries es E same in omega (arith, few, is, count)

-- the columns of a list and an ACL within the bound are small
pub few_entries : (most : ℕ) (table : Table) (list given : List Ace) (E : Entries) (columns : TagColumns)
    → AreAtMost most table list E → most ≤ 65535 → AreColumns given columns → AreSmall columns E
few_entries most table list given E columns within small are = record {
  read = are.read.few;
  write = are.write.few;
  append = are.append.few;
  execute = are.execute.few;
  listed = let le = within.few in omega (arith, le, small);
}
