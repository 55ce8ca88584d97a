-- Lists that go out one after the other.
use Rattle.std.proofs.Common.{ℕ, List, [], ◌∷◌, Option, Result, Ok, Err, refl}
use Rattle.std.specs.List.{flat_map}
use Rattle.acl_perm.specs.Pieces.{WritesFrom}
use Rattle.acl_perm.specs.declared.whole.WriteFault.{WriteFault}
use Rattle.acl_perm.proofs.PieceLemmas.{IsOut, out_all, out_cut, out_more, out_none}
use Rattle.acl_normal.proofs.Common.{Ace, spelling}
use Rattle.acl_normal.specs.FiveForms.{five_lists, five_spellings}
use Rattle.acl_normal.specs.declared.five_forms.FiveForms.{FiveForms}

-- the bytes of some lists, one after the other
abbrev pub spellings : List (List Ace) → List ℕ
spellings lists = flat_map spelling lists

-- of some bytes the first ones are out, and the bytes of some lists follow them
abbrev pub AreLeft : Option (List ℕ) → Option (List ℕ) → ℕ → List ℕ → List (List Ace) → Type 0
AreLeft held holds done whole lists = IsOut 0 done held holds whole (spellings lists)

-- before the first list all lists are left
pub all_left : (held : Option (List ℕ)) (lists : List (List Ace)) → AreLeft held held 0 (spellings lists) lists
all_left held lists = out_none 0 held (spellings lists) (spellings lists) refl

-- when the first list that is left was written, the lists after it are left
pub one_out : {a b c : Option (List ℕ)} {done count : ℕ} {whole : List ℕ} (list : List Ace) (lists : List (List Ace))
    → AreLeft a b done whole (list ∷ lists) → WritesFrom b c done (spelling list) (Ok count)
    → AreLeft a c count whole lists
one_out {a} {b} {c} {done} {count} {whole} list lists h said =
    out_more 0 done count a b c whole (spellings (list ∷ lists)) (spelling list) (spellings lists) h refl said.0 said.1

-- if the first list that is left was cut, the bytes were cut there
pub cut_out : {a b : Option (List ℕ)} (c : Option (List ℕ)) {done : ℕ} {fault : WriteFault} {whole : List ℕ}
    (list : List Ace)
    (lists : List (List Ace)) → AreLeft a b done whole (list ∷ lists)
    → WritesFrom b c done (spelling list) (Err fault) → WritesFrom a c 0 whole (Err fault)
cut_out {a} {b} c {done} {fault} {whole} list lists h said =
    out_cut 0 done fault.written a b c whole (spellings (list ∷ lists)) (spelling list) (spellings lists) h refl said.0
    said.1 said.2

-- when the last list was written, all bytes are out, and if it was cut, they were cut there
pub last_out : {a b : Option (List ℕ)} (c : Option (List ℕ)) {done : ℕ} {whole : List ℕ} (list : List Ace)
    (r : Result ℕ WriteFault)
    → AreLeft a b done whole (list ∷ []) → WritesFrom b c done (spelling list) r → WritesFrom a c 0 whole r
last_out {a} {b} c {done} {whole} list (Ok count) h said =
    out_all 0 count a c whole [] (one_out list [] h said) refl
last_out {a} {b} c {done} {whole} list (Err fault) h said = cut_out c list [] h said

-- ---- the five normal forms

-- the list after the fourth one
abbrev pub after_inner_file : FiveForms → List (List Ace)
after_inner_file f = f.directory_in_directory ∷ []

-- the lists after the third one
abbrev pub after_directory : FiveForms → List (List Ace)
after_directory f = f.file_in_directory ∷ after_inner_file f

-- the lists after the second one
abbrev pub after_file : FiveForms → List (List Ace)
after_file f = f.directory ∷ after_directory f

-- the lists after the first one
abbrev pub after_object : FiveForms → List (List Ace)
after_object f = f.file ∷ after_file f

-- after the first list, the other four are left
pub object_out : (f : FiveForms) {a b : Option (List ℕ)} {count : ℕ} → WritesFrom a b 0 (spelling f.object) (Ok count)
    → AreLeft a b count (five_spellings f) (after_object f)
object_out f {a} {b} {count} said =
    one_out f.object (after_object f) (all_left a (five_lists f)) said

-- after the second list, the other three are left
pub file_out : (f : FiveForms) {a : Option (List ℕ)} (b : Option (List ℕ)) {c : Option (List ℕ)} {first count : ℕ}
    → WritesFrom a b 0 (spelling f.object) (Ok first) → WritesFrom b c first (spelling f.file) (Ok count)
    → AreLeft a c count (five_spellings f) (after_file f)
file_out f {a} b {c} {first} {count} object said =
    one_out f.file (after_file f) (object_out f object) said

-- after the third list, the other two are left
pub directory_out : (f : FiveForms) {a : Option (List ℕ)} (b c : Option (List ℕ)) {d : Option (List ℕ)}
    {first second count : ℕ}
    → WritesFrom a b 0 (spelling f.object) (Ok first) → WritesFrom b c first (spelling f.file) (Ok second)
    → WritesFrom c d second (spelling f.directory) (Ok count)
    → AreLeft a d count (five_spellings f) (after_directory f)
directory_out f {a} b c {d} {first} {second} {count} object file said =
    one_out f.directory (after_directory f)
    (file_out f b object file) said
