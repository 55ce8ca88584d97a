-- Command lines, with the values that the definitions compute from them.
use Rattle.std.proofs.Common.{◌≡◌, ◌∷◌, [], ℕ, Bool, List, None, Some, false, true, refl, codes}
use Rattle.std.specs.Prelude.{◌==◌}
use Rattle.std.specs.List.{slice_split}
use Rattle.clap.proofs.OnLiterals.{clap_on_literals}
use Rattle.clap.specs.Words.{Row, Text}
use Rattle.acl_perm.specs.Profile.{Profile, full, narrow}
use Rattle.acl_nfs4.specs.AceText.{space}
use Rattle.acl_nfs4.specs.BitNames.{set_named}
use Rattle.acl_posix.specs.Fields.{id_of, permissions_of}
use Rattle.acl_posix.specs.Names.{empty_table}
use Rattle.acl_eval.specs.declared.inherit.ChildKind.TheVariants as kind
use Rattle.aclck.specs.Line.{Term, app_from, default, flag, is_given, is_taken, optional, rows_at, value_of}
use Rattle.aclck.specs.commands.RightTable.{right_named, table_in}
use Rattle.aclck.specs.commands.CheckNfs.{CheckNfsValues, check_nfs_in}
use Rattle.aclck.specs.commands.CheckPosix.{CheckPosixValues, check_posix_in}
use Rattle.aclck.specs.commands.Child.{child_in, kind_value}
use Rattle.aclck.specs.commands.Chmod.{chmod_in}
use Rattle.aclck.specs.commands.Create.{create_in}
use Rattle.aclck.specs.NameWords.{named_id, names_value}
use Rattle.aclck.specs.NameWords as words
use Rattle.aclck.specs.commands.Normalize.{normalize_in}
use Rattle.aclck.specs.ProfileArgument.{profile_in, profile_value}
use Rattle.aclck.specs.commands.ShowPosix.{form_value, show_posix_in}
use Rattle.aclck.specs.Task.{definition_of, task_at, task_named, task_of}
use Rattle.aclck.specs.Values.{id_value, ids_value, mask_value, mode_value, want_value}
use Rattle.acl_posix.specs.declared.form.AclTextForm.TheVariants as form
use Rattle.aclck.specs.declared.task.Name.{Name}
use Rattle.aclck.specs.declared.task.Name.TheVariants as name

-- the words of a line, with one space between two
abbrev words_on : Text → List Text
words_on line = slice_split (λ b. b == space) line

-- the line asks for the command at these values
abbrev Asks : Text → (n : Name) → (definition_of n).Values → Type 0
Asks line n v = task_of (words_on line) ≡ Some (task_at n v)

-- the line asks for nothing
abbrev AsksNothing : Text → Type 0
AsksNothing line = task_of (words_on line) ≡ None

-- ---- `check-nfs`

-- the values of an owner and an owning group g
abbrev check : Text → Text → List Text → ℕ → Profile → CheckNfsValues
check owner user groups mask profile = record {
  object = record { owner = owner; group = codes "g" };
  requester = record { user = user; groups = groups };
  mask = mask;
  profile = profile;
}

-- what lines of `check-nfs` ask for by their names, masks and profiles
check_nfs_value_lines :
    -- an option and its value in two words
    Asks (codes "check-nfs --owner o --group g --user u --mask READ_DATA")
    name.CheckNfs (check (codes "o") (codes "u") [] 1 full)
    -- an option and its value in one word, cut at the first equals sign; groups may be anywhere
    × Asks (codes "check-nfs a --owner=o=p b --group=g --user=u --mask=EXECUTE|ADD_FILE c")
    name.CheckNfs (check (codes "o=p") (codes "u") (codes "a" ∷ codes "b" ∷ codes "c" ∷ []) 34 full)
    -- `none` is the empty mask
    × Asks (codes "check-nfs --owner=o --group=g --user=u --mask=none")
    name.CheckNfs (check (codes "o") (codes "u") [] 0 full)
    -- a dash alone is no mask in a command line
    × AsksNothing (codes "check-nfs --owner=o --group=g --user=u --mask=-")
    -- a name that is no right
    × AsksNothing (codes "check-nfs --owner=o --group=g --user=u --mask=NOTHING")
    -- the narrow profile
    × Asks (codes "check-nfs --owner=o --group=g --user=u --mask=READ_DATA --profile narrow")
    name.CheckNfs (check (codes "o") (codes "u") [] 1 narrow)
    -- the full profile, which is also the default; WRITE_RETENTION is one of its rights
    × Asks (codes "check-nfs --owner=o --group=g --user=u --profile=full --mask=WRITE_RETENTION")
    name.CheckNfs (check (codes "o") (codes "u") [] 512 full)
    -- a right that the profile does not have
    × AsksNothing (codes "check-nfs --owner=o --group=g --user=u --mask=WRITE_RETENTION|READ_DATA --profile=narrow")
    -- a word that names no profile
    × AsksNothing (codes "check-nfs --owner=o --group=g --user=u --mask=none --profile=wide")
unfolding clap_on_literals is_taken rows_at app_from task_named check_nfs_in mask_value set_named profile_in
    profile_value
check_nfs_value_lines = (refl, refl, refl, refl, refl, refl, refl, refl, refl)

-- lines of `check-nfs` that lack a value, or have words that begin with hyphens
check_nfs_word_lines :
    -- a required option is missing
    AsksNothing (codes "check-nfs --group=g --user=u --mask=none")
    -- an empty name is no name
    × AsksNothing (codes "check-nfs --owner= --group=g --user=u --mask=none")
    -- an empty group is no name either
    × AsksNothing (codes "check-nfs --owner=o --group=g --user=u --mask=none ")
    -- a value that begins with a hyphen is no value if it is a word of its own
    × AsksNothing (codes "check-nfs --owner -x --group=g --user=u --mask=none")
    -- it is a value after an equals sign; after two hyphens every word is a group
    × Asks (codes "check-nfs --owner=-x --group=g --user=u --mask=none -- --help -")
    name.CheckNfs (check (codes "-x") (codes "u") (codes "--help" ∷ codes "-" ∷ []) 0 full)
    -- a word that asks for help is an unknown argument
    × AsksNothing (codes "check-nfs --owner=o --group=g --user=u --mask=none --help")
    -- the short word for help is one too
    × AsksNothing (codes "check-nfs --owner=o --group=g --user=u --mask=none -h")
    -- an option that is given twice
    × AsksNothing (codes "check-nfs --owner=o --owner=o --group=g --user=u --mask=none")
unfolding clap_on_literals is_taken rows_at app_from task_named check_nfs_in mask_value set_named profile_in
    profile_value
check_nfs_word_lines = (refl, refl, refl, refl, refl, refl, refl, refl)

-- lines without the name of a command ask for nothing
no_command :
    -- a first word that names no command
    AsksNothing (codes "help")
    -- no word at all
    × (task_of [] ≡ None)
no_command = (refl, refl)

-- ---- `child` and `mode`

-- what lines of `child` ask for, and lines that ask for nothing
child_lines :
    -- what is created, without a profile
    Asks (codes "child --kind file") name.Child (record { created = kind.File; profile = full })
    -- a directory, and the narrow profile
    × Asks (codes "child --profile=narrow --kind=dir")
    name.Child (record { created = kind.Directory; profile = narrow })
    -- what is created is required
    × AsksNothing (codes "child --profile full")
    -- a word that names no kind
    × AsksNothing (codes "child --kind directory")
unfolding clap_on_literals is_taken rows_at app_from task_named child_in kind_value profile_in profile_value
child_lines = (refl, refl, refl, refl)

-- what lines of `mode` ask for, and lines that ask for nothing
mode_lines :
    -- no word but the command's own
    Asks (codes "mode") name.Mode full
    -- two hyphens with no word after them
    × Asks (codes "mode --profile narrow --") name.Mode narrow
    -- a word that belongs to no option
    × AsksNothing (codes "mode 660")
    -- a flag of `normalize`
    × AsksNothing (codes "mode --inherit")
unfolding clap_on_literals is_taken rows_at app_from task_named profile_in profile_value
mode_lines = (refl, refl, refl, refl)

-- ---- `show-posix`

-- what lines of `show-posix` ask for, and lines that ask for nothing
show_posix_lines :
    -- the canonical form is the default
    Asks (codes "show-posix") name.ShowPosix (record { form = form.Canonical; names = empty_table })
    -- a word of digits alone is no name
    × AsksNothing (codes "show-posix u:12=5")
    -- the empty word is no name either
    × AsksNothing (codes "show-posix u:=5")
    -- a form that is not the default
    × Asks (codes "show-posix --form=short")
    name.ShowPosix (record { form = form.Short; names = empty_table })
    -- a word that names no form
    × AsksNothing (codes "show-posix --form=long")
unfolding clap_on_literals is_taken rows_at app_from task_named show_posix_in form_value names_value named_id
    id_value id_of
show_posix_lines = (refl, refl, refl, refl, refl)

-- the half of the table, the name and the id of some words
named_words :
    -- a name is cut at its last equals sign; an id may begin with zeros
    (named_id (codes "u:a=b=0005") ≡ Some (record { half = words.users; name = codes "a=b"; id = 5 }))
    -- a group name may have a colon
    × (named_id (codes "g:a:b=7") ≡ Some (record { half = words.groups; name = codes "a:b"; id = 7 }))
unfolding named_id id_value id_of
named_words = (refl, refl)

-- ---- `check-posix`

-- the values of owner 1, group 2 and user 3 without names
abbrev check_ids : List ℕ → ℕ → CheckPosixValues
check_ids groups want = record {
  object = record { user = 1; group = 2 };
  requester = record { user = 3; groups = groups };
  want = want;
  names = empty_table;
}

-- what lines of `check-posix` ask for, and lines that ask for nothing
check_posix_lines :
    -- groups have commas between them, and letters are in any order
    Asks (codes "check-posix --owner=1 --group=2 --user=3 --groups=50,060 --want=xr")
    name.CheckPosix (check_ids (50 ∷ 60 ∷ []) 5)
    -- without `--groups` there are no groups; `none` is the empty request
    × Asks (codes "check-posix --owner=001 --group=2 --user=3 --want=none")
    name.CheckPosix (check_ids [] 0)
    -- an empty item is no id
    × AsksNothing (codes "check-posix --owner=1 --group=2 --user=3 --groups=50,,60 --want=r")
    -- a letter that is given twice
    × AsksNothing (codes "check-posix --owner=1 --group=2 --user=3 --want=rr")
    -- 4294967295 is no id
    × AsksNothing (codes "check-posix --owner=4294967295 --group=2 --user=3 --want=r")
unfolding clap_on_literals is_taken rows_at app_from task_named check_posix_in ids_value want_value permissions_of
    names_value named_id id_value id_of
check_posix_lines = (refl, refl, refl, refl, refl)

-- ---- `calc-mask`, `chmod` and `create`

-- what a line of `calc-mask` asks for, and lines that ask for nothing
calc_mask_lines :
    -- no name at all
    Asks (codes "calc-mask") name.CalcMask empty_table
    -- no option at all is taken
    × AsksNothing (codes "calc-mask --mode=7")
    -- a word that is no name
    × AsksNothing (codes "calc-mask staff=7")
unfolding clap_on_literals is_taken rows_at app_from task_named names_value named_id id_value id_of
calc_mask_lines = (refl, refl, refl)

-- what a line of `chmod` asks for, and lines that ask for nothing
chmod_lines :
    -- a mode may begin with a zero
    Asks (codes "chmod --mode=0660") name.Chmod (record { mode = 432; names = empty_table })
    -- a mode has at most four digits
    × AsksNothing (codes "chmod --mode=00660")
    -- 1000 is above 777
    × AsksNothing (codes "chmod --mode=1000")
unfolding clap_on_literals is_taken rows_at app_from task_named chmod_in mode_value names_value named_id id_value id_of
chmod_lines = (refl, refl, refl)

-- what lines of `create` ask for, and a line that asks for nothing
create_lines :
    -- a directory
    Asks (codes "create --mode=640 --umask=077 --dir")
    name.Create (record { mode = 416; umask = 63; is_directory = true; names = empty_table })
    -- a file
    × Asks (codes "create --umask 22 --mode 666")
    name.Create (record { mode = 438; umask = 18; is_directory = false; names = empty_table })
    -- the umask is required
    × AsksNothing (codes "create --mode=640")
unfolding clap_on_literals is_taken rows_at app_from task_named create_in mode_value names_value named_id id_value id_of
create_lines = (refl, refl, refl)

-- ---- `bridge`

-- what a line of `bridge` asks for, and a line that asks for nothing
bridge_lines :
    -- no name at all
    Asks (codes "bridge") name.Bridge empty_table
    -- there is no profile to choose
    × AsksNothing (codes "bridge --profile=full")
unfolding clap_on_literals is_taken rows_at app_from task_named names_value named_id id_value id_of
bridge_lines = (refl, refl)

-- ---- arguments of other kinds, in a command x that has them

-- a flag
abbrev quiet : Term
quiet = flag (codes "quiet")

-- an option that may be absent
abbrev named : Term
named = optional (codes "name")

-- an option with a default
abbrev unit : Term
unit = default (codes "unit") (codes "ace")

-- all three
abbrev terms : List Term
terms = quiet ∷ named ∷ unit ∷ []

-- the values of the arguments at a line
abbrev rows_on : Text → List Row
rows_on line = rows_at (app_from (codes "x") terms) (words_on line)

-- the command takes a line
abbrev takes : Text → Bool
takes line = is_taken (app_from (codes "x") terms) (words_on line)

-- the values of arguments that are given, and of arguments that are absent
given_arguments :
    -- a flag that is given
    (is_given quiet (rows_on (codes "x --quiet")) ≡ true)
    -- the same argument, which is not given
    × (is_given quiet (rows_on (codes "x")) ≡ false)
    -- an option that is given
    × (value_of named (rows_on (codes "x --name=n")) ≡ Some (codes "n"))
    -- the same argument, which is not given
    × (value_of named (rows_on (codes "x")) ≡ None)
    -- a default that is not used
    × (value_of unit (rows_on (codes "x --unit bit")) ≡ Some (codes "bit"))
    -- a default that is used
    × (value_of unit (rows_on (codes "x")) ≡ Some (codes "ace"))
    -- a flag takes no value
    × (takes (codes "x --quiet=true") ≡ false)
    -- a word that no argument takes
    × (takes (codes "x y") ≡ false)
unfolding clap_on_literals is_taken rows_at app_from
given_arguments = (refl, refl, refl, refl, refl, refl, refl, refl)

-- ---- `show-nfs` and `encode`

-- what a line of `show-nfs` asks for, and a line that asks for nothing
show_nfs_lines :
    -- without a profile the full profile is meant
    Asks (codes "show-nfs") name.ShowNfs full
    -- the command takes no word besides the profile
    × AsksNothing (codes "show-nfs bob")
unfolding clap_on_literals is_taken rows_at app_from task_named profile_in profile_value
show_nfs_lines = (refl, refl)

-- what a line of `encode` asks for
encode_lines :
    -- the narrow profile
    Asks (codes "encode --profile narrow") name.Encode narrow
unfolding clap_on_literals is_taken rows_at app_from task_named profile_in profile_value
encode_lines = refl

-- ---- `normalize`

-- what lines of `normalize` ask for, and a line that asks for nothing
normalize_lines :
    -- without the flag one form is meant
    Asks (codes "normalize") name.Normalize (record { inherit = false; profile = full })
    -- with the flag five forms are meant, whatever the profile
    × Asks (codes "normalize --inherit") name.Normalize (record { inherit = true; profile = full })
    -- the options in another order
    × Asks (codes "normalize --profile=narrow --inherit")
    name.Normalize (record { inherit = true; profile = narrow })
    -- the flag takes no value
    × AsksNothing (codes "normalize --inherit=yes")
unfolding clap_on_literals is_taken rows_at app_from task_named normalize_in profile_in profile_value
normalize_lines = (refl, refl, refl, refl)

-- ---- `table` and `compare`

-- what lines of `table` ask for, and lines that ask for nothing
table_lines :
    -- a second name of a right, without a profile
    Asks (codes "table --bit ADD_SUBDIRECTORY") name.Table (record { bit = 4; profile = full })
    -- a first name of a right, within the narrow profile
    × Asks (codes "table --profile narrow --bit=EXECUTE")
    name.Table (record { bit = 32; profile = narrow })
    -- a right that the profile does not have
    × AsksNothing (codes "table --bit=WRITE_RETENTION --profile=narrow")
    -- one right is requested, and not two
    × AsksNothing (codes "table --bit=READ_DATA|EXECUTE")
    -- the right is required
    × AsksNothing (codes "table")
unfolding clap_on_literals is_taken rows_at app_from task_named table_in right_named set_named profile_in profile_value
table_lines = (refl, refl, refl, refl, refl)

-- what lines of `compare` ask for, and a line that asks for nothing
compare_lines :
    -- no word but the command's own
    Asks (codes "compare") name.Compare full
    -- the narrow profile
    × Asks (codes "compare --profile=narrow") name.Compare narrow
    -- both lists are in the input, and no word names a list
    × AsksNothing (codes "compare other.xdr")
unfolding clap_on_literals is_taken rows_at app_from task_named profile_in profile_value
compare_lines = (refl, refl, refl)
