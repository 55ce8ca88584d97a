-- The commands: what the words of the command line ask for, and what the answer is (this library's own).
use Rattle.std.specs.Prelude.{◌∷◌, [], List, ℕ, Option, None, Bool, false, find, is_some, if◌then◌else◌}
use Rattle.std.specs.Option.{option_and_then, option_map}
use Rattle.std.specs.Str.{bytes_eq}
use Rattle.clap.specs.Words.{App, Row, Text}
use Rattle.acl_perm.specs.Profile.{profile_of}
use Rattle.aclck.specs.Line.{app_from, is_taken, rows_at, words_of}
use Rattle.aclck.specs.Answer.{Answer}
use Rattle.aclck.specs.Definition.{Definition}
use Rattle.aclck.specs.Run.{Shape}
use Rattle.aclck.specs.commands.RightTable.{table, table_held}
use Rattle.aclck.specs.commands.Bridge.{bridge}
use Rattle.aclck.specs.commands.CalcMask.{calc_mask}
use Rattle.aclck.specs.commands.CheckNfs.{check_nfs, check_nfs_held}
use Rattle.aclck.specs.commands.CheckPosix.{check_posix, check_posix_held}
use Rattle.aclck.specs.commands.Child.{child, child_held}
use Rattle.aclck.specs.commands.Chmod.{chmod, chmod_held}
use Rattle.aclck.specs.commands.Compare.{compare}
use Rattle.aclck.specs.commands.Create.{create, create_held}
use Rattle.aclck.specs.commands.Encode.{encode}
use Rattle.aclck.specs.commands.ListMode.{mode}
use Rattle.aclck.specs.commands.Normalize.{normalize, normalize_held}
use Rattle.aclck.specs.commands.ShowNfs.{show_nfs}
use Rattle.aclck.specs.commands.ShowPosix.{show_posix, show_posix_held}
use Rattle.aclck.specs.declared.task.Name.{Name}
use Rattle.aclck.specs.declared.task.Name.TheVariants as name
use Rattle.aclck.specs.declared.task.Task.{Task as HeldTask}
use Rattle.aclck.specs.declared.task.Task.TheVariants as held

-- ---- the tables, with one row per command

-- the commands
abbrev pub names : List Name
names = name.ShowPosix ∷ name.CheckPosix ∷ name.CalcMask ∷ name.Chmod ∷ name.Create ∷ name.ShowNfs ∷ name.Encode
    ∷ name.CheckNfs ∷ name.Child ∷ name.Mode ∷ name.Bridge ∷ name.Table ∷ name.Normalize ∷ name.Compare ∷ []

-- the definition of each
abbrev pub definition_of : Name → Definition
definition_of name.ShowPosix = show_posix
definition_of name.CheckPosix = check_posix
definition_of name.CalcMask = calc_mask
definition_of name.Chmod = chmod
definition_of name.Create = create
definition_of name.ShowNfs = show_nfs
definition_of name.Encode = encode
definition_of name.CheckNfs = check_nfs
definition_of name.Child = child
definition_of name.Mode = mode
definition_of name.Bridge = bridge
definition_of name.Table = table
definition_of name.Normalize = normalize
definition_of name.Compare = compare

-- a command at its values
pub data Task : Type 0 where
  task_at : (n : Name) → (definition_of n).Values → Task

-- the values that the rows of a parse and the words that are no option give (one row per command, because the check
-- replaces a name by its known value only if no type depends on it)
abbrev pub task_in : Name → List Row → List Text → Option Task
task_in name.ShowPosix rows words = option_map (task_at name.ShowPosix) (show_posix.read rows words)
task_in name.CheckPosix rows words = option_map (task_at name.CheckPosix) (check_posix.read rows words)
task_in name.CalcMask rows words = option_map (task_at name.CalcMask) (calc_mask.read rows words)
task_in name.Chmod rows words = option_map (task_at name.Chmod) (chmod.read rows words)
task_in name.Create rows words = option_map (task_at name.Create) (create.read rows words)
task_in name.ShowNfs rows words = option_map (task_at name.ShowNfs) (show_nfs.read rows words)
task_in name.Encode rows words = option_map (task_at name.Encode) (encode.read rows words)
task_in name.CheckNfs rows words = option_map (task_at name.CheckNfs) (check_nfs.read rows words)
task_in name.Child rows words = option_map (task_at name.Child) (child.read rows words)
task_in name.Mode rows words = option_map (task_at name.Mode) (mode.read rows words)
task_in name.Bridge rows words = option_map (task_at name.Bridge) (bridge.read rows words)
task_in name.Table rows words = option_map (task_at name.Table) (table.read rows words)
task_in name.Normalize rows words = option_map (task_at name.Normalize) (normalize.read rows words)
task_in name.Compare rows words = option_map (task_at name.Compare) (compare.read rows words)

-- the task that the program holds
abbrev pub task_held : HeldTask → Task
task_held (held.ShowPosix v) = task_at name.ShowPosix (show_posix_held v)
task_held (held.CheckPosix v) = task_at name.CheckPosix (check_posix_held v)
task_held (held.CalcMask names) = task_at name.CalcMask names
task_held (held.Chmod v) = task_at name.Chmod (chmod_held v)
task_held (held.Create v) = task_at name.Create (create_held v)
task_held (held.ShowNfs p) = task_at name.ShowNfs (profile_of p)
task_held (held.Encode p) = task_at name.Encode (profile_of p)
task_held (held.CheckNfs v) = task_at name.CheckNfs (check_nfs_held v)
task_held (held.Child v) = task_at name.Child (child_held v)
task_held (held.Mode p) = task_at name.Mode (profile_of p)
task_held (held.Bridge names) = task_at name.Bridge names
task_held (held.Table v) = task_at name.Table (table_held v)
task_held (held.Normalize v) = task_at name.Normalize (normalize_held v)
task_held (held.Compare p) = task_at name.Compare (profile_of p)

-- ---- what they say of a task

-- the word that names a command
abbrev pub command_word : Name → Text
command_word n = (definition_of n).word

-- the answers of a task to an input
unfoldable pub Answers : Task → List ℕ → Answer → Type 0
Answers (task_at n v) = (definition_of n).Answers v

-- the kind of input that a task reads
abbrev pub shape_of : Task → Shape
shape_of (task_at n v) = (definition_of n).shape v

-- ---- words

-- the command that a first word names
abbrev pub command_named : Text → Option Name
command_named word = find (λ n. bytes_eq (command_word n) word) names

-- the definition of a command's words
abbrev pub app_named : Name → App
app_named n = app_from (command_word n) (definition_of n).terms

-- what the words of this command ask for, or nothing if it does not take them, or a value is bad
unfoldable pub task_named : Name → List Text → Option Task
task_named n words = if is_taken (app_named n) words
    then task_in n (rows_at (app_named n) words) (words_of (rows_at (app_named n) words)) else None

-- what the words ask for, or nothing if the first word names no command
abbrev pub task_of : List Text → Option Task
task_of [] = None
task_of (word ∷ words) = option_and_then (λ n. task_named n (word ∷ words)) (command_named word)

-- the first word names a command
abbrev pub is_command : List Text → Bool
is_command [] = false
is_command (word ∷ words) = is_some (command_named word)
