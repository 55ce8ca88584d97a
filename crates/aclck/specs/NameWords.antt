-- The table of names that words spell: `u:NAME=ID` and `g:NAME=ID` (this library's own).
use Rattle.std.specs.Prelude.{ℕ, ◌==◌, Option, Some, None, List, [], ◌∷◌, codes, length, nat_lt, if◌then◌else◌}
use Rattle.std.specs.List.{after_first, before_first, position_or_len}
use Rattle.std.specs.Option.{option_and_then, option_map}
use Rattle.std.specs.Str.{bytes_eq}
use Rattle.clap.specs.Words.{Row, Text}
use Rattle.acl_posix.specs.Grammar.{colon}
use Rattle.acl_posix.specs.Names.{Table, empty_table, group_added, user_added}
use Rattle.aclck.specs.Line.{Term, any_words, words_of}
use Rattle.aclck.specs.Values.{id_value}

-- ---- cuts of a word

-- a text that is cut at a byte: the bytes before it, and the bytes after it
pub record Cut : Type 0 where
  pub before : Text
  pub behind : Text

-- the text, cut at the first of these bytes
abbrev pub first_cut : ℕ → Text → Option Cut
first_cut byte text = if nat_lt (position_or_len (λ b. b == byte) text) (length text)
    then Some (record {
      before = before_first (λ b. b == byte) text;
      behind = after_first (λ b. b == byte) text;
    }) else None

-- a byte, and the cut of the bytes after it
abbrev pub cut_behind : ℕ → ℕ → Text → Option Cut → Option Cut
cut_behind byte b rest None = if b == byte then Some (record { before = []; behind = rest }) else None
cut_behind byte b rest (Some cut) = Some (record { before = b ∷ cut.before; behind = cut.behind })

-- the text, cut at the last of these bytes
abbrev pub last_cut : ℕ → Text → Option Cut
last_cut byte [] = None
last_cut byte (b ∷ rest) = cut_behind byte b rest (last_cut byte rest)

-- ---- the table of names

-- the two halves of a table
pub data Half : Type 0 where
  users : Half
  groups : Half

-- the half that a letter names
abbrev pub half_named : Text → Option Half
half_named text = if bytes_eq text (codes "u") then Some users
    else (if bytes_eq text (codes "g") then Some groups else None)

-- a name with its id, for one half of the table
pub record NamedId : Type 0 where
  pub half : Half
  pub name : Text
  pub id : ℕ

-- the sign before an id
abbrev pub equals_sign : ℕ
equals_sign = 61

-- a word, cut at its last equals sign, and the part before that sign, cut at its first colon
unfoldable pub named_id : Text → Option NamedId
named_id word = option_and_then (λ whole. option_and_then (λ front. option_and_then (λ half.
    option_map (λ id. record { half = half; name = front.behind; id = id })
    (id_value whole.behind)) (half_named front.before)) (first_cut colon whole.before)) (last_cut equals_sign word)

-- the table with one more name in one half, if the name may be added
abbrev pub with_half : Half → Table → Text → ℕ → Option Table
with_half users table name id = user_added table name id
with_half groups table name id = group_added table name id

-- the table with one more name, if the name may be added
abbrev pub with_name : Table → NamedId → Option Table
with_name table named = with_half named.half table named.name named.id

-- the table with the names of some words, one after the other
abbrev pub with_words : Table → List Text → Option Table
with_words table [] = Some table
with_words table (word ∷ words) =
    option_and_then (λ more. with_words more words) (option_and_then (with_name table) (named_id word))

-- the table of some words
unfoldable pub names_value : List Text → Option Table
names_value words = with_words empty_table words

-- ---- the words of a line

-- `[NAMES..]`
abbrev pub names_terms : List Term
names_terms = any_words ∷ []

-- the table of the words that are no option in the rows of a parse
abbrev pub names_in : List Row → Option Table
names_in rows = names_value (words_of rows)
