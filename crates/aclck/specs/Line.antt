-- A command's own command line, by `clap`'s functions for simple commands (this library's own).
use Rattle.std.specs.Prelude.{◌≡◌, ◌∷◌, [], List, Option, Some, None, Bool, Result, Ok, Err, codes, false, map, option_map, true, unwrap_or}
use Rattle.std.specs.Option.{option_map_or}
use Rattle.std.specs.Borrow.{Bor}
use Rattle.std.specs.Str.{bytes_eq}
use Rattle.clap.specs.Words.{App, Kinds, Row, Rule, Text, all_of, fault_of, first_of, found_of, matches_of, new_app, new_rule, rows_of}
use Rattle.clap.specs.Lexer.{usize_max}
use Rattle.clap.specs.Simple.{on_top}
use Rattle.clap.specs.declared.builder.ArgAction.TheVariants.{Append, SetTrue}
use Rattle.clap.specs.declared.parser.matches.ArgMatches.{ArgMatches}
use Rattle.aclck.specs.declared.line.LineFault.{LineFault}
use Rattle.aclck.specs.declared.line.LineFault.TheVariants as line

-- ---- texts

-- the texts behind slices
abbrev pub texts : List (Bor Text) → List Text
texts slices = map (λ slice. slice.now) slices

-- the text behind a slice, if there is one
abbrev pub text_if_any : Option (Bor Text) → Option Text
text_if_any slice = option_map (λ s. s.now) slice

-- ---- arguments

-- an argument of a command
pub data Term : Type 0 where
  required : Text → Term
  optional : Text → Term
  default : Text → Text → Term
  flag : Text → Term
  any_words : Term

-- the id of the argument that takes the words that are no option
abbrev pub words_id : Text
words_id = codes "words"

-- `clap`'s rule for an argument: `--NAME VALUE` that is required, that may be absent, or that is VALUE if it is absent;
-- `--NAME`; any number of words
abbrev pub rule_from : Term → Rule
rule_from (required name) = record (new_rule name) { long = Some name; required = true }
rule_from (optional name) = record (new_rule name) { long = Some name }
rule_from (default name value) = record (new_rule name) { long = Some name; defaults = value ∷ [] }
rule_from (flag name) = record (new_rule name) { long = Some name; action = Some SetTrue }
rule_from any_words = record (new_rule words_id) {
  action = Some Append;
  range = Some (record { start_inclusive = 1; end_inclusive = usize_max });
}

-- the id of an argument among the values of a parse
abbrev pub term_id : Term → Text
term_id t = (rule_from t).id

-- ---- commands

-- a command with no arguments that adds no `--help`
abbrev pub plain_app : Text → App
plain_app name = on_top (λ s. record s { disable_help_flag = true }) (new_app name)

-- the command of this name with these arguments
unfoldable pub app_from : Text → List Term → App
app_from name terms = on_top (λ s. record s { rules = map rule_from terms }) (plain_app name)

-- no kind of fault at all
abbrev pub is_none_of : Kinds → Bool
is_none_of [] = true
is_none_of (k ∷ ks) = false

-- the command takes the words: no step of the parse fails
unfoldable pub is_taken : App → List Text → Bool
is_taken app words = is_none_of (fault_of app words)

-- the values of the command's arguments at these words, if it takes the words
unfoldable pub rows_at : App → List Text → List Row
rows_at app words = matches_of app words

-- ---- values

-- the rows of a parse
abbrev pub rows_in : ArgMatches → List Row
rows_in matches = rows_of (found_of matches)

-- the result of a call that reads values: the expected values, or usage if there are none
abbrev pub ReadsValues : {X V : Type 0} → (X → V) → Option V → Result X LineFault → Type 0
ReadsValues held expected (Ok x) = expected ≡ Some (held x)
ReadsValues held expected (Err line.Usage) = expected ≡ None
ReadsValues held expected (Err line.Memory) = Unit {0}

-- the words that are no option
abbrev pub words_of : List Row → List Text
words_of rows = unwrap_or (all_of words_id rows) []

-- the first value of an option
abbrev pub value_of : Term → List Row → Option Text
value_of option rows = first_of (term_id option) rows

-- the flag was given
abbrev pub is_given : Term → List Row → Bool
is_given option rows = option_map_or (λ text. bytes_eq text (codes "true")) (value_of option rows) false
