-- From what `clap` ensures about a parse to the words of `specs/Line.antt`.
use Rattle.std.proofs.Common.{◌≡◌, ◌∙◌, true, false, List, [], ◌∷◌, ◌++◌, ◌+◌, ◌<◌, ℕ, ap, get_or, length, map, take, sym, refl, inl, inr}
use Rattle.std.proofs.lemmas.List.{map-append, take_more}
use Rattle.clap.specs.Words.{App, HasKind, HasMatchesOf, Kinds, Text, fault_of, found_of, is_simple, is_simple_and_free, kind_of, rows_of, with_rule}
use Rattle.clap.specs.Simple.{built}
use Rattle.clap.specs.Faults.{is_free_app}
use Rattle.clap.specs.declared.error.Error.{Error}
use Rattle.clap.specs.declared.error.kind.ErrorKind.TheVariants.{OutOfMemory}
use Rattle.clap.specs.declared.parser.matches.ArgMatches.{ArgMatches}
use Rattle.acl_perm.proofs.Bools.{and_true}
use Rattle.aclck.specs.Line.{Term, app_from, is_none_of, is_taken, plain_app, rows_at, rule_from}
use Rattle.aclck.specs.internal.Held.{term}
use Rattle.aclck.specs.declared.line.Argument.{Argument}

-- the rows of a parse are those of the definition
pub rows_from : (app : App) (words : List Text) (m : ArgMatches) → is_simple_and_free app ≡ true
    → HasMatchesOf app words m → rows_of (found_of m) ≡ rows_at app words
unfolding rows_at
rows_from app words m free has = (has (and_true (is_simple app) (is_free_app (built app)) free).0).0

-- words that are parsed are taken
pub taken_from : (app : App) (words : List Text) → is_simple_and_free app ≡ true
    → (is_simple_and_free app ≡ true → fault_of app words ≡ []) → is_taken app words ≡ true
unfolding is_taken
taken_from app words free kinds = ap is_none_of (kinds free)

-- an error that does not say that memory ran out has a kind that the words give
some_kind : (kinds : Kinds) (e : Error) → HasKind kinds e → (kind_of e ≡ OutOfMemory → ⊥) → is_none_of kinds ≡ false
some_kind [] e (inl memory) other = absurd (other memory)
some_kind [] e (inr among) other = absurd among
some_kind (k ∷ ks) e has other = refl

-- words that are refused although memory did not run out are not taken
pub refused_from : (app : App) (words : List Text) (e : Error) → is_simple_and_free app ≡ true
    → (is_simple_and_free app ≡ true → HasKind (fault_of app words) e)
    → (kind_of e ≡ OutOfMemory → ⊥) → is_taken app words ≡ false
unfolding is_taken
refused_from app words e free kinds other = some_kind (fault_of app words) e (kinds free) other

-- a command of a name alone has the empty table
pub no_terms : (name : Text) → plain_app name ≡ app_from name []
unfolding app_from
no_terms name = refl

-- the command of a table with one more rule is that of the table with one more argument
one_more_term : (name : Text) (terms : List Term) (t : Term)
    → with_rule (app_from name terms) (rule_from t) ≡ app_from name (terms ++ t ∷ [])
unfolding app_from
one_more_term name terms t = rw (map-append rule_from terms (t ∷ [])) refl

-- a command is built one argument after the other: the first i of a table and the next one are the first i + 1
pub one_more_argument : {app next : App} (name : Text) (table : List Argument) (i : ℕ) (d : Argument)
    → app ≡ app_from name (map term (take i table)) → next ≡ with_rule app (rule_from (term (get_or table i d)))
    → i < length table → next ≡ app_from name (map term (take (i + 1) table))
one_more_argument name table i d was is inside =
    is ∙ ap (λ (a : App). with_rule a (rule_from (term (get_or table i d)))) was
    ∙ one_more_term name (map term (take i table)) (term (get_or table i d))
    ∙ ap (app_from name)
    (sym (ap (map term) (take_more table i d inside) ∙ map-append term (take i table) (get_or table i d ∷ [])))
