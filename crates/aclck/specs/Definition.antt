-- What a command is: its words, what it makes of an input, and what kind of input that is (this library's own).
use Rattle.std.specs.Prelude.{List, ℕ, Option, Result}
use Rattle.clap.specs.Words.{Row, Text}
use Rattle.acl_perm.specs.Profile.{Profile}
use Rattle.acl_posix.specs.Names.{Table}
use Rattle.aclck.specs.Answer.{Answer}
use Rattle.aclck.specs.Line.{Term}
use Rattle.aclck.specs.NameWords.{names_in, names_terms}
use Rattle.aclck.specs.ProfileArgument.{profile_in, profile_terms}
use Rattle.aclck.specs.Run.{Runs, Shape, of_list, of_text}
use Rattle.aclck.specs.declared.answer.Outcome.{Outcome}
use Rattle.aclck.specs.declared.answer.RunFault.{RunFault}

-- a command
pub record Definition : Type 1 where
  -- the word that names the command
  pub word : Text
  -- its arguments
  pub terms : List Term
  -- the type of the values of its words
  pub Values : Type 0
  -- the values that the rows of a parse and the words that are no option give
  pub read : List Row → List Text → Option Values
  -- what it makes of an input at these values
  pub Answers : Values → List ℕ → Answer → Type 0
  -- the kind of its input
  pub shape : Values → Shape

-- the effect of a run of the command at these values on a source and a sink, as in `Runs`
abbrev pub RunsCommand : {S K : Type 0} (command : Definition) → command.Values
    → (S → Option (List ℕ)) → (S → ℕ) → S → S → (K → Option (List ℕ)) → (K → ℕ) → K → K
    → Result Outcome RunFault → Type 0
RunsCommand command values = Runs (command.Answers values) (command.shape values)

-- a command that reads a text
abbrev pub on_text : {V : Type 0} → Text → List Term → (List Row → Option V) → (V → List ℕ → Answer → Type 0)
    → Definition
on_text {V} word terms read answers = record {
  word = word;
  terms = terms;
  Values = V;
  read = λ rows words. read rows;
  Answers = answers;
  shape = λ v. of_text;
}

-- a command that reads a list of the profile among its values
abbrev pub on_list : {V : Type 0} → Text → List Term → (List Row → Option V) → (V → List ℕ → Answer → Type 0)
    → (V → Profile) → Definition
on_list {V} word terms read answers profile = record {
  word = word;
  terms = terms;
  Values = V;
  read = λ rows words. read rows;
  Answers = answers;
  shape = λ v. of_list (profile v);
}

-- a command that takes a profile and no other word
abbrev pub of_profile : Text → (Profile → List ℕ → Answer → Type 0) → (Profile → Shape) → Definition
of_profile word answers shape = record {
  word = word;
  terms = profile_terms;
  Values = Profile;
  read = λ rows words. profile_in rows;
  Answers = answers;
  shape = shape;
}

-- a command that reads a text, and takes the names of the text and no other word
abbrev pub of_names : Text → (Table → List ℕ → Answer → Type 0) → Definition
of_names word answers = on_text word names_terms names_in answers
