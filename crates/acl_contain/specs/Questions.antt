-- The questions that examine a list completely (this library's own; what a list grants is RFC 8881, section 6.2.1): its
-- small situations, in each of which none, one or two of the principals that it mentions match, and everyone.
use Rattle.std.specs.Prelude.{◌≡◌, ℕ, ◌*◌, ◌+◌, ◌<◌, ◌≤◌, IsTrue, List, [], length, map}
use Rattle.std.specs.List.{AllByRecursion, AllZip}
use Rattle.acl_eval.specs.Grant.{SameGrants, grants_bit}
use Rattle.acl_nfs4.specs.Ace.{Ace}
use Rattle.acl_normal.specs.SmallSets.{mentioned_in, small_sets, small_situations}
use Rattle.acl_normal.specs.SmallSituations.{is_among}
use Rattle.acl_perm.specs.Bits.{has_bit}
use Rattle.acl_perm.specs.Principal.{Principal}
use Rattle.acl_perm.specs.Situation.{Situation, matches}
use Rattle.acl_contain.specs.declared.asking.Question.{Question}
use Rattle.acl_contain.specs.declared.asking.QuestionsFault.{QuestionsFault}
use Rattle.acl_contain.specs.declared.asking.QuestionsFault.TheVariants.{Memory, TooMany}

-- the situation of a question
abbrev pub asked_in : Question → Situation
asked_in q = record {
  owner_name = q.owner.items;
  owning_group = q.group.items;
  user_name = q.user.items;
  groups = map (λ g. g.items) q.groups.items;
}

-- the situations of the questions of a list: the small situations of the list and an empty one, in their order
abbrev pub questions_of : List Ace → List Situation
questions_of list = small_situations list []

-- the list may have so many questions
abbrev pub HasAtMost : ℕ → List Ace → Type 0
HasAtMost most list = length (questions_of list) ≤ most

-- TooMany only if there are more questions; memory may run out for each list
abbrev pub IsQuestionsFault : ℕ → List Ace → QuestionsFault → Type 0
IsQuestionsFault most list TooMany = most < length (questions_of list)
IsQuestionsFault most list Memory = Unit {0}

-- the second list mentions no principal that the first does not mention
abbrev pub MentionsNoOther : List Ace → List Ace → Type 0
MentionsNoOther list other = AllByRecursion (λ p. IsTrue (is_among p (mentioned_in list))) (mentioned_in other)

-- both lists grant each of the rights, or neither does
abbrev pub AreAnsweredAlike : ℕ → List Ace → List Ace → Situation → Type 0
AreAnsweredAlike rights list other s =
    (bit : ℕ) → IsTrue (has_bit rights bit) → grants_bit list s bit ≡ grants_bit other s bit

-- a list that mentions no other principals, and answers each question as the first list does, grants the same
abbrev pub QuestionsSuffice : Type 0
QuestionsSuffice = (rights : ℕ) (list other : List Ace) → MentionsNoOther list other
    → AllByRecursion (AreAnsweredAlike rights list other) (questions_of list) → SameGrants rights list other

-- in the situation, of the principals that the list mentions, those of a set match, and no other
abbrev pub MatchesOnly : List Ace → Situation → List Principal → Type 0
MatchesOnly list s set = AllByRecursion (λ p. matches s p ≡ is_among p set) (mentioned_in list)

-- each set of none, one or two of the mentioned principals that one requester can match has a question in which it
-- matches, and no other mentioned principal; there are no other questions
abbrev pub AskEachSet : Type 0
AskEachSet = (list : List Ace) → AllZip (MatchesOnly list) (questions_of list) (small_sets (mentioned_in list))

-- for n mentioned principals there are at most 1 + n(n+1)/2 questions
abbrev pub AskFew : Type 0
AskFew = (list : List Ace) → 2 * length (questions_of list)
    ≤ 2 + length (mentioned_in list) * (length (mentioned_in list) + 1)
