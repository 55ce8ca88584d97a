use Rattle.std.specs.Prelude.{◌≡◌, ◌++◌, length, map, take}
use Rattle.std.specs.List.{flat_map}
use Rattle.acl_contain.specs.Questions.{asked_in}
use Rattle.acl_nfs4.specs.Spelling.{word}
use Rattle.aclck_c.specs.Questions.{question_bytes}
use Rattle.aclck_c.proofs.nfs4.questions.spelled.Given as goal

-- the number of the questions, and the questions so far
abbrev pub invariant-loop-question : goal.invariant-loop-question
invariant-loop-question l = l.bytes.items
    ≡ word (length l.asked) ++ flat_map question_bytes (map asked_in (take l.question-index l.asked))
