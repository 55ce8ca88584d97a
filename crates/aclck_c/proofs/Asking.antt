-- The questions of a list: their names as XDR, and why they are not written.
use Rattle.std.proofs.Common.{ℕ, List, append_assoc, arith, inl, inr, length, refl, replicate, take, ◌++◌, ◌∙◌, ◌≡◌, ◌≤◌}
use Rattle.std.proofs.lemmas.List.{take-replicate}
use Rattle.acl_perm.specs.Profile.{Profile}
use Rattle.acl_nfs4.specs.Ace.{Ace}
use Rattle.acl_nfs4.specs.Spelling.{Xdr, pad_len, word}
use Rattle.acl_contain.specs.Questions.{IsQuestionsFault}
use Rattle.acl_contain.specs.declared.asking.QuestionsFault.{QuestionsFault}
use Rattle.acl_contain.specs.declared.asking.QuestionsFault.TheVariants.{Memory, TooMany}
use Rattle.aclck_c.specs.Questions.{name_bytes}
use Rattle.aclck_c.specs.declared.failure.Failure.{Failure}
use Rattle.aclck_c.specs.declared.failure.Failure.TheVariants as failure
use Rattle.aclck_c.specs.internal.Failures.{AreQuestionsFailure, IsListFailure, of_questions}

-- there are too many, or memory ran out
pub questions_failure : (p : Profile) (most : ℕ) (bytes : List ℕ) (list : List Ace) (f : QuestionsFault)
    → Xdr p list bytes → IsQuestionsFault most list f → AreQuestionsFailure p most bytes (of_questions f)
questions_failure p most bytes list TooMany read more =
    inr (record { list = list; read = read; more = more }, refl)
questions_failure p most bytes list Memory read more = (list, read)

-- the bytes are refused, or memory ran out
pub list_failure : (p : Profile) (most : ℕ) (bytes : List ℕ) (f : Failure) → IsListFailure p bytes 0 f
    → AreQuestionsFailure p most bytes f
list_failure p most bytes failure.BadArgument h = h
list_failure p most bytes (failure.Refused shown) h = inl h
list_failure p most bytes failure.Memory h = h

-- some bytes with the word of the length of a name, the name, and as many of three zero bytes as pad it are the bytes
-- with the name as XDR
pub name_added : (old name b c d : List ℕ) (pad : ℕ) → b ≡ old ++ word (length name) → c ≡ b ++ name
    → d ≡ c ++ take pad (replicate 3 0) → pad ≡ pad_len (length name) → d ≡ old ++ name_bytes name
name_added old name b c d pad be ce de is =
    let few : pad_len (length name) ≤ 3 = omega arith in
    rw (de, ce, be, is, take-replicate {X = ℕ} (pad_len (length name)) 3 0 few)
    (append_assoc (old ++ word (length name)) name _ ∙ append_assoc old (word (length name)) _)
