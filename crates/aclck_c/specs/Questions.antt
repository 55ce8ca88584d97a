-- What a call from C makes of a list: its questions (this library's own, over the first match of RFC 8881, section
-- 6.2.1) as XDR (RFC 4506, sections 4.2, 4.10 and 4.13).
use Rattle.std.specs.Prelude.{◌≡◌, ◌<◌, ◌⊎◌, ◌++◌, ℕ, List, length, replicate}
use Rattle.std.specs.List.{flat_map}
use Rattle.acl_perm.specs.Profile.{Profile}
use Rattle.acl_perm.specs.Situation.{Situation}
use Rattle.acl_nfs4.specs.Ace.{Ace}
use Rattle.acl_nfs4.specs.Spelling.{Xdr, pad_len, word}
use Rattle.acl_contain.specs.Questions.{HasAtMost, questions_of}
use Rattle.aclck_c.specs.Lists.{IsRefusedList}
use Rattle.aclck_c.specs.Refusal.{too_many}
use Rattle.aclck_c.specs.declared.refusal.Refusal.{Refusal}

-- a name: the word of its length, its bytes, and zero bytes up to a multiple of four
abbrev pub name_bytes : List ℕ → List ℕ
name_bytes name = word (length name) ++ name ++ replicate (pad_len (length name)) 0

-- a question: the owner, the owning group and the user, the word of the number of groups, and the groups in order
abbrev pub question_bytes : Situation → List ℕ
question_bytes s = name_bytes s.owner_name ++ name_bytes s.owning_group ++ name_bytes s.user_name
    ++ word (length s.groups) ++ flat_map name_bytes s.groups

-- the word of their number, and the questions in order
abbrev pub questions_bytes : List Situation → List ℕ
questions_bytes asked = word (length asked) ++ flat_map question_bytes asked

-- the bytes spell a list of at most so many questions, and the result is all of its questions
pub record MakesQuestions (p : Profile) (most : ℕ) (bytes result : List ℕ) : Type 0 where
  pub list : List Ace
  pub read : Xdr p list bytes
  pub few : HasAtMost most list
  pub spelled : result ≡ questions_bytes (questions_of list)

-- the bytes spell a list of more questions
pub record HasMoreQuestions (p : Profile) (most : ℕ) (bytes : List ℕ) : Type 0 where
  pub list : List Ace
  pub read : Xdr p list bytes
  pub more : most < length (questions_of list)

-- the bytes have this fault, or the list has more questions
abbrev pub AreRefusedQuestions : Profile → ℕ → List ℕ → Refusal → Type 0
AreRefusedQuestions p most bytes shown =
    IsRefusedList p bytes 0 shown ⊎ (HasMoreQuestions p most bytes × (shown ≡ too_many))
