-- Bytes of five normal forms.
use Rattle.std.proofs.Common.{◌≤◌, ℕ, List, refl, subst}
use Rattle.acl_perm.specs.Bits.{all_rights}
use Rattle.acl_perm.specs.Profile.{Profile, profile_of}
use Rattle.acl_perm.specs.declared.profile.Profile.{Profile as CodeProfile}
use Rattle.acl_perm.proofs.Sets.{bits_from_mask}
use Rattle.acl_nfs4.specs.Ace.{Ace}
use Rattle.acl_nfs4.specs.Spelling.{IsAccepted, Xdr, spelling}
use Rattle.acl_nfs4.specs.Within.{IsProfile}
use Rattle.acl_nfs4.proofs.Exports.{code_profile}
use Rattle.acl_eval.specs.Grant.{SameGrants}
use Rattle.acl_normal.specs.FiveForms.{AreFormsOf, five_spellings}
use Rattle.acl_normal.specs.NormalForm.{IsNormalFormOf, Normalizes}
use Rattle.acl_normal.specs.Paths.{SameAtEveryPath}
use Rattle.acl_normal.specs.declared.five_forms.FiveForms.{FiveForms}
use Rattle.acl_normal.proofs.unique.FiveFormLemmas.{all_accepted, joined_tell}
use Rattle.aclck.specs.Answer.{done}
use Rattle.aclck.specs.Headline.{GrantAtPaths}
use Rattle.aclck.specs.Laws.{IsFiveForms, TellsListsApart}
use Rattle.acl_normal.specs.Programs.{NormalizesAtPaths}
use Rattle.aclck.specs.commands.Normalize.{NormalizeInheritAnswer}
use Rattle.aclck.specs.declared.answer.Outcome.TheVariants as outcome
use Rattle.aclck.proofs.NormalFormLemmas.{one_of, own_bytes, same_or_not}

-- the list that was read is the one whose five were written
of_read : (p : Profile) (list : List Ace) (x a : List ℕ) → IsProfile p → Xdr p list x → (h : NormalizesAtPaths p x a)
    → AreFormsOf list h.forms
of_read p list x a is read h =
    subst (λ source. AreFormsOf source h.forms) (one_of p h.source list x is h.read read) h.are_forms

-- two lists get equal bytes if and only if they grant the same at every path
pub paths_tell : TellsListsApart NormalizesAtPaths SameAtEveryPath
paths_tell p list other x y a b is read read_other h k =
    same_or_not a b (five_spellings h.forms) (five_spellings k.forms) h.spelled k.spelled
    (joined_tell p list other h.forms k.forms is read.accepted (of_read p list x a is read h)
    read_other.accepted (of_read p other y b is read_other k))

-- lists that grant the same grant the same rights of a profile
part_of_rights : (p : Profile) (list other : List Ace) → IsProfile p → SameGrants all_rights list other
    → SameGrants p.masks list other
part_of_rights p list other is same s valid request within =
    same s valid request (λ k h. bits_from_mask p.masks k is.masks (within k h))

-- each of the five grants what the list at its path grants
pub grants_at_paths : (p : Profile) (list : List Ace) (x a : List ℕ) → IsProfile p → Xdr p list x
    → (h : NormalizesAtPaths p x a) → GrantAtPaths p.masks list h.forms
grants_at_paths p list x a is read h =
    let five = of_read p list x a is read h in record {
      object = part_of_rights p _ _ is five.object.grants;
      file = part_of_rights p _ _ is five.file.grants;
      directory = part_of_rights p _ _ is five.directory.grants;
      file_in_directory = part_of_rights p _ _ is five.file_in_directory.grants;
      directory_in_directory = part_of_rights p _ _ is five.directory_in_directory.grants;
    }

-- an accepted normal form is its own normal form
form_own : (p : Profile) (source form : List Ace) → IsNormalFormOf source form → IsAccepted p form
    → Normalizes p (spelling form) (spelling form)
form_own p source form h = own_bytes p form h.normal h.accepted

-- each of the five forms is its own normal form
pub forms_own : (p : Profile) (x a : List ℕ) → IsProfile p → NormalizesAtPaths p x a → IsFiveForms p a
forms_own p x a is h =
    let five = h.are_forms in
    let taken = h.accepted in record {
      forms = h.forms;
      parts = h.spelled;
      own = (
        form_own p _ _ five.object taken.object,
        (
          form_own p _ _ five.file taken.file,
          (
            form_own p _ _ five.directory taken.directory,
            (
              form_own p _ _ five.file_in_directory taken.file_in_directory,
              (form_own p _ _ five.directory_in_directory taken.directory_in_directory, tt),
            ),
          ),
        ),
      );
    }

-- the spellings of the five forms of a list that was read are the answer
pub written_forms : (profile : CodeProfile) → profile.flags.bits ≤ 255 → (source : List Ace) (forms : FiveForms)
    (x : List ℕ) → Xdr (profile_of profile) source x → AreFormsOf source forms
    → NormalizeInheritAnswer (profile_of profile) x (done outcome.Yes (five_spellings forms))
written_forms profile le source forms x read are_forms = (
  refl,
  record {
    source = source;
    forms = forms;
    read = read;
    are_forms = are_forms;
    accepted = all_accepted (profile_of profile) source forms (code_profile profile le) read.accepted are_forms;
    spelled = refl;
  },
)
