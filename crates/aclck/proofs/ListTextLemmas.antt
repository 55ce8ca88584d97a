-- From a list's bytes to its text and back.
use Rattle.std.proofs.Common.{◌≡◌, ℕ, List, [], refl, sym, ap, ◌∙◌, subst}
use Rattle.std.specs.Prelude.{◌↔◌}
use Rattle.acl_perm.specs.Profile.{Profile}
use Rattle.acl_nfs4.specs.Ace.{Ace}
use Rattle.acl_nfs4.specs.AceText.{IsAceText, ace_text}
use Rattle.acl_nfs4.specs.Spelling.{Xdr, spelling}
use Rattle.acl_nfs4.specs.Within.{IsProfile}
use Rattle.acl_nfs4.proofs.Exports.{one, one_list, text_again}
use Rattle.aclck.specs.Answer.{done}
use Rattle.aclck.specs.commands.Encode.{EncodeAnswer}
use Rattle.aclck.specs.commands.ShowNfs.{ShowNfsAnswer}
use Rattle.aclck.specs.declared.answer.Outcome.TheVariants as outcome

-- the text of bytes is encoded to these bytes and no others
pub encode_shown : (p : Profile) (input text bytes : List ℕ) → IsProfile p
    → ShowNfsAnswer p input (done outcome.Yes text) → EncodeAnswer p text (done outcome.Yes bytes) ↔ (bytes ≡ input)
encode_shown p input text bytes is h =
    let list : List Ace = h.1.list in
    let spelled : IsAceText p list text =
    subst (IsAceText p list) (sym h.1.is) (text_again p list is h.1.spelled.accepted) in (
      λ made. made.1.is ∙ ap spelling (one_list p text made.1.list list made.1.read spelled)
          ∙ sym h.1.spelled.spelled,
      λ same. (refl, record { list = list; read = spelled; is = same ∙ h.1.spelled.spelled }),
    )

-- the bytes of a list are shown as the text of the list
pub shown_encoded : (p : Profile) (input bytes text : List ℕ) (list : List Ace) → IsProfile p → IsAceText p list input
    → EncodeAnswer p input (done outcome.Yes bytes)
    → ShowNfsAnswer p bytes (done outcome.Yes text) ↔ (text ≡ ace_text list)
shown_encoded p input bytes text list is spelled h =
    let same : h.1.list ≡ list = one_list p input h.1.list list h.1.read spelled in
    let spelling_is : Xdr p list bytes =
    record { accepted = spelled.accepted; spelled = h.1.is ∙ ap spelling same } in (
      λ shown. shown.1.is
          ∙ ap ace_text (one p shown.1.list list bytes bytes [] [] is shown.1.spelled spelling_is refl).0,
      λ e. (refl, record { list = list; spelled = spelling_is; is = e }),
    )
