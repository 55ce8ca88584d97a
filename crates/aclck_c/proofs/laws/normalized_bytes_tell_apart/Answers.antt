use Rattle.std.proofs.Common.{◌∙◌, sym}
use Rattle.acl_normal.specs.NormalForm.{Normalizes}
use Rattle.acl_normal.proofs.unique.Spelled.{form_is, forms_tell}
use Rattle.aclck_c.specs.Options.{profile_from}
use Rattle.aclck_c.proofs.Normalized.{front_is_text, is_profile}
use Rattle.aclck_c.proofs.laws.normalized_bytes_tell_apart.Goals as goal

pub returns : goal.returns
returns c options needed other_needed list other input other_input buffer filled other_buffer other_filled read
    read_other h k =
    let p = profile_from options in
    let is = is_profile options in
    let tell = forms_tell p list other h.means.form k.means.form is (form_is p list input h.text is read h.means)
    (form_is p other other_input k.text is read_other k.means) in
    let mine = front_is_text (Normalizes p input) buffer filled needed h
    ∙ h.means.spelled.spelled in
    let theirs = front_is_text (Normalizes p other_input) other_buffer other_filled other_needed k
    ∙ k.means.spelled.spelled in
    (λ equal. tell.0 (sym mine ∙ equal ∙ theirs), λ same. mine ∙ tell.1 same ∙ sym theirs)
