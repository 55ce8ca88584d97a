-- The rights for which a call from C gives the table of a list (this library's own, over RFC 8881, section 6.2.1).
use Rattle.std.specs.Prelude.{◌==◌, ◌&&◌, ℕ, Bool, IsTrue, bit_and}
use Rattle.std.specs.Option.{is_some}
use Rattle.acl_perm.specs.Bits.{IsMask}
use Rattle.acl_perm.specs.Profile.{Profile}
use Rattle.acl_nfs4.specs.BitNames.{first_name}
use Rattle.acl_nfs4.specs.Rights.{rights}
use Rattle.aclck_c.specs.Options.{IsProfileOption, profile_from}
use Rattle.aclck_c.specs.declared.nfs4.request.RawQuestion.{RawQuestion}

-- the table of names has the right (RFC 8881, section 6.2.1.3.1), and so has the profile
abbrev pub is_right_of : Profile → ℕ → Bool
is_right_of p right = is_some (first_name rights right) && (bit_and p.masks right == right)

-- the number is exactly one right, which the profile has
pub record IsRightOf (p : Profile) (right : ℕ) : Type 0 where
  pub is_mask : IsMask right
  pub is_right : IsTrue (is_right_of p right)

-- the options are those of a profile, which has the right
pub record IsGoodTable (question : RawQuestion) : Type 0 where
  pub is_profile : IsProfileOption question.options
  pub right_of : IsRightOf (profile_from question.options) question.mask
