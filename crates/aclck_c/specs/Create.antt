-- What a call from C creates (this library's own, over acl(5), "OBJECT CREATION AND DEFAULT ACLs").
use Rattle.acl_nfs4.specs.Within.{IsWithin}
use Rattle.aclck_c.specs.Options.{IsMode, directory_option}
use Rattle.aclck_c.specs.declared.posix.creation.RawCreation.{RawCreation}

-- two modes, and options that mean a file or a directory
pub record IsCreation (c : RawCreation) : Type 0 where
  pub is_mode : IsMode c.mode
  pub is_umask : IsMode c.umask
  pub is_kind : IsWithin directory_option c.options
