-- The value of `--profile`, and the arguments of the commands that take it and no other word (this library's own).
use Rattle.std.specs.Prelude.{◌∷◌, [], List, Option, Some, None, codes, if◌then◌else◌}
use Rattle.std.specs.Option.{option_and_then}
use Rattle.std.specs.Str.{bytes_eq}
use Rattle.clap.specs.Words.{Row, Text}
use Rattle.acl_perm.specs.Profile.{Profile, full, narrow}
use Rattle.aclck.specs.Line.{Term, value_of}
use Rattle.aclck.specs.Options.{profile_term}

-- `[--profile full|narrow]`, and no other argument
abbrev pub profile_terms : List Term
profile_terms = profile_term ∷ []

-- the profile that a value of `--profile` names
unfoldable pub profile_value : Text → Option Profile
profile_value text = if bytes_eq text (codes "full") then Some full
    else (if bytes_eq text (codes "narrow") then Some narrow else None)

-- the profile that the rows of a parse give
unfoldable pub profile_in : List Row → Option Profile
profile_in rows = option_and_then profile_value (value_of profile_term rows)
