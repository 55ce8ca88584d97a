-- The names that the clauses of most commands use, in one place (this library's own).
pub use Rattle.std.specs.Prelude.{[], IfErr, IfOk, OnOk, false, option_and_then, option_map, true}
pub use Rattle.acl_perm.specs.Devices.{failures_after}
pub use Rattle.acl_perm.specs.Profile.{profile_of}
pub use Rattle.aclck.specs.Answer.{is_input_fault, is_yes}
pub use Rattle.aclck.specs.Definition.{RunsCommand}
pub use Rattle.aclck.specs.Line.{ReadsValues, rows_in, text_if_any, texts}
