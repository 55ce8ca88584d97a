-- The names that most clauses of this library cite (this library's own): clauses take them from here.
pub use Rattle.std.specs.Prelude.{All, IfErr, IfOk, IfSome, IsNone, IsSome, IsTrue, None, OnOk, Some, length, map, option_map, ⊤, ℕ}
pub use Rattle.acl_perm.specs.Profile.{profile_of}
pub use Rattle.acl_eval.specs.Situation.{situation}
pub use Rattle.acl_posix.specs.Programs.{MakesOfFile}
pub use Rattle.aclck_c.specs.Call.{JudgesArguments, JudgesInput, LooksAtList, ReadsFile, ReadsTwoLists, WritesOfFile, WritesOfList, WritesOfText}
pub use Rattle.aclck_c.specs.Options.{IsCreationOption, IsMode, IsProfileOption, child_kind_from, profile_from}
pub use Rattle.aclck_c.specs.Out.{GivesAnswer, IsTruthOf, WritesBytes, WritesValue}
pub use Rattle.aclck_c.specs.Posix.{IsRefusedPosix, SpellsFile}
pub use Rattle.aclck_c.specs.Requests.{AreGood, asked}
pub use Rattle.aclck_c.specs.internal.Failures.{IsFileFailure, IsListFailure, IsPairFailure, IsViewFailure}
