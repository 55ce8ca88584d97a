-- The numbers of what the code has as enums (this library's own; only the code needs it): `aclck.h` has them.
use Rattle.std.specs.Prelude.{ℕ, codes}
use Rattle.aclck_c.specs.Status as status
use Rattle.aclck_c.specs.Words.{reason_called}
use Rattle.aclck_c.specs.declared.reason.Reason.{Reason}
use Rattle.aclck_c.specs.declared.reason.Reason.TheVariants as reason
use Rattle.aclck_c.specs.declared.status.Status.{Status}
use Rattle.aclck_c.specs.declared.status.Status.TheVariants.{BadArgument, Done, Memory, Refused, Short}

-- the number of a status
abbrev pub number_of_status : Status → ℕ
number_of_status Done = status.done
number_of_status Refused = status.refused
number_of_status BadArgument = status.bad_argument
number_of_status Memory = status.memory
number_of_status Short = status.short

-- the number of a reason
abbrev pub number_of_reason : Reason → ℕ
number_of_reason reason.Truncated = reason_called (codes "Truncated")
number_of_reason reason.TooManyAces = reason_called (codes "TooManyAces")
number_of_reason reason.AuditOrAlarm = reason_called (codes "AuditOrAlarm")
number_of_reason reason.AceType = reason_called (codes "AceType")
number_of_reason reason.FlagBits = reason_called (codes "FlagBits")
number_of_reason reason.MaskBits = reason_called (codes "MaskBits")
number_of_reason reason.TooHeavy = reason_called (codes "TooHeavy")
number_of_reason reason.WhoLength = reason_called (codes "WhoLength")
number_of_reason reason.WhoUtf8 = reason_called (codes "WhoUtf8")
number_of_reason reason.WhoControl = reason_called (codes "WhoControl")
number_of_reason reason.SpecialWho = reason_called (codes "SpecialWho")
number_of_reason reason.Padding = reason_called (codes "Padding")
number_of_reason reason.TrailingBytes = reason_called (codes "TrailingBytes")
number_of_reason reason.Read = reason_called (codes "Read")
number_of_reason reason.Memory = reason_called (codes "Memory")
number_of_reason reason.Fields = reason_called (codes "Fields")
number_of_reason reason.Flag = reason_called (codes "Flag")
number_of_reason reason.Mask = reason_called (codes "Mask")
number_of_reason reason.Tag = reason_called (codes "Tag")
number_of_reason reason.Qualifier = reason_called (codes "Qualifier")
number_of_reason reason.Id = reason_called (codes "Id")
number_of_reason reason.UnknownName = reason_called (codes "UnknownName")
number_of_reason reason.Permission = reason_called (codes "Permission")
number_of_reason reason.EmptyEntry = reason_called (codes "EmptyEntry")
number_of_reason reason.Multi = reason_called (codes "Multi")
number_of_reason reason.Duplicate = reason_called (codes "Duplicate")
number_of_reason reason.Miss = reason_called (codes "Miss")
number_of_reason reason.Limits = reason_called (codes "Limits")
number_of_reason reason.Size = reason_called (codes "Size")
number_of_reason reason.Version = reason_called (codes "Version")
number_of_reason reason.Order = reason_called (codes "Order")
number_of_reason reason.Merged = reason_called (codes "Merged")
number_of_reason reason.AclFlagBits = reason_called (codes "AclFlagBits")
number_of_reason reason.IflagBits = reason_called (codes "IflagBits")
number_of_reason reason.NotDirectory = reason_called (codes "NotDirectory")
number_of_reason reason.Empty = reason_called (codes "Empty")
number_of_reason reason.IdDiffers = reason_called (codes "IdDiffers")
number_of_reason reason.Comment = reason_called (codes "Comment")
number_of_reason reason.Nul = reason_called (codes "Nul")
number_of_reason reason.TooLong = reason_called (codes "TooLong")
number_of_reason reason.NoId = reason_called (codes "NoId")
number_of_reason reason.Inherited = reason_called (codes "Inherited")
number_of_reason reason.Retention = reason_called (codes "Retention")
number_of_reason reason.Separator = reason_called (codes "Separator")
number_of_reason reason.AclFlags = reason_called (codes "AclFlags")
number_of_reason reason.TooMany = reason_called (codes "TooMany")
