-- Why and where something is refused, as a caller from C sees it (this library's own): `aclck.h` has the numbers.
use Rattle.std.specs.Prelude.{ℕ, codes}
use Rattle.acl_nfs4.specs.declared.xdr.fault.Reason.{Reason}
use Rattle.acl_nfs4.specs.declared.xdr.fault.Reason.TheVariants as reason
use Rattle.aclck_c.specs.Words.{reason_called}
use Rattle.aclck_c.specs.declared.refusal.Refusal.{Refusal}

-- the number of a reason in `enum aclck_reason`, for which a list is refused
abbrev pub reason_number : Reason → ℕ
reason_number reason.Truncated = reason_called (codes "Truncated")
reason_number reason.TooManyAces = reason_called (codes "TooManyAces")
reason_number reason.AuditOrAlarm = reason_called (codes "AuditOrAlarm")
reason_number reason.AceType = reason_called (codes "AceType")
reason_number reason.FlagBits = reason_called (codes "FlagBits")
reason_number reason.MaskBits = reason_called (codes "MaskBits")
reason_number reason.TooHeavy = reason_called (codes "TooHeavy")
reason_number reason.WhoLength = reason_called (codes "WhoLength")
reason_number reason.WhoUtf8 = reason_called (codes "WhoUtf8")
reason_number reason.WhoControl = reason_called (codes "WhoControl")
reason_number reason.SpecialWho = reason_called (codes "SpecialWho")
reason_number reason.Padding = reason_called (codes "Padding")
reason_number reason.TrailingBytes = reason_called (codes "TrailingBytes")
reason_number reason.Read = reason_called (codes "Read")
reason_number reason.Memory = reason_called (codes "Memory")

-- a list is refused for this reason, at this byte; the list is the first, 0, or the second of two, 1
abbrev pub in_list : ℕ → Reason → ℕ → Refusal
in_list offset why which = record {
  offset = offset;
  line = 0;
  column = 0;
  reason = reason_number why;
  list = which;
  part = 0;
  tag = 0;
}

-- a text is refused for the reason of this number, at this line and column
abbrev pub at_place : ℕ → ℕ → ℕ → Refusal
at_place number line column = record {
  offset = 0;
  line = line;
  column = column;
  reason = number;
  list = 0;
  part = 0;
  tag = 0;
}

-- the text of a list is refused for a reason for which the bytes of a list can be refused too
abbrev pub in_text : Reason → ℕ → ℕ → Refusal
in_text why line column = at_place (reason_number why) line column

-- a part of a POSIX ACL is not a valid ACL: the place of an entry, or the number of the tag that is missing
abbrev pub in_part : ℕ → ℕ → ℕ → ℕ → Refusal
in_part number which place tag_number = record {
  offset = place;
  line = 0;
  column = 0;
  reason = number;
  list = 0;
  part = which;
  tag = tag_number;
}

-- a value of a form is refused at this byte, or a form cannot hold the ACE at this place: the number of the reason, and
-- that of the tag that is missing
abbrev pub in_value : ℕ → ℕ → ℕ → Refusal
in_value place number tag_number = record {
  offset = place;
  line = 0;
  column = 0;
  reason = number;
  list = 0;
  part = 0;
  tag = tag_number;
}

-- the name of the ACE at this place of a list would become one with another
abbrev pub merged : ℕ → Refusal
merged place = record {
  offset = place;
  line = 0;
  column = 0;
  reason = reason_called (codes "Merged");
  list = 0;
  part = 0;
  tag = 0;
}

-- the list of a POSIX ACL is above a limit
abbrev pub past_limits : Refusal
past_limits = record {
  offset = 0;
  line = 0;
  column = 0;
  reason = reason_called (codes "Limits");
  list = 0;
  part = 0;
  tag = 0;
}

-- the list has more questions than are taken
abbrev pub too_many : Refusal
too_many = record {
  offset = 0;
  line = 0;
  column = 0;
  reason = reason_called (codes "TooMany");
  list = 0;
  part = 0;
  tag = 0;
}
