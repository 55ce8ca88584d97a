-- What only the code and its proofs need (this library's own): no clause of an export cites it.

-- an ACE of an array
pub mod Building
-- the ACE that decides a right
pub mod Deciding
-- tags that have an entry
pub mod Deciders
-- how calls end
pub mod Endings
-- why calls fail
pub mod Failures
-- why a value of a form is not read or made
pub mod FormFailures
-- how a part of a value of a form is read and handed out
pub mod FormParts
-- why a list is not prepared for ids
pub mod IdFailures
-- the numbers of statuses and of reasons
pub mod Numbers
-- why a list has no POSIX ACL
pub mod PosixFailures
-- the table of the reasons
pub mod Reasons
-- the first difference of two lists
pub mod Reports
-- names that are exchanged
pub mod Renaming
