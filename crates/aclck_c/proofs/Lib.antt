-- failures of the bridge
pub mod Bridges
-- a list of an array of ACEs
pub mod Builds
-- failures of a change of the mode
pub mod Changes
-- the names of a comparison
pub mod Comparisons
-- the entry that decides
pub mod Deciders
-- what a call promises, by what it made
pub mod Endings
-- failures of entries and of attributes
pub mod EntriesFailures
-- failures of values of POSIX forms
pub mod PosixForms
-- failures of values of entries
pub mod PosixWriting
-- failures of names and of texts
pub mod FileFailures
-- values of forms
pub mod FormValues
pub mod FormParts
pub mod PartGrants
-- failures of lists that are prepared for ids
pub mod IdFailures
-- what is lost with the POSIX ACLs of lists
pub mod PosixConversions
-- failures of lists that have no POSIX ACL
pub mod PosixFailures
-- failures of groups for identifiers that nobody knows
pub mod GroupsNamed
-- answers for many requesters
pub mod ManyRequesters
-- the bytes of normal forms
pub mod Normalized
-- calls over two lists
pub mod Pairs
-- failures of lists for one object
pub mod Resolutions
-- the questions of a list
pub mod Asking
-- lists under a bound
pub mod Restrictions
-- the names of reasons
pub mod Reasons
-- masks of one right
pub mod Rights
-- names that are exchanged
pub mod Renaming
