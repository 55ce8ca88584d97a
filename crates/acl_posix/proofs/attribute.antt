-- where the tag types fall, and what is wrong with the entries of an attribute
pub mod Falls
-- what is written for an ACL means that ACL
pub mod ReadBack
