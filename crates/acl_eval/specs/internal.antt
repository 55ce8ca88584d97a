-- What only the code and its proofs need (this library's own): no clause of a public call cites it.

-- the last byte of a name, which distinguishes most names
pub mod LastByte
-- the order of groups, in which a group is looked up
pub mod GroupOrder
-- what the code keeps about a requester and an object, as a situation
pub mod Asked
-- what is known about the rights of a mask before the rest of a list is read
pub mod EachRightBody
-- what is known about a class of the mode before the rest of a list is read
pub mod Settled
-- the list of a POSIX ACL while it is made, and the weight of its entries
pub mod BridgeBody
