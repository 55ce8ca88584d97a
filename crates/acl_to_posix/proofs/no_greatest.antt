pub mod FreeIds
pub mod ExampleAcls
pub mod UserCase
pub mod PermissionsCase
pub mod GroupsCase
