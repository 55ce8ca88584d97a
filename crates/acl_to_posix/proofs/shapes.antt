pub mod EntryCounts
pub mod AlwaysDecides
pub mod ShapeRights
pub mod ShapeChecks
pub mod ShapeBuilding
pub mod AclShapes
