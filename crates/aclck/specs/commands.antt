-- One file per command: its words and its answer (this library's own). `table` has `RightTable`, and `mode` has
-- `ListMode`.
pub mod ShowPosix
pub mod CheckPosix
pub mod CalcMask
pub mod Chmod
pub mod Create
pub mod ShowNfs
pub mod Encode
pub mod CheckNfs
pub mod Child
pub mod ListMode
pub mod Bridge
pub mod RightTable
pub mod Normalize
pub mod Compare
