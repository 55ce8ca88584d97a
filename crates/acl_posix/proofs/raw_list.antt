pub mod RawLists
