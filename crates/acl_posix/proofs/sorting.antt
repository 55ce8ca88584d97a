pub mod ValidLists
