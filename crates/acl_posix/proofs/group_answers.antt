-- what a set answers to several groups, by its answers to each of them
pub mod Answering
