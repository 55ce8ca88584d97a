-- what one set grants more than another
pub mod Exceeding
