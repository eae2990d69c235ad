pub mod Courses
pub mod Ending
pub mod Reported
pub mod Turns
