pub mod Courses
pub mod Texts
