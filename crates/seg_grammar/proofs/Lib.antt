pub mod Rising
pub mod Found
pub mod Again
pub mod Marks
