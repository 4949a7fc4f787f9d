pub mod LiveParts
pub mod Commits
pub mod LiveBits
pub mod Spelling
pub mod Reading
pub mod Limits
