pub mod Traversals
pub mod Feeds
pub mod FirstLines
pub mod Members
pub mod Levels
pub mod PlainLines
pub mod Phases
pub mod QuickTexts
pub mod QuickMembers
pub mod QuickLines
pub mod Rising
mod SearchLines
mod RangesLines
mod Samples
mod Searches
mod SettingsParts
mod Limits
mod Dimensions
mod EachWord
mod WordLengths
