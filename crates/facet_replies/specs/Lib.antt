pub mod Replies
pub mod ReplyViews
pub mod ReplyLines
pub mod NamedFaults
pub mod LastLine
pub mod Summaries
pub mod SummaryViews
