pub mod History
pub mod Counts
pub mod Told
pub mod WrongCounters
pub mod Histories
pub mod Kept
pub mod WrongKeepers
