pub mod Faults
pub mod Library
pub mod Sink
pub mod MemoryLibrary
pub mod MemorySink
pub mod Feed
pub mod MemoryFeed
pub mod Watcher
