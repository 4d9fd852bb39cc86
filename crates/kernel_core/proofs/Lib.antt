pub mod Roomier
