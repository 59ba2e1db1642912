pub mod Slots
pub mod WaitingLists
