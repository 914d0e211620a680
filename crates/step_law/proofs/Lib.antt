pub mod EventLaws
mod EntryLaws
