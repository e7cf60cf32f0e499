-- The figures of a recording: what each counts, how many sessions have each cause, and how they are written.
pub mod Counts
pub mod Causes
pub mod Text
pub mod Json
