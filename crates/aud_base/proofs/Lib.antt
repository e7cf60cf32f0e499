pub mod FirstTexts
pub mod SameText
pub mod Truth
pub mod Numbers
pub mod Options
pub mod Lists
pub mod StepLemmas
pub mod NotedPlaces
pub mod EachLemmas
mod PageLemmas
pub mod Answered
pub mod Bytes
