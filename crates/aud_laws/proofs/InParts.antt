-- Parts of a recording, and the reports on them.
pub mod Lists
pub mod FirstTexts
pub mod Each
pub mod Among
pub mod Alike
pub mod Mentions
pub mod Reports
pub mod Bundles
pub mod OneLine
pub mod Merging
pub mod Planned
