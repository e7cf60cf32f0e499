mod OwnLemmas
mod EntryLemmas
mod MarkLemmas
mod LeftLemmas
mod WholeLemmas
pub mod ListSteps
pub mod PartPids
pub mod PlanLemmas
pub mod CutLemmas
pub mod NumberLemmas
pub mod ListingLemmas
pub mod NamedLinesLemmas
pub mod PartLemmas
pub mod ReportLemmas
pub mod SlotLemmas
pub mod NewLemmas
pub mod MergeLemmas
pub mod CameLemmas
pub mod PartClients
pub mod KeptTogether
pub mod TapLines
pub mod NotedLemmas
pub mod PieceLemmas
pub mod RefusalLemmas
pub mod LineRunLemmas
pub mod FileRunLemmas
pub mod IndexLemmas
pub mod LookLemmas
pub mod MergedLinesLemmas
pub mod RunLinesLemmas
pub mod TapReadingLemmas
pub mod RunStartLemmas
pub mod MayBeReadLemmas
pub mod FoundLemmas
pub mod PushedLines
pub mod ServerTextLemmas
pub mod PassedLines
pub mod PartLinesLemmas
pub mod ServersLemmas
pub mod ClientsLemmas
