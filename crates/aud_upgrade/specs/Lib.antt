pub use Rattle.aud_node.specs.Cluster
pub use Rattle.aud_maker.specs.Sessions
pub use Rattle.aud_verdict.specs.Verdict
pub mod Upgraded
pub mod Kept
pub mod Private
