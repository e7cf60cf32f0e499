pub use Rattle.aud_node.specs.Stream
pub use Rattle.aud_node.specs.Cluster
pub use Rattle.aud_node.specs.Names
pub use Rattle.aud_node.specs.Recoverable
pub use Rattle.aud_client.specs.Replies
pub use Rattle.aud_cert.specs.Class
pub use Rattle.aud_cert.specs.FaultWord
pub use Rattle.aud_verdict.specs.YesOf
pub use Rattle.aud_rows.specs.ClientPlaces
pub use Rattle.aud_rows.specs.Seen
pub use Rattle.aud_session_facts.specs.Account
pub use Rattle.aud_session_facts.specs.Recoveries
pub use Rattle.aud_findings.specs.Prepared
pub use Rattle.aud_findings.specs.ClientShown
-- the explanation of a session
pub mod Noted
pub mod Turns
pub mod Events
pub mod Refused
pub mod Explained
pub mod Lent
pub mod Written
pub mod CausesTold
-- which are shown
pub mod Asked
pub mod Shown
pub mod Chosen
pub mod Alike
pub mod Strangers
pub mod Missing
pub mod Texts
-- the figures of a recording
pub mod Summary
-- the whole output
pub mod Status
pub mod RefusedLine
pub mod Page
pub mod Records
pub mod Output
pub mod Run
