pub use Rattle.aud_client.specs.TapPackets
-- lines
pub mod Members
pub mod Opened
pub mod Excess
pub mod TapName
pub mod NoJson
pub mod JsonHelp
pub mod FieldHelp
pub mod LimitHelp
pub mod KindHelp
pub mod Help
pub mod Laws
-- packets
pub mod NoPacket
pub mod Words
-- what private contracts alone cite
pub mod Private
