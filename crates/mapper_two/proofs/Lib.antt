pub mod ChannelMemory
pub mod TwoChannelLaws
