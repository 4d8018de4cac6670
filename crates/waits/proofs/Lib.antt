-- The laws of waits, standings and the scan, which the crates above cite.
pub mod RankLaws
pub mod ChainLaws
pub mod ScanLaws
pub mod StandingLaws
pub mod DispatchLaws
