-- The laws of judging: the shared period, the exact sums, the demands, the first position.
pub mod PeriodLaws
pub mod FractionLaws
pub mod DemandLaws
pub mod FirstLaws
pub mod RowLaws
pub mod VerdictLaws
pub mod PassLaws
pub mod FixedLaws
