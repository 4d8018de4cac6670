-- What a reader must believe of who waits for whom: the chains of waits, the standings, the task that runs and the heir. Scan has
-- what helper functions work out on the way.
pub mod Waits
pub mod Standing
pub mod Reaches
pub mod Scan
