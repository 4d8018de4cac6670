-- What a reader must believe of charges: the counts of a table, the three sums, the charge and the load of a task.
pub mod Charges
