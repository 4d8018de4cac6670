-- Every public operation's contract is tight; and what is told by its numbers is told apart by them.
pub mod Apart
pub mod Tightness
