mod Keys
mod Values
mod Entries
mod Node
mod Going
mod Root
