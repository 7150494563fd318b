-- Laws of positions as numbers, of the searches, and of the rows by each row.
pub mod Packed
pub mod Searching
pub mod Found
pub mod Beside
pub mod Placing
