pub mod Gather
pub mod Union
pub mod Order
pub mod OrderInTables
