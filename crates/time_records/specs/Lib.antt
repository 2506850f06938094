pub mod TimeRecords
