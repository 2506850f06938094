pub mod Accepted
pub mod RoundTrip
pub mod ByNumbers
pub mod Table
