pub mod KindRules
pub mod Sizes
pub mod Gathering
pub mod Listing
pub mod Judging
pub mod Bytes
pub mod RoundTrip
