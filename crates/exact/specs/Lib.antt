pub mod Exact
