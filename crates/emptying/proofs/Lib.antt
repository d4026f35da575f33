pub mod Laying
pub mod Telling
