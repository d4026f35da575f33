pub mod Printed
pub mod Refusing
