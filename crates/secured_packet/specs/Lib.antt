pub mod Secured
