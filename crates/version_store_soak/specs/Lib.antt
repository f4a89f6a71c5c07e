pub mod Working
