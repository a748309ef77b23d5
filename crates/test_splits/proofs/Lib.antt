pub mod There
