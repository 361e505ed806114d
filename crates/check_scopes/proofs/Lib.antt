pub mod Decls
pub mod Missing
