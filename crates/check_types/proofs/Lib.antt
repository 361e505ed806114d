pub mod TypeTables
pub mod Agree
