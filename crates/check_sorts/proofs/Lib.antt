pub mod LowestMisplaced
