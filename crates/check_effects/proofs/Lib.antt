pub mod EffectParts
pub mod Covering
